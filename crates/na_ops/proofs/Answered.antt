-- A refusal of the cells is one of the vector.
use Rattle.std.proofs.Common.{List, Result, Err, Some, ap}
use Rattle.dt_base.specs.declared.cell.Cell.{Cell}
use Rattle.dt_base.specs.declared.cell.ColType.{ColType}
use Rattle.dt_model.specs.Operations.{OpFault, typed}
use Rattle.na_common.specs.Answers.{Answers, vector_of}
use Rattle.na_common.specs.declared.fail.OpFail.{OpFail}
use Rattle.na_common.specs.declared.fail.OpFail.TheVariants.{BadType, Length, Overflow, TooManyRows, NoMemory}

pub refused_typed : {W : Type 0} (view : W → List Cell) (t : ColType) (o : Result (List Cell) OpFault) (e : OpFail)
    → Answers view o (Err e) → Answers vector_of (typed (Some t) o) (Err e)
refused_typed view t o BadType h = ap (typed (Some t)) h
refused_typed view t o (Length left right) h = ap (typed (Some t)) h
refused_typed view t o (Overflow place) h = ap (typed (Some t)) h
refused_typed view t o TooManyRows h = ap (typed (Some t)) h
refused_typed view t o (NoMemory e) h = tt
