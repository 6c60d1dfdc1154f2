-- How the fault of a target is told.
--   IsTold names fail e    e tells the fault, by the names of the targets; or it is want of memory
use Rattle.std.specs.Prelude.{ℕ, List, [], codes}
use Rattle.assign_ref.specs.declared.fail.ChangeFail.{ChangeFail}
use Rattle.assign_ref.specs.declared.fail.ChangeFail.TheVariants.{Duplicate, Unknown, Delete, Length, Slots}
use Rattle.assign_ref.specs.declared.fail.ChangeFail.TheVariants.{TooManyCells}
use Rattle.assign_ref.specs.declared.fail.ChangeFail.TheVariants.{NoMemory}
use Rattle.dt_base.specs.Fault.{fault}
use Rattle.dt_base.specs.declared.fault.Code.TheVariants.{E03, E08, E09, E12, E19}
use Rattle.dt_model.specs.Table.{name_at}
use Rattle.eval_fail.specs.Answers.{IsNoMemory, IsStop}
use Rattle.eval_fail.specs.declared.fail.EvalFail.{EvalFail}
use Rattle.vector_model.specs.Faults.{length_fault, number_fault}

abbrev pub IsTold : List (List ℕ) → ChangeFail → EvalFail → Type 0
IsTold names (Duplicate k) e = IsStop (fault E12 (name_at names k)) e
IsTold names (Unknown k) e = IsStop (fault E03 (name_at names k)) e
IsTold names (Delete k) e = IsStop (fault E19 (codes "NULL")) e
IsTold names (Length k got want) e = IsStop (length_fault got want) e
IsTold names (Slots slots) e = IsStop (number_fault E09 slots) e
IsTold names TooManyCells e = IsStop (fault E08 []) e
IsTold names (NoMemory error) e = IsNoMemory e
