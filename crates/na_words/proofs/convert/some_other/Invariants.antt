use Rattle.std.proofs.Common.{◌≡◌, map, drop}
use Rattle.std.specs.List.{list_any}
use Rattle.dt_base.specs.declared.cell.ColType.TheVariants as ty
use Rattle.dt_model.specs.Coercion.{becomes_true}
use Rattle.na_vector.specs.Words.{int_cell}
use Rattle.na_words.proofs.convert.some_other.Given as goal

abbrev pub invariant-loop-n : goal.invariant-loop-n
invariant-loop-n l =
    list_any (becomes_true ty.Lgl) (map int_cell l.a)
    ≡ list_any (becomes_true ty.Lgl) (map int_cell (drop l.n-index l.a))
