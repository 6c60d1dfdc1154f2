use Rattle.std.proofs.Common.{◌≡◌, map, drop}
use Rattle.std.specs.List.{list_any}
use Rattle.dt_model.specs.Coercion.{is_na}
use Rattle.vec_funcs.proofs.missing.has_na.Given as goal

-- the words so far are not NA
abbrev pub invariant-loop-x : goal.invariant-loop-x
invariant-loop-x g l = list_any is_na (map g.A.Word.cell l.words)
    ≡ list_any is_na (map g.A.Word.cell (drop l.x-index l.words))
