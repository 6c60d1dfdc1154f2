use Rattle.std.proofs.Common.{◌≡◌, map, drop}
use Rattle.std.specs.List.{list_any}
use Rattle.dt_model.specs.Coercion.{becomes_na}
use Rattle.na_vector.specs.Words.{text_cell}
use Rattle.na_words.proofs.convert.some_lost.Given as goal

abbrev pub invariant-loop-p : goal.invariant-loop-p
invariant-loop-p g l =
    list_any (becomes_na g.W.Word.kind) (map text_cell l.a)
    ≡ list_any (becomes_na g.W.Word.kind) (drop l.p (map text_cell l.a))
