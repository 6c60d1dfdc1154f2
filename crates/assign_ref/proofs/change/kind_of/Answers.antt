use Rattle.std.proofs.Common.{ap, sym, ◌∙◌}
use Rattle.std.proofs.lemmas.Option.{get_or_from_slice_get}
use Rattle.dt_model.specs.Vector.{Vector}
use Rattle.na_vector.specs.Column.{Seen}
use Rattle.assign_ref.proofs.Reading.{vector_there}
use Rattle.assign_ref.proofs.change.kind_of.Goals as goal

-- the type of the column that is there
pub returns-clause-vector : goal.returns-clause-vector
returns-clause-vector c = c.kind.ensures ∙ ap (λ (v : Vector). v.kind)
    (sym (vector_there _ c.args.col c.col.result.now (rw c.frame.ensures.frame at c.col.ensures.place)))

pub returns-clause-column : goal.returns-clause-column
returns-clause-column c = c.kind.ensures ∙ ap (λ (x : Seen). x.vector.kind)
    (sym (get_or_from_slice_get _ c.args.col c.col.result.now _ (rw c.frame.ensures.frame at c.col.ensures.place)))
