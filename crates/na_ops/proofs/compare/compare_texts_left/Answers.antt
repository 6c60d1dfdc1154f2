use Rattle.std.proofs.Common.{◌∙◌, ap, subst, map, Some}
use Rattle.dt_base.specs.declared.cell.ColType.TheVariants as ty
use Rattle.dt_model.specs.Operations.{over_cells, typed}
use Rattle.na_vector.specs.Words.{text_cell}
use Rattle.na_common.specs.Answers.{Answers, vector_of}
use Rattle.na_words.specs.Shown.{shown}
use Rattle.na_ops.proofs.Mixed.{as_texts, right}
use Rattle.na_ops.proofs.compare.compare_texts_left.Goals as goal

-- the other side was brought to texts
pub returns-in-Ok : goal.returns-in-Ok
returns-in-Ok g c =
    subst (λ r. Answers vector_of (typed (Some ty.Lgl) r) c.over.result)
    (ap (λ xs. over_cells (as_texts g.K.Comparison.test) (map text_cell c.args.a.now) xs)
    (ap (map text_cell) c.as_slice.ensures.value ∙ c.in-Ok.ensures.cells)
    ∙ right g.K.Comparison.test (map text_cell c.args.a.now) (shown c.args.b).cells)
    c.over.ensures
