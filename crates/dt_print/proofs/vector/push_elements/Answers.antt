use Rattle.na_vector.specs.Words.{int_cell, lgl_cell, text_cell}
use Rattle.dt_print.proofs.Elements.{elements_put}
use Rattle.dt_print.proofs.vector.push_elements.Goals as goal

-- logicals
pub returns-in_ok-push_lgls-in-Lgl-clause-text : goal.returns-in_ok-push_lgls-in-Lgl-clause-text
returns-in_ok-push_lgls-in-Lgl-clause-text g c =
    elements_put lgl_cell _ _ _ _ c.lgls.ensures.cells c.in_ok-push_lgls-in-Lgl.ensures

-- integers
pub returns-in_ok-push_ints-in-Int-clause-text : goal.returns-in_ok-push_ints-in-Int-clause-text
returns-in_ok-push_ints-in-Int-clause-text g c =
    elements_put int_cell _ _ _ _ c.ints.ensures.cells c.in_ok-push_ints-in-Int.ensures

-- texts
pub returns-in_ok-push_texts-in-Chr-clause-text : goal.returns-in_ok-push_texts-in-Chr-clause-text
returns-in_ok-push_texts-in-Chr-clause-text g c =
    elements_put text_cell _ _ _ _ c.texts.ensures.cells c.in_ok-push_texts-in-Chr.ensures
