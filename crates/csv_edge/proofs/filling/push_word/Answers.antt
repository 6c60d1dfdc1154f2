use Rattle.csv_edge.proofs.WordFacts.{missing_text, lgl_text, int_text, took_text}
use Rattle.dt_base.specs.declared.cell.ColType.TheVariants as ty
use Rattle.run_model.specs.CsvCells.{is_missing, suits}
use Rattle.csv_edge.proofs.filling.push_word.Goals as goal

-- words of logicals and integers are text
pub returns-in-Missing-clause-text : goal.returns-in-Missing-clause-text
returns-in-Missing-clause-text c = let f = c.args.field.now in
    took_text f (is_missing f) c.count_missing.result (missing_text f) c.count_missing.ensures.suits

pub returns-in-Lgl-clause-text : goal.returns-in-Lgl-clause-text
returns-in-Lgl-clause-text c = let f = c.args.field.now in
    took_text f (suits ty.Lgl f) c.push_lgl.result (lgl_text f) c.push_lgl.ensures.suits

pub returns-in-Int-clause-text : goal.returns-in-Int-clause-text
returns-in-Int-clause-text c = let f = c.args.field.now in
    took_text f (suits ty.Int f) c.push_int.result (int_text f) c.push_int.ensures.suits
