use Rattle.std.proofs.Common.{subst}
use Rattle.eval_fail.specs.Answers.{AnswersAs}
use Rattle.dt_model.specs.Vector.{Vector}
use Rattle.row_model.specs.Rows.{chosen}
use Rattle.row_choice.proofs.Chosen.{answered_short, answered_within}
use Rattle.row_choice.proofs.rows.chosen_rows.Goals as goal

-- each row is within the table
pub returns-clause-within : goal.returns-clause-within
returns-clause-within g c =
    let P : Vector → Type 0 = λ v. AnswersAs (λ t. t.items) (chosen c.args.rows v) c.chosen_by.result in
    answered_within (λ t. t.items) c.args.rows 16777216 c.args.i.now.vector c.chosen_by.result
    (subst P c.words_of.ensures.vector c.chosen_by.ensures.answer) c.requires c.len-short.ensures.vector.short

-- and there are not too many
pub returns-clause-short : goal.returns-clause-short
returns-clause-short g c =
    let P : Vector → Type 0 = λ v. AnswersAs (λ t. t.items) (chosen c.args.rows v) c.chosen_by.result in
    answered_short (λ t. t.items) c.args.rows 16777216 c.args.i.now.vector c.chosen_by.result
    (subst P c.words_of.ensures.vector c.chosen_by.ensures.answer) c.requires c.len-short.ensures.vector.short
