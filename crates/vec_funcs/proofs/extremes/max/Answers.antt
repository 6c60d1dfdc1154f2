use Rattle.std.proofs.Common.{subst}
use Rattle.dt_model.specs.Vector.{Vector}
use Rattle.vector_model.specs.Functions.{max_value}
use Rattle.eval_fail.specs.Answers.{AnswersAs}
use Rattle.valued.specs.Valued.{valued_of}
use Rattle.vec_funcs.proofs.extremes.max.Goals as goal

-- the words are those of the column
pub returns-clause-answer : goal.returns-clause-answer
returns-clause-answer g c =
    let P : Vector → Type 0 = λ v. AnswersAs valued_of (max_value c.args.na_rm v) c.extreme_of.result in
    subst P c.words_of-words.ensures.vector c.extreme_of.ensures.answer
