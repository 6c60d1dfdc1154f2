use Rattle.vec_funcs.proofs.extremes.extreme_of.Goals as goal

-- logicals
pub returns-in-Lgl-clause-answer : goal.returns-in-Lgl-clause-answer
returns-in-Lgl-clause-answer c = rw c.in-Lgl.is c.extreme_words.ensures.answer

-- integers
pub returns-in-Int-clause-answer : goal.returns-in-Int-clause-answer
returns-in-Int-clause-answer c = rw c.in-Int.is c.extreme_words-in-Int.ensures.answer

-- texts
pub returns-in-Chr-clause-answer : goal.returns-in-Chr-clause-answer
returns-in-Chr-clause-answer c = rw c.in-Chr.is c.extreme_words-in-Chr.ensures.answer
