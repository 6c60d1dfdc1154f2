use Rattle.dt_grammar.proofs.Spelling.{script_words}
use Rattle.dt_grammar.proofs.laws.each_is_spelled.Goals as goal

pub returns : goal.returns
returns c = λ ss a. let w = script_words ss a in (w.us, w.so)
