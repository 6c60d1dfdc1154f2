use Rattle.std.proofs.Common.{◌≡◌, take, Some}
use Rattle.run_model.specs.TokenView.{plain_tokens}
use Rattle.dt_grammar.specs.Machine as model
use Rattle.script_frames.specs.Frames.{state_of}
use Rattle.dt_script.proofs.reading.read.Given as goal

abbrev pub invariant-loop-at : goal.invariant-loop-at
invariant-loop-at l = model.run model.init (plain_tokens (take l.at l.tokens)) ≡ Some (state_of l.state)
