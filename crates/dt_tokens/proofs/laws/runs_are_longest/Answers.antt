use Rattle.run_model.specs.Bytes.{is_in}
use Rattle.dt_tokens.proofs.Runs.{run_inside, run_next}
use Rattle.dt_tokens.proofs.laws.runs_are_longest.Goals as goal

pub returns : goal.returns
returns c = record { inside = λ k. run_inside (is_in k); next = λ k. run_next (is_in k) }
