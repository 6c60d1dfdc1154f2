use Rattle.std.proofs.Common.{sym, ◌∙◌}
use Rattle.run_model.specs.Reading.{stands_wrong}
use Rattle.run_model.specs.TreeView.{script_of}
use Rattle.dt_script.proofs.bytes.placed_right.Goals as goal

pub returns-in-Some : goal.returns-in-Some
returns-in-Some c = stands_wrong (script_of c.args.script) c.requires (sym c.in_ok-misplaced_at.ensures ∙ c.in-Some.is)
