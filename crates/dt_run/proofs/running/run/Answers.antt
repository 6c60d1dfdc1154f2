-- The words after the name are those that were asked by.
use Rattle.std.proofs.Common.{◌∙◌, ap, map, string_bytes}
use Rattle.dt_run.specs.Given.{texts}
use Rattle.dt_run.proofs.Runs.{run_told, run_wanting}
use Rattle.dt_run.proofs.running.run.Goals as goal

pub returns-in-Ok : goal.returns-in-Ok
returns-in-Ok g c =
    run_told (map string_bytes c.args.words.now) _ _ _ c.run_named.result
    (ap texts c.deref.ensures.value ∙ c.in-Ok.ensures)
    c.run_named.ensures.ends c.run_named.ensures.usage

pub returns-in-Err : goal.returns-in-Err
returns-in-Err g c = run_wanting (map string_bytes c.args.words.now) _
