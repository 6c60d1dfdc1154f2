use Rattle.std.proofs.Common.{List, ℕ, subst}
use Rattle.dt_world.specs.Causes.{Rose}
use Rattle.run_model.specs.Messages.{printed_fault}
use Rattle.dt_run.specs.Steps.{PutAs, too_long}
use Rattle.dt_run.specs.declared.status.Status.TheVariants.{Stopped}
use Rattle.dt_run.proofs.telling.tell_too_long.Goals as goal

pub returns-in-Ok-clause-put : goal.returns-in-Ok-clause-put
returns-in-Ok-clause-put g c =
    subst (λ (q : List ℕ). PutAs Stopped (g.E.Sink.bytes c.args.err.now) (g.E.Sink.bytes c.tell.new.err)
    (printed_fault 0 (too_long q)) (Rose (g.E.Sink.faults c.args.err.now) (g.E.Sink.faults c.tell.new.err))
    c.tell.result) c.in-Ok.ensures c.tell.ensures.put
