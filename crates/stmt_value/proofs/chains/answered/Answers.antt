use Rattle.std.proofs.Common.{subst}
use Rattle.dt_query.specs.Answers.{OutcomeFits}
use Rattle.stmt_value.proofs.chains.answered.Goals as goal

-- the change fits the table before the bracket, which is the one that the value is
pub returns-clause-live : goal.returns-clause-live
returns-clause-live g c =
    c.in_ok-after.ensures.live c.args.setting.now.heap.now c.requires
    (subst (λ t. OutcomeFits t c.in_ok-answer.answer.outcome) c.in_ok-table.ensures.table c.in_ok-answer.ensures.fits)
