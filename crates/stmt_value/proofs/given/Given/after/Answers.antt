use Rattle.std.proofs.Common.{◌∙◌, ap, sym}
use Rattle.dt_query.specs.declared.answer.Outcome.TheVariants.{Assigned}
use Rattle.stmt_value.proofs.Changes.{after_assigned}
use Rattle.stmt_value.proofs.given.Given.after.Goals as goal

pub returns-clause-given : goal.returns-clause-given
returns-clause-given g c h =
    after_assigned h c.args.self c.args.answer _ c.both-warns.result c.assigned.result
    (c.in-Assigned.is ∙ ap Assigned (sym c.in-Assigned.parts-is))
    c.both-warns.ensures (c.assigned.ensures.given h)
