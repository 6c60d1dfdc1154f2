-- Each refusal is told by the fault that it is for.
use Rattle.dt_tree.specs.declared.fault.ScriptFault.TheVariants.{Syntax, Number, TooDeep}
use Rattle.dt_session.proofs.Refusals.{told_by}
use Rattle.dt_session.proofs.refusal.refusal_of.Goals as goal

pub returns-in-Syntax-clause-told : goal.returns-in-Syntax-clause-told
returns-in-Syntax-clause-told c =
    told_by _ (Syntax (record { line = c.in-Syntax.line; byte = c.in-Syntax.byte })) _ c.in-Syntax.is
    c.refusal_at-in-Syntax.ensures

pub returns-in-Number-clause-told : goal.returns-in-Number-clause-told
returns-in-Number-clause-told c =
    told_by _ (Number (record { line = c.in-Number.line; byte = 0 })) _ c.in-Number.is c.refusal_at-in-Number.ensures

pub returns-in-TooDeep-clause-told : goal.returns-in-TooDeep-clause-told
returns-in-TooDeep-clause-told c =
    told_by _ (TooDeep (record { line = c.in-TooDeep.line; byte = 0 })) _ c.in-TooDeep.is
    c.refusal_at-in-TooDeep.ensures
