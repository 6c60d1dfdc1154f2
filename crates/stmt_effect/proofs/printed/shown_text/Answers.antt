use Rattle.std.proofs.Common.{◌≡◌, IfOk, subst}
use Rattle.stmt_effect.proofs.Alterations.{shown_altered}
use Rattle.stmt_effect.proofs.printed.shown_text.Goals as goal

pub returns-in-Some : goal.returns-in-Some
returns-in-Some g c =
    subst (λ x. IfOk c.altered_text.result (λ v. v.items ≡ x))
    (shown_altered c.args.heap.now c.args.given.now c.in-Some.altered c.if-not-given.false c.in-Some.is)
    c.altered_text.ensures
