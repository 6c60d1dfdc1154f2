use Rattle.std.proofs.Common.{◌≡◌, IfOk, subst}
use Rattle.stmt_effect.proofs.Alterations.{changed_prints, unaltered}
use Rattle.stmt_effect.proofs.printed.altered_text.Goals as goal

pub returns-in-Some : goal.returns-in-Some
returns-in-Some g c =
    subst (λ x. IfOk c.changed_text.result (λ v. v.items ≡ x))
    (changed_prints c.args.heap.now c.args.value.now c.args.altered.now c.in-Some.parts c.in-Some.is
    c.requires.altered) c.changed_text.ensures

pub returns-in-None : goal.returns-in-None
returns-in-None g c =
    subst (λ x. IfOk c.value_text.result (λ v. v.items ≡ x))
    (unaltered c.args.heap.now c.args.value.now c.args.altered.now c.in-None.is c.table_of-table.ensures.number)
    c.value_text.ensures
