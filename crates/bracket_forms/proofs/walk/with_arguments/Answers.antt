use Rattle.bracket_forms.specs.Items.{asked_seen}
use Rattle.bracket_forms.proofs.Steps.{refused}
use Rattle.bracket_forms.proofs.walk.with_arguments.Goals as goal

pub returns-in-Err-clause-answer : goal.returns-in-Err-clause-answer
returns-in-Err-clause-answer c =
    refused {B = Unit {0}} {C = Unit {0}} _ _ _ _ _ _ (λ u. asked_seen c.with_argument.new.q)
    (λ u. asked_seen c.with_argument.new.q) _ c.loop-arg.invariant c.loop-arg-test.true c.arg-item.is
    c.in-Err.ensures.answer
