use Rattle.std.proofs.Common.{subst}
use Rattle.eval_fail.specs.Answers.{AnswersAs}
use Rattle.session_model.specs.Meaning.{bracket_meaning}
use Rattle.stmt_value.proofs.OneBracket.{bracketed_unshown}
use Rattle.stmt_value.specs.Values.{plain_given}
use Rattle.table_heap.specs.Seen.{HeapSeen}
use Rattle.table_heap.specs.State.{state_of}
use Rattle.stmt_value.proofs.chains.bracketed.Goals as goal

pub returns-else-given-clause-answer : goal.returns-else-given-clause-answer
returns-else-given-clause-answer g c =
    let h : HeapSeen = c.args.setting.now.heap.now in
    subst (λ o. AnswersAs (plain_given h) o c.shown_after.result)
    (bracketed_unshown (state_of h) c.args.word.now (plain_given h c.args.given) (bracket_meaning c.args.bracket.now) c.if-given.false)
    (c.shown_after.ensures.answer h)
