use Rattle.std.proofs.Common.{◌∙◌, ap, map, subst, sym}
use Rattle.func_table.specs.Calls.{func_of}
use Rattle.session_model.specs.Meaning.{meaning, arg_meaning, bracket_meaning, query_gives, vector_gives}
use Rattle.stmt_value.proofs.GivesChain.{gives_query}
use Rattle.stmt_value.proofs.GivesVector.{call_gives_by, sign_gives}
use Rattle.file_value.proofs.NoReads.{answered}
use Rattle.file_value.specs.Answers.{Gives}
use Rattle.session_model.specs.Calls.{copy_of}
use Rattle.stmt_value.specs.Calls.{call_or, copied_value}
use Rattle.vector_model.specs.Then.{then_do}
use Rattle.stmt_value.specs.Values.{plain_given, scene}
use Rattle.eval_fail.specs.Answers.{AnswersAs}
use Rattle.session_model.specs.Value as model
use Rattle.stmt_value.proofs.values.+value.Goals as goal

pub value-returns-in-Call-clause-told : goal.value-returns-in-Call-clause-told
value-returns-in-Call-clause-told g t c told =
    let w : model.Scene = scene (g.F.Files.held c.args.files.now) c.args.setting.now in
    subst (λ o. Gives (plain_given c.args.setting.now.heap.now) o c.call.result)
    (sym (call_gives_by c.args.e.now w c.in-Call.name c.in-Call.args c.in-Call.is
    ∙ (λ j. call_or (func_of (sym c.as_str-in-Call.ensures j)) (map arg_meaning (sym c.as_slice.ensures j)) (vector_gives (meaning c.args.e.now).check (meaning c.args.e.now).value) w)))
    (c.call.ensures.told told)

pub value-returns-in-Minus-clause-told : goal.value-returns-in-Minus-clause-told
value-returns-in-Minus-clause-told g t c told =
    let w : model.Scene = scene (g.F.Files.held c.args.files.now) c.args.setting.now in
    answered (plain_given c.args.setting.now.heap.now) _ c.vector_value.result c.unread-in-Minus.result c.unread-in-Minus.ensures
    (subst (λ o. AnswersAs (plain_given c.args.setting.now.heap.now) o c.vector_value.result) (sym (sign_gives c.args.e.now w c.in-Minus.is)) c.vector_value.ensures.given)

pub value-returns-in-Query-clause-told : goal.value-returns-in-Query-clause-told
value-returns-in-Query-clause-told g t c told =
    let w : model.Scene = scene (g.F.Files.held c.args.files.now) c.args.setting.now in
    subst (λ o. Gives (plain_given c.args.setting.now.heap.now) o c.query.result)
    (sym (gives_query c.args.e.now w c.in-Query.head c.in-Query.brackets c.in-Query.is
    ∙ (λ j. query_gives (meaning (sym c.get-in-Query.ensures j)) (map bracket_meaning (sym c.as_slice-in-Query.ensures j)) w)))
    (c.query.ensures.told told)

pub copy_of-returns-in-Ok-clause-told : goal.copy_of-returns-in-Ok-clause-told
copy_of-returns-in-Ok-clause-told g t c told =
    let w : model.Scene = scene (g.F.Files.held c.args.files.now) c.args.setting.now in
    answered (plain_given c.args.setting.now.heap.now) (copy_of (meaning c.args.e.now) w) c.copied_value.result
    c.unread.result c.unread.ensures
    (subst (λ o. AnswersAs (plain_given c.args.setting.now.heap.now) o c.copied_value.result)
    (sym (ap (λ r. then_do r (copied_value w.state)) (c.in-Ok.ensures.told told))) c.copied_value.ensures.answer)
