use Rattle.std.proofs.Common.{◌≡◌, ℕ, List, Ok, ap, subst, sym}
use Rattle.assign_ref.specs.Seen.{rows_seen}
use Rattle.assign_sides.specs.Seen.{assigned_seen, values_seen}
use Rattle.dt_table.specs.Plain.{plain}
use Rattle.eval_fail.specs.Answers.{AnswersAs}
use Rattle.session_model.specs.Assigned.{assigned_by}
use Rattle.session_model.specs.Set.{names_named}
use Rattle.vector_model.specs.Then.{then_do}
use Rattle.cmd_assign.proofs.set_call.assigned_named.Goals as goal

-- the assignment goes on with the names
pub returns-clause-answer : goal.returns-clause-answer
returns-clause-answer g c =
    let t = c.args.table.now in
    let rows = rows_seen c.args.rows in
    let columns = c.args.columns.now.vector in
    let values = values_seen c.args.values in
    subst (λ o. AnswersAs (assigned_seen t) o c.assigned_by.result)
    (sym (ap (λ o. then_do o (λ names. assigned_by (plain t) rows names values))
    (subst (λ (l : List (List ℕ)). names_named l columns ≡ Ok c.in_ok-names.names.items) c.names.ensures.names
    c.in_ok-names.ensures.answer)))
    (subst (λ (l : List (List ℕ)). AnswersAs (assigned_seen t) (assigned_by (plain t) rows l values)
    c.assigned_by.result) c.deref.ensures.value c.assigned_by.ensures.answer)
