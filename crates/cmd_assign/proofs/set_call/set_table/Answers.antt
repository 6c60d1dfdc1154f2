use Rattle.std.proofs.Common.{IfOk, subst}
use Rattle.assign_sides.specs.Seen.{assigned_seen, value_seen, values_seen}
use Rattle.dt_table.specs.Change.{FitsTable}
use Rattle.dt_table.specs.Plain.{plain}
use Rattle.dt_table.specs.Table.{TableSeen}
use Rattle.eval_fail.specs.Answers.{AnswersAs}
use Rattle.session_model.specs.Set.{set_table}
use Rattle.cmd_assign.proofs.Sets.{set_alike}
use Rattle.cmd_assign.proofs.set_call.set_table.Goals as goal

pub returns-clause-answer : goal.returns-clause-answer
returns-clause-answer g c =
    let rows = value_seen c.args.rows.now in
    let columns = c.args.columns.now.vector in
    let values = values_seen c.args.values in
    subst (λ (t : TableSeen). AnswersAs (assigned_seen t) (set_table (plain t) rows columns values) c.set_in.result)
    c.table_of-table.ensures.table
    (subst (λ o. AnswersAs (assigned_seen c.table_of-table.result.now) o c.set_in.result)
    (set_alike c.table_of-table.result.now rows columns values c.names-names.ensures.table) c.set_in.ensures.answer)

pub returns-clause-fits : goal.returns-clause-fits
returns-clause-fits g c =
    subst (λ (t : TableSeen). IfOk c.set_in.result (λ a. FitsTable t a.change)) c.table_of-table.ensures.table
    c.set_in.ensures.fits
