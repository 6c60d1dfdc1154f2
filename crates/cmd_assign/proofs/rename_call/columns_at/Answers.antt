use Rattle.std.proofs.Common.{IfOk, subst}
use Rattle.dt_table.specs.Plain.{plain}
use Rattle.dt_table.specs.Table.{TableSeen}
use Rattle.eval_fail.specs.Answers.{AnswersAs}
use Rattle.session_model.specs.Set.{renames}
use Rattle.stmt_change.specs.Effects.{with_names, FitsRename}
use Rattle.cmd_assign.proofs.Renamed.{renames_alike}
use Rattle.cmd_assign.proofs.rename_call.columns_at.Goals as goal

pub returns-clause-answer : goal.returns-clause-answer
returns-clause-answer c =
    let n = c.args.id.number in
    let old = c.args.old.now in
    let new = c.args.new.now in
    subst (λ (t : TableSeen). AnswersAs (λ v. plain (with_names v.items new t)) (renames (n, plain t) old new)
    c.columns_renamed.result) c.table_of-table.ensures.table
    (subst (λ o. AnswersAs (λ v. plain (with_names v.items new c.table_of-table.result.now)) o c.columns_renamed.result)
    (renames_alike n c.table_of-table.result.now old new c.names-names.ensures.table) c.columns_renamed.ensures.answer)

pub returns-clause-fits : goal.returns-clause-fits
returns-clause-fits c =
    subst (λ (t : TableSeen). IfOk c.columns_renamed.result (λ v. FitsRename t v.items c.args.new.now))
    c.table_of-table.ensures.table c.columns_renamed.ensures.fits
