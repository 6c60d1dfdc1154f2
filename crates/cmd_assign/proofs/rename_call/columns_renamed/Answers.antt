use Rattle.std.proofs.Common.{◌≡◌, ◌<◌, ℕ, All, Ok, Err, List, length, subst, sym}
use Rattle.std.specs.Global.{Vec}
use Rattle.std.specs.List.{IsDistinct}
use Rattle.std.specs.Str.{bytes_eq}
use Rattle.dt_table.specs.Plain.{plain}
use Rattle.dt_table.specs.Table.{renamed}
use Rattle.eval_fail.specs.Answers.{AnswersAs}
use Rattle.stmt_change.specs.Effects.{with_names}
use Rattle.cmd_assign.proofs.Renamed.{columns_named, renames_done, renames_fit, renames_stopped}
use Rattle.cmd_assign.proofs.rename_call.columns_renamed.Goals as goal
use Rattle.cmd_assign.specs.Renames.{distinct, steps_done}

pub check_after-requires-clause-cols : goal.check_after-requires-clause-cols
check_after-requires-clause-cols c =
    subst (λ (l : List ℕ). All (λ k. k < length c.args.table.now.names) l) (sym c.deref.ensures.value)
    (columns_named c.args.table.now c.args.old.now c.args.new.now c.in_ok-cols.cols.items c.names-names.ensures.table
    c.in_ok-cols.ensures.named).in_range

pub returns-in-Ok-clause-answer : goal.returns-in-Ok-clause-answer
returns-in-Ok-clause-answer c =
    renames_done c.args.table.now c.args.old.now c.args.new.now c.in_ok-cols.cols.items c.names-names.ensures.table
    c.in_ok-cols.ensures.named (steps_done c.in_ok-cols.cols.items) c.in_ok-cols.ensures.answer
    (subst (λ (l : List ℕ). distinct (renamed l c.args.new.now c.args.table.now.names) ≡ Ok tt) c.deref.ensures.value
    c.in-Ok.ensures.answer)

pub returns-in-Ok-clause-fits : goal.returns-in-Ok-clause-fits
returns-in-Ok-clause-fits c =
    renames_fit c.args.table.now c.args.old.now c.args.new.now c.in_ok-cols.cols.items c.names-names.ensures.table
    c.in_ok-cols.ensures.named
    (subst (λ (l : List ℕ). IsDistinct bytes_eq (renamed l c.args.new.now c.args.table.now.names)) c.deref.ensures.value
    c.in-Ok.ensures.distinct)

pub returns-in-Err-clause-answer : goal.returns-in-Err-clause-answer
returns-in-Err-clause-answer c =
    renames_stopped c.args.table.now c.args.old.now c.args.new.now c.in_ok-cols.cols.items c.names-names.ensures.table
    c.in_ok-cols.ensures.named (λ (v : Vec ℕ). plain (with_names v.items c.args.new.now c.args.table.now))
    (steps_done c.in_ok-cols.cols.items) c.in-Err.fail c.in_ok-cols.ensures.answer
    (subst (λ (l : List ℕ). AnswersAs (λ (x : Unit {0}). x)
    (distinct (renamed l c.args.new.now c.args.table.now.names)) (Err c.in-Err.fail))
    c.deref.ensures.value c.in-Err.ensures.answer)
