use Rattle.std.proofs.Common.{◌≡◌, ◌∙◌, Some, sym, ap, option_map}
use Rattle.dt_model.specs.Table.{name_at}
use Rattle.dt_table.specs.Plain.{plain}
use Rattle.session_model.specs.AutoIndex.{column_added, first_indexed, with_added}
use Rattle.session_model.specs.Found.{vars_of}
use Rattle.session_model.specs.Meaning.{bracket_meaning}
use Rattle.stmt_change.specs.Places.{table_at}
use Rattle.stmt_value.specs.Values.{plain_given, scene}
use Rattle.auto_index.proofs.Given.{first_is, kept_is, none_added, ok_to}
use Rattle.auto_index.proofs.statements.first_indexed.Goals as goal

pub returns-in-Ok-Some-clause-given : goal.returns-in-Ok-Some-clause-given
returns-in-Ok-Some-clause-given g c = λ held.
    let h = c.args.setting.now.heap.now in
    let w = scene held c.args.setting.now in
    let b = bracket_meaning c.args.bracket.now in
    let given = plain_given h c.args.given in
    let t = table_at h c.args.id in
    let n = c.args.id.number in
    let q = name_at t.names c.in-Ok-Some.col in
    let o = column_added (plain t) w.options.auto_index (vars_of w.state) b.first in
    let kept : o ≡ Some q = kept_is n o given.alters q
    (ap (option_map (name_at t.names)) (sym c.in-Ok-Some.field-0-is) ∙ c.in-Ok-Some.ensures.column) in
    let first = first_is w n b given (plain t) c.table_of-table.ensures.number in
    ok_to (plain_given h) (with_added n (plain t) (Some q) given) (first_indexed w n b given) c.add_index.result
    (ap (λ x. with_added n (plain t) x given) (sym kept) ∙ sym first) c.add_index.ensures.given

pub returns-in-Ok-None-clause-given : goal.returns-in-Ok-None-clause-given
returns-in-Ok-None-clause-given g c = λ held.
    let h = c.args.setting.now.heap.now in
    let w = scene held c.args.setting.now in
    let b = bracket_meaning c.args.bracket.now in
    let given = plain_given h c.args.given in
    let t = table_at h c.args.id in
    let n = c.args.id.number in
    let o = column_added (plain t) w.options.auto_index (vars_of w.state) b.first in
    let none = none_added n (plain t) o given
    (ap (option_map (name_at t.names)) (sym c.in-Ok-None.field-0-is) ∙ c.in-Ok-None.ensures.column) in
    sym (first_is w n b given (plain t) c.table_of-table.ensures.number ∙ none)
