use Rattle.std.proofs.Common.{[], sym, ◌∙◌}
use Rattle.std.proofs.lemmas.Option.{get_or_from_slice_get}
use Rattle.cmd_order.proofs.Choosing.{chosen_again, chosen_new}
use Rattle.cmd_order.specs.Columns.{column_seen}
use Rattle.cmd_order.proofs.columns.choose.Goals as goal

pub returns-in-Ok-true-clause-answer : goal.returns-in-Ok-true-clause-answer
returns-in-Ok-true-clause-answer c =
    chosen_new c.args.table.now.names c.args.column c.args.chosen.now c.in-Ok-true.field-0
    c.names.ensures.table.names.distinct c.requires.place c.requires.places c.in-Ok-true.ensures.added
    c.in-Ok-true.field-0-test

pub returns-in-Ok-false-clause-answer : goal.returns-in-Ok-false-clause-answer
returns-in-Ok-false-clause-answer c =
    chosen_again c.args.table.now.names c.args.column c.args.chosen.now c.in-Ok-false.field-0 c.as_str.result.now
    c.stop.result c.names.ensures.table.names.distinct c.requires.place c.requires.places
    c.in-Ok-false.ensures.added c.in-Ok-false.field-0-test
    (c.as_str.ensures
    ∙ sym (get_or_from_slice_get c.args.table.now.names c.args.column.col c.name.result.now [] c.name.ensures))
    c.stop.ensures.fault (λ (u : Unit {0}). column_seen c.args.table.now.names c.args.column)
