use Rattle.std.proofs.Common.{◌∙◌, Option, None, Some, ap, sym}
use Rattle.dt_model.specs.Table.{PlainTable, no_table}
use Rattle.dt_table.specs.Plain.{plain}
use Rattle.stmt_change.proofs.Places.{at_place}
use Rattle.table_argument.proofs.arguments.table_of.Goals as goal

pub returns-clause-table : goal.returns-clause-table
returns-clause-table c = sym (at_place c.args.heap.now c.args.id c.table.result.now c.table.ensures.place)

pub returns-clause-number : goal.returns-clause-number
returns-clause-number c =
    ap (λ (o : Option PlainTable). elim o [ Some t ↦ t | None ↦ no_table ]) c.table.ensures.plain
    ∙ ap plain (sym (at_place c.args.heap.now c.args.id c.table.result.now c.table.ensures.place))
