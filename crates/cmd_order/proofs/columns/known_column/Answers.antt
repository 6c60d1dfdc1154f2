use Rattle.cmd_order.proofs.Choosing.{known_here}
use Rattle.cmd_order.specs.Columns.{named_seen}
use Rattle.cmd_order.proofs.columns.known_column.Goals as goal

pub returns-in-Some-clause-answer : goal.returns-in-Some-clause-answer
returns-in-Some-clause-answer c =
    known_here c.args.table.now.names (named_seen c.args.named) c.in-Some.col c.in-Some.ensures
