use Rattle.bracket_rows.proofs.InOrder.{known}
use Rattle.bracket_rows.specs.Ordered.{named_seen}
use Rattle.bracket_rows.proofs.ordered.known_column.Goals as goal

pub returns-in-Some-clause-answer : goal.returns-in-Some-clause-answer
returns-in-Some-clause-answer c = known c.args.x.now.names (named_seen c.args.named) c.in-Some.col c.in-Some.ensures
