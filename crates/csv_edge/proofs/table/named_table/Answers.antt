use Rattle.std.proofs.Common.{[], ◌∙◌, arith}
use Rattle.std.proofs.lemmas.Grind.{common_steps}
use Rattle.csv.specs.Records.{fields_of}
use Rattle.header_names.proofs.NamesFacts.{names_after-length, column_names-filled}
use Rattle.csv_edge.proofs.TableFacts.{not_refused}
use Rattle.csv_edge.proofs.table.named_table.Goals as goal

-- as many names as columns
pub make-requires-clause-count : goal.make-requires-clause-count
make-requires-clause-count c =
    rw c.in_ok-names.ensures (names_after-length (fields_of c.args.header.now) [] ∙ omega (arith, c.requires.width))

-- and none empty
pub make-requires-clause-filled : goal.make-requires-clause-filled
make-requires-clause-filled c = rw c.in_ok-names.ensures (column_names-filled (fields_of c.args.header.now))

-- nothing but memory can lack
pub unreachable-requires : goal.unreachable-requires
unreachable-requires c =
    let none = not_refused c.in_ok-names.names.items (fields_of c.args.header.now) c.args.frame c.in_ok-names.ensures
    c.requires.width c.requires.columns c.requires.rows c.requires.cells in
    grind (arith, common_steps, none, c.in-Err.ensures.refused)
