use Rattle.std.proofs.Common.{◌+◌, ◌≡◌, length, sym, ap, ◌∙◌, drop, arith}
use Rattle.csv.specs.Reading.{default_config, strip_bom}
use Rattle.csv.specs.Records.{fields_of}
use Rattle.csv.specs.declared.parser.State.TheVariants as st
use Rattle.csv_edge.specs.Columns.{below}
use Rattle.csv_edge.specs.Left.{left}
use Rattle.csv_edge.proofs.Sizes.{header_some, cells_within}
use Rattle.csv_edge.proofs.read.read_table.Goals as goal

-- the header has a field
pub read_below-requires-clause-some : goal.read_below-requires-clause-some
read_below-requires-clause-some g c =
    let first = rw c.if-branch.true at c.in_ok-next_record.ensures.record in
    header_some default_config (length (strip_bom c.args.bytes.now) + 1) st.StartRecord (strip_bom c.args.bytes.now)
    (fields_of c.next_record.new.row) (left c.next_record.new.reader) (sym c.open-reader.ensures.records ∙ first)

-- what is left are the records below it
pub read_below-requires-clause-below : goal.read_below-requires-clause-below
read_below-requires-clause-below g c =
    let first = rw c.if-branch.true at c.in_ok-next_record.ensures.record in
    sym (ap (drop 1) (sym c.open-reader.ensures.records ∙ first))

-- each cell takes a byte
pub read_below-requires-clause-cells : goal.read_below-requires-clause-cells
read_below-requires-clause-cells g c = λ right.
    let first = rw c.if-branch.true at c.in_ok-next_record.ensures.record in
    let all = sym c.open-reader.ensures.records ∙ first in
    let rest : below c.args.bytes.now ≡ left c.next_record.new.reader = ap (drop 1) all in
    let within = cells_within c.args.bytes.now (fields_of c.next_record.new.row) (left c.next_record.new.reader) all
    (rw rest at right) in
    rw rest (omega (arith, within, c.requires))
