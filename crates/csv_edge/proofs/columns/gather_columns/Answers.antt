use Rattle.std.proofs.Common.{◌≡◌, ◌++◌, length, take, drop, ◌∙◌, arith}
use Rattle.csv_edge.specs.Columns.{Gathered, below}
use Rattle.csv_edge.proofs.TableFacts.{written_back, gathered}
use Rattle.csv_edge.proofs.columns.gather_columns.Goals as goal

-- reading keeps the number of columns
pub returns-clause-count : goal.returns-clause-count
returns-clause-count c =
    let first = c.read_rows.new.columns in
    let second = c.read_late.new.columns in
    let len = c.in_ok-columns.columns.len in
    let once : length first ≡ len = c.read_rows.auto.columns ∙ c.deref_mut.ensures.len in
    let twice : length second ≡ len = c.read_late.auto.columns ∙ c.deref_mut-2.ensures.len in
    let back = written_back first c.in_ok-columns.columns.items len once in
    rw (written_back second (take len (first ++ drop (length first) c.in_ok-columns.columns.items)) len twice)
    (twice ∙ c.in_ok-columns.ensures.count)

-- the columns were empty, and gained the fields of all records in both readings
pub returns-clause-fields : goal.returns-clause-fields
returns-clause-fields c =
    let first = c.read_rows.new.columns in
    let second = c.read_late.new.columns in
    let len = c.in_ok-columns.columns.len in
    let rows = below c.args.bytes.now in
    let once : length first ≡ len = c.read_rows.auto.columns ∙ c.deref_mut.ensures.len in
    let twice : length second ≡ len = c.read_late.auto.columns ∙ c.deref_mut-2.ensures.len in
    let back = written_back first c.in_ok-columns.columns.items len once in
    let between = c.deref_mut-2.ensures.value ∙ back in
    let fields : Gathered second rows =
    gathered c.deref_mut.result.now first second rows c.read_rows.auto.columns (omega (arith, once, twice))
    (λ k d h. rw c.deref_mut.ensures.value (c.in_ok-columns.ensures.empty k d
    (omega (arith, c.deref_mut.ensures.len, c.in_ok-columns.ensures.count))))
    (rw c.requires.below at c.in_ok-read_rows.ensures.fields)
    (rw between at c.in_ok-read_late.ensures.fields) in
    rw (written_back second (take len (first ++ drop (length first) c.in_ok-columns.columns.items)) len twice) fields
