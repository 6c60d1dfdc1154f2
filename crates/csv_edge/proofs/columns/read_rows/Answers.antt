use Rattle.std.proofs.Common.{get_or, length, ◌∙◌, arith}
use Rattle.csv.specs.Records.{fields_of}
use Rattle.csv_edge.specs.Left.{left}
use Rattle.csv_edge.proofs.FillingFacts.{gains_none}
use Rattle.csv_edge.proofs.RowFacts.{rows_fault_next, fields_next}
use Rattle.csv_edge.proofs.columns.read_rows.Goals as goal

-- a record more was taken, and it has no fault
pub loop-row-preserved : goal.loop-row-preserved
loop-row-preserved c =
    let rest = rw c.if-branch.true at c.in_ok-next_record.ensures.record in
    let row = fields_of c.next_record.new.row in
    let after = left c.next_record.new.reader in
    let before = left c.loop-row.reader in (
      c.in_ok-next_record.ensures.open c.if-branch.true,
      rows_fault_next (length c.args.columns.now) (length c.loop-row.columns) c.loop-row.before row after before rest
          c.loop-row.auto.columns c.in_ok-take_record.ensures.right ∙ c.loop-row.invariant.1,
      (λ k d end h more. c.loop-row.invariant.2 k d end h
          (fields_next c.args.again (get_or c.loop-row.columns k d) (get_or c.take_record.new.columns k d) end k
          row after before
          rest (c.in_ok-take_record.ensures.fields k d (omega (arith, h, c.loop-row.auto.columns))) more)),
      omega (arith, c.in_ok-take_record.ensures.room),
    )

-- no record is left, so the columns have gained the fields of all
pub returns-clause-fields : goal.returns-clause-fields
returns-clause-fields c = λ k d h.
    let none = rw c.if-branch.false at c.in_ok-next_record.ensures.record in
    c.loop-row.invariant.2 k d (get_or c.loop-row.columns k d) h
    (rw none (gains_none c.args.again (get_or c.loop-row.columns k d)))
