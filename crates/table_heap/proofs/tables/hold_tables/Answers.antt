use Rattle.std.proofs.Common.{◌≤◌, length, refl, arith}
use Rattle.table_heap.proofs.PlainTables.{all_tables, more_tables}
use Rattle.table_heap.proofs.tables.hold_tables.Goals as goal

-- the table at the next place is sound
pub loop-slot-preserved : goal.loop-slot-preserved
loop-slot-preserved c = more_tables c.args.tables.now.slots c.loop-slot.slot _ refl c.loop-slot.invariant
    c.look_at.ensures

-- all places were looked at
pub returns : goal.returns
returns c =
    let long : length c.args.tables.now.slots ≤ c.loop-slot.slot = omega (
      arith,
      c.capacity-slot-end.ensures.slots,
      c.loop-slot-test.false,
      c.loop-slot.auto.slot-end,
      c.capacity-slot-end.ensures.value,
    ) in
    all_tables c.args.tables.now.slots c.loop-slot.slot long c.loop-slot.invariant
