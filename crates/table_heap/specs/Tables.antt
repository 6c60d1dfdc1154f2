-- The tables of a heap, and of a state.
--   HoldTables slots    each place that has a table has one that is sound
--   HasPlainTables s    each table of the state is a plain table
use Rattle.std.specs.Prelude.{◌≡◌, ℕ, Some}
use Rattle.std.specs.FinMap as finite
use Rattle.dt_model.specs.Table.{PlainTable}
use Rattle.dt_model.specs.State.{State}
use Rattle.dt_table.specs.PlainTables.{IsPlainTable}
use Rattle.dt_table.specs.Table.{IsTable}
use Rattle.table_heap.specs.declared.bound.Numbered.{Numbered}
use Rattle.table_heap.specs.Seen.{Slots, slot_at}

-- what is so of every table is so of the one at each place
abbrev pub HoldTables : Slots → Type 0
HoldTables slots = (k : ℕ) (x : Numbered) → slot_at slots k ≡ Some x → IsTable x.table

-- the table of each number is a plain table
abbrev pub HasPlainTables : State → Type 0
HasPlainTables s = (k : ℕ) (t : PlainTable) → finite.get s.tables k ≡ Some t → IsPlainTable t
