-- The places after a name has lost what it was bound to.
--   swept_slots b slots old   without the table that has lost its last name
--   SetsSlot old new k v      place k has become v, and no other place has changed
use Rattle.std.specs.Prelude.{◌≡◌, ◌≢◌, ℕ, Option, None, Some, cond, slice_set}
use Rattle.dt_model.specs.State.{has_name}
use Rattle.table_heap.specs.declared.bound.Bound.{Bound}
use Rattle.table_heap.specs.declared.bound.Bound.TheVariants.{Table, Vector}
use Rattle.table_heap.specs.declared.bound.Numbered.{Numbered}
use Rattle.table_heap.specs.Seen.{Bounds, Slots, slot_at}
use Rattle.table_heap.specs.State.{names_of}

-- what the name was bound to is the only table that can have lost its last name
abbrev pub swept_slots : Bounds → Slots → Option Bound → Slots
swept_slots b slots None = slots
swept_slots b slots (Some (Vector _)) = slots
swept_slots b slots (Some (Table id)) = cond (has_name (names_of b) id.number) slots (slice_set slots id.slot None)

-- one place has become v, and each other place is as it was
pub record SetsSlot (old new : Slots) (k : ℕ) (v : Option Numbered) : Type 0 where
  pub changed : slot_at new k ≡ v
  pub others : (j : ℕ) → j ≢ k → slot_at new j ≡ slot_at old j
