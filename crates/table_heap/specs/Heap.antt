-- What is so of every heap.
--   IsThere slots o   what a name is bound to is there: an Id's place has the table of its number
--   IsApart slots     no two places have tables of one number
--   IsSound h         names' tables are there, numbers differ, and each is below the next one
--   IsHeap h          this, and each table has a name
use Rattle.std.specs.Prelude.{◌≡◌, ◌<◌, ℕ, List, Option, None, Some}
use Rattle.std.specs.FinMap as finite
use Rattle.dt_model.specs.State.{IsNamed}
use Rattle.table_heap.specs.declared.bound.Bound.{Bound}
use Rattle.table_heap.specs.declared.bound.Bound.TheVariants.{Table, Vector}
use Rattle.table_heap.specs.declared.bound.Numbered.{Numbered}
use Rattle.table_heap.specs.Seen.{Held, Slots, slot_at, HasNumber}
use Rattle.table_heap.specs.State.{state_in}

-- an Id's place has the table of its number
abbrev pub IsThere : Slots → Option Bound → Type 0
IsThere slots None = Unit {0}
IsThere slots (Some (Vector _)) = Unit {0}
IsThere slots (Some (Table id)) = HasNumber id.number (slot_at slots id.slot)

-- two places with tables of one number are one place
abbrev pub IsApart : Slots → Type 0
IsApart slots =
    (i j : ℕ) (x y : Numbered) → slot_at slots i ≡ Some x → slot_at slots j ≡ Some y → x.number ≡ y.number → i ≡ j

-- no number from the next one on is in use
abbrev pub IsFresh : ℕ → Slots → Type 0
IsFresh next slots = (k : ℕ) (x : Numbered) → slot_at slots k ≡ Some x → x.number < next

-- each name's table is there, numbers differ, and each is below the next one
pub record IsSound (h : Held) : Type 0 where
  pub there : (q : List ℕ) → IsThere h.slots (finite.get h.bounds q)
  pub apart : IsApart h.slots
  pub fresh : IsFresh h.next h.slots

-- and each table has a name
pub record IsHeap (h : Held) : Type 0 where
  pub sound : IsSound h
  pub named : IsNamed (state_in h)
