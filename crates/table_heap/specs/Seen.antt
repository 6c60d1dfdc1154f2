-- What contracts see of a heap.
--   Bounds              names, which are bytes, and what each is bound to
--   Slots               places, each empty or with a table and its number
--   slot_at slots k     what is at place k, counted from 0; past the end nothing
--   Held                the names, the places, and the number of the next table
--   HeapSeen            what is held, and for how many more names there is room
--   HasNumber n o       a place that has the table of this number
--   IsAt h id           the Id is live: its place has the table of its number
--   IsTableAt h id t    the Id is live, and its table is t
--   room_of             the least of three: names that fit, tables that fit, numbers that are left
use Rattle.std.specs.Prelude.{◌≡◌, ◌-◌, ◌^◌, ℕ, List, Option, None, Some, min, refl, slice_index_or}
use Rattle.std.specs.Coded.{Coded, code_by, coded×, coded_ℕ, coded_list, coded_option}
use Rattle.std.specs.Ordering.{nat_cmp}
use Rattle.std.specs.Cmp.Lexicographic.{slice_cmp}
use Rattle.std.specs.FinMap as finite
use Rattle.dt_table.specs.Table.{TableSeen}
use Rattle.table_heap.specs.declared.bound.Id.{Id}
use Rattle.table_heap.specs.declared.bound.Bound.{Bound}
use Rattle.table_heap.specs.declared.bound.Numbered.{Numbered}
use Rattle.table_heap.specs.contracts.bound.Bound as bound
use Rattle.table_heap.specs.contracts.bound.Numbered as numbered

-- names and what they are bound to
abbrev pub Bounds : Type 0
Bounds = finite.FinMap (slice_cmp nat_cmp) Bound

-- places, each empty or with a table and its number
abbrev pub Slots : Type 0
Slots = List (Option Numbered)

-- what is at a place
abbrev pub slot_at : Slots → ℕ → Option Numbered
slot_at slots k = slice_index_or slots k None

-- names, places, and the number of the next table
pub record Held : Type 0 where
  pub bounds : Bounds
  pub slots : Slots
  pub next : ℕ

-- what is held, and for how many more names and tables there is room
pub record HeapSeen : Type 0 where
  pub held : Held
  pub room : ℕ

-- a heap is stored as the pairs of its parts
abbrev pub heap_code : Coded HeapSeen
heap_code =
    code_by (Bounds × (Slots × (ℕ × ℕ)))
    (coded× (finite.code (coded_list coded_ℕ) bound.the_row.coded)
    (coded× (coded_list (coded_option numbered.the_row.coded)) (coded× coded_ℕ coded_ℕ)))
    (λ h. (h.held.bounds, (h.held.slots, (h.held.next, h.room))))
    (λ p. record { held = record { bounds = p.0; slots = p.1.0; next = p.1.1.0 }; room = p.1.1.1 })
    (λ _. refl)

-- the place has a table, and it is this number's
abbrev pub HasNumber : ℕ → Option Numbered → Type 0
HasNumber n None = ⊥
HasNumber n (Some x) = x.number ≡ n

-- the Id's place has the table of the Id's number
abbrev pub IsAt : HeapSeen → Id → Type 0
IsAt h id = HasNumber id.number (slot_at h.held.slots id.slot)

-- and that table is t
abbrev pub IsTableAt : HeapSeen → Id → TableSeen → Type 0
IsTableAt h id t = slot_at h.held.slots id.slot ≡ Some (record { number = id.number; table = t })

-- room for a name and a table is where both fit and a number is left
abbrev pub room_of : ℕ → ℕ → ℕ → ℕ
room_of names tables next = min names (min tables (2 ^ 64 - 1 - next))
