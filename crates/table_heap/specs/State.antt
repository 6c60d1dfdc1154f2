-- The state that a heap stands for.
--   plain_bound b    an Id as its number, a column as its vector
--   names_of b       each name with its plain bound
--   tables_of slots  the plain tables by their numbers
--   state_in held    the state of what is held
--   state_of h       the state of a heap
use Rattle.std.specs.Prelude.{ℕ, List, [], ◌∷◌, map, None, Some}
use Rattle.std.specs.FinMap as finite
use Rattle.dt_model.specs.State as model
use Rattle.dt_model.specs.Table.{PlainTable}
use Rattle.dt_table.specs.Plain.{plain}
use Rattle.table_heap.specs.declared.bound.Bound.{Bound}
use Rattle.table_heap.specs.declared.bound.Bound.TheVariants.{Table, Vector}
use Rattle.table_heap.specs.Seen.{Bounds, Slots, Held, HeapSeen}

-- an Id stands for its number, a column for its vector
abbrev pub plain_bound : Bound → model.Bound
plain_bound (Table id) = model.Table id.number
plain_bound (Vector column) = model.Vector column.vector

-- a name and what it is bound to, plainly
abbrev pub plain_entry : List ℕ × Bound → List ℕ × model.Bound
plain_entry e = (e.0, plain_bound e.1)

-- each name with its plain bound
abbrev pub names_of : Bounds → model.Names
names_of b = finite.from_entries (map plain_entry (finite.entries b))

-- the number and the plain table of each place that has one
abbrev pub numbered_tables : Slots → List (ℕ × PlainTable)
numbered_tables [] = []
numbered_tables (None ∷ rest) = numbered_tables rest
numbered_tables (Some x ∷ rest) = (x.number, plain x.table) ∷ numbered_tables rest

-- the plain tables by their numbers
abbrev pub tables_of : Slots → model.Tables
tables_of slots = finite.from_entries (numbered_tables slots)

-- the state of what is held
abbrev pub state_in : Held → model.State
state_in h = record { names = names_of h.bounds; tables = tables_of h.slots; next = h.next }

-- the state of a heap
abbrev pub state_of : HeapSeen → model.State
state_of h = state_in h.held
