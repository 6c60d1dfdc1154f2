-- The map of names.
--   bounds_of es    the entries of the code's map, with the bytes of each name
use Rattle.std.specs.Prelude.{ℕ, List, map, string_bytes, String}
use Rattle.std.specs.FinMap as finite
use Rattle.std.specs.declared.alloc.Global.{Global}
use Rattle.table_heap.specs.declared.bound.Bound.{Bound}
use Rattle.table_heap.specs.Seen.{Bounds}

-- a name's bytes, and what it is bound to
abbrev pub shown : String Global × Bound → List ℕ × Bound
shown e = (string_bytes e.0, e.1)

-- names by their bytes
abbrev pub bounds_of : List (String Global × Bound) → Bounds
bounds_of es = finite.from_entries (map shown es)
