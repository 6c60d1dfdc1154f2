-- A table that gets an index and a change.
use Rattle.std.proofs.Common.{◌≡◌, Option, None, Some, refl}
use Rattle.dt_table.specs.Change.{ChangeSeen}
use Rattle.dt_table.specs.Table.{IndexSeen, TableSeen}
use Rattle.table_heap.specs.Altered.{added, indexed, table_with}

-- what is plain of it does not tell how many more indices there is room for
pub altered_added : (t : TableSeen) (x : Option IndexSeen) (ch : Option ChangeSeen)
    → table_with (added t x) ch ≡ table_with (indexed t x) ch
altered_added t None ch = refl
altered_added t (Some x) None = refl
altered_added t (Some x) (Some ch) = refl
