-- What becomes of a table whose columns, key or indices change.
--   altered_names t ch   the columns that the change names
--   plain_altered h a    what becomes of the table of an Id
--   keyed_by key t, without_key t, without_indices t   the table with another key, or without one, or without indices
--   FitsKey t key        the key is one of t, and true of its rows
use Rattle.std.specs.Prelude.{ℕ, List, [], length, Option, None, Some}
use Rattle.dt_table.specs.Change.{ChangeSeen, part_names}
use Rattle.dt_table.specs.Table.{HasTrueKey, IsColumnList, TableSeen}
use Rattle.na_vector.specs.Frame.{vectors_of}
use Rattle.session_model.specs.Value.{Alteration}
use Rattle.stmt_change.specs.Places.{table_at}
use Rattle.stmt_change.specs.declared.change.Altered.{Altered}
use Rattle.table_heap.specs.Altered.{table_altered}
use Rattle.table_heap.specs.Seen.{HeapSeen}

-- ---- An index, and a change

abbrev pub altered_names : TableSeen → Option ChangeSeen → List (List ℕ)
altered_names t None = []
altered_names t (Some ch) = part_names t.names ch.parts

abbrev pub plain_altered : HeapSeen → Altered → Alteration
plain_altered h a = record {
  number = a.id.number;
  names = altered_names (table_at h a.id) a.parts;
  table = table_altered (table_at h a.id) a.index a.parts;
}

-- ---- The key, and all indices

-- another key, and no index
abbrev pub keyed_by : List ℕ → TableSeen → TableSeen
keyed_by key t = record t { key = key; indices = [] }

abbrev pub without_key : TableSeen → TableSeen
without_key t = record t { key = [] }

abbrev pub without_indices : TableSeen → TableSeen
without_indices t = record t { indices = [] }

-- distinct columns, over which no row stands above the next one
pub record FitsKey (t : TableSeen) (key : List ℕ) : Type 0 where
  pub columns : IsColumnList (length t.names) key
  pub true_key : HasTrueKey t.frame.rows (vectors_of t.frame.columns) key
