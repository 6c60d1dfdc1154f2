-- The plain reading of a table.
--   plain t    its names and types, its cells row by row, its key and indices by name, its slots
--   plain_changed t ch   the plain reading of the table, changed
--   plain_reordered order key t   with its rows in this order, this key, and no index
--   plain_keyed key t    with this key
--   plain_indexed x t    with one index more, behind the others
--   plain_unindexed t    with no index
use Rattle.std.specs.Prelude.{ℕ, List, [], ◌∷◌, ◌++◌, length, map, slice_index_or}
use Rattle.dt_model.specs.Table.{PlainTable, heads_of, rows_of, names_at}
use Rattle.na_vector.specs.Frame.{rows_with, vectors_of}
use Rattle.dt_table.specs.Change.{ChangeSeen, indices_changed, key_changed, names_changed, vectors_changed}
use Rattle.dt_table.specs.Table.{IndexSeen, TableSeen}

-- columns become heads and rows, and places become names
abbrev pub plain : TableSeen → PlainTable
plain t = record {
  columns = heads_of t.names (vectors_of t.frame.columns);
  rows = rows_of t.frame.rows (vectors_of t.frame.columns);
  key = names_at t.names t.key;
  indices = map (λ x. names_at t.names x.cols) t.indices;
  slots = t.slots;
}

-- the columns changed, and the key and the indices by the names that there are then
abbrev pub plain_changed : TableSeen → ChangeSeen → PlainTable
plain_changed t ch = record {
  columns = heads_of (names_changed ch.parts t.names) (vectors_changed ch.parts (vectors_of t.frame.columns));
  rows = rows_of (rows_with (length (names_changed ch.parts t.names)) t.frame.rows)
      (vectors_changed ch.parts (vectors_of t.frame.columns));
  key = names_at (names_changed ch.parts t.names) (key_changed ch.parts t.key);
  indices = map (λ x. names_at (names_changed ch.parts t.names) x.cols) (indices_changed ch.parts t.indices);
  slots = t.slots;
}

-- the rows at these places of the table, one for each, the key by names, and no index
abbrev pub plain_reordered : List ℕ → List ℕ → TableSeen → PlainTable
plain_reordered order key t = record (plain t) {
  rows = map (λ r. slice_index_or (plain t).rows r []) order;
  key = names_at t.names key;
  indices = [];
}

-- the key by names
abbrev pub plain_keyed : List ℕ → TableSeen → PlainTable
plain_keyed key t = record (plain t) { key = names_at t.names key }

-- the columns of the index by names, behind those of the others
abbrev pub plain_indexed : IndexSeen → TableSeen → PlainTable
plain_indexed x t = record (plain t) { indices = (plain t).indices ++ names_at t.names x.cols ∷ [] }

-- no index is left
abbrev pub plain_unindexed : TableSeen → PlainTable
plain_unindexed t = record (plain t) { indices = [] }
