-- What contracts see of a table.
--   IndexSeen       an index: its columns, and the rows in its order
--   TableSeen       a table: names, frame, key, indices, slots, and how many more names and how many
--                   more indices it takes without memory; columns are counted from 0
--   IsNames names   no name is empty, and no name stands twice
--   IsColumnList width k   the columns of k are in range, and none stands twice
--   HasTrueKey n vectors key   no row stands above the next one over the key's columns
--   IsIndex width n vectors x  the index x has a column or more, in range and none twice, and the
--                   rows in their order
--   IsTable t       what is so of every table
--   made names f n  the new table of these names and this frame, with room for n more names
--   IsCopy t c      c has the parts of t, and column slots of its own
--   HasSame t u     t and u differ in spare numbers alone
--   IsReordered t order chosen u   u is t with its rows in this order, the chosen key, and no index
--   HasIndex cols xs   one of these indices has just these columns
--   put_in_order places values all   the list with these values at those places
--   renamed cols names all   the names with these in the places of those columns
use Rattle.std.specs.Prelude.{◌≡◌, ◌+◌, ◌*◌, ◌<◌, ◌≤◌, ◌==◌, ℕ, List, [], ◌∷◌, length, All, slice_set}
use Rattle.std.specs.Prelude.{Contains, Some, map}
use Rattle.std.specs.List.{IsDistinct}
use Rattle.std.specs.Str.{bytes_eq}
use Rattle.dt_base.specs.declared.limits.TheConstants.{MAX_CELLS, SPARE_COLUMNS}
use Rattle.dt_model.specs.Vector.{Vector, gathered}
use Rattle.na_vector.specs.Frame.{FrameSeen, IsFrame, vectors_of}
use Rattle.order_model.specs.Order.{rising}
use Rattle.order_model.specs.Places.{IsTrueKey, ordering}

-- the columns of an index, and the rows in its order, both counted from 0
pub record IndexSeen : Type 0 where
  pub cols : List ℕ
  pub order : List ℕ

-- names and columns in one order; the key's columns; the indices; the number of column slots; and so
-- many names, and so many indices, can be added without more memory
pub record TableSeen : Type 0 where
  pub names : List (List ℕ)
  pub frame : FrameSeen
  pub key : List ℕ
  pub indices : List IndexSeen
  pub slots : ℕ
  pub spare : ℕ
  pub index_room : ℕ

-- the name is not empty
abbrev pub IsFilled : List ℕ → Type 0
IsFilled name = 0 < length name

-- no name is empty, and no name stands twice
pub record IsNames (names : List (List ℕ)) : Type 0 where
  pub filled : All IsFilled names
  pub distinct : IsDistinct bytes_eq names

-- the columns are in range, and none stands twice
pub record IsColumnList (width : ℕ) (cols : List ℕ) : Type 0 where
  pub in_range : All (λ c. c < width) cols
  pub distinct : IsDistinct (λ (a b : ℕ). a == b) cols

-- over the columns of the key, whose cells rise, no row stands above the next one
pub record HasTrueKey (rows : ℕ) (vectors : List Vector) (key : List ℕ) : Type 0 where
  pub rises : IsTrueKey (rising vectors key) rows

-- an index has a column or more, in range and none twice, and the rows in the order of these columns
pub record IsIndex (width rows : ℕ) (vectors : List Vector) (x : IndexSeen) : Type 0 where
  pub cols : IsColumnList width x.cols
  pub some : 0 < length x.cols
  pub order : x.order ≡ ordering (rising vectors x.cols) rows

-- what is so of every table
pub record IsTable (t : TableSeen) : Type 0 where
  pub frame : IsFrame t.frame.columns t.frame.rows
  pub named : length t.names ≡ length t.frame.columns
  pub names : IsNames t.names
  pub cells : t.frame.rows * length t.frame.columns ≤ MAX_CELLS
  pub width : length t.names ≤ t.slots
  pub key : IsColumnList (length t.names) t.key
  pub true_key : HasTrueKey t.frame.rows (vectors_of t.frame.columns) t.key
  pub indices : All (IsIndex (length t.names) t.frame.rows (vectors_of t.frame.columns)) t.indices

-- a new table has no key, no index and no room for one, and 1,024 slots more than columns
abbrev pub made : List (List ℕ) → FrameSeen → ℕ → TableSeen
made names frame spare = record {
  names = names;
  frame = frame;
  key = [];
  indices = [];
  slots = length names +
      SPARE_COLUMNS;
  spare = spare;
  index_room = 0;
}

-- a copy has 1,024 slots more than columns, and all else as it was
pub record IsCopy (t copy : TableSeen) : Type 0 where
  pub names : copy.names ≡ t.names
  pub vectors : vectors_of copy.frame.columns ≡ vectors_of t.frame.columns
  pub rows : copy.frame.rows ≡ t.frame.rows
  pub key : copy.key ≡ t.key
  pub indices : copy.indices ≡ t.indices
  pub slots : copy.slots ≡ length t.names + SPARE_COLUMNS

-- t and u differ in spare numbers alone
pub record HasSame (t u : TableSeen) : Type 0 where
  pub names : u.names ≡ t.names
  pub vectors : vectors_of u.frame.columns ≡ vectors_of t.frame.columns
  pub rows : u.frame.rows ≡ t.frame.rows
  pub key : u.key ≡ t.key
  pub indices : u.indices ≡ t.indices
  pub slots : u.slots ≡ t.slots

-- each column's cells in the order of these rows, and so each row whole; the chosen key, and no index
pub record IsReordered (t : TableSeen) (order chosen : List ℕ) (u : TableSeen) : Type 0 where
  pub names : u.names ≡ t.names
  pub vectors : vectors_of u.frame.columns ≡ map (λ v. gathered v (map Some order)) (vectors_of t.frame.columns)
  pub rows : u.frame.rows ≡ t.frame.rows
  pub key : u.key ≡ chosen
  pub indices : u.indices ≡ []
  pub slots : u.slots ≡ t.slots

-- one of these indices has just these columns, in this order
abbrev pub HasIndex : List ℕ → List IndexSeen → Type 0
HasIndex cols xs = Contains (map (λ x. x.cols) xs) cols

-- the values one after another at their places; what is put later stays
abbrev pub put_in_order : {X : Type 0} → List ℕ → List X → List X → List X
put_in_order (place ∷ places) (value ∷ values) all = put_in_order places values (slice_set all place value)
put_in_order _ _ all = all

-- each of these columns with the name at its place in the second list
abbrev pub renamed : List ℕ → List (List ℕ) → List (List ℕ) → List (List ℕ)
renamed cols names all = put_in_order cols names all
