-- An index, and a change, that a table gets one after the other.
--   indexed t x          the table t with the index x behind its others, if there is one
--   added t x            the same, with room for one index less
--   table_altered t x ch the plain table once the index is added, and then the change is made, if there is one
--   FitsAltered t x ch   the index may be added to t, and the change may be made of it
--   RoomForAltered t x ch   the table's spare numbers suffice for both
--   FitsAt h id x ch, RoomAt h id x ch   the same of the table of an Id
use Rattle.std.specs.Prelude.{◌≤◌, ◌-◌, ℕ, [], ◌∷◌, ◌++◌, length, Option, None, Some}
use Rattle.dt_model.specs.Table.{PlainTable}
use Rattle.dt_table.specs.Change.{ChangeSeen, FitsTable, RoomFor, written_cells}
use Rattle.dt_table.specs.Plain.{plain, plain_changed}
use Rattle.dt_table.specs.Table.{HasIndex, IndexSeen, IsIndex, TableSeen}
use Rattle.na_vector.specs.Frame.{vectors_of}
use Rattle.table_heap.specs.declared.bound.Id.{Id}
use Rattle.table_heap.specs.Seen.{HeapSeen, IsTableAt}

-- ---- What the table becomes

abbrev pub indexed : TableSeen → Option IndexSeen → TableSeen
indexed t None = t
indexed t (Some x) = record t { indices = t.indices ++ x ∷ [] }

abbrev pub table_with : TableSeen → Option ChangeSeen → PlainTable
table_with t None = plain t
table_with t (Some ch) = plain_changed t ch

-- the index is added first
abbrev pub table_altered : TableSeen → Option IndexSeen → Option ChangeSeen → PlainTable
table_altered t x ch = table_with (indexed t x) ch

-- with room for one index less
abbrev pub added : TableSeen → Option IndexSeen → TableSeen
added t None = t
added t (Some x) = record t { indices = t.indices ++ x ∷ []; index_room = t.index_room - 1 }

-- ---- That it can

-- the index has columns of the table, and its rows in their order; no other has just these columns
pub record FitsNewIndex (t : TableSeen) (x : IndexSeen) : Type 0 where
  pub index : IsIndex (length t.names) t.frame.rows (vectors_of t.frame.columns) x
  pub once : HasIndex x.cols t.indices → ⊥

abbrev pub FitsIndex : TableSeen → Option IndexSeen → Type 0
FitsIndex t None = Unit {0}
FitsIndex t (Some x) = FitsNewIndex t x

abbrev pub FitsParts : TableSeen → Option ChangeSeen → Type 0
FitsParts t None = Unit {0}
FitsParts t (Some ch) = FitsTable t ch

pub record FitsAltered (t : TableSeen) (x : Option IndexSeen) (ch : Option ChangeSeen) : Type 0 where
  pub index : FitsIndex t x
  pub parts : FitsParts t ch

-- ---- Memory and touches

abbrev pub HasIndexRoom : TableSeen → Option IndexSeen → Type 0
HasIndexRoom t None = Unit {0}
HasIndexRoom t (Some x) = 1 ≤ t.index_room

abbrev pub HasPartsRoom : TableSeen → Option ChangeSeen → Type 0
HasPartsRoom t None = Unit {0}
HasPartsRoom t (Some ch) = RoomFor t ch

pub record RoomForAltered (t : TableSeen) (x : Option IndexSeen) (ch : Option ChangeSeen) : Type 0 where
  pub index : HasIndexRoom t x
  pub parts : HasPartsRoom t ch

-- how many cells are written
abbrev pub cells_altered : Option ChangeSeen → ℕ
cells_altered None = 0
cells_altered (Some ch) = written_cells ch.parts

-- ---- The table of an Id

pub record FitsAt (h : HeapSeen) (id : Id) (x : Option IndexSeen) (ch : Option ChangeSeen) : Type 0 where
  pub table : TableSeen
  pub place : IsTableAt h id table
  pub fits : FitsAltered table x ch

pub record RoomAt (h : HeapSeen) (id : Id) (x : Option IndexSeen) (ch : Option ChangeSeen) : Type 0 where
  pub table : TableSeen
  pub place : IsTableAt h id table
  pub room : RoomForAltered table x ch
