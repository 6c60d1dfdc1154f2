-- What contracts see of changes of a table, which all its names see.
--   SamePlace o p, SamePlaces   places with tables that are the same but for spare numbers
--   HoldsSame old new     two heaps are the same but for spare numbers
--   StaysLive old new     each Id that was live is live
--   SameHeaps             what follows of heaps that are the same but for spare numbers
--   RenamesAt h id cols names    these columns of the table may get these names
--   KeyedAt h id key      these columns may be recorded as the table's key
--   ChangesAt h id f new  new is the state of h where the Id's table has become what f says, plainly
use Rattle.std.specs.Prelude.{◌≡◌, ℕ, List, [], ◌∷◌, length, Option, None, Some}
use Rattle.dt_model.specs.State.{State, with_table}
use Rattle.dt_model.specs.Table.{PlainTable}
use Rattle.dt_table.specs.Plain.{plain}
use Rattle.dt_table.specs.Table.{HasSame, HasTrueKey, IsColumnList, IsNames, TableSeen, renamed}
use Rattle.na_vector.specs.Frame.{vectors_of}
use Rattle.table_heap.specs.declared.bound.Id.{Id}
use Rattle.table_heap.specs.declared.bound.Numbered.{Numbered}
use Rattle.table_heap.specs.Heap.{IsHeap}
use Rattle.table_heap.specs.Seen.{HeapSeen, IsAt, IsTableAt, Slots}
use Rattle.table_heap.specs.State.{state_of}

-- ---- Heaps that are the same but for spare numbers

-- one number, and tables that differ in spare numbers alone
pub record SameNumbered (x y : Numbered) : Type 0 where
  pub number : y.number ≡ x.number
  pub table : HasSame x.table y.table

-- both places are empty, or have such tables
abbrev pub SamePlace : Option Numbered → Option Numbered → Type 0
SamePlace None None = Unit {0}
SamePlace (Some x) (Some y) = SameNumbered x y
SamePlace _ _ = ⊥

-- as many places, and each the same
abbrev pub SamePlaces : Slots → Slots → Type 0
SamePlaces [] [] = Unit {0}
SamePlaces (o ∷ os) (p ∷ ps) = SamePlace o p × SamePlaces os ps
SamePlaces _ _ = ⊥

-- one and the same names, places and next number; of each table names, vectors, rows, key, indices with
-- their order, and slots
pub record HoldsSame (old new : HeapSeen) : Type 0 where
  pub bounds : new.held.bounds ≡ old.held.bounds
  pub places : SamePlaces old.held.slots new.held.slots
  pub next : new.held.next ≡ old.held.next

-- each Id that was live is live
abbrev pub StaysLive : HeapSeen → HeapSeen → Type 0
StaysLive old new = (x : Id) → IsAt old x → IsAt new x

-- ---- A key of the Id's table

-- the columns are in range and none twice, and no row stands above the next one over them
pub record KeyedAt (h : HeapSeen) (id : Id) (chosen : List ℕ) : Type 0 where
  pub table : TableSeen
  pub place : IsTableAt h id table
  pub cols : IsColumnList (length table.names) chosen
  pub true_key : HasTrueKey table.frame.rows (vectors_of table.frame.columns) chosen

-- ---- What follows

-- It holds of a heap and itself, and goes on from heap to heap. Such heaps stand for one state, one Id is
-- live in both, and where one is a heap the other is.
pub record SameHeaps : Type 0 where
  pub itself : (h : HeapSeen) → HoldsSame h h
  pub more : (a b c : HeapSeen) → HoldsSame a b → HoldsSame b c → HoldsSame a c
  pub state : (a b : HeapSeen) → HoldsSame a b → state_of b ≡ state_of a
  pub live : (a b : HeapSeen) → HoldsSame a b → StaysLive a b
  pub heap : (a b : HeapSeen) → HoldsSame a b → IsHeap a.held → IsHeap b.held

-- ---- A change of the Id's table

-- the columns are in range and none twice, each has its new name, and all names are distinct then and
-- not empty
pub record RenamesAt (h : HeapSeen) (id : Id) (chosen : List ℕ) (given : List (List ℕ)) : Type 0 where
  pub table : TableSeen
  pub place : IsTableAt h id table
  pub cols : IsColumnList (length table.names) chosen
  pub each : length chosen ≡ length given
  pub names : IsNames (renamed chosen given table.names)

-- the state with what f says of the Id's table in its place
abbrev pub ChangesAt : HeapSeen → Id → (TableSeen → PlainTable) → State → Type 0
ChangesAt h id f new = (t : TableSeen) → IsTableAt h id t → new ≡ with_table (state_of h) id.number (f t)

-- its plain reading with these names
abbrev pub plain_renamed : List ℕ → List (List ℕ) → TableSeen → PlainTable
plain_renamed cols names t = plain (record t { names = renamed cols names t.names })

-- its plain reading with another key, and without indices
abbrev pub plain_rekeyed : List ℕ → TableSeen → PlainTable
plain_rekeyed key t = plain (record t { key = key; indices = [] })
