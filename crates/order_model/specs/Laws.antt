-- What follows from the definitions of orders and keys.
use Rattle.std.specs.Prelude.{◌≡◌, ◌<◌, ◌≤◌, ◌↔◌, ℕ, false, List, length, map, All}
use Rattle.std.specs.List.{list_any}
use Rattle.std.specs.List.Sorted.{IsStrictlyIncreasing}
use Rattle.dt_base.specs.declared.cell.Cell.{Cell}
use Rattle.dt_model.specs.Table.{PlainTable}
use Rattle.order_model.specs.Order.{Sorting}
use Rattle.order_model.specs.Places.{ordering, IsTrueKey, IsTrueIndex}
use Rattle.order_model.specs.Keys.{key_of, cells_named, IsKeyTrue, is_among, cut, assigned, new_name, renamed, taken}
use Rattle.order_model.specs.Keys.{IsInOrder, key_set}

-- a true index is the order, and the order is a true index
abbrev pub OneOrder : Type 0
OneOrder = (by : List Sorting) (n : ℕ) (rows : List ℕ) → IsTrueIndex by n rows ↔ (rows ≡ ordering by n)

-- a table whose rows are put in order has a true key
abbrev pub OrderMakesTrue : Type 0
OrderMakesTrue = (by : List Sorting) (n : ℕ) → IsTrueKey (map (taken (ordering by n)) by) n

-- and so has one whose rows are put in any order that the key has
abbrev pub InOrderMakesTrue : Type 0
InOrderMakesTrue =
    (by : List Sorting) (rows : List ℕ) → IsInOrder by rows → IsTrueKey (map (taken rows) by) (length rows)

-- rows that are left out leave a true key true, where the others keep their order
abbrev pub FewerStayTrue : Type 0
FewerStayTrue =
    (by : List Sorting) (n : ℕ) (rows : List ℕ)
    → IsTrueKey by n → IsStrictlyIncreasing rows → All (λ r. r < n) rows
    → IsTrueKey (map (taken rows) by) (length rows)

-- cells that are the same but in these columns
abbrev pub SameApartFrom : List (List ℕ) → (List ℕ → List Cell) → (List ℕ → List Cell) → Type 0
SameApartFrom names cells later = (k : List ℕ) → is_among names k ≡ false → later k ≡ cells k

-- whatever is assigned to some columns, the key that is cut before them is true
abbrev pub CutStaysTrue : Type 0
CutStaysTrue =
    (names : List (List ℕ)) (cells later : List ℕ → List Cell) (key : List (List ℕ)) (n : ℕ)
    → SameApartFrom names cells later → IsTrueKey (key_of cells key) n
    → IsTrueKey (key_of later (cut names key)) n

-- and an index that names none of them has the same order
abbrev pub ClearStaysTrue : Type 0
ClearStaysTrue =
    (names : List (List ℕ)) (cells later : List ℕ → List Cell) (index : List (List ℕ)) (n : ℕ)
    → SameApartFrom names cells later → list_any (is_among names) index ≡ false
    → ordering (key_of later index) n ≡ ordering (key_of cells index) n

-- A table whose key is true has a true key after an assignment or a deletion: u is what has become of its
-- columns and rows, before the key is looked at. Without its last column a table has no rows.
abbrev pub AssignedStaysTrue : Type 0
AssignedStaysTrue =
    (names : List (List ℕ)) (t u : PlainTable)
    → SameApartFrom names (cells_named t) (cells_named u) → length u.rows ≤ length t.rows → u.key ≡ t.key
    → IsKeyTrue t → IsKeyTrue (assigned names u)

-- columns with other names, where the key's have the cells that they had
abbrev pub RenamedStaysTrue : Type 0
RenamedStaysTrue =
    (old new : List (List ℕ)) (cells later : List ℕ → List Cell) (key : List (List ℕ)) (n : ℕ)
    → All (λ k. later (new_name old new k) ≡ cells k) key → IsTrueKey (key_of cells key) n
    → IsTrueKey (key_of later (renamed old new key)) n

-- whatever the key and the rows were, a key that is set is true
abbrev pub SetKeyIsTrue : Type 0
SetKeyIsTrue = (names : List (List ℕ)) (t : PlainTable) → IsKeyTrue (key_set names t)
