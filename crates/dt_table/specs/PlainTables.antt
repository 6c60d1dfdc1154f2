-- What is so of the plain reading of every table.
--   IsRow columns row       the row has a cell for each column, each NA or of that column's type
--   names_in t              the names of the columns
--   AreColumns names list   the names of a list are columns', and none stands twice
--   IsPlainTable t          so is each row; names are distinct and not empty; all is within the limits;
--                           the key is true
use Rattle.std.specs.Prelude.{◌≡◌, ◌*◌, ◌≤◌, ℕ, List, [], ◌∷◌, length, map, All, Contains}
use Rattle.std.specs.List.{IsDistinct}
use Rattle.std.specs.Str.{bytes_eq}
use Rattle.dt_base.specs.declared.cell.Cell.{Cell}
use Rattle.dt_base.specs.declared.limits.TheConstants.{MAX_CELLS, MAX_ROWS}
use Rattle.dt_base.specs.Cell.{IsOfType}
use Rattle.dt_model.specs.Table.{ColumnHead, PlainTable}
use Rattle.dt_table.specs.Table.{IsNames}
use Rattle.order_model.specs.Keys.{IsKeyTrue}

-- a cell for each column, in their order, each NA or of that column's type
abbrev pub IsRow : List ColumnHead → List Cell → Type 0
IsRow [] [] = Unit {0}
IsRow (head ∷ heads) (cell ∷ row) = IsOfType head.kind cell × IsRow heads row
IsRow _ _ = ⊥

-- the names of the columns, in their order
abbrev pub names_in : PlainTable → List (List ℕ)
names_in t = map (λ head. head.name) t.columns

-- a key, or an index: names of columns, none twice
pub record AreColumns (names list : List (List ℕ)) : Type 0 where
  pub known : All (Contains names) list
  pub distinct : IsDistinct bytes_eq list

-- Each row is one of these columns. Names are distinct, and none is empty. There are no rows without
-- columns, no more rows and cells than the limits, and no more columns than slots. The key and each
-- index are lists of columns, and the key is true.
pub record IsPlainTable (t : PlainTable) : Type 0 where
  pub rows : All (IsRow t.columns) t.rows
  pub names : IsNames (names_in t)
  pub none : length t.columns ≡ 0 → length t.rows ≡ 0
  pub short : length t.rows ≤ MAX_ROWS
  pub cells : length t.rows * length t.columns ≤ MAX_CELLS
  pub width : length t.columns ≤ t.slots
  pub key : AreColumns (names_in t) t.key
  pub true_key : IsKeyTrue t
  pub indices : All (AreColumns (names_in t)) t.indices
