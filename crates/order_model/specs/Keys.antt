-- Keys and indices by name: when they are true, and what a statement leaves of them.
--   key_of cells key        the columns with these names, as an order that rises
--   cells_named t name      the cells of the column with this name
--   IsKeyTrue t             the key of a table is true of its rows
--   is_among names k        k is one of these names
--   cut names key           the key before the first of these names
--   clear_of names indices  the indices that name none of these
--   assigned names t        the key and the indices after an assignment to these columns
--   renamed old new list    a key or an index after columns have other names
--   taken rows c            a column whose cells are those of these rows, in their order
--   IsInOrder by rows       of these rows none stands above the next one
--   reordered by t          the table with its rows in the order of these columns
--   key_set names t         the table after `setkey`
--   order_set by t          the table after `setorder`
use Rattle.std.specs.Prelude.{◌≡◌, ◌+◌, ◌<◌, ℕ, Bool, not, false, List, [], length, map, Option, None, Some, option_map}
use Rattle.std.specs.Prelude.{unwrap_or, position, slice_index, slice_index_or, take_while}
use Rattle.std.specs.List.{list_any, filter}
use Rattle.std.specs.Ordering.{is_gt}
use Rattle.std.specs.Str.{bytes_eq}
use Rattle.dt_base.specs.declared.cell.Cell.{Cell}
use Rattle.dt_model.specs.Table.{PlainTable, column_of, name_at, place_of}
use Rattle.dt_model.specs.Vector.{cell_at}
use Rattle.order_model.specs.Order.{Sorting, ascending, row_cmp}
use Rattle.order_model.specs.Places.{IsTrueKey, ordering}

-- the columns with these names, where `cells` gives the cells of a name
abbrev pub key_of : (List ℕ → List Cell) → List (List ℕ) → List Sorting
key_of cells = map (λ k. ascending (cells k))

-- the cells of a column that is there
abbrev pub cells_at : PlainTable → Option ℕ → List Cell
cells_at t None = []
cells_at t (Some c) = column_of c t.rows

-- the cells of the column with this name, of which there are none where no column has it
abbrev pub cells_named : PlainTable → List ℕ → List Cell
cells_named t name = cells_at t (place_of name (map (λ head. head.name) t.columns))

-- no row of the table stands above the next one, over the key's columns
abbrev pub IsKeyTrue : PlainTable → Type 0
IsKeyTrue t = IsTrueKey (key_of (cells_named t) t.key) (length t.rows)

-- ---- What an assignment or a deletion leaves

-- one of the names
abbrev pub is_among : List (List ℕ) → List ℕ → Bool
is_among names k = list_any (bytes_eq k) names

-- the key is cut before the first column that is assigned or deleted
abbrev pub cut : List (List ℕ) → List (List ℕ) → List (List ℕ)
cut names = take_while (λ k. not (is_among names k))

-- an index that names such a column is dropped
abbrev pub clear_of : List (List ℕ) → List (List (List ℕ)) → List (List (List ℕ))
clear_of names = filter (λ index. not (list_any (is_among names) index))

-- It looks at names alone, and so at no cell, and does the same where no row was chosen.
abbrev pub assigned : List (List ℕ) → PlainTable → PlainTable
assigned names t = record t { key = cut names t.key; indices = clear_of names t.indices }

-- ---- What new names leave

-- the new name of a column that has one
abbrev pub new_name : List (List ℕ) → List (List ℕ) → List ℕ → List ℕ
new_name old new k = unwrap_or (option_map (name_at new) (position (bytes_eq k) old)) k

-- each name, the new one where it has one
abbrev pub renamed : List (List ℕ) → List (List ℕ) → List (List ℕ) → List (List ℕ)
renamed old new = map (new_name old new)

-- ---- Rows in another order, or fewer of them

-- the column's cells in the order of these rows
abbrev pub taken : List ℕ → Sorting → Sorting
taken rows c = record c { cells = map (cell_at c.cells) rows }

-- of these rows none stands above the next one
abbrev pub IsInOrder : List Sorting → List ℕ → Type 0
IsInOrder by rows =
    (p : ℕ) → p + 1 < length rows → is_gt (row_cmp by (slice_index rows p) (slice_index rows (p + 1))) ≡ false

-- ---- Rows in the order of some columns

-- the table with its rows in the order of these columns
abbrev pub reordered : List Sorting → PlainTable → PlainTable
reordered by t = record t { rows = map (λ r. slice_index_or t.rows r []) (ordering by (length t.rows)) }

-- `setkey`: the rows rise over these columns, which become the key, and all indices go
abbrev pub key_set : List (List ℕ) → PlainTable → PlainTable
key_set names t = record (reordered (key_of (cells_named t) names) t) { key = names; indices = [] }

-- `setorder`: no key and no index is left
abbrev pub order_set : List Sorting → PlainTable → PlainTable
order_set by t = record (reordered by t) { key = []; indices = [] }
