-- The columns of an order.
--   rises c                    the column at a place, whose cells rise, NA first
--   sorting_named names t by   what each of these columns does in an order of the table, where names
--                              are the names of its columns
use Rattle.std.specs.Prelude.{ℕ, false, List, map}
use Rattle.dt_model.specs.Table.{PlainTable, name_at}
use Rattle.order_model.specs.Keys.{cells_named}
use Rattle.order_model.specs.Order.{Sorting}
use Rattle.row_order.specs.declared.ordering.SortCol.{SortCol}

-- neither do its cells fall nor does NA stand last
abbrev pub rises : ℕ → SortCol
rises c = record { col = c; down = false; na_last = false }

-- the cells of the column with its name
abbrev pub sorting_named : List (List ℕ) → PlainTable → List SortCol → List Sorting
sorting_named names t =
    map (λ s. record { cells = cells_named t (name_at names s.col); down = s.down; na_last = s.na_last })
