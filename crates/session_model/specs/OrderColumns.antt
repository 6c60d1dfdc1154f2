-- The columns by which rows are put in order, as a call writes them.
--   OrderColumn           a column, and whether its cells fall
--   column_asked ..       the column that a form asks, or the fault of its form, or of its name
--   order_columns ..      the columns that these forms ask
--   distinct_columns ..   the same, where no column may stand twice
--   sorting_by t na_last c   the column of a table, as an order has it
-- Each argument is looked at in its turn: its form first, then whether the table has that column, then
-- whether it stood before.
use Rattle.std.specs.Prelude.{ℕ, Bool, true, false, is_none, if◌then◌else◌, List, [], ◌∷◌, ◌++◌, Option, None, Some}
use Rattle.std.specs.Prelude.{Result, Ok, Err}
use Rattle.std.specs.List.{list_any}
use Rattle.std.specs.Str.{bytes_eq}
use Rattle.dt_base.specs.declared.fault.Fault.{Fault}
use Rattle.dt_base.specs.declared.fault.Code.TheVariants.{E03, E12}
use Rattle.dt_base.specs.Fault.{fault}
use Rattle.dt_model.specs.Table.{PlainTable, place_of}
use Rattle.order_model.specs.Keys.{cells_named}
use Rattle.order_model.specs.Order.{Sorting}
use Rattle.vector_model.specs.Then.{then_do}
use Rattle.session_model.specs.Asked.{wanted}
use Rattle.session_model.specs.Expression.{each}
use Rattle.session_model.specs.Form.{Form, BareName, MinusName}

-- a column, and whether its cells fall
pub record OrderColumn : Type 0 where
  pub name : List ℕ
  pub down : Bool

-- A column's name stands bare; `-` before it lets its cells fall, where the call allows that.
abbrev pub column_written : Bool → Form → Option OrderColumn
column_written falls (BareName name) = Some (record { name = name; down = false })
column_written true (MinusName name) = Some (record { name = name; down = true })
column_written _ _ = None

-- the table has the column
abbrev pub known_column : List (List ℕ) → OrderColumn → Result OrderColumn Fault
known_column names c = if is_none (place_of c.name names) then Err (fault E03 c.name) else Ok c

abbrev pub column_asked : List ℕ → Bool → List (List ℕ) → Form → Result OrderColumn Fault
column_asked word falls names form = then_do (wanted word (column_written falls form)) (known_column names)

abbrev pub order_columns : List ℕ → Bool → List (List ℕ) → List Form → Result (List OrderColumn) Fault
order_columns word falls names forms = each (column_asked word falls names) forms

-- the column did not stand before
abbrev pub new_column : List (List ℕ) → OrderColumn → Result OrderColumn Fault
new_column before c = if list_any (bytes_eq c.name) before then Err (fault E12 c.name) else Ok c

abbrev pub columns_after : List ℕ → Bool → List (List ℕ) → List (List ℕ) → List Form → Result (List OrderColumn) Fault
columns_after word falls names before [] = Ok []
columns_after word falls names before (form ∷ rest) =
    then_do (then_do (column_asked word falls names form) (new_column before)) (λ c.
    then_do (columns_after word falls names (before ++ c.name ∷ []) rest) (λ cs. Ok (c ∷ cs)))

abbrev pub distinct_columns : List ℕ → Bool → List (List ℕ) → List Form → Result (List OrderColumn) Fault
distinct_columns word falls names forms = columns_after word falls names [] forms

-- the column of a table, as an order has it
abbrev pub sorting_by : PlainTable → Bool → OrderColumn → Sorting
sorting_by t na_last c = record { cells = cells_named t c.name; down = c.down; na_last = na_last }
