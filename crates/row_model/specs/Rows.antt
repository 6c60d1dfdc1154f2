-- The rows that an i chooses of a table of n rows. Each is the place of a row, counted from 0, or none
-- for a row of NA.
--   all_rows n          all rows, in order
--   true_rows cells     the rows whose cell is TRUE, in order
--   by_truth n cells    what a logical i chooses, or the fault of its length
--   named_rows n cells  what an integer i without a negative cell chooses
--   left_rows n cells   what an integer i with a negative cell chooses
--   by_place n cells    what an integer i chooses, or the fault of mixed signs
--   chosen n v          what an i chooses whose value is v, or its fault
use Rattle.std.specs.Prelude.{ℕ, zero, suc, ◌==◌, pos, negsuc, Bool, true, false, not, nat_lt, if◌then◌else◌, List, []}
use Rattle.std.specs.Prelude.{◌∷◌, ◌++◌, length, map, Option, None, Some, Result, Ok, Err}
use Rattle.std.specs.List.{filter, list_any, list_all, range_with_len}
use Rattle.dt_base.specs.declared.cell.Cell.{Cell}
use Rattle.dt_base.specs.declared.cell.Cell.TheVariants as is
use Rattle.dt_base.specs.declared.cell.ColType.{ColType}
use Rattle.dt_base.specs.declared.cell.ColType.TheVariants as ty
use Rattle.dt_base.specs.declared.fault.Fault.{Fault}
use Rattle.dt_base.specs.declared.fault.Code.TheVariants.{E13}
use Rattle.dt_base.specs.Fault.{fault}
use Rattle.dt_model.specs.Vector.{Vector, cell_at}
use Rattle.vector_model.specs.Faults.{length_fault, unbuilt}

-- places of rows; none stands for a row of NA
abbrev pub Places : Type 0
Places = List (Option ℕ)

-- all rows, in order
abbrev pub all_rows : ℕ → Places
all_rows n = map Some (range_with_len 0 n)

-- the rows that pass the test, in order
abbrev pub rows_where : (ℕ → Bool) → ℕ → Places
rows_where test n = map Some (filter test (range_with_len 0 n))

-- ---- A logical i

abbrev pub is_true : Cell → Bool
is_true (is.Lgl true) = true
is_true _ = false

-- the rows whose cell is TRUE; NA is not TRUE
abbrev pub true_rows : List Cell → Places
true_rows cells = rows_where (λ p. is_true (cell_at cells p)) (length cells)

-- all rows or none
abbrev pub all_or_none : ℕ → Cell → Places
all_or_none n c = if is_true c then all_rows n else []

-- a cell for each row, or one cell for all
abbrev pub by_truth : ℕ → List Cell → Result Places Fault
by_truth n cells =
    if length cells == n then Ok (true_rows cells)
    else (if length cells == 1 then Ok (all_or_none n (cell_at cells 0)) else Err (length_fault (length cells) n))

-- ---- An integer i: rows are counted from 1

-- 0 names no row; NA, and a place past the end, name a row of NA
abbrev pub named_row : ℕ → Cell → Places
named_row n (is.Int (pos zero)) = []
named_row n (is.Int (pos (suc p))) = (if nat_lt p n then Some p else None) ∷ []
named_row n (is.Int (negsuc k)) = None ∷ []
named_row n (is.Lgl b) = None ∷ []
named_row n (is.Text t) = None ∷ []
named_row n is.Na = None ∷ []

-- the rows that the cells name, in their order
abbrev pub named_rows : ℕ → List Cell → Places
named_rows n [] = []
named_rows n (c ∷ rest) = named_row n c ++ named_rows n rest

abbrev pub is_below_zero : Cell → Bool
is_below_zero (is.Int (negsuc k)) = true
is_below_zero _ = false

abbrev pub is_zero : Cell → Bool
is_zero (is.Int (pos zero)) = true
is_zero _ = false

-- the cell leaves out row p: -1 the first, -2 the second
abbrev pub leaves_out : ℕ → Cell → Bool
leaves_out p (is.Int (negsuc k)) = k == p
leaves_out p _ = false

-- all rows in order but those that a cell leaves out
abbrev pub left_rows : ℕ → List Cell → Places
left_rows n cells = rows_where (λ p. not (list_any (leaves_out p) cells)) n

-- where one cell is negative, all are negative or 0
abbrev pub is_below_or_zero : Cell → Bool
is_below_or_zero c = if is_below_zero c then true else is_zero c

abbrev pub by_place : ℕ → List Cell → Result Places Fault
by_place n cells =
    if not (list_any is_below_zero cells) then Ok (named_rows n cells)
    else (if list_all is_below_or_zero cells then Ok (left_rows n cells) else Err (fault E13 []))

-- ---- By type: a text i is a join, which is not served yet

abbrev pub chosen_by : ColType → ℕ → List Cell → Result Places Fault
chosen_by ty.Lgl n cells = by_truth n cells
chosen_by ty.Int n cells = by_place n cells
chosen_by ty.Chr n cells = Err unbuilt

abbrev pub chosen : ℕ → Vector → Result Places Fault
chosen n v = chosen_by v.kind n v.cells
