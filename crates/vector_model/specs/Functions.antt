-- The functions of a script that give one answer from a vector's cells.
--   Valued              a vector, and the warnings that it comes with
--   f_type t            the type of what f gives for a vector of type t, or the fault of that type
--   f_value x           what f gives for the vector x, or its first fault
-- for f one of `sum`, `min`, `max`, `any`, `all`, `first`, `last` and `length`. Before x the values of
-- `sum`, `min` and `max` take the flag na.rm.
--   meets_na na_rm cells   NA is among the cells, and is not left out
--   total cells            the sum of the cells as whole numbers without bounds
--   is_before t a b        a stands before b in the order of cells of type t, NA apart
--   winner beats cells     the first cell that no cell beats, NA apart
-- The other functions on vectors stand in dt_model:
--   `c(a, ..)`             Combine, `in_a_row`, and Combine of this crate, `joined`
--   `is.na(x)`             Operations, `unary` with IsNa
--   `fifelse(test, a, b)`  Operations, `chosen`
--   `as.logical(x)`, `as.integer(x)`, `as.character(x)`   Coercion, `coerced` and `coercion_warns`
use Rattle.std.specs.Prelude.{◌-◌, ℤ, pos, ◌+ℤ◌, Bool, true, false, not, ◌&&◌, if◌then◌else◌, List, [], ◌∷◌, length}
use Rattle.std.specs.Prelude.{take, drop, Option, None, Some, Result, Ok, Err, codes}
use Rattle.std.specs.List.{list_any, find}
use Rattle.std.specs.Ordering.{is_lt}
use Rattle.std.specs.declared.cmp.Ordering.{Ordering}
use Rattle.dt_base.specs.Fault.{fault}
use Rattle.dt_base.specs.Warns.{no_warns, with_warn}
use Rattle.dt_base.specs.declared.cell.Cell.{Cell}
use Rattle.dt_base.specs.declared.cell.Cell.TheVariants as is
use Rattle.dt_base.specs.declared.cell.ColType.{ColType}
use Rattle.dt_base.specs.declared.cell.ColType.TheVariants as ty
use Rattle.dt_base.specs.declared.fault.Code.TheVariants.{E04, E06}
use Rattle.dt_base.specs.declared.fault.Fault.{Fault}
use Rattle.dt_base.specs.declared.warns.Warn.TheVariants.{W03}
use Rattle.dt_base.specs.declared.warns.Warns.{Warns}
use Rattle.dt_model.specs.Coercion.{is_na, brought}
use Rattle.dt_model.specs.Operations.{Outcome, Outside, Gives, number, whole, compared}
use Rattle.dt_model.specs.Vector.{Vector}

-- a vector, and the warnings that it comes with
pub record Valued : Type 0 where
  pub vector : Vector
  pub warns : Warns

-- these cells, with these warnings
abbrev pub warned : Warns → ColType → List Cell → Result Valued Fault
warned warns t cells = Ok (record { vector = record { kind = t; cells = cells }; warns = warns })

-- these cells, without a warning
abbrev pub plain : ColType → List Cell → Result Valued Fault
plain t cells = warned no_warns t cells

-- a fault of the type comes before all else
abbrev pub of_type : Result ColType Fault → (ColType → Result Valued Fault) → Result Valued Fault
of_type (Err f) k = Err f
of_type (Ok t) k = k t

-- NA is among the cells, and na.rm is FALSE, so that it is not left out
abbrev pub meets_na : Bool → List Cell → Bool
meets_na na_rm cells = not na_rm && list_any is_na cells

-- ---- `sum(x, na.rm = FALSE)`

-- logicals and integers have a sum, which is an integer
abbrev pub sum_type : ColType → Result ColType Fault
sum_type ty.Lgl = Ok ty.Int
sum_type ty.Int = Ok ty.Int
sum_type ty.Chr = Err (fault E04 (codes "sum"))

-- what a cell adds to a total: FALSE 0, TRUE 1, an integer itself, and NA nothing
abbrev pub amount : Option ℤ → ℤ
amount None = pos 0
amount (Some n) = n

-- the exact total, which has no bounds; that of nothing is 0
abbrev pub total : List Cell → ℤ
total [] = pos 0
total (c ∷ rest) = amount (number c) +ℤ total rest

-- a total that no cell holds is refused
abbrev pub total_value : Outcome → Result Valued Fault
total_value Outside = Err (fault E06 (codes "sum"))
total_value (Gives c) = plain ty.Int (c ∷ [])

-- NA where NA is met, else the total
abbrev pub sum_cells : Bool → List Cell → Result Valued Fault
sum_cells na_rm cells =
    if meets_na na_rm cells then plain ty.Int (is.Na ∷ []) else total_value (whole (total cells))

abbrev pub sum_value : Bool → Vector → Result Valued Fault
sum_value na_rm x = of_type (sum_type x.kind) (λ t. sum_cells na_rm x.cells)

-- ---- `min(x, na.rm = FALSE)` and `max(x, na.rm = FALSE)`

-- logicals count as integers, and every other type stays
abbrev pub extreme_type : ColType → ColType
extreme_type ty.Lgl = ty.Int
extreme_type ty.Int = ty.Int
extreme_type ty.Chr = ty.Chr

abbrev pub min_type : ColType → Result ColType Fault
min_type t = Ok (extreme_type t)

abbrev pub max_type : ColType → Result ColType Fault
max_type t = Ok (extreme_type t)

abbrev pub is_less : Option Ordering → Bool
is_less None = false
is_less (Some o) = is_lt o

-- a stands before b: FALSE before TRUE, integers by value, texts by bytes. NA stands neither before
-- nor behind another cell.
abbrev pub is_before : ColType → Cell → Cell → Bool
is_before t a b = is_less (compared t a b)

-- the cell is not NA, and none of these beats it
abbrev pub is_unbeaten : (Cell → Cell → Bool) → List Cell → Cell → Bool
is_unbeaten beats cells c = not (is_na c) && not (list_any (λ d. beats d c) cells)

-- the first such cell, if there is one
abbrev pub winner : (Cell → Cell → Bool) → List Cell → Option Cell
winner beats cells = find (is_unbeaten beats cells) cells

-- the cell that was found, brought to the type; of nothing NA, and a warning
abbrev pub found_value : ColType → Option Cell → Result Valued Fault
found_value t (Some c) = plain t (brought t c ∷ [])
found_value t None = warned (with_warn no_warns W03) t (is.Na ∷ [])

-- NA where NA is met, else the winner
abbrev pub extreme_cells : (Cell → Cell → Bool) → ColType → Bool → List Cell → Result Valued Fault
extreme_cells beats t na_rm cells =
    if meets_na na_rm cells then plain t (is.Na ∷ []) else found_value t (winner beats cells)

-- the least cell: no cell stands before it
abbrev pub min_value : Bool → Vector → Result Valued Fault
min_value na_rm x = of_type (min_type x.kind) (λ t. extreme_cells (λ a b. is_before t a b) t na_rm x.cells)

-- the greatest cell: it stands before no cell
abbrev pub max_value : Bool → Vector → Result Valued Fault
max_value na_rm x = of_type (max_type x.kind) (λ t. extreme_cells (λ a b. is_before t b a) t na_rm x.cells)

-- ---- `any(x)` and `all(x)`

abbrev pub any_type : ColType → Result ColType Fault
any_type ty.Lgl = Ok ty.Lgl
any_type _ = Err (fault E04 (codes "any"))

abbrev pub all_type : ColType → Result ColType Fault
all_type ty.Lgl = Ok ty.Lgl
all_type _ = Err (fault E04 (codes "all"))

-- the cell is TRUE
abbrev pub is_true : Cell → Bool
is_true (is.Lgl b) = b
is_true _ = false

-- the cell is FALSE
abbrev pub is_false : Cell → Bool
is_false (is.Lgl b) = not b
is_false _ = false

-- TRUE where one stands, else NA where NA stands, else FALSE
abbrev pub any_cell : List Cell → Cell
any_cell cells =
    if list_any is_true cells then is.Lgl true
    else (if list_any is_na cells then is.Na else is.Lgl false)

-- FALSE where one stands, else NA where NA stands, else TRUE
abbrev pub all_cell : List Cell → Cell
all_cell cells =
    if list_any is_false cells then is.Lgl false
    else (if list_any is_na cells then is.Na else is.Lgl true)

abbrev pub any_value : Vector → Result Valued Fault
any_value x = of_type (any_type x.kind) (λ t. plain t (any_cell x.cells ∷ []))

abbrev pub all_value : Vector → Result Valued Fault
all_value x = of_type (all_type x.kind) (λ t. plain t (all_cell x.cells ∷ []))

-- ---- `first(x)`, `last(x)` and `length(x)`

-- any type has a first and a last cell, of the same type
abbrev pub first_type : ColType → Result ColType Fault
first_type t = Ok t

abbrev pub last_type : ColType → Result ColType Fault
last_type t = Ok t

abbrev pub length_type : ColType → Result ColType Fault
length_type t = Ok ty.Int

-- the first cell; of nothing nothing
abbrev pub first_value : Vector → Result Valued Fault
first_value x = of_type (first_type x.kind) (λ t. plain t (take 1 x.cells))

-- the last cell, which stands behind all but one; of nothing nothing
abbrev pub last_value : Vector → Result Valued Fault
last_value x = of_type (last_type x.kind) (λ t. plain t (drop (length x.cells - 1) x.cells))

-- how many cells there are, NA among them
abbrev pub length_value : Vector → Result Valued Fault
length_value x = of_type (length_type x.kind) (λ t. plain t (is.Int (pos (length x.cells)) ∷ []))
