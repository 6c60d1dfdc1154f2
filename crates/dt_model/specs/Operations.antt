-- Operations on cells and on vectors, with NA.
--   Outcome                what an operation gives on two cells: a cell, or a number that no cell holds
--   OpFault                why an operation on vectors is refused
--   number c               the whole number of a cell: FALSE is 0 and TRUE is 1; none of NA
--   op_type o t u          the type of the result for two types, if they have one
--   op_cell o t u a b      the outcome of an operation on two cells, of columns of types t and u
--   joint n m              the length of the result for two lengths, if they go together
--   cell_for cells p       the cell that stands at place p: cell p, or the only one
--   binary o a b           an operation on two vectors
--   unary o a              an operation on one vector
--   chosen test a b        for each place the cell of a or that of b: `fifelse`
--   contained a b          for each cell of a whether b has it: `%in%`
use Rattle.std.specs.Prelude.{ℕ, ◌/◌, ◌^◌, ℤ, pos, negsuc, neg_ℤ, ◌+ℤ◌, ◌-ℤ◌, ◌*ℤ◌, unsigned_abs, Bool, true, false}
use Rattle.std.specs.Prelude.{not, ◌||◌, ◌==◌, nat_lt, if◌then◌else◌, List, length, map, position, Option, None, Some}
use Rattle.std.specs.Prelude.{Result, Ok, Err}
use Rattle.std.specs.List.{list_any, range_with_len}
use Rattle.std.specs.Cmp.Lexicographic.{slice_cmp}
use Rattle.std.specs.Str.{bytes_eq}
use Rattle.std.specs.Int.{is_negative}
use Rattle.std.specs.declared.cmp.Ordering.{Ordering}
use Rattle.std.specs.Ordering.{nat_cmp, int_cmp, int_eq, is_eq, is_ne, is_lt, is_le, is_gt, is_ge}
use Rattle.dt_base.specs.declared.cell.Cell.{Cell}
use Rattle.dt_base.specs.declared.cell.Cell.TheVariants as is
use Rattle.dt_base.specs.declared.cell.ColType.{ColType}
use Rattle.dt_base.specs.declared.cell.ColType.TheVariants as ty
use Rattle.dt_base.specs.declared.operators.Op.{Op}
use Rattle.dt_base.specs.declared.operators.Op.TheVariants as op
use Rattle.dt_base.specs.declared.operators.UnOp.{UnOp}
use Rattle.dt_base.specs.declared.operators.UnOp.TheVariants as un
use Rattle.dt_model.specs.Coercion.{is_na, common, brought}
use Rattle.dt_model.specs.Vector.{Vector, cell_at}

-- a cell, or a whole number that is outside what a cell holds
pub data Outcome : Type 0 where
  Outside : Outcome
  Gives : Cell → Outcome

-- the types have no result; two lengths do not go together; the number at a place is outside; more
-- than 16,777,216 cells
pub data OpFault : Type 0 where
  BadType : OpFault
  Length : ℕ → ℕ → OpFault
  Overflow : ℕ → OpFault
  TooManyRows : OpFault

-- ---- Types

-- arithmetic takes logicals and integers, and gives integers
abbrev pub arithmetic_type : ColType → ColType → Option ColType
arithmetic_type ty.Lgl ty.Lgl = Some ty.Int
arithmetic_type ty.Lgl ty.Int = Some ty.Int
arithmetic_type ty.Int ty.Lgl = Some ty.Int
arithmetic_type ty.Int ty.Int = Some ty.Int
arithmetic_type _ _ = None

-- `&` and `|` take logicals and give logicals
abbrev pub logic_type : ColType → ColType → Option ColType
logic_type ty.Lgl ty.Lgl = Some ty.Lgl
logic_type _ _ = None

-- comparisons take any two types and give logicals
abbrev pub op_type : Op → ColType → ColType → Option ColType
op_type op.Add t u = arithmetic_type t u
op_type op.Sub t u = arithmetic_type t u
op_type op.Mul t u = arithmetic_type t u
op_type op.Div t u = arithmetic_type t u
op_type op.Mod t u = arithmetic_type t u
op_type op.And t u = logic_type t u
op_type op.Or t u = logic_type t u
op_type op.Eq t u = Some ty.Lgl
op_type op.Ne t u = Some ty.Lgl
op_type op.Lt t u = Some ty.Lgl
op_type op.Le t u = Some ty.Lgl
op_type op.Gt t u = Some ty.Lgl
op_type op.Ge t u = Some ty.Lgl

-- `-` takes logicals and integers and gives integers, `!` takes logicals, `is.na` takes any type
abbrev pub unary_type : UnOp → ColType → Option ColType
unary_type un.Neg t = arithmetic_type t t
unary_type un.Not t = logic_type t t
unary_type un.IsNa _ = Some ty.Lgl

-- ---- Arithmetic: on whole numbers without bounds

-- FALSE is 0 and TRUE is 1
abbrev pub number : Cell → Option ℤ
number (is.Lgl b) = Some (if b then pos 1 else pos 0)
number (is.Int n) = Some n
number (is.Text t) = None
number is.Na = None

-- a whole number as a cell, from -(2^63 - 1) to 2^63 - 1
abbrev pub whole : ℤ → Outcome
whole n = if nat_lt (unsigned_abs n) (2 ^ 63) then Gives (is.Int n) else Outside

-- NA where a side is NA
abbrev pub on_numbers : (ℤ → ℤ → Outcome) → Option ℤ → Option ℤ → Outcome
on_numbers f (Some x) (Some y) = f x y
on_numbers f _ _ = Gives is.Na

-- a whole number by a natural number that is not 0, rounded down: -1 and -2 by 2 are both -1
abbrev pub rounded_down : ℤ → ℕ → ℤ
rounded_down (pos n) m = pos (n / m)
rounded_down (negsuc n) m = negsuc (n / m)

-- the quotient, rounded down
abbrev pub floor_quotient : ℤ → ℤ → ℤ
floor_quotient x y = rounded_down (if is_negative y then neg_ℤ x else x) (unsigned_abs y)

-- what that quotient leaves, which has the divisor's sign
abbrev pub floor_remainder : ℤ → ℤ → ℤ
floor_remainder x y = x -ℤ floor_quotient x y *ℤ y

-- a zero divisor gives NA
abbrev pub divided : (ℤ → ℤ → ℤ) → ℤ → ℤ → Outcome
divided f x y = if int_eq y (pos 0) then Gives is.Na else whole (f x y)

abbrev pub added : Option ℤ → Option ℤ → Outcome
added = on_numbers (λ x y. whole (x +ℤ y))

abbrev pub subtracted : Option ℤ → Option ℤ → Outcome
subtracted = on_numbers (λ x y. whole (x -ℤ y))

abbrev pub multiplied : Option ℤ → Option ℤ → Outcome
multiplied = on_numbers (λ x y. whole (x *ℤ y))

abbrev pub quotient : Option ℤ → Option ℤ → Outcome
quotient = on_numbers (divided floor_quotient)

abbrev pub remainder : Option ℤ → Option ℤ → Outcome
remainder = on_numbers (divided floor_remainder)

-- ---- Comparisons: in the common type

-- the text of a cell that is a text
abbrev pub text_in : Cell → Option (List ℕ)
text_in (is.Text t) = Some t
text_in _ = None

-- the text of a cell that is brought to a text; none of NA
abbrev pub text : Cell → Option (List ℕ)
text c = text_in (brought ty.Chr c)

-- the order of two values, where both are there
abbrev pub order_of : {A : Type 0} → (A → A → Ordering) → Option A → Option A → Option Ordering
order_of compare (Some x) (Some y) = Some (compare x y)
order_of compare _ _ = None

-- The order of two cells in a common type, none where one is NA. Texts are ordered by their bytes,
-- numbers by value.
abbrev pub compared : ColType → Cell → Cell → Option Ordering
compared ty.Lgl a b = order_of int_cmp (number a) (number b)
compared ty.Int a b = order_of int_cmp (number a) (number b)
compared ty.Chr a b = order_of (slice_cmp nat_cmp) (text a) (text b)

-- whether the order passes a test; NA where there is none
abbrev pub tested : (Ordering → Bool) → Option Ordering → Outcome
tested test None = Gives is.Na
tested test (Some o) = Gives (is.Lgl (test o))

-- ---- Logic

-- FALSE where a side is FALSE, TRUE where both are TRUE, else NA
abbrev pub both_true : Cell → Cell → Cell
both_true (is.Lgl false) _ = is.Lgl false
both_true _ (is.Lgl false) = is.Lgl false
both_true (is.Lgl true) (is.Lgl true) = is.Lgl true
both_true _ _ = is.Na

-- TRUE where a side is TRUE, FALSE where both are FALSE, else NA
abbrev pub one_true : Cell → Cell → Cell
one_true (is.Lgl true) _ = is.Lgl true
one_true _ (is.Lgl true) = is.Lgl true
one_true (is.Lgl false) (is.Lgl false) = is.Lgl false
one_true _ _ = is.Na

-- ---- The table of operations on two cells

abbrev pub op_cell : Op → ColType → ColType → Cell → Cell → Outcome
op_cell op.Add _ _ a b = added (number a) (number b)
op_cell op.Sub _ _ a b = subtracted (number a) (number b)
op_cell op.Mul _ _ a b = multiplied (number a) (number b)
op_cell op.Div _ _ a b = quotient (number a) (number b)
op_cell op.Mod _ _ a b = remainder (number a) (number b)
op_cell op.Eq t u a b = tested is_eq (compared (common t u) a b)
op_cell op.Ne t u a b = tested is_ne (compared (common t u) a b)
op_cell op.Lt t u a b = tested is_lt (compared (common t u) a b)
op_cell op.Le t u a b = tested is_le (compared (common t u) a b)
op_cell op.Gt t u a b = tested is_gt (compared (common t u) a b)
op_cell op.Ge t u a b = tested is_ge (compared (common t u) a b)
op_cell op.And _ _ a b = Gives (both_true a b)
op_cell op.Or _ _ a b = Gives (one_true a b)

-- a number with the other sign, and NA of NA
abbrev pub negated : Option ℤ → Cell
negated None = is.Na
negated (Some n) = is.Int (neg_ℤ n)

-- the other truth value, and NA of NA
abbrev pub inverted : Cell → Cell
inverted (is.Lgl b) = is.Lgl (not b)
inverted _ = is.Na

-- the table of operations on one cell
abbrev pub unary_cell : UnOp → Cell → Cell
unary_cell un.Neg c = negated (number c)
unary_cell un.Not c = inverted c
unary_cell un.IsNa c = is.Lgl (is_na c)

-- ---- Vectors: place by place

-- Two equal lengths go together, and so does a length 1 with any other, 0 included: the result has
-- that other length.
abbrev pub joint : ℕ → ℕ → Option ℕ
joint n m = if n == m then Some n else (if n == 1 then Some m else (if m == 1 then Some n else None))

-- a vector of length 1 has its only cell at every place
abbrev pub cell_for : List Cell → ℕ → Cell
cell_for cells p = cell_at cells (if length cells == 1 then 0 else p)

abbrev pub is_outside : Outcome → Bool
is_outside Outside = true
is_outside (Gives _) = false

abbrev pub given : Outcome → Cell
given Outside = is.Na
given (Gives c) = c

-- the cells, unless some place is at fault
abbrev pub unless_at : Option ℕ → List Cell → Result (List Cell) OpFault
unless_at None cells = Ok cells
unless_at (Some p) cells = Err (Overflow p)

-- the cells of these outcomes, or the least place whose outcome is outside
abbrev pub settled : List Outcome → Result (List Cell) OpFault
settled outcomes = unless_at (position is_outside outcomes) (map given outcomes)

-- what stands at each of the first n places
abbrev pub at_places : {A : Type 0} → ℕ → (ℕ → A) → List A
at_places n f = map f (range_with_len 0 n)

-- the outcome where two lists of cells meet at a place
abbrev pub at_place : (Cell → Cell → Outcome) → List Cell → List Cell → ℕ → Outcome
at_place f a b p = f (cell_for a p) (cell_for b p)

-- an operation over all places of two lists of cells
abbrev pub over_places : (Cell → Cell → Outcome) → List Cell → List Cell → Option ℕ → Result (List Cell) OpFault
over_places f a b None = Err (Length (length a) (length b))
over_places f a b (Some n) = settled (at_places n (at_place f a b))

abbrev pub over_cells : (Cell → Cell → Outcome) → List Cell → List Cell → Result (List Cell) OpFault
over_cells f a b = over_places f a b (joint (length a) (length b))

-- the vector of these cells and this type; no type is the first fault
abbrev pub typed : Option ColType → Result (List Cell) OpFault → Result Vector OpFault
typed None _ = Err BadType
typed (Some t) (Err f) = Err f
typed (Some t) (Ok cells) = Ok (record { kind = t; cells = cells })

abbrev pub binary : Op → Vector → Vector → Result Vector OpFault
binary o a b = typed (op_type o a.kind b.kind) (over_cells (op_cell o a.kind b.kind) a.cells b.cells)

abbrev pub unary : UnOp → Vector → Result Vector OpFault
unary o a = typed (unary_type o a.kind) (Ok (map (unary_cell o) a.cells))

-- ---- `fifelse` and `%in%`: in the common type

abbrev pub is_logical : ColType → Bool
is_logical ty.Lgl = true
is_logical _ = false

-- the first where the test is TRUE, the second where it is FALSE, and NA where it is NA
abbrev pub picked_by : Cell → Cell → Cell → Cell
picked_by (is.Lgl true) a b = a
picked_by (is.Lgl false) a b = b
picked_by _ a b = is.Na

-- a length that goes with a test's: 1, or the same
abbrev pub goes_with : ℕ → ℕ → Bool
goes_with n m = m == 1 || m == n

-- The test is logical, else BadType; then the first, then the second vector has length 1 or the
-- test's, else Length with the test's length and the other. The result has the test's length.
abbrev pub chosen : Vector → Vector → Vector → Result Vector OpFault
chosen test a b =
    let n = length test.cells in
    let t = common a.kind b.kind in
    if not (is_logical test.kind) then Err BadType
    else (if not (goes_with n (length a.cells)) then Err (Length n (length a.cells))
    else (if not (goes_with n (length b.cells)) then Err (Length n (length b.cells))
    else Ok (record {
      kind = t;
      cells = at_places n (λ p. picked_by (cell_at test.cells p) (brought t (cell_for a.cells p))
          (brought t (cell_for b.cells p)));
    })))

abbrev pub same_truth : Bool → Bool → Bool
same_truth true y = y
same_truth false y = not y

-- two cells of one type are the same; NA is the same as NA
abbrev pub same_cell : Cell → Cell → Bool
same_cell is.Na is.Na = true
same_cell (is.Lgl x) (is.Lgl y) = same_truth x y
same_cell (is.Int x) (is.Int y) = int_eq x y
same_cell (is.Text x) (is.Text y) = bytes_eq x y
same_cell _ _ = false

-- for each cell of the first, whether the second has the same one, both in the common type
abbrev pub contained : Vector → Vector → Vector
contained a b =
    let t = common a.kind b.kind in
    record {
      kind = ty.Lgl;
      cells = map (λ c. is.Lgl (list_any (same_cell (brought t c)) (map (brought t) b.cells))) a.cells;
    }
