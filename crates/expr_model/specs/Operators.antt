-- Operators on types and on vectors, each with its first fault.
--   op_word o            an operator as it is written
--   op_fault w f         the fault of an operation that is refused, told with the word w
--   op_result w r        its result, or that fault
--   typed_as w t         the type of the result, or the fault that the types have none
--   tail_type o a b      the type that a two-sided operator gives for two types, or its fault
--   tail_value o a b     the vector that it gives for two vectors, or its first fault
--   range a b            `a:b`: each whole number from the one to the other
--   unary_word o, sign_type o t, sign_value o a     the same for `-` and `!` before a value
use Rattle.std.specs.Prelude.{ℕ, ◌+◌, ◌==◌, ℤ, pos, ◌+ℤ◌, ◌-ℤ◌, unsigned_abs, nat_lt, if◌then◌else◌, List, [], length}
use Rattle.std.specs.Prelude.{map, Option, None, Some, Result, Ok, Err, codes}
use Rattle.std.specs.Int.{is_negative}
use Rattle.std.specs.List.{range_with_len}
use Rattle.dt_base.specs.declared.cell.Cell.{Cell}
use Rattle.dt_base.specs.declared.cell.Cell.TheVariants as is
use Rattle.dt_base.specs.declared.cell.ColType.{ColType}
use Rattle.dt_base.specs.declared.cell.ColType.TheVariants as ty
use Rattle.dt_base.specs.declared.fault.Fault.{Fault}
use Rattle.dt_base.specs.declared.fault.Code.TheVariants.{E04, E06, E07, E19}
use Rattle.dt_base.specs.Fault.{fault}
use Rattle.dt_base.specs.declared.limits.TheConstants.{MAX_ROWS}
use Rattle.dt_base.specs.declared.operators.Op.{Op}
use Rattle.dt_base.specs.declared.operators.Op.TheVariants as op
use Rattle.dt_base.specs.declared.operators.UnOp.{UnOp}
use Rattle.dt_base.specs.declared.operators.UnOp.TheVariants as un
use Rattle.dt_model.specs.Operations.{OpFault, BadType, Length, Overflow, TooManyRows, op_type, unary_type}
use Rattle.dt_model.specs.Operations.{arithmetic_type, binary, unary, contained, number}
use Rattle.dt_model.specs.Vector.{Vector, cell_at}
use Rattle.dt_tree.specs.declared.tree.BinOp.{BinOp}
use Rattle.dt_tree.specs.declared.tree.BinOp.TheVariants.{Arith, In, Range}
use Rattle.vector_model.specs.Faults.{length_fault}
use Rattle.vector_model.specs.Then.{then_do}

-- an operator as it is written
abbrev pub op_word : Op → List ℕ
op_word op.Add = codes "+"
op_word op.Sub = codes "-"
op_word op.Mul = codes "*"
op_word op.Div = codes "%/%"
op_word op.Mod = codes "%%"
op_word op.Eq = codes "=="
op_word op.Ne = codes "!="
op_word op.Lt = codes "<"
op_word op.Le = codes "<="
op_word op.Gt = codes ">"
op_word op.Ge = codes ">="
op_word op.And = codes "&"
op_word op.Or = codes "|"

-- Types and overflow are told with the operator's word. Of two lengths the right one stands where the
-- left one is wanted.
abbrev pub op_fault : List ℕ → OpFault → Fault
op_fault w BadType = fault E04 w
op_fault w (Length left right) = length_fault right left
op_fault w (Overflow p) = fault E06 w
op_fault w TooManyRows = fault E07 []

abbrev pub op_result : {A : Type 0} → List ℕ → Result A OpFault → Result A Fault
op_result w (Ok x) = Ok x
op_result w (Err f) = Err (op_fault w f)

-- the type of a result, where the types have one
abbrev pub typed_as : List ℕ → Option ColType → Result ColType Fault
typed_as w None = Err (fault E04 w)
typed_as w (Some t) = Ok t

-- ---- `:`

-- `:` takes logicals and integers, as arithmetic does
abbrev pub range_type : ColType → ColType → Result ColType Fault
range_type a b = typed_as (codes ":") (arithmetic_type a b)

-- a side of `:` has one cell, whose number is an end of the range
abbrev pub end_of : Vector → Result (Option ℤ) Fault
end_of v =
    if length v.cells == 1 then Ok (number (cell_at v.cells 0)) else Err (length_fault (length v.cells) 1)

-- how far two whole numbers are apart
abbrev pub distance : ℤ → ℤ → ℕ
distance x y = unsigned_abs (y -ℤ x)

-- the whole number that is k steps from the one towards the other
abbrev pub towards : ℤ → ℤ → ℕ → Cell
towards x y k = is.Int (if is_negative (y -ℤ x) then x -ℤ pos k else x +ℤ pos k)

-- each whole number from the one to the other, rising or falling
abbrev pub numbers_between : ℤ → ℤ → List Cell
numbers_between x y = map (towards x y) (range_with_len 0 (distance x y + 1))

-- NA is no end; and there are at most 16,777,216 numbers
abbrev pub between : Option ℤ → Option ℤ → Result Vector Fault
between (Some x) (Some y) =
    if nat_lt MAX_ROWS (distance x y + 1) then Err (fault E07 [])
    else Ok (record { kind = ty.Int; cells = numbers_between x y })
between _ _ = Err (fault E19 (codes ":"))

-- the types first, then both lengths, then NA, then the count
abbrev pub range : Vector → Vector → Result Vector Fault
range a b =
    then_do (range_type a.kind b.kind) (λ t.
    then_do (end_of a) (λ x.
    then_do (end_of b) (λ y. between x y)))

-- ---- Two-sided operators

abbrev pub tail_type : BinOp → ColType → ColType → Result ColType Fault
tail_type (Arith o) a b = typed_as (op_word o) (op_type o a b)
tail_type In a b = Ok ty.Lgl
tail_type Range a b = range_type a b

abbrev pub tail_value : BinOp → Vector → Vector → Result Vector Fault
tail_value (Arith o) a b = op_result (op_word o) (binary o a b)
tail_value In a b = Ok (contained a b)
tail_value Range a b = range a b

-- ---- `-` and `!` before a value, and `is.na`

abbrev pub unary_word : UnOp → List ℕ
unary_word un.Neg = codes "-"
unary_word un.Not = codes "!"
unary_word un.IsNa = codes "is.na"

abbrev pub sign_type : UnOp → ColType → Result ColType Fault
sign_type o t = typed_as (unary_word o) (unary_type o t)

abbrev pub sign_value : UnOp → Vector → Result Vector Fault
sign_value o a = op_result (unary_word o) (unary o a)
