-- What a function gives for its arguments, once they are looked at.
--   with_warns w r         the vector, with these warnings
--   one_type, flagged_type, three_type     the types by what a function is given
--   type_of f slots        the type of what f gives for arguments of these types, or its fault
--   value_of f slots       what f gives for these vectors, or its first fault
--   description_type f     the type of what f tells of a table
--   description_of f t     what f tells of the table t
-- A slot is what a call gives for a formal, in the order of the formals.
use Rattle.std.specs.Prelude.{Bool, false, nat_lt, if◌then◌else◌, List, [], ◌∷◌, length, map, Result, Ok, Err, codes}
use Rattle.dt_base.specs.declared.cell.Cell.{Cell}
use Rattle.dt_base.specs.declared.cell.Cell.TheVariants as is
use Rattle.dt_base.specs.declared.cell.ColType.{ColType}
use Rattle.dt_base.specs.declared.cell.ColType.TheVariants as ty
use Rattle.dt_base.specs.declared.fault.Fault.{Fault}
use Rattle.dt_base.specs.declared.fault.Code.TheVariants.{E04, E07}
use Rattle.dt_base.specs.Fault.{fault}
use Rattle.dt_base.specs.declared.limits.TheConstants.{MAX_ROWS}
use Rattle.dt_base.specs.declared.warns.Warns.{Warns}
use Rattle.dt_base.specs.Warns.{no_warns}
use Rattle.dt_base.specs.declared.operators.UnOp.TheVariants as un
use Rattle.dt_model.specs.Coercion.{common, coerced, coercion_warns}
use Rattle.dt_model.specs.Operations.{is_logical, chosen}
use Rattle.dt_model.specs.Table.{PlainTable}
use Rattle.dt_model.specs.Vector.{Vector}
use Rattle.func_table.specs.declared.func.Func.{Func}
use Rattle.func_table.specs.declared.func.Func.TheVariants.{IsNa, Fifelse, AsLogical, AsInteger, AsCharacter, Sum}
use Rattle.func_table.specs.declared.func.Func.TheVariants.{Min, Max, Any, All, First, Last, Length, Nrow, Ncol}
use Rattle.func_table.specs.declared.func.Func.TheVariants.{Names}
use Rattle.func_table.specs.declared.slot.Slot.{Slot}
use Rattle.func_table.specs.declared.slot.Slot.TheVariants.{Given, Flag, Absent}
use Rattle.vector_model.specs.Then.{then_do}
use Rattle.vector_model.specs.Functions.{Valued, sum_type, sum_value, min_type, min_value, max_type, max_value}
use Rattle.vector_model.specs.Functions.{any_type, any_value, all_type, all_value, first_type, first_value, last_type}
use Rattle.vector_model.specs.Functions.{last_value, length_type, length_value}
use Rattle.expr_model.specs.Operators.{op_result, sign_type, sign_value}
use Rattle.expr_model.specs.Surroundings.{integer}
use Rattle.vector_model.specs.Faults.{unbuilt}

-- the vector, with these warnings
abbrev pub with_warns : Warns → Result Vector Fault → Result Valued Fault
with_warns w r = then_do r (λ v. Ok (record { vector = v; warns = w }))

-- ---- `fifelse` and the conversions

-- the test is logical, and the others have a common type
abbrev pub choice_type : ColType → ColType → ColType → Result ColType Fault
choice_type test a b = if is_logical test then Ok (common a b) else Err (fault E04 (codes "fifelse"))

abbrev pub choice_value : Vector → Vector → Vector → Result Valued Fault
choice_value test a b = with_warns no_warns (op_result (codes "fifelse") (chosen test a b))

abbrev pub conversion : ColType → Vector → Result Valued Fault
conversion t x = Ok (record { vector = coerced t x; warns = coercion_warns t x })

abbrev pub na_test : Vector → Result Valued Fault
na_test x = with_warns no_warns (sign_value un.IsNa x)

-- ---- The functions

-- the functions of one vector
abbrev pub one_type : Func → ColType → Result ColType Fault
one_type IsNa t = sign_type un.IsNa t
one_type AsLogical t = Ok ty.Lgl
one_type AsInteger t = Ok ty.Int
one_type AsCharacter t = Ok ty.Chr
one_type Any t = any_type t
one_type All t = all_type t
one_type First t = first_type t
one_type Last t = last_type t
one_type Length t = length_type t
one_type _ t = Err unbuilt

abbrev pub one_value : Func → Vector → Result Valued Fault
one_value IsNa x = na_test x
one_value AsLogical x = conversion ty.Lgl x
one_value AsInteger x = conversion ty.Int x
one_value AsCharacter x = conversion ty.Chr x
one_value Any x = any_value x
one_value All x = all_value x
one_value First x = first_value x
one_value Last x = last_value x
one_value Length x = length_value x
one_value _ x = Err unbuilt

-- the functions of a vector and the flag na.rm
abbrev pub flagged_type : Func → ColType → Result ColType Fault
flagged_type Sum t = sum_type t
flagged_type Min t = min_type t
flagged_type Max t = max_type t
flagged_type _ t = Err unbuilt

abbrev pub flagged_value : Func → Bool → Vector → Result Valued Fault
flagged_value Sum na_rm x = sum_value na_rm x
flagged_value Min na_rm x = min_value na_rm x
flagged_value Max na_rm x = max_value na_rm x
flagged_value _ na_rm x = Err unbuilt

-- the function of a test and two vectors
abbrev pub three_type : Func → ColType → ColType → ColType → Result ColType Fault
three_type Fifelse test a b = choice_type test a b
three_type _ test a b = Err unbuilt

abbrev pub three_value : Func → Vector → Vector → Vector → Result Valued Fault
three_value Fifelse test a b = choice_value test a b
three_value _ test a b = Err unbuilt

-- by what is given: a vector; a vector and a flag that may be left out; three vectors
abbrev pub type_of_one : Func → Slot ColType → Result ColType Fault
type_of_one f (Given t) = one_type f t
type_of_one f _ = Err unbuilt

abbrev pub type_of_two : Func → Slot ColType → Slot ColType → Result ColType Fault
type_of_two f (Given t) Absent = flagged_type f t
type_of_two f (Given t) (Flag b) = flagged_type f t
type_of_two f _ _ = Err unbuilt

abbrev pub type_of_three : Func → Slot ColType → Slot ColType → Slot ColType → Result ColType Fault
type_of_three f (Given test) (Given a) (Given b) = three_type f test a b
type_of_three f _ _ _ = Err unbuilt

abbrev pub value_of_one : Func → Slot Vector → Result Valued Fault
value_of_one f (Given x) = one_value f x
value_of_one f _ = Err unbuilt

-- without the flag na.rm is FALSE
abbrev pub value_of_two : Func → Slot Vector → Slot Vector → Result Valued Fault
value_of_two f (Given x) Absent = flagged_value f false x
value_of_two f (Given x) (Flag b) = flagged_value f b x
value_of_two f _ _ = Err unbuilt

abbrev pub value_of_three : Func → Slot Vector → Slot Vector → Slot Vector → Result Valued Fault
value_of_three f (Given test) (Given a) (Given b) = three_value f test a b
value_of_three f _ _ _ = Err unbuilt

-- a call that is bound is given the slots of its formals, and no others
unfoldable pub type_of : Func → List (Slot ColType) → Result ColType Fault
type_of f (x ∷ []) = type_of_one f x
type_of f (x ∷ y ∷ []) = type_of_two f x y
type_of f (x ∷ y ∷ z ∷ []) = type_of_three f x y z
type_of f _ = Err unbuilt

-- The value without the warnings of the arguments. A fault of the type is repeated, so that a value
-- stands or falls by itself.
unfoldable pub value_of : Func → List (Slot Vector) → Result Valued Fault
value_of f (x ∷ []) = value_of_one f x
value_of f (x ∷ y ∷ []) = value_of_two f x y
value_of f (x ∷ y ∷ z ∷ []) = value_of_three f x y z
value_of f _ = Err unbuilt

-- ---- What is told of a table

abbrev pub description_type : Func → Result ColType Fault
description_type Nrow = Ok ty.Int
description_type Ncol = Ok ty.Int
description_type Names = Ok ty.Chr
description_type _ = Err unbuilt

-- the names of columns as cells
abbrev pub head_cells : PlainTable → List Cell
head_cells t = map (λ c. is.Text c.name) t.columns

-- the names as a vector, which has at most 16,777,216 cells
abbrev pub head_vector : PlainTable → Result Vector Fault
head_vector t =
    if nat_lt MAX_ROWS (length t.columns) then Err (fault E07 [])
    else Ok (record { kind = ty.Chr; cells = head_cells t })

-- the number of rows, the number of columns, the columns' names
abbrev pub description_of : Func → PlainTable → Result Vector Fault
description_of Nrow t = Ok (integer (length t.rows))
description_of Ncol t = Ok (integer (length t.columns))
description_of Names t = head_vector t
description_of _ t = Err unbuilt
