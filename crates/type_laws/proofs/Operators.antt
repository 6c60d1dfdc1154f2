-- Operators give the type that their types have.
--   kind_of v         the type of a value
--   sign_agrees, tail_agrees    `-` and `!`; two-sided operators
use Rattle.std.proofs.Common.{ℕ, ℤ, List, map, Option, None, Some, Result, Ok, Err, refl}
use Rattle.dt_base.specs.declared.cell.Cell.{Cell}
use Rattle.dt_base.specs.declared.cell.ColType.{ColType}
use Rattle.dt_base.specs.declared.cell.ColType.TheVariants as ty
use Rattle.dt_base.specs.declared.fault.Fault.{Fault}
use Rattle.dt_base.specs.declared.operators.UnOp.{UnOp}
use Rattle.dt_base.specs.declared.warns.Warns.{Warns}
use Rattle.dt_base.specs.Warns.{both_warns}
use Rattle.dt_model.specs.Operations.{OpFault, typed, op_type, unary_type, over_cells, op_cell, unary_cell}
use Rattle.dt_model.specs.Vector.{Vector}
use Rattle.dt_tree.specs.declared.tree.BinOp.{BinOp}
use Rattle.dt_tree.specs.declared.tree.BinOp.TheVariants.{Arith, In, Range}
use Rattle.vector_model.specs.Functions.{Valued}
use Rattle.vector_model.specs.Then.{then_do}
use Rattle.expr_model.specs.Functions.{with_warns}
use Rattle.expr_model.specs.Operators.{typed_as, op_result, op_word, unary_word, range_type, end_of, between}
use Rattle.expr_model.specs.Operators.{numbers_between, tail_type, tail_value, sign_type, sign_value}
use Rattle.session_model.specs.Expression.{met, signed}
use Rattle.type_laws.proofs.Agree.{Agree, agree_if, agree_after}

abbrev pub kind_of : Valued → ColType
kind_of v = v.vector.kind

abbrev pub vector_kind : Vector → ColType
vector_kind v = v.kind

-- warnings do not concern the type
pub warned_agrees : (w : Warns) (c : Result ColType Fault) (r : Result Vector Fault) → Agree vector_kind c r
    → Agree kind_of c (with_warns w r)
warned_agrees w c r h = agree_after vector_kind kind_of c r (λ v. Ok (record { vector = v; warns = w })) h (λ v. refl)

pub typed_agrees : (w x : List ℕ) (t : Option ColType) (cells : Result (List Cell) OpFault)
    → Agree vector_kind (typed_as w t) (op_result x (typed t cells))
typed_agrees w x None cells = tt
typed_agrees w x (Some t) (Err f) = tt
typed_agrees w x (Some t) (Ok cells) = refl

pub sign_agrees : (o : UnOp) (a : Valued) → Agree kind_of (sign_type o (kind_of a)) (signed o a)
sign_agrees o a = warned_agrees a.warns (sign_type o (kind_of a)) (sign_value o a.vector)
    (typed_agrees (unary_word o) (unary_word o) (unary_type o (kind_of a)) (Ok (map (unary_cell o) a.vector.cells)))

-- the numbers between two are integers
between_agrees : (x y : Option ℤ) → Agree vector_kind (Ok ty.Int) (between x y)
between_agrees (Some x) (Some y) = agree_if vector_kind _ _ (Ok ty.Int)
    (Ok (record { kind = ty.Int; cells = numbers_between x y })) refl
between_agrees None y = tt
between_agrees (Some x) None = tt

ends_agree : (x y : Result (Option ℤ) Fault)
    → Agree vector_kind (Ok ty.Int) (then_do x (λ a. then_do y (λ b. between a b)))
ends_agree (Err e) y = tt
ends_agree (Ok a) (Err e) = tt
ends_agree (Ok a) (Ok b) = between_agrees a b

range_agrees : (t u : ColType) (x y : Result (Option ℤ) Fault)
    → Agree vector_kind (range_type t u) (then_do (range_type t u) (λ k. then_do x (λ a. then_do y (λ b. between a b))))
range_agrees ty.Chr u x y = tt
range_agrees ty.Lgl ty.Chr x y = tt
range_agrees ty.Lgl ty.Lgl x y = ends_agree x y
range_agrees ty.Lgl ty.Int x y = ends_agree x y
range_agrees ty.Int ty.Chr x y = tt
range_agrees ty.Int ty.Lgl x y = ends_agree x y
range_agrees ty.Int ty.Int x y = ends_agree x y

value_agrees : (o : BinOp) (a b : Vector) → Agree vector_kind (tail_type o a.kind b.kind) (tail_value o a b)
value_agrees (Arith o) a b = typed_agrees (op_word o) (op_word o) (op_type o a.kind b.kind)
    (over_cells (op_cell o a.kind b.kind) a.cells b.cells)
value_agrees In a b = refl
value_agrees Range a b = range_agrees a.kind b.kind (end_of a) (end_of b)

pub tail_agrees : (o : BinOp) (a b : Valued) → Agree kind_of (tail_type o (kind_of a) (kind_of b)) (met o a b)
tail_agrees o a b = warned_agrees (both_warns a.warns b.warns) (tail_type o (kind_of a) (kind_of b))
    (tail_value o a.vector b.vector) (value_agrees o a.vector b.vector)
