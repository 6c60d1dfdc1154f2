-- Functions give the type that the types of their arguments have.
--   slot_kind s       the type in a slot
--   function_agrees, description_agrees
use Rattle.std.proofs.Common.{◌≡◌, ℕ, Bool, true, false, not, List, [], ◌∷◌, length, map, Option, None, Some, Result}
use Rattle.std.proofs.Common.{Ok, Err, refl, ap, subst, codes}
use Rattle.std.specs.Prelude.{if◌then◌else◌}
use Rattle.dt_base.specs.declared.cell.Cell.{Cell}
use Rattle.dt_base.specs.declared.cell.ColType.{ColType}
use Rattle.dt_base.specs.declared.cell.ColType.TheVariants as ty
use Rattle.dt_base.specs.declared.fault.Fault.{Fault}
use Rattle.dt_base.specs.declared.fault.Code.TheVariants.{E04}
use Rattle.dt_base.specs.Fault.{fault}
use Rattle.dt_base.specs.declared.operators.UnOp.TheVariants as un
use Rattle.dt_base.specs.Warns.{no_warns}
use Rattle.dt_model.specs.Coercion.{brought, common}
use Rattle.dt_model.specs.Combine.{common_of, in_a_row, kinds_of}
use Rattle.dt_model.specs.Operations.{OpFault, BadType, Length, Outcome, Outside, Gives, whole, chosen, goes_with}
use Rattle.dt_model.specs.Operations.{is_logical, unary_type, unary_cell, at_places, picked_by, cell_for}
use Rattle.dt_model.specs.Table.{PlainTable}
use Rattle.dt_model.specs.Vector.{Vector, cell_at}
use Rattle.func_table.specs.declared.func.Func.{Func}
use Rattle.func_table.specs.declared.func.Func.TheVariants as f
use Rattle.func_table.specs.declared.slot.Slot.{Slot}
use Rattle.func_table.specs.declared.slot.Slot.TheVariants.{Given, Flag, Absent}
use Rattle.vector_model.specs.Combine.{joined}
use Rattle.vector_model.specs.Functions.{Valued, of_type, meets_na, winner, is_before, found_value, extreme_cells}
use Rattle.vector_model.specs.Functions.{extreme_type, sum_type, sum_cells, total, total_value, any_type, all_type}
use Rattle.expr_model.specs.Functions.{choice_type, choice_value, one_type, one_value, flagged_type, flagged_value}
use Rattle.expr_model.specs.Functions.{three_type, three_value, type_of, value_of, description_type, description_of}
use Rattle.expr_model.specs.Functions.{head_cells}
use Rattle.expr_model.specs.Operators.{op_result, unary_word, sign_type, sign_value}
use Rattle.session_model.specs.Expression.{all_warns, applied, combined, quiet, slot_vector, vector_in, warns_in}
use Rattle.type_laws.proofs.Agree.{Agree, agree_if, agree_after}
use Rattle.type_laws.proofs.Operators.{kind_of, vector_kind, warned_agrees, typed_agrees}

-- a test that gives the one or the other
either : {C D : Type 0} (q : D → C) (b : Bool) (c : Result C Fault) (r s : Result D Fault) → Agree q c r → Agree q c s
    → Agree q c (if b then r else s)
either q true c r s h k = h
either q false c r s h k = k

-- a fault of the type comes first
of_type_agrees : (c : Result ColType Fault) (k : ColType → Result Valued Fault)
    → ((t : ColType) → Agree kind_of (Ok t) (k t)) → Agree kind_of c (of_type c k)
of_type_agrees (Err e) k h = tt
of_type_agrees (Ok t) k h = h t

-- ---- The functions of one vector

total_agrees : (o : Outcome) → Agree kind_of (Ok ty.Int) (total_value o)
total_agrees Outside = tt
total_agrees (Gives c) = refl

sum_cells_agrees : (na_rm : Bool) (cells : List Cell) → Agree kind_of (Ok ty.Int) (sum_cells na_rm cells)
sum_cells_agrees na_rm cells = either kind_of (meets_na na_rm cells) (Ok ty.Int) _ _ refl
    (total_agrees (whole (total cells)))

sum_agrees : (t : ColType) (na_rm : Bool) (cells : List Cell)
    → Agree kind_of (sum_type t) (of_type (sum_type t) (λ u. sum_cells na_rm cells))
sum_agrees ty.Lgl na_rm cells = sum_cells_agrees na_rm cells
sum_agrees ty.Int na_rm cells = sum_cells_agrees na_rm cells
sum_agrees ty.Chr na_rm cells = tt

found_agrees : (t : ColType) (o : Option Cell) → Agree kind_of (Ok t) (found_value t o)
found_agrees t None = refl
found_agrees t (Some c) = refl

extreme_agrees : (beats : Cell → Cell → Bool) (t : ColType) (na_rm : Bool) (cells : List Cell)
    → Agree kind_of (Ok t) (extreme_cells beats t na_rm cells)
extreme_agrees beats t na_rm cells = either kind_of (meets_na na_rm cells) (Ok t) _ _ refl
    (found_agrees t (winner beats cells))

one_agrees : (g : Func) (x : Vector) → Agree kind_of (one_type g x.kind) (one_value g x)
one_agrees f.IsNa x = warned_agrees no_warns (sign_type un.IsNa x.kind) (sign_value un.IsNa x)
    (typed_agrees (unary_word un.IsNa) (unary_word un.IsNa) (unary_type un.IsNa x.kind)
    (Ok (map (unary_cell un.IsNa) x.cells)))
one_agrees f.AsLogical x = refl
one_agrees f.AsInteger x = refl
one_agrees f.AsCharacter x = refl
one_agrees f.Any x = of_type_agrees (any_type x.kind) _ (λ t. refl)
one_agrees f.All x = of_type_agrees (all_type x.kind) _ (λ t. refl)
one_agrees f.First x = refl
one_agrees f.Last x = refl
one_agrees f.Length x = refl
one_agrees _ x = tt

flagged_agrees : (g : Func) (na_rm : Bool) (x : Vector)
    → Agree kind_of (flagged_type g x.kind) (flagged_value g na_rm x)
flagged_agrees f.Sum na_rm x = sum_agrees x.kind na_rm x.cells
flagged_agrees f.Min na_rm x = extreme_agrees (λ a b. is_before (extreme_type x.kind) a b) (extreme_type x.kind)
    na_rm x.cells
flagged_agrees f.Max na_rm x = extreme_agrees (λ a b. is_before (extreme_type x.kind) b a) (extreme_type x.kind)
    na_rm x.cells
flagged_agrees _ na_rm x = tt

-- ---- `fifelse`

chosen_agrees : (l n m : Bool) (w : List ℕ) (bad : Fault) (e f g : OpFault) (t : ColType) (cells : List Cell)
    → Agree vector_kind (if l then Ok t else Err bad)
    (op_result w
    (if not l then Err e else
    (if not n then Err f else (if not m then Err g else Ok (record { kind = t; cells = cells })))))
chosen_agrees false n m w bad e f g t cells = tt
chosen_agrees true false m w bad e f g t cells = tt
chosen_agrees true true false w bad e f g t cells = tt
chosen_agrees true true true w bad e f g t cells = refl

choice_agrees : (test a b : Vector) → Agree kind_of (choice_type test.kind a.kind b.kind) (choice_value test a b)
choice_agrees test a b =
    let n = length test.cells in
    let t = common a.kind b.kind in
    warned_agrees no_warns (choice_type test.kind a.kind b.kind) (op_result (codes "fifelse") (chosen test a b))
    (chosen_agrees (is_logical test.kind) (goes_with n (length a.cells)) (goes_with n (length b.cells))
    (codes "fifelse") (fault E04 (codes "fifelse")) BadType (Length n (length a.cells)) (Length n (length b.cells))
    t
    (at_places n
    (λ p. picked_by (cell_at test.cells p) (brought t (cell_for a.cells p)) (brought t (cell_for b.cells p)))))

three_agrees : (g : Func) (test a b : Vector)
    → Agree kind_of (three_type g test.kind a.kind b.kind) (three_value g test a b)
three_agrees f.Fifelse test a b = choice_agrees test a b
three_agrees _ test a b = tt

-- ---- By what is given

abbrev pub cells_kind : Slot Vector → Slot ColType
cells_kind (Given v) = Given v.kind
cells_kind (Flag b) = Flag b
cells_kind Absent = Absent

abbrev pub slot_kind : Slot Valued → Slot ColType
slot_kind (Given v) = Given v.vector.kind
slot_kind (Flag b) = Flag b
slot_kind Absent = Absent

value_of_agrees : (g : Func) (xs : List (Slot Vector)) → Agree kind_of (type_of g (map cells_kind xs)) (value_of g xs)
unfolding type_of value_of
value_of_agrees g [] = tt
value_of_agrees g (Given x ∷ []) = one_agrees g x
value_of_agrees g (Flag b ∷ []) = tt
value_of_agrees g (Absent ∷ []) = tt
value_of_agrees g (Given x ∷ Absent ∷ []) = flagged_agrees g false x
value_of_agrees g (Given x ∷ Flag b ∷ []) = flagged_agrees g b x
value_of_agrees g (Given x ∷ Given y ∷ []) = tt
value_of_agrees g (Flag b ∷ y ∷ []) = tt
value_of_agrees g (Absent ∷ y ∷ []) = tt
value_of_agrees g (Given x ∷ Given y ∷ Given z ∷ []) = three_agrees g x y z
value_of_agrees g (Given x ∷ Given y ∷ Flag b ∷ []) = tt
value_of_agrees g (Given x ∷ Given y ∷ Absent ∷ []) = tt
value_of_agrees g (Given x ∷ Flag b ∷ z ∷ []) = tt
value_of_agrees g (Given x ∷ Absent ∷ z ∷ []) = tt
value_of_agrees g (Flag b ∷ y ∷ z ∷ []) = tt
value_of_agrees g (Absent ∷ y ∷ z ∷ []) = tt
value_of_agrees g (x ∷ y ∷ z ∷ w ∷ rest) = tt

slots_kind : (xs : List (Slot Valued)) → map cells_kind (map slot_vector xs) ≡ map slot_kind xs
slots_kind [] = refl
slots_kind (Given v ∷ xs) = ap (λ z. Given v.vector.kind ∷ z) (slots_kind xs)
slots_kind (Flag b ∷ xs) = ap (λ z. Flag b ∷ z) (slots_kind xs)
slots_kind (Absent ∷ xs) = ap (λ z. Absent ∷ z) (slots_kind xs)

pub function_agrees : (g : Func) (xs : List (Slot Valued)) → Agree kind_of (type_of g (map slot_kind xs)) (applied g xs)
function_agrees g xs = agree_after kind_of kind_of (type_of g (map slot_kind xs)) (value_of g (map slot_vector xs)) _
    (subst (λ z. Agree kind_of (type_of g z) (value_of g (map slot_vector xs))) (slots_kind xs)
    (value_of_agrees g (map slot_vector xs))) (λ v. refl)

-- ---- `c`

kinds_in : (vs : List Valued) → kinds_of (map vector_in vs) ≡ map kind_of vs
kinds_in [] = refl
kinds_in (v ∷ vs) = ap (λ z. v.vector.kind ∷ z) (kinds_in vs)

joined_agrees : (vs : List Vector) → Agree vector_kind (Ok (common_of (kinds_of vs))) (joined vs)
joined_agrees vs = agree_if vector_kind _ _ (Ok (common_of (kinds_of vs))) (Ok (in_a_row vs)) refl

pub combined_agrees : (vs : List Valued) → Agree kind_of (Ok (common_of (map kind_of vs))) (combined vs)
combined_agrees vs = warned_agrees (all_warns (map warns_in vs)) (Ok (common_of (map kind_of vs)))
    (joined (map vector_in vs))
    (subst (λ z. Agree vector_kind (Ok (common_of z)) (joined (map vector_in vs))) (kinds_in vs)
    (joined_agrees (map vector_in vs)))

-- ---- What is told of a table

head_agrees : (g : Func) (t : PlainTable) → Agree vector_kind (description_type g) (description_of g t)
head_agrees f.Nrow t = refl
head_agrees f.Ncol t = refl
head_agrees f.Names t = agree_if vector_kind _ _ (Ok ty.Chr) (Ok (record { kind = ty.Chr; cells = head_cells t })) refl
head_agrees _ t = tt

pub description_agrees : (g : Func) (t : PlainTable) → Agree kind_of (description_type g) (quiet (description_of g t))
description_agrees g t = warned_agrees no_warns (description_type g) (description_of g t) (head_agrees g t)
