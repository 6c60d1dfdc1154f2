-- What a function gives has the type that it gives for the argument's type, and the fault of a type is
-- the function's fault. So types can be looked at before any cell is.
use Rattle.std.proofs.Common.{◌≡◌, Bool, true, false, cond, List, Option, None, Some, Result, Ok, Err, refl, subst}
use Rattle.dt_base.specs.declared.cell.Cell.{Cell}
use Rattle.dt_base.specs.declared.cell.ColType.{ColType}
use Rattle.dt_base.specs.declared.cell.ColType.TheVariants as ty
use Rattle.dt_base.specs.declared.fault.Fault.{Fault}
use Rattle.dt_model.specs.Operations.{Outcome, Outside, Gives, whole}
use Rattle.dt_model.specs.Vector.{Vector}
use Rattle.vector_model.specs.Functions.{Valued, of_type, total, total_value, sum_type, sum_value, sum_cells, meets_na}
use Rattle.vector_model.specs.Functions.{extreme_type, found_value, winner, extreme_cells, min_type, min_value}
use Rattle.vector_model.specs.Functions.{max_type, max_value, any_type, any_value, all_type, all_value, first_type}
use Rattle.vector_model.specs.Functions.{first_value, last_type, last_value, length_type, length_value}

-- an answer, where there is one, has this type
abbrev pub HasType : ColType → Result Valued Fault → Type 0
HasType t (Ok v) = v.vector.kind ≡ t
HasType t (Err f) = Unit {0}

-- The two answers of a function, for the type and for the cells, go together: a fault of the type is the
-- fault, and the answer has the type.
abbrev pub Agrees : Result ColType Fault → Result Valued Fault → Type 0
Agrees (Ok t) r = HasType t r
Agrees (Err f) r = r ≡ Err f

-- one of two answers of a type
either : (b : Bool) (t : ColType) (r s : Result Valued Fault) → HasType t r → HasType t s → HasType t (cond b r s)
either true t r s h k = h
either false t r s h k = k

of_type_agrees : (r : Result ColType Fault) (k : ColType → Result Valued Fault)
    → ((t : ColType) → r ≡ Ok t → HasType t (k t)) → Agrees r (of_type r k)
of_type_agrees (Ok t) k h = h t refl
of_type_agrees (Err f) k h = refl

total_type : (o : Outcome) → HasType ty.Int (total_value o)
total_type Outside = tt
total_type (Gives c) = refl

sum_cells_type : (na_rm : Bool) (cells : List Cell) → HasType ty.Int (sum_cells na_rm cells)
sum_cells_type na_rm cells = either (meets_na na_rm cells) ty.Int _ _ refl (total_type (whole (total cells)))

sum_kind : (na_rm : Bool) (cells : List Cell) (k t : ColType) → sum_type k ≡ Ok t → HasType t (sum_cells na_rm cells)
sum_kind na_rm cells ty.Lgl t h = let e : ty.Int ≡ t = cc in
    subst (λ u. HasType u (sum_cells na_rm cells)) e (sum_cells_type na_rm cells)
sum_kind na_rm cells ty.Int t h = let e : ty.Int ≡ t = cc in
    subst (λ u. HasType u (sum_cells na_rm cells)) e (sum_cells_type na_rm cells)
sum_kind na_rm cells ty.Chr t h = cc

pub sum_agrees : (na_rm : Bool) (x : Vector) → Agrees (sum_type x.kind) (sum_value na_rm x)
sum_agrees na_rm x = of_type_agrees (sum_type x.kind) (λ t. sum_cells na_rm x.cells)
    (λ t h. sum_kind na_rm x.cells x.kind t h)

found_type : (t : ColType) (o : Option Cell) → HasType t (found_value t o)
found_type t None = refl
found_type t (Some c) = refl

extreme_cells_type : (beats : Cell → Cell → Bool) (t : ColType) (na_rm : Bool) (cells : List Cell)
    → HasType t (extreme_cells beats t na_rm cells)
extreme_cells_type beats t na_rm cells = either (meets_na na_rm cells) t _ _ refl (found_type t (winner beats cells))

pub min_agrees : (na_rm : Bool) (x : Vector) → Agrees (min_type x.kind) (min_value na_rm x)
min_agrees na_rm x = extreme_cells_type _ (extreme_type x.kind) na_rm x.cells

pub max_agrees : (na_rm : Bool) (x : Vector) → Agrees (max_type x.kind) (max_value na_rm x)
max_agrees na_rm x = extreme_cells_type _ (extreme_type x.kind) na_rm x.cells

-- an answer that is made for any type has that type
pub any_agrees : (x : Vector) → Agrees (any_type x.kind) (any_value x)
any_agrees x = of_type_agrees (any_type x.kind) _ (λ t h. refl)

pub all_agrees : (x : Vector) → Agrees (all_type x.kind) (all_value x)
all_agrees x = of_type_agrees (all_type x.kind) _ (λ t h. refl)

pub first_agrees : (x : Vector) → Agrees (first_type x.kind) (first_value x)
first_agrees x = refl

pub last_agrees : (x : Vector) → Agrees (last_type x.kind) (last_value x)
last_agrees x = refl

pub length_agrees : (x : Vector) → Agrees (length_type x.kind) (length_value x)
length_agrees x = refl
