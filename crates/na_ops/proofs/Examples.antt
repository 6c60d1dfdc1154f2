-- Worked examples of operations and conversions. Each holds by computing both sides.
use Rattle.std.proofs.Common.{◌≡◌, ◌-◌, ◌^◌, pos, negsuc, true, false, List, [], ◌∷◌, None, Some}
use Rattle.std.proofs.Common.{Ok, Err, codes, refl}
use Rattle.dt_base.specs.declared.cell.Cell.{Cell}
use Rattle.dt_base.specs.declared.cell.Cell.TheVariants as is
use Rattle.dt_base.specs.declared.cell.ColType.{ColType}
use Rattle.dt_base.specs.declared.cell.ColType.TheVariants as ty
use Rattle.dt_base.specs.declared.operators.Op.TheVariants as op
use Rattle.dt_base.specs.declared.operators.UnOp.TheVariants as un
use Rattle.dt_model.specs.Coercion.{brought, becomes_true, becomes_na}
use Rattle.dt_model.specs.Operations.{Outside, Gives, Overflow, op_type, op_cell, unary_cell, floor_quotient}
use Rattle.dt_model.specs.Operations.{floor_remainder, joint, binary, chosen, contained}
use Rattle.dt_model.specs.Operations as fault
use Rattle.dt_model.specs.Vector.{Vector}

vector : ColType → List Cell → Vector
vector t cells = record { kind = t; cells = cells }

-- 7 by -2 is -4, which leaves -1; -7 by 2 is -4, which leaves 1
quotient_down : floor_quotient (pos 7) (negsuc 1) ≡ negsuc 3
quotient_down = refl

remainder_sign : floor_remainder (pos 7) (negsuc 1) ≡ negsuc 0
remainder_sign = refl

quotient_of_negative : floor_quotient (negsuc 6) (pos 2) ≡ negsuc 3
quotient_of_negative = refl

remainder_of_negative : floor_remainder (negsuc 6) (pos 2) ≡ pos 1
remainder_of_negative = refl

-- a zero divisor gives NA
zero_divisor : op_cell op.Mod ty.Int ty.Int (is.Int (pos 5)) (is.Int (pos 0)) ≡ Gives is.Na
zero_divisor = refl

-- TRUE is 1
true_is_one : op_cell op.Add ty.Lgl ty.Int (is.Lgl true) (is.Int (pos 41)) ≡ Gives (is.Int (pos 42))
true_is_one = refl

-- past the greatest integer, and -2^63
past_greatest : op_cell op.Add ty.Int ty.Int (is.Int (pos (2 ^ 63 - 1))) (is.Int (pos 1)) ≡ Outside
past_greatest = refl

past_least : op_cell op.Mul ty.Int ty.Int (is.Int (pos (2 ^ 62))) (is.Int (negsuc 1)) ≡ Outside
past_least = refl

-- TRUE is the text TRUE, which is below the text true
as_texts : op_cell op.Lt ty.Lgl ty.Chr (is.Lgl true) (is.Text (codes "true")) ≡ Gives (is.Lgl true)
as_texts = refl

-- NA & FALSE is FALSE, NA & TRUE is NA, NA | TRUE is TRUE
na_and_false : op_cell op.And ty.Lgl ty.Lgl is.Na (is.Lgl false) ≡ Gives (is.Lgl false)
na_and_false = refl

na_and_true : op_cell op.And ty.Lgl ty.Lgl is.Na (is.Lgl true) ≡ Gives is.Na
na_and_true = refl

na_or_true : op_cell op.Or ty.Lgl ty.Lgl is.Na (is.Lgl true) ≡ Gives (is.Lgl true)
na_or_true = refl

-- arithmetic takes no text, comparisons take two types
text_refused : op_type op.Add ty.Chr ty.Int ≡ None
text_refused = refl

mixed_compared : op_type op.Eq ty.Lgl ty.Chr ≡ Some ty.Lgl
mixed_compared = refl

-- length 0 beside length 1 gives length 0
none_beside_one : joint 0 1 ≡ Some 0
none_beside_one = refl

two_beside_three : joint 2 3 ≡ None
two_beside_three = refl

-- the least place is told
least_place : binary op.Add (vector ty.Int
    (is.Int (pos 1) ∷ is.Int (pos (2 ^ 63 - 1)) ∷ is.Int (pos (2 ^ 63 - 1)) ∷ [])) (vector ty.Int (is.Int (pos 1) ∷ []))
    ≡ Err (Overflow 1)
unfolding vector
least_place = refl

-- the types come before the lengths
types_first : binary op.Add (vector ty.Chr []) (vector ty.Int (is.Na ∷ is.Na ∷ [])) ≡ Err fault.BadType
unfolding vector
types_first = refl

-- minus TRUE is -1
minus_true : unary_cell un.Neg (is.Lgl true) ≡ is.Int (negsuc 0)
minus_true = refl

-- 2 becomes TRUE with a warning, 1 without
two_is_true : becomes_true ty.Lgl (is.Int (pos 2)) ≡ true
two_is_true = refl

one_is_true : becomes_true ty.Lgl (is.Int (pos 1)) ≡ false
one_is_true = refl

-- a plus sign may stand before an integer; the text NA spells none
with_plus : brought ty.Int (is.Text (codes "+5")) ≡ is.Int (pos 5)
with_plus = refl

text_na : becomes_na ty.Int (is.Text (codes "NA")) ≡ true
text_na = refl

-- fifelse of TRUE, NA: the first, NA
choice : chosen (vector ty.Lgl (is.Lgl true ∷ is.Na ∷ [])) (vector ty.Lgl (is.Lgl true ∷ []))
    (vector ty.Int (is.Int (pos 7) ∷ []))
    ≡ Ok (vector ty.Int (is.Int (pos 1) ∷ is.Na ∷ []))
unfolding vector
choice = refl

-- NA is in what has NA
na_in : contained (vector ty.Lgl (is.Na ∷ is.Lgl true ∷ [])) (vector ty.Int (is.Int (pos 5) ∷ is.Na ∷ []))
    ≡ vector ty.Lgl (is.Lgl true ∷ is.Lgl false ∷ [])
unfolding vector
na_in = refl
