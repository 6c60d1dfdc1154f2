-- A column that is brought to texts is compared as it is.
use Rattle.std.proofs.Common.{◌≡◌, ◌∙◌, ℕ, Bool, List, map, length, Option, None, Some, Result, Err, refl, ap}
use Rattle.std.proofs.Common.{sym, ◌==◌, if◌then◌else◌}
use Rattle.std.specs.Cmp.Lexicographic.{slice_cmp}
use Rattle.std.specs.Ordering.{nat_cmp}
use Rattle.std.specs.declared.cmp.Ordering.{Ordering}
use Rattle.std.proofs.lemmas.List.{length-map}
use Rattle.std.proofs.Math.ListN.{get_or-map}
use Rattle.dt_base.specs.declared.cell.Cell.{Cell}
use Rattle.dt_base.specs.declared.cell.Cell.TheVariants as is
use Rattle.dt_model.specs.Coercion.{to_text}
use Rattle.dt_model.specs.Vector.{cell_at}
use Rattle.dt_model.specs.Operations.{Outcome, OpFault, Length, over_cells, over_places, at_place, at_places, settled}
use Rattle.dt_model.specs.Operations.{joint, cell_for, order_of, tested, text}

-- what is over all places, as a function of the two lengths and of the outcome at a place
from_parts : ℕ → ℕ → (ℕ → Outcome) → Option ℕ → Result (List Cell) OpFault
from_parts n m f None = Err (Length n m)
from_parts n m f (Some k) = settled (at_places k f)

over_places_is : (f : Cell → Cell → Outcome) (a b : List Cell) (o : Option ℕ)
    → over_places f a b o ≡ from_parts (length a) (length b) (at_place f a b) o
unfolding from_parts
over_places_is f a b None = refl
over_places_is f a b (Some k) = refl

-- lists of the same lengths with the same outcomes have the same answer
same_over : (f : Cell → Cell → Outcome) (a b a' b' : List Cell) → length a ≡ length a' → length b ≡ length b' →
    ((p : ℕ) → at_place f a b p ≡ at_place f a' b' p) → over_cells f a b ≡ over_cells f a' b'
same_over f a b a' b' la lb h =
    over_places_is f a b (joint (length a) (length b))
    ∙ (λ i. from_parts (la i) (lb i) (λ p. h p i) (joint (la i) (lb i)))
    ∙ sym (over_places_is f a' b' (joint (length a') (length b')))

-- the cell for a place of a list that is brought to texts
cell_for-texts : (a : List Cell) (p : ℕ) → cell_for (map to_text a) p ≡ to_text (cell_for a p)
cell_for-texts a p =
    ap (λ n. cell_at (map to_text a) (if n == 1 then 0 else p)) (length-map a to_text)
    ∙ get_or-map to_text a (if length a == 1 then 0 else p) is.Na

text-to_text : (c : Cell) → text (to_text c) ≡ text c
text-to_text is.Na = refl
text-to_text (is.Lgl b) = refl
text-to_text (is.Int n) = refl
text-to_text (is.Text t) = refl

-- the test of two cells as texts
abbrev pub as_texts : (Ordering → Bool) → Cell → Cell → Outcome
as_texts test x y = tested test (order_of (slice_cmp nat_cmp) (text x) (text y))

pub left : (test : Ordering → Bool) (a b : List Cell)
    → over_cells (as_texts test) (map to_text a) b ≡ over_cells (as_texts test) a b
left test a b = same_over (as_texts test) (map to_text a) b a b (length-map a to_text) refl
    (λ p. ap (λ x. as_texts test x (cell_for b p)) (cell_for-texts a p)
    ∙ ap (λ t. tested test (order_of (slice_cmp nat_cmp) t (text (cell_for b p)))) (text-to_text (cell_for a p)))

pub right : (test : Ordering → Bool) (a b : List Cell)
    → over_cells (as_texts test) a (map to_text b) ≡ over_cells (as_texts test) a b
right test a b = same_over (as_texts test) a (map to_text b) a b refl (length-map b to_text)
    (λ p. ap (λ x. as_texts test (cell_for a p) x) (cell_for-texts b p)
    ∙ ap (λ t. tested test (order_of (slice_cmp nat_cmp) (text (cell_for a p)) t)) (text-to_text (cell_for b p)))
