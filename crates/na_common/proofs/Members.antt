-- A look-up of words is one of the cells that they stand for.
use Rattle.std.proofs.Common.{◌≡◌, ◌<◌, ◌+◌, ◌++◌, ◌∙◌, ◌||◌, ap, sym, ℕ, Bool, List, [], ◌∷◌, length, map, take}
use Rattle.std.proofs.Common.{get_or, All, refl, arith}
use Rattle.std.specs.List.{list_any}
use Rattle.std.specs.Set.{is_member}
use Rattle.std.proofs.lemmas.List.{map-append, map_more}
use Rattle.std.proofs.lemmas.List.Elements.{All-tail}
use Rattle.dt_base.specs.declared.cell.Cell.{Cell}
use Rattle.dt_model.specs.Operations.{same_cell}

-- a word is among others where its cell is among theirs
pub is_member-cells : {W : Type 0} (eq : W → W → Bool) (cell : W → Cell) (fine : W → Type 0)
    → ((x y : W) → fine x → fine y → eq x y ≡ same_cell (cell x) (cell y)) →
    (q : W) → fine q → (words : List W) → All fine words
    → is_member eq words q ≡ list_any (same_cell (cell q)) (map cell words)
is_member-cells eq cell fine same q h [] a = refl
is_member-cells eq cell fine same q h (w ∷ words) a =
    ap (λ b. b || is_member eq words q) (same q w h (a 0 w (omega arith)))
    ∙ ap (λ b. same_cell (cell q) (cell w) || b) (is_member-cells eq cell fine same q h words (All-tail fine w words a))

-- a loop's step: one more word for one more word
pub word_for_word : {X W : Type 0} (t : X → Cell) (g : Cell → Cell) (cell : W → Cell) (xs : List X) (i : ℕ) (x : X)
    (items new : List W) (w : W) →
    i < length xs → x ≡ get_or xs i x → map cell items ≡ map g (map t (take i xs)) → cell w ≡ g (t x)
    → new ≡ items ++ w ∷ [] →
    map cell new ≡ map g (map t (take (i + 1) xs))
word_for_word t g cell xs i x items new w lt there before here pushed =
    ap (map cell) pushed ∙ map-append cell items (w ∷ [])
    ∙ ap (λ cs. cs ++ cell w ∷ []) before ∙ ap (λ c. map g (map t (take i xs)) ++ c ∷ []) here
    ∙ sym (ap (map g) (map_more t xs i x lt ∙ ap (λ y. map t (take i xs) ++ t y ∷ []) (sym there))
    ∙ map-append g (map t (take i xs)) (t x ∷ []))
