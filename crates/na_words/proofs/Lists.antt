-- Lists of words and the cells that they stand for.
use Rattle.std.proofs.Common.{◌≡◌, ◌<◌, ◌∙◌, ℕ, List, map, length, get_or, ap, sym, arith}
use Rattle.std.proofs.lemmas.List.{get_or-map, length-map}
use Rattle.dt_base.specs.declared.cell.Cell.{Cell}
use Rattle.dt_base.specs.declared.cell.Cell.TheVariants.{Na}
use Rattle.dt_model.specs.Vector.{cell_at}

-- two lists that give the same cells are as long
pub as_long : {W X : Type 0} (c : W → Cell) (t : X → Cell) (k : Cell → Cell) (ws : List W) (xs : List X)
    → map c ws ≡ map k (map t xs) → length ws ≡ length xs
as_long c t k ws xs same = sym (length-map ws c) ∙ ap length same ∙ length-map (map t xs) k ∙ length-map xs t

-- two lists that give the same cells give the same cell at a place
pub paired : {W X : Type 0} (c : W → Cell) (t : X → Cell) (k : Cell → Cell) (ws : List W) (xs : List X) (p : ℕ)
    (w : W) (x : X) →
    map c ws ≡ map k (map t xs) → p < length xs → w ≡ get_or ws p w → x ≡ get_or xs p x → c w ≡ k (t x)
paired c t k ws xs p w x same lt there here =
    let long : length ws ≡ length xs = as_long c t k ws xs same in
    let lt' : p < length ws = omega arith in
    ap c there ∙ sym (get_or-map c ws p w Na lt') ∙ ap (λ l. get_or l p Na) same
    ∙ get_or-map k (map t xs) p (t x) Na (omega (arith, length-map xs t)) ∙ ap k (get_or-map t xs p x (t x) lt)
    ∙ ap (λ y. k (t y)) (sym here)

-- the cell at a place is that of the word there
pub cell_at-map : {X : Type 0} (t : X → Cell) (xs : List X) (p : ℕ) (x : X) → p < length xs → x ≡ get_or xs p x
    → cell_at (map t xs) p ≡ t x
cell_at-map t xs p x lt here = get_or-map t xs p x Na lt ∙ ap t (sym here)
