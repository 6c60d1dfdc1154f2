-- Cells that are written one after another.
use Rattle.std.proofs.Common.{◌≡◌, ◌+◌, ◌<◌, ℕ, List, [], ◌∷◌, All, length, get_or, set, drop, arith, refl, sym, ap}
use Rattle.std.proofs.Common.{◌∙◌, subst}
use Rattle.std.proofs.lemmas.List.{at_drop_more, drop_more, get_or-drop, length-set, set-set}
use Rattle.std.proofs.lemmas.List.Elements.{All-get_or}
use Rattle.dt_base.specs.declared.cell.Cell.{Cell}
use Rattle.dt_base.specs.declared.cell.ColType.{ColType}
use Rattle.dt_base.specs.Cell.{IsOfType}
use Rattle.na_vector.specs.Column.{Seen}
use Rattle.na_vector.specs.Words.{text_count}
use Rattle.dt_table.specs.Change.{texts_in}
use Rattle.dt_table.specs.Table.{put_in_order}

-- lists that are one from place k on have one element there
pub same_at : {X : Type 0} (xs ys : List X) (k : ℕ) (d : X) → drop k xs ≡ drop k ys → get_or xs k d ≡ get_or ys k d
same_at {X = X} xs ys k d e =
    let here : k + 0 ≡ k = omega arith in
    let left : get_or (drop k xs) 0 d ≡ get_or xs (k + 0) d = get_or-drop k xs 0 d in
    let right : get_or (drop k ys) 0 d ≡ get_or ys (k + 0) d = get_or-drop k ys 0 d in
    subst (λ (n : ℕ). get_or xs n d ≡ get_or ys n d) here (sym left ∙ (ap (λ (l : List X). get_or l 0 d) e ∙ right))

-- the same from the next place on
pub same_past : {X : Type 0} (xs ys : List X) (k : ℕ) (d : X) → k < length xs → k < length ys → drop k xs ≡ drop k ys
    → drop (k + 1) xs ≡ drop (k + 1) ys
same_past {X = X} xs ys k d lx ly e =
    let both : get_or xs k d ∷ drop (k + 1) xs ≡ get_or ys k d ∷ drop (k + 1) ys = sym (drop_more xs k d lx)
    ∙ (e ∙ drop_more ys k d ly) in
    cc

-- the cell at place k of those that are left is as it was
pub left_typed : (kind : ColType) (now cells : List Cell) (k : ℕ) (v : Cell) → k < length cells → drop k now
    ≡ drop k cells → v ≡ get_or now k v → All (IsOfType kind) cells → IsOfType kind v
left_typed kind now cells k v lt e at h = subst (IsOfType kind) (sym (at ∙ same_at now cells k v e))
    (All-get_or (IsOfType kind) cells k v lt h)

-- one more value put
pub put_more : {X : Type 0} (at : List ℕ) (values old new total : List X) (k : ℕ) (v : X) → k < length at
    → k < length values → v ≡ get_or values k v → new ≡ set old (get_or at k 0) v
    → put_in_order (drop k at) (drop k values) old ≡ total → put_in_order (drop (k + 1) at) (drop (k + 1) values) new
    ≡ total
put_more {X = X} at values old new total k v la lc here e so =
    let rows : drop k at ≡ get_or at k 0 ∷ drop (k + 1) at = drop_more at k 0 la in
    let rest : drop k values ≡ v ∷ drop (k + 1) values = drop_more values k v lc
    ∙ ap (λ (c : X). c ∷ drop (k + 1) values) (sym here) in
    let step : put_in_order (get_or at k 0 ∷ drop (k + 1) at) (v ∷ drop (k + 1) values) old
    ≡ total = subst (λ (l : List ℕ). put_in_order l (v ∷ drop (k + 1) values) old ≡ total) rows
    (subst (λ (l : List X). put_in_order (drop k at) l old ≡ total) rest so) in
    subst (λ (l : List X). put_in_order (drop (k + 1) at) (drop (k + 1) values) l ≡ total) (sym e) step

pub put_length : {X : Type 0} (at : List ℕ) (values all : List X) → length (put_in_order at values all) ≡ length all
put_length [] values all = refl
put_length (p ∷ at) [] all = refl
put_length (p ∷ at) (v ∷ values) all = put_length at values (set all p v) ∙ length-set all p v

-- the texts that are left after one more cell
pub texts_more : (cells : List Cell) (k : ℕ) (v : Cell) → k < length cells → v ≡ get_or cells k v
    → texts_in (drop k cells) ≡ text_count v + texts_in (drop (k + 1) cells)
texts_more cells k v lt at = at_drop_more texts_in cells k v lt
    ∙ ap (λ (c : Cell). text_count c + texts_in (drop (k + 1) cells)) (sym at)

-- a column that has become another twice
pub set_again : (old now new : List Seen) (c : ℕ) (a b : Seen) → now ≡ set old c a → new ≡ set now c b → new
    ≡ set old c b
set_again old now new c a b e f = f ∙ (ap (λ (l : List Seen). set l c b) e ∙ set-set old c a b)
