-- A list that is made anew in its own place, from the front.
use Rattle.std.proofs.Common.{◌≡◌, ◌+◌, ◌<◌, ℕ, suc, Bool, true, false, List, [], ◌∷◌, ◌++◌, length, map, get_or, set}
use Rattle.std.proofs.Common.{take, drop, remove, append_assoc, arith, refl, sym, ap, ◌∙◌, subst}
use Rattle.std.specs.List.{list_any}
use Rattle.std.proofs.lemmas.List.{at_drop_more, drop-set-lt, take_more_set, take_at, drop_at, length-take-le}
use Rattle.std.proofs.lemmas.List.{append-nil, get_or_default}
use Rattle.dt_table.specs.Change.{PartSeen, indices_changed, is_named, key_changed, moved, stays_before}
use Rattle.dt_table.specs.Table.{IndexSeen}

-- the element at k has become y, which is what F makes of it
pub moved_on : {X : Type 0} (F : List X → List X) (xs total : List X) (k : ℕ) (x y : X) → k < length xs → x
    ≡ get_or xs k x → F (x ∷ drop (k + 1) xs) ≡ y ∷ F (drop (k + 1) xs) → take k xs ++ F (drop k xs) ≡ total
    → take (k + 1) (set xs k y) ++ F (drop (k + 1) (set xs k y)) ≡ total
moved_on {X = X} F xs total k x y lt at step so =
    let rest : F (drop k xs) ≡ y ∷ F (drop (k + 1) xs) = at_drop_more F xs k x lt
    ∙ (ap (λ (e : X). F (e ∷ drop (k + 1) xs)) (sym at) ∙ step) in
    let behind : drop (k + 1) (set xs k y) ≡ drop (k + 1) xs = drop-set-lt (k + 1) xs k y (omega arith) in
    let front : take (k + 1) (set xs k y) ≡ take k xs ++ y ∷ [] = take_more_set xs k y lt in
    ap (λ (l : List X). take (k + 1) (set xs k y) ++ F l) behind
    ∙ (ap (λ (l : List X). l ++ F (drop (k + 1) xs)) front
    ∙ (append_assoc (take k xs) (y ∷ []) (F (drop (k + 1) xs))
    ∙ (ap (λ (l : List X). take k xs ++ l) (sym rest) ∙ so)))

-- the element at k is taken out, and F makes nothing of it
pub left_out : {X : Type 0} (F : List X → List X) (xs now total : List X) (k : ℕ) (x : X) → k < length xs → x
    ≡ get_or xs k x → now ≡ remove xs k → F (x ∷ drop (k + 1) xs) ≡ F (drop (k + 1) xs) → take k xs ++ F (drop k xs)
    ≡ total → take k now ++ F (drop k now) ≡ total
left_out {X = X} F xs now total k x lt at gone step so =
    let rest : F (drop k xs) ≡ F (drop (k + 1) xs) = at_drop_more F xs k x lt
    ∙ (ap (λ (e : X). F (e ∷ drop (k + 1) xs)) (sym at) ∙ step) in
    let long : length (take k xs) ≡ k = length-take-le k xs (omega arith) in
    let next : suc k ≡ k + 1 = omega arith in
    let front : take k now ≡ take k xs = ap (take k) gone ∙ take_at (take k xs) (drop (suc k) xs) k long in
    let behind : drop k now ≡ drop (k + 1) xs = ap (drop k) gone
    ∙ (drop_at (take k xs) (drop (suc k) xs) k long ∙ ap (λ (n : ℕ). drop n xs) next) in
    ap (λ (l : List X). l ++ F (drop k now)) front
    ∙ (ap (λ (l : List X). take k xs ++ F l) behind
    ∙ (ap (λ (l : List X). take k xs ++ l) (sym rest) ∙ so))

-- F makes nothing of what is left
pub done_at : {X : Type 0} (F : List X → List X) (xs total : List X) (k : ℕ) → F (drop k xs) ≡ []
    → take k xs ++ F (drop k xs) ≡ total → take k xs ≡ total
done_at {X = X} F xs total k none so = sym (append-nil (take k xs))
    ∙ (ap (λ (l : List X). take k xs ++ l) (sym none) ∙ so)

-- ---- Keys

pub key_on : (parts : List PartSeen) (c : ℕ) (key : List ℕ) → is_named parts c ≡ false → key_changed parts (c ∷ key)
    ≡ stays_before parts c ∷ key_changed parts key
key_on parts c key e = rw e refl

pub key_off : (parts : List PartSeen) (c : ℕ) (key : List ℕ) → is_named parts c ≡ true → key_changed parts (c ∷ key)
    ≡ []
key_off parts c key e = rw e refl

-- the key ends before a column that is named
pub key_stops : (parts : List PartSeen) (key : List ℕ) (k c : ℕ) → k < length key → c ≡ get_or key k c
    → is_named parts c ≡ true → key_changed parts (drop k key) ≡ []
key_stops parts key k c lt at e = at_drop_more (key_changed parts) key k c lt
    ∙ (ap (λ (x : ℕ). key_changed parts (x ∷ drop (k + 1) key)) (sym at) ∙ key_off parts c (drop (k + 1) key) e)

-- ---- Indices

pub index_on : (parts : List PartSeen) (x : IndexSeen) (xs : List IndexSeen) → list_any (is_named parts) x.cols
    ≡ false → indices_changed parts (x ∷ xs) ≡ moved parts x ∷ indices_changed parts xs
index_on parts x xs e = rw e refl

pub index_off : (parts : List PartSeen) (x : IndexSeen) (xs : List IndexSeen) → list_any (is_named parts) x.cols
    ≡ true → indices_changed parts (x ∷ xs) ≡ indices_changed parts xs
index_off parts x xs e = rw e refl

-- what is read at one place twice is one
pub one_read : {X : Type 0} (xs : List X) (k : ℕ) (x y : X) → k < length xs → x ≡ get_or xs k x → y ≡ get_or xs k y
    → x ≡ y
one_read xs k x y lt a b = a ∙ (get_or_default xs k x y lt ∙ sym b)

-- an index whose columns are moved
pub index_moved : (parts : List PartSeen) (x : IndexSeen) (was now order : List ℕ)
    → record { cols = was; order = order } ≡ x → now ≡ map (stays_before parts) was → moved parts x
    ≡ record { cols = now; order = order }
index_moved parts x was now order e f = subst (λ (i : IndexSeen). moved parts i
    ≡ record { cols = now; order = order }) e (ap (λ (l : List ℕ). record { cols = l; order = order }) (sym f))

-- whether a part names a column of the index that is read
pub touched_read : (parts : List PartSeen) (x : IndexSeen) (cols order read : List ℕ) (b : Bool)
    → record { cols = cols; order = order } ≡ x → read ≡ cols → b ≡ list_any (is_named parts) read
    → list_any (is_named parts) x.cols ≡ b
touched_read parts x cols order read b e r h = ap (λ (i : IndexSeen). list_any (is_named parts) i.cols) (sym e)
    ∙ (ap (list_any (is_named parts)) (sym r) ∙ sym h)
