-- Columns that go, taken out from the last one on.
use Rattle.std.proofs.Common.{◌≡◌, ◌+◌, ◌<◌, ◌≤◌, ℕ, suc, true, false, List, [], ◌∷◌, ◌++◌, length, get_or, take}
use Rattle.std.proofs.Common.{drop, remove, arith, refl, sym, ap, ◌∙◌, append_assoc, length-append}
use Rattle.std.proofs.lemmas.Bool.Decides.{nat_tests}
use Rattle.std.proofs.lemmas.List.{drop_more, take_more, get_or_default, get_or-take, length-take, length-take-le}
use Rattle.std.proofs.lemmas.List.{take-append-drop, take_at, drop_at, drop_all}
use Rattle.na_vector.specs.Frame.{rows_with}
use Rattle.dt_table.specs.Change.{PartSeen, goes, kept}
use Rattle.dt_table.specs.Parts.{columns_left_from}

-- what stands from place c on, one place more
left_behind : {X : Type 0} (parts : List PartSeen) (c w : ℕ) (xs : List X) (x : X) → c < w → w ≤ length xs → x
    ≡ get_or xs c x → drop c (take w xs) ≡ x ∷ drop (c + 1) (take w xs)
left_behind {X = X} parts c w xs x lt le at =
    let long : length (take w xs) ≡ w = length-take-le w xs le in
    drop_more (take w xs) c x (omega arith) ∙ ap (λ (e : X). e ∷ drop (c + 1) (take w xs))
    (get_or-take w xs c x lt ∙ sym at)

-- the columns as they stand before place c is looked at
before : {X : Type 0} (parts : List PartSeen) (c w : ℕ) (xs : List X) (x : X) → c < w → w ≤ length xs → x
    ≡ get_or xs c x → columns_left_from parts (c + 1) w xs ≡ take c xs ++ x ∷
    (kept parts (c + 1) (drop (c + 1) (take w xs)) ++ drop w xs)
before {X = X} parts c w xs x lt le at =
    let rest = kept parts (c + 1) (drop (c + 1) (take w xs)) ++ drop w xs in
    let front : take (c + 1) xs ≡ take c xs ++ x ∷ [] = take_more xs c x (omega arith)
    ∙ ap (λ (e : X). take c xs ++ e ∷ []) (sym at) in
    ap (λ (l : List X). l ++ rest) front ∙ append_assoc (take c xs) (x ∷ []) rest

-- a column that stays
pub stays_here : {X : Type 0} (parts : List PartSeen) (c w : ℕ) (xs : List X) (x : X) → c < w → w ≤ length xs → x
    ≡ get_or xs c x → goes parts c ≡ false → columns_left_from parts (c + 1) w xs ≡ columns_left_from parts c w xs
stays_here {X = X} parts c w xs x lt le at e =
    let rest = drop (c + 1) (take w xs) in
    let here : kept parts c (drop c (take w xs)) ≡ x ∷ kept parts (c + 1) rest = ap (kept parts c)
    (left_behind parts c w xs x lt le at) ∙ rw e refl in
    before parts c w xs x lt le at ∙ ap (λ (l : List X). take c xs ++ (l ++ drop w xs)) (sym here)

-- a column that goes
pub goes_here : {X : Type 0} (parts : List PartSeen) (c w : ℕ) (xs now : List X) (x : X) → c < w → w ≤ length xs → x
    ≡ get_or xs c x → goes parts c ≡ true → now ≡ columns_left_from parts (c + 1) w xs → remove now c
    ≡ columns_left_from parts c w xs
goes_here {X = X} parts c w xs now x lt le at e is =
    let rest = kept parts (c + 1) (drop (c + 1) (take w xs)) ++ drop w xs in
    let here : kept parts c (drop c (take w xs)) ≡ kept parts (c + 1) (drop (c + 1) (take w xs)) = ap (kept parts c)
    (left_behind parts c w xs x lt le at) ∙ rw e refl in
    let was : now ≡ take c xs ++ x ∷ rest = is ∙ before parts c w xs x lt le at in
    let long : length (take c xs) ≡ c = length-take-le c xs (omega arith) in
    let one : length (take c xs ++ x ∷ []) ≡ suc c = length-append (take c xs) (x ∷ []) ∙ omega arith in
    let front : take c now ≡ take c xs = ap (take c) was ∙ take_at (take c xs) (x ∷ rest) c long in
    let behind : drop (suc c) now ≡ rest = ap (drop (suc c)) (was ∙ sym (append_assoc (take c xs) (x ∷ []) rest))
    ∙ drop_at (take c xs ++ x ∷ []) rest (suc c) one in
    ap (λ (l : List X). l ++ drop (suc c) now) front ∙ (ap (λ (l : List X). take c xs ++ l) behind
    ∙ ap (λ (l : List X). take c xs ++ (l ++ drop w xs)) (sym here))

-- before any place is looked at
pub all_left : {X : Type 0} (parts : List PartSeen) (w : ℕ) (xs : List X) → xs ≡ columns_left_from parts w w xs
all_left {X = X} parts w xs =
    let none : drop w (take w xs) ≡ [] = drop_all w (take w xs) (omega (arith, length-take {A = X})) in
    sym (take-append-drop w xs) ∙ ap (λ (l : List X). take w xs ++ (kept parts w l ++ drop w xs)) (sym none)

-- place d is looked at: its column stays
pub stays_down : {X : Type 0} (parts : List PartSeen) (c d w : ℕ) (xs now : List X) (e : X) → c ≡ d + 1 → c ≤ w
    → w ≤ length xs → goes parts d ≡ false → now ≡ columns_left_from parts c w xs → now ≡ columns_left_from parts d w xs
stays_down {X = X} parts c d w xs now e next lt le not is =
    let at : get_or xs d e ≡ get_or xs d (get_or xs d e) = get_or_default xs d e (get_or xs d e) (omega arith) in
    is ∙ (ap (λ (n : ℕ). columns_left_from parts n w xs) next
    ∙ stays_here parts d w xs (get_or xs d e) (omega arith) le at not)

-- it goes
pub goes_down : {X : Type 0} (parts : List PartSeen) (c d w : ℕ) (xs now new : List X) (e : X) → c ≡ d + 1 → c ≤ w
    → w ≤ length xs → goes parts d ≡ true → now ≡ columns_left_from parts c w xs → new ≡ remove now d → new
    ≡ columns_left_from parts d w xs
goes_down {X = X} parts c d w xs now new e next lt le out is removed =
    let at : get_or xs d e ≡ get_or xs d (get_or xs d e) = get_or_default xs d e (get_or xs d e) (omega arith) in
    removed ∙ goes_here parts d w xs now (get_or xs d e) (omega arith) le at out
    (is ∙ ap (λ (n : ℕ). columns_left_from parts n w xs) next)

-- the place is one of what is left
pub within_left : {X : Type 0} (parts : List PartSeen) (c d w : ℕ) (xs now : List X) → c ≡ d + 1 → c ≤ w
    → w ≤ length xs → now ≡ columns_left_from parts c w xs → d < length now
within_left {X = X} parts c d w xs now next lt le is =
    let long : length (take c xs) ≡ c = length-take-le c xs (omega arith) in
    let count : length now ≡ length (take c xs ++ (kept parts c (drop c (take w xs)) ++ drop w xs)) = ap length is in
    omega (arith, length-append (take c xs) (kept parts c (drop c (take w xs)) ++ drop w xs))

-- a frame has no rows without columns
pub rows_with_again : (m n r : ℕ) → n ≤ m → rows_with n (rows_with m r) ≡ rows_with n r
rows_with_again m n r le = grind (arith, nat_tests)
