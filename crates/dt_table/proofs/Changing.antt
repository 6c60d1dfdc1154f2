-- What all parts of a change make of the columns.
use Rattle.std.proofs.Common.{◌≡◌, ◌+◌, ◌<◌, ◌≤◌, ◌==◌, ℕ, zero, suc, false, List, [], ◌∷◌, ◌++◌, All, length, map}
use Rattle.std.proofs.Common.{get_or, set, take, drop, None, Some, Option, arith, refl, sym, ap, ◌∙◌, append_assoc}
use Rattle.std.proofs.Common.{length-append, inl, inr}
use Rattle.std.specs.List.{AllByRecursion, IsDistinct}
use Rattle.std.proofs.lemmas.Bool.{cases_Bool, eqb-false, eqb-true, ne_eqb}
use Rattle.std.proofs.lemmas.List.{append-nil, get_or-set_same, get_or-set_other, drop-map, get_or_default}
use Rattle.std.proofs.lemmas.List.{length-map, length-set, map-append, same_lists, set-get_or, take-map, take_at}
use Rattle.std.proofs.lemmas.List.{drop_at}
use Rattle.std.proofs.lemmas.Map.Keys.{IsDistinct-head, IsDistinct-tail}
use Rattle.std.proofs.lemmas.List.Elements.{recursion_from_All}
use Rattle.dt_model.specs.Vector.{Vector}
use Rattle.na_vector.specs.Column.{Seen}
use Rattle.na_vector.specs.Frame.{vectors_of}
use Rattle.dt_table.specs.Change.{PartSeen, Replace, Write, Add, Delete, added_names, added_vectors, changed}
use Rattle.dt_table.specs.Change.{changed_from, cols_of, goes, is_delete, is_of, kept, names_changed, part_at}
use Rattle.dt_table.specs.Change.{vectors_changed}
use Rattle.dt_table.specs.Parts.{columns_left, left, put_all, vector_at}

-- ---- The part of a column

flip_false : (a b : ℕ) → (a == b) ≡ false → (b == a) ≡ false
flip_false a b e = ne_eqb b a (λ (h : b ≡ a). eqb-false a b e (sym h))

-- a column that no part names has none
pub none_at : (d : ℕ) (ps : List PartSeen) → AllByRecursion (λ y. (d == y) ≡ false) (cols_of ps) → part_at d ps ≡ None
none_at d [] h = refl
none_at d (Replace c with ∷ ps) h = rw (flip_false d c h.0) (none_at d ps h.1)
none_at d (Write c at cells ∷ ps) h = rw (flip_false d c h.0) (none_at d ps h.1)
none_at d (Add name with ∷ ps) h = none_at d ps h
none_at d (Delete c ∷ ps) h = rw (flip_false d c h.0) (none_at d ps h.1)

-- so has one that is past the table's
pub none_past : (w d : ℕ) (ps : List PartSeen) → w ≤ d → AllByRecursion (λ y. y < w) (cols_of ps) → part_at d ps ≡ None
none_past w d [] le h = refl
none_past w d (Replace c with ∷ ps) le h = rw (ne_eqb c d (λ (e : c ≡ d).
    (let lt : c < w = h.0 in absurd (omega arith)))) (none_past w d ps le h.1)
none_past w d (Write c at cells ∷ ps) le h = rw (ne_eqb c d
    (λ (e : c ≡ d). (let lt : c < w = h.0 in absurd (omega arith)))) (none_past w d ps le h.1)
none_past w d (Add name with ∷ ps) le h = none_past w d ps le h
none_past w d (Delete c ∷ ps) le h = rw (ne_eqb c d (λ (e : c ≡ d). (let lt : c < w = h.0 in absurd (omega arith))))
    (none_past w d ps le h.1)

-- ---- Columns as their parts make them

pub changed_length : (ps : List PartSeen) (c : ℕ) (vs : List Vector) → length (changed_from ps c vs) ≡ length vs
changed_length ps c [] = refl
changed_length ps c (v ∷ vs) = ap suc (changed_length ps (c + 1) vs)

pub changed_at : (ps : List PartSeen) (c i : ℕ) (vs : List Vector) (d : Vector) → i < length vs
    → get_or (changed_from ps c vs) i d ≡ changed (part_at (c + i) ps) (get_or vs i d)
changed_at ps c i [] d lt = absurd (omega arith)
changed_at ps c zero (v ∷ vs) d lt = (let e : c ≡ c + 0 = omega arith in ap (λ (n : ℕ). changed (part_at n ps) v) e)
changed_at ps c (suc i) (v ∷ vs) d lt = (let e : (c + 1) + i
    ≡ c + suc i = omega arith in changed_at ps (c + 1) i vs d (omega arith)
    ∙ ap (λ (n : ℕ). changed (part_at n ps) (get_or vs i d)) e)

pub changed_append : (ps : List PartSeen) (c : ℕ) (vs ws : List Vector) → changed_from ps c (vs ++ ws)
    ≡ changed_from ps c vs ++ changed_from ps (c + length vs) ws
changed_append ps c [] ws = (let e : c ≡ c + 0 = omega arith in ap (λ (n : ℕ). changed_from ps n ws) e)
changed_append ps c (v ∷ vs) ws =
    (let e : (c + 1) + length vs ≡ c + suc (length vs) = omega arith in
    ap (λ (l : List Vector). changed (part_at c ps) v ∷ l) (changed_append ps (c + 1) vs ws
    ∙ ap (λ (n : ℕ). changed_from ps (c + 1) vs ++ changed_from ps n ws) e))

-- no part changes nothing
changed_none : (c : ℕ) (vs : List Vector) → changed_from [] c vs ≡ vs
changed_none c [] = refl
changed_none c (v ∷ vs) = ap (λ (l : List Vector). v ∷ l) (changed_none (c + 1) vs)

-- a new column changes none
changed_add : (name : List ℕ) (with : Vector) (ps : List PartSeen) (c : ℕ) (vs : List Vector)
    → changed_from (Add name with ∷ ps) c vs ≡ changed_from ps c vs
changed_add name with ps c [] = refl
changed_add name with ps c (v ∷ vs) = ap (λ (l : List Vector). changed (part_at c ps) v ∷ l)
    (changed_add name with ps (c + 1) vs)

pub changed_here : (ps : List PartSeen) (i : ℕ) (vs : List Vector) (d : Vector) → i < length vs
    → get_or (changed_from ps 0 vs) i d ≡ changed (part_at i ps) (get_or vs i d)
changed_here ps i vs d lt = (let e : 0 + i ≡ i = omega arith in changed_at ps 0 i vs d lt
    ∙ ap (λ (n : ℕ). changed (part_at n ps) (get_or vs i d)) e)

-- a place of the columns, before and after the first part
at_place : (p : PartSeen) (c i : ℕ) (ps : List PartSeen) (vs : List Vector) (w d : Vector) → c < length vs
    → i < length vs → is_of i p ≡ (c == i) → part_at c ps ≡ None → changed (Some p) (vector_at vs c) ≡ w
    → changed (part_at i ps) (get_or (set vs c w) i d) ≡ changed (part_at i (p ∷ ps)) (get_or vs i d)
at_place p c i ps vs w d lc li of none is =
    elim (cases_Bool (c == i)) [
      | inl hit ↦ (let same : c ≡ i = eqb-true c i hit in
          let first : part_at i (p ∷ ps) ≡ Some p = rw (of, hit) refl in
          let left : changed (part_at i ps) (get_or (set vs c w) i d)
          ≡ w = ap (λ (n : ℕ). changed (part_at n ps) (get_or (set vs c w) n d)) (sym same)
          ∙ (ap (λ (o : Option PartSeen). changed o (get_or (set vs c w) c d)) none ∙ get_or-set_same vs c w d lc)
          in
          let right : changed (part_at i (p ∷ ps)) (get_or vs i d)
          ≡ w = ap (λ (o : Option PartSeen). changed o (get_or vs i d)) first
          ∙ (ap (λ (n : ℕ). changed (Some p) (get_or vs n d)) (sym same)
          ∙ (ap (changed (Some p)) (get_or_default vs c d _ lc) ∙ is)) in
          left ∙ sym right)
      | inr miss ↦ (let rest : part_at i (p ∷ ps) ≡ part_at i ps = rw (of, miss) refl in
          ap (changed (part_at i ps)) (get_or-set_other vs c i w d (λ (e : i ≡ c). eqb-false c i miss (sym e)))
          ∙ ap (λ (o : Option PartSeen). changed o (get_or vs i d)) (sym rest))
    ]

-- the first part has changed its column already
changed_first : (p : PartSeen) (c : ℕ) (ps : List PartSeen) (vs : List Vector) (w : Vector) → c < length vs
    → ((i : ℕ) → is_of i p ≡ (c == i)) → part_at c ps ≡ None → changed (Some p) (vector_at vs c) ≡ w
    → changed_from ps 0 (set vs c w) ≡ changed_from (p ∷ ps) 0 vs
changed_first p c ps vs w lt of none is =
    same_lists _ _ (changed_length ps 0 (set vs c w) ∙ (length-set vs c w ∙ sym (changed_length (p ∷ ps) 0 vs)))
    (λ i d li.
    let here : i < length (set vs c w) = rw (sym (changed_length ps 0 (set vs c w))) li in
    let there : i < length vs = rw (sym (length-set vs c w)) here in
    changed_here ps i (set vs c w) d here ∙ (at_place p c i ps vs w d lt there (of i) none is
    ∙ sym (changed_here (p ∷ ps) i vs d there)))

set_same : (vs : List Vector) (c : ℕ) → set vs c (vector_at vs c) ≡ vs
set_same vs c = set-get_or vs c _

-- all parts, one after another, make of each column what its own part makes of it, and add the others
pub put_all_is : (ps : List PartSeen) (vs : List Vector) → AllByRecursion (λ y. y < length vs) (cols_of ps)
    → IsDistinct (λ (a b : ℕ). a == b) (cols_of ps) → put_all ps vs ≡ changed_from ps 0 vs ++ added_vectors ps
put_all_is [] vs h once = sym (append-nil (changed_from [] 0 vs) ∙ changed_none 0 vs)
put_all_is (Replace c with ∷ ps) vs h once =
    let none : part_at c ps ≡ None = none_at c ps (IsDistinct-head (λ (a b : ℕ). a == b) c (cols_of ps) once) in
    put_all_is ps (set vs c with) (rw (length-set vs c with) h.1)
    (IsDistinct-tail (λ (a b : ℕ). a == b) c (cols_of ps) once)
    ∙ ap (λ (l : List Vector). l ++ added_vectors ps) (changed_first (Replace c with) c ps vs with h.0 (λ i. refl)
    none refl)
put_all_is (Write c at cells ∷ ps) vs h once =
    let none : part_at c ps ≡ None = none_at c ps (IsDistinct-head (λ (a b : ℕ). a == b) c (cols_of ps) once) in
    let w : Vector = changed (Some (Write c at cells)) (vector_at vs c) in
    put_all_is ps (set vs c w) (rw (length-set vs c w) h.1) (IsDistinct-tail (λ (a b : ℕ). a == b) c (cols_of ps) once)
    ∙ ap (λ (l : List Vector). l ++ added_vectors ps) (changed_first (Write c at cells) c ps vs w h.0 (λ i. refl) none
    refl)
put_all_is (Add name with ∷ ps) vs h once =
    let none : part_at (0 + length vs) ps ≡ None = none_past (length vs) (0 + length vs) ps (omega arith) h in
    put_all_is ps (vs ++ with ∷ []) (longer ps (length vs) (length (vs ++ with ∷ []))
    (omega (arith, length-append {A = Vector})) h) once
    ∙ (ap (λ (l : List Vector). l ++ added_vectors ps) (changed_append ps 0 vs (with ∷ [])
    ∙ ap (λ (o : Option PartSeen). changed_from ps 0 vs ++ changed o with ∷ []) none)
    ∙ (append_assoc (changed_from ps 0 vs) (with ∷ []) (added_vectors ps)
    ∙ ap (λ (l : List Vector). l ++ with ∷ added_vectors ps) (sym (changed_add name with ps 0 vs))))
  where
    longer : (qs : List PartSeen) (m n : ℕ) → m ≤ n → AllByRecursion (λ y. y < m) (cols_of qs)
        → AllByRecursion (λ y. y < n) (cols_of qs)
    longer qs m n le k = weaker (cols_of qs) m n le k
      where
        weaker : (cs : List ℕ) (m n : ℕ) → m ≤ n → AllByRecursion (λ y. y < m) cs → AllByRecursion (λ y. y < n) cs
        weaker [] m n le k = tt
        weaker (c ∷ cs) m n le k = ((let lt : c < m = k.0 in omega arith), weaker cs m n le k.1)
put_all_is (Delete c ∷ ps) vs h once =
    let none : part_at c ps ≡ None = none_at c ps (IsDistinct-head (λ (a b : ℕ). a == b) c (cols_of ps) once) in
    put_all_is ps vs h.1 (IsDistinct-tail (λ (a b : ℕ). a == b) c (cols_of ps) once)
    ∙ ap (λ (l : List Vector). l ++ added_vectors ps) (ap (changed_from ps 0) (sym (set_same vs c))
    ∙ changed_first (Delete c) c ps vs (vector_at vs c) h.0 (λ i. refl) none refl)

-- ---- What is left of the parts

-- a part that is made names no column of the table any more
goes_made : (w c d : ℕ) (p : PartSeen) (ps : List PartSeen) → c < w → is_of c p ≡ (d == c) → left w p ≡ Delete w
    → is_delete (Some p) ≡ false → part_at d ps ≡ None → goes (map (left w) ps) c ≡ goes ps c
    → goes (map (left w) (p ∷ ps)) c ≡ goes (p ∷ ps) c
goes_made w c d p ps lt of l not none so =
    let past : (w == c) ≡ false = ne_eqb w c (λ (e : w ≡ c). absurd (omega arith)) in
    let now : goes (map (left w) (p ∷ ps)) c ≡ goes (map (left w) ps) c = rw (l, past) refl in
    now ∙ (so ∙ elim (cases_Bool (d == c)) [
      | inl hit ↦ (let same : d ≡ c = eqb-true d c hit in
          let here : goes (p ∷ ps) c ≡ false = rw (of, hit) not in
          let there : goes ps c ≡ false = ap (λ (n : ℕ). goes ps n) (sym same) ∙ rw none refl in
          there ∙ sym here)
      | inr miss ↦ (let here : goes (p ∷ ps) c ≡ goes ps c = rw (of, miss) refl in sym here)
    ])

-- once the parts are made, the same columns go
pub goes_left : (w c : ℕ) (ps : List PartSeen) → c < w → IsDistinct (λ (a b : ℕ). a == b) (cols_of ps)
    → goes (map (left w) ps) c ≡ goes ps c
goes_left w c [] lt once = refl
goes_left w c (Replace d with ∷ ps) lt once = goes_made w c d (Replace d with) ps lt refl refl refl
    (none_at d ps (IsDistinct-head (λ (a b : ℕ). a == b) d (cols_of ps) once))
    (goes_left w c ps lt (IsDistinct-tail (λ (a b : ℕ). a == b) d (cols_of ps) once))
goes_left w c (Write d at cells ∷ ps) lt once = goes_made w c d (Write d at cells) ps lt refl refl refl
    (none_at d ps (IsDistinct-head (λ (a b : ℕ). a == b) d (cols_of ps) once))
    (goes_left w c ps lt (IsDistinct-tail (λ (a b : ℕ). a == b) d (cols_of ps) once))
goes_left w c (Add name with ∷ ps) lt once =
    let past : (w == c) ≡ false = ne_eqb w c (λ (e : w ≡ c). absurd (omega arith)) in
    rw past (goes_left w c ps lt once)
goes_left w c (Delete d ∷ ps) lt once =
    elim (cases_Bool (d == c)) [
      | inl hit ↦ rw hit refl
      | inr miss ↦ rw miss (goes_left w c ps lt (IsDistinct-tail (λ (a b : ℕ). a == b) d (cols_of ps) once))
    ]

-- ---- What stays

pub kept_same : {X : Type 0} (ps qs : List PartSeen) (c : ℕ) (xs : List X)
    → ((i : ℕ) → i < c + length xs → goes ps i ≡ goes qs i) → kept ps c xs ≡ kept qs c xs
kept_same ps qs c [] h = refl
kept_same {X = X} ps qs c (x ∷ xs) h =
    let next : kept ps (c + 1) xs ≡ kept qs (c + 1) xs = kept_same ps qs (c + 1) xs (λ i lt. h i (omega arith)) in
    rw (h c (omega arith), next) refl

pub kept_map : {X Y : Type 0} (f : X → Y) (ps : List PartSeen) (c : ℕ) (xs : List X) → map f (kept ps c xs)
    ≡ kept ps c (map f xs)
kept_map f ps c [] = refl
kept_map f ps c (x ∷ xs) = elim (cases_Bool (goes ps c)) [
  | inl hit ↦ rw hit (kept_map f ps (c + 1) xs)
  | inr miss ↦ rw
      miss (ap (λ l. f x ∷ l) (kept_map f ps (c + 1) xs))
]

pub kept_length : {X Y : Type 0} (ps : List PartSeen) (c : ℕ) (xs : List X) (ys : List Y) → length xs ≡ length ys
    → length (kept ps c xs) ≡ length (kept ps c ys)
kept_length ps c [] [] e = refl
kept_length ps c [] (y ∷ ys) e = absurd (omega arith)
kept_length ps c (x ∷ xs) [] e = absurd (omega arith)
kept_length ps c (x ∷ xs) (y ∷ ys) e =
    let rest : length (kept ps (c + 1) xs) ≡ length (kept ps (c + 1) ys) = kept_length ps (c + 1) xs ys (omega arith) in
    elim (cases_Bool (goes ps c)) [ inl hit ↦ rw hit rest | inr miss ↦ rw miss (ap suc rest) ]

-- the columns that stay of the old ones, and all new ones
pub left_is : {X : Type 0} (ps : List PartSeen) (old new : List X) → IsDistinct (λ (a b : ℕ). a == b) (cols_of ps)
    → columns_left (map (left (length old)) ps) (length old) (old ++ new) ≡ kept ps 0 old ++ new
left_is {X = X} ps old new once =
    let qs = map (left (length old)) ps in
    ap (λ (l : List X). kept qs 0 l ++ drop (length old) (old ++ new)) (take_at old new (length old) refl)
    ∙ (ap (λ (l : List X). kept qs 0 old ++ l) (drop_at old new (length old) refl)
    ∙ ap (λ (l : List X). l ++ new) (kept_same qs ps 0 old (λ i lt. goes_left (length old) i ps (omega arith) once)))

pub left_map : {X Y : Type 0} (f : X → Y) (ps : List PartSeen) (w : ℕ) (xs : List X) → map f (columns_left ps w xs)
    ≡ columns_left ps w (map f xs)
left_map {X = X} {Y = Y} f ps w xs =
    map-append f (kept ps 0 (take w xs)) (drop w xs)
    ∙ (ap (λ (l : List Y). l ++ map f (drop w xs)) (kept_map f ps 0 (take w xs)
    ∙ ap (kept ps 0) (sym (take-map f w xs)))
    ∙ ap (λ (l : List Y). kept ps 0 (take w (map f xs)) ++ l) (sym (drop-map f w xs)))

-- as many names are added as columns
pub added_length : (ps : List PartSeen) → length (added_names ps) ≡ length (added_vectors ps)
added_length [] = refl
added_length (Replace c with ∷ ps) = added_length ps
added_length (Write c at cells ∷ ps) = added_length ps
added_length (Add name with ∷ ps) = ap suc (added_length ps)
added_length (Delete c ∷ ps) = added_length ps

-- ---- A change, as its three steps make it

pub mid_vectors : (ps : List PartSeen) (names : List (List ℕ)) (cols mid : List Seen) → length names ≡ length cols
    → All (λ c. c < length names) (cols_of ps) → IsDistinct (λ (a b : ℕ). a == b) (cols_of ps) → vectors_of mid
    ≡ put_all ps (vectors_of cols) → vectors_of mid ≡ changed_from ps 0 (vectors_of cols) ++ added_vectors ps
mid_vectors ps names cols mid each range once v =
    let wide : length (vectors_of cols) ≡ length cols = length-map cols (λ (x : Seen). x.vector) in
    let within : AllByRecursion (λ y. y < length (vectors_of cols)) (cols_of ps) = rw (wide, ← each)
    (recursion_from_All (λ y. y < length names) (cols_of ps) range) in
    v ∙ put_all_is ps (vectors_of cols) within once

pub mid_length : (ps : List PartSeen) (names names_mid : List (List ℕ)) (cols mid : List Seen) → length names
    ≡ length cols → names_mid ≡ names ++ added_names ps → vectors_of mid
    ≡ changed_from ps 0 (vectors_of cols) ++ added_vectors ps → length names_mid ≡ length mid
mid_length ps names names_mid cols mid each n v =
    let wide : length (vectors_of cols) ≡ length cols = length-map cols (λ (x : Seen). x.vector) in
    let long : length (vectors_of mid) ≡ length mid = length-map mid (λ (x : Seen). x.vector) in
    let a : length names_mid ≡ length names + length (added_names ps) = ap length n
    ∙ length-append names (added_names ps) in
    let b : length (vectors_of mid) ≡ length (changed_from ps 0 (vectors_of cols)) + length (added_vectors ps) = ap
    length v ∙ length-append (changed_from ps 0 (vectors_of cols)) (added_vectors ps) in
    let d : length (changed_from ps 0 (vectors_of cols)) ≡ length (vectors_of cols) = changed_length ps 0
    (vectors_of cols) in
    let e : length (added_names ps) ≡ length (added_vectors ps) = added_length ps in
    omega arith

pub names_made : (ps gone : List PartSeen) (w : ℕ) (names mid new : List (List ℕ)) → w ≡ length names
    → IsDistinct (λ (a b : ℕ). a == b) (cols_of ps) → mid ≡ names ++ added_names ps → gone ≡ map (left w) ps → new
    ≡ columns_left gone w mid → new ≡ names_changed ps names
names_made ps gone w names mid new e once n l d =
    d ∙ (ap (λ (qs : List PartSeen). columns_left qs w mid) l
    ∙ (ap (columns_left (map (left w) ps) w) n ∙ (ap (λ (k : ℕ). columns_left (map (left k) ps) k
    (names ++ added_names ps)) e ∙ left_is ps names (added_names ps) once)))

pub vectors_made : (ps gone : List PartSeen) (w : ℕ) (cols mid new : List Seen) → w ≡ length cols
    → IsDistinct (λ (a b : ℕ). a == b) (cols_of ps) → vectors_of mid
    ≡ changed_from ps 0 (vectors_of cols) ++ added_vectors ps → gone ≡ map (left w) ps → new ≡ columns_left gone w mid
    → vectors_of new ≡ vectors_changed ps (vectors_of cols)
vectors_made ps gone w cols mid new e once v l d =
    let old : List Vector = changed_from ps 0 (vectors_of cols) in
    let wide : w ≡ length old = e ∙ sym (changed_length ps 0 (vectors_of cols)
    ∙ length-map cols (λ (x : Seen). x.vector)) in
    ap vectors_of d ∙ (left_map (λ (x : Seen). x.vector) gone w mid
    ∙ (ap (λ (qs : List PartSeen). columns_left qs w (vectors_of mid)) l
    ∙ (ap (columns_left (map (left w) ps) w) v ∙ (ap (λ (k : ℕ). columns_left (map (left k) ps) k
    (old ++ added_vectors ps)) wide ∙ left_is ps old (added_vectors ps) once))))

-- there are as many columns as names
pub made_length : (ps : List PartSeen) (names : List (List ℕ)) (cols new : List Seen) → length names ≡ length cols
    → vectors_of new ≡ vectors_changed ps (vectors_of cols) → length new ≡ length (names_changed ps names)
made_length ps names cols new each v =
    let wide : length (changed_from ps 0 (vectors_of cols)) ≡ length names = changed_length ps 0 (vectors_of cols)
    ∙ (length-map cols (λ (x : Seen). x.vector) ∙ sym each) in
    let long : length (vectors_of new) ≡ length new = length-map new (λ (x : Seen). x.vector) in
    let a : length (vectors_of new) ≡ length (kept ps 0 (changed_from ps 0 (vectors_of cols))) + length
    (added_vectors ps) = ap length v ∙ length-append (kept ps 0 (changed_from ps 0 (vectors_of cols)))
    (added_vectors ps) in
    let b : length (names_changed ps names) ≡ length (kept ps 0 names) + length (added_names ps) = length-append
    (kept ps 0 names) (added_names ps) in
    let d : length (kept ps 0 (changed_from ps 0 (vectors_of cols)))
    ≡ length (kept ps 0 names) = kept_length ps 0 (changed_from ps 0 (vectors_of cols)) names wide in
    let e : length (added_names ps) ≡ length (added_vectors ps) = added_length ps in
    omega arith
