-- The parts of a change, made one after another.
use Rattle.std.proofs.Common.{◌≡◌, ◌+◌, ◌<◌, ◌≤◌, ◌==◌, ℕ, false, List, [], ◌∷◌, ◌++◌, All, length, map, set, take}
use Rattle.std.proofs.Common.{drop, arith, refl, sym, ap, ◌∙◌, subst, append_assoc, length-append}
use Rattle.std.specs.List.{AllByRecursion, IsDistinct}
use Rattle.std.proofs.lemmas.List.{drop_more, get_or_at, length-map, length-set, length-take-le, length-drop}
use Rattle.std.proofs.lemmas.List.{get_or_default}
use Rattle.std.proofs.lemmas.List.Edits.{map_over_more}
use Rattle.std.proofs.lemmas.List.Elements.{All-from_recursion, recursion_from_All}
use Rattle.std.proofs.lemmas.Map.Keys.{IsDistinct-head, IsDistinct-tail}
use Rattle.dt_model.specs.Vector.{Vector}
use Rattle.na_vector.specs.Column.{Seen}
use Rattle.na_vector.specs.Frame.{FrameSeen, column_at, vectors_of}
use Rattle.dt_table.specs.Change.{PartSeen, Replace, Write, Add, Delete, added_names, cols_of, is_of, written_cells}
use Rattle.dt_table.specs.Parts.{FitsNow, IsPut, left, part_in, put_one, put_all}

-- ---- A part and the rest

pub added_cons : (p : PartSeen) (rest : List PartSeen) → added_names (p ∷ rest)
    ≡ added_names (p ∷ []) ++ added_names rest
added_cons (Replace c with) rest = refl
added_cons (Write c at cells) rest = refl
added_cons (Add name with) rest = refl
added_cons (Delete c) rest = refl

pub written_cons : (p : PartSeen) (rest : List PartSeen) → written_cells (p ∷ rest)
    ≡ written_cells (p ∷ []) + written_cells rest
written_cons (Replace c with) rest = omega arith
written_cons (Write c at cells) rest = omega arith
written_cons (Add name with) rest = omega arith
written_cons (Delete c) rest = omega arith

all_false : (cols : List ℕ) → AllByRecursion (λ (y : ℕ). false ≡ false) cols
all_false [] = tt
all_false (c ∷ cols) = (refl, all_false cols)

-- no later part names the column of this one
pub others_of : (p : PartSeen) (rest : List PartSeen) → IsDistinct (λ (a b : ℕ). a == b) (cols_of (p ∷ rest))
    → AllByRecursion (λ y. is_of y p ≡ false) (cols_of rest)
others_of (Replace c with) rest h = IsDistinct-head (λ (a b : ℕ). a == b) c (cols_of rest) h
others_of (Write c at cells) rest h = IsDistinct-head (λ (a b : ℕ). a == b) c (cols_of rest) h
others_of (Add name with) rest h = all_false (cols_of rest)
others_of (Delete c) rest h = IsDistinct-head (λ (a b : ℕ). a == b) c (cols_of rest) h

pub once_past : (p : PartSeen) (rest : List PartSeen) → IsDistinct (λ (a b : ℕ). a == b) (cols_of (p ∷ rest))
    → IsDistinct (λ (a b : ℕ). a == b) (cols_of rest)
once_past (Replace c with) rest h = IsDistinct-tail (λ (a b : ℕ). a == b) c (cols_of rest) h
once_past (Write c at cells) rest h = IsDistinct-tail (λ (a b : ℕ). a == b) c (cols_of rest) h
once_past (Add name with) rest h = h
once_past (Delete c) rest h = IsDistinct-tail (λ (a b : ℕ). a == b) c (cols_of rest) h

-- ---- What a part leaves of what later ones ask

pub put_one_long : (p : PartSeen) (vs : List Vector) → length vs ≤ length (put_one p vs)
put_one_long (Replace c with) vs = omega (arith, length-set {A = Vector})
put_one_long (Write c at cells) vs = omega (arith, length-set {A = Vector})
put_one_long (Add name with) vs = omega (arith, length-append {A = Vector})
put_one_long (Delete c) vs = omega arith

put_long : (p : PartSeen) (f g : FrameSeen) → IsPut p f g → length f.columns ≤ length g.columns
put_long p f g h =
    let more : length (vectors_of f.columns) ≤ length (put_one p (vectors_of f.columns)) = put_one_long p
    (vectors_of f.columns) in
    let was : length (vectors_of f.columns) ≡ length f.columns = length-map f.columns (λ (x : Seen). x.vector) in
    let is : length (vectors_of g.columns) ≡ length g.columns = length-map g.columns (λ (x : Seen). x.vector) in
    let e : length (vectors_of g.columns) ≡ length (put_one p (vectors_of f.columns)) = ap length h.vectors in
    omega arith

fits_one : (p q : PartSeen) (rest : List PartSeen) (f g : FrameSeen) → IsPut p f g
    → AllByRecursion (λ y. is_of y p ≡ false) (cols_of (q ∷ rest)) → FitsNow f q → FitsNow g q
fits_one p (Replace c with) rest f g h apart fits = (
  let long = put_long p f g h in let lt = fits.0 in omega arith,
  fits.1 ∙ sym h.rows,
)
fits_one p (Write c at cells) rest f g h apart fits =
    let long : length f.columns ≤ length g.columns = put_long p f g h in
    let lt : c < length f.columns = fits.0 in
    let e : column_at g.columns c ≡ column_at f.columns c = h.others c apart.0 lt in
    (omega arith, rw (e, h.rows) fits.1, rw e fits.2)
fits_one p (Add name with) rest f g h apart fits = fits ∙ sym h.rows
fits_one p (Delete c) rest f g h apart fits = let long = put_long p f g h in omega arith

others_past : (p q : PartSeen) (rest : List PartSeen) → AllByRecursion (λ y. is_of y p ≡ false) (cols_of (q ∷ rest))
    → AllByRecursion (λ y. is_of y p ≡ false) (cols_of rest)
others_past p (Replace c with) rest h = h.1
others_past p (Write c at cells) rest h = h.1
others_past p (Add name with) rest h = h
others_past p (Delete c) rest h = h.1

fits_rest : (p : PartSeen) (rest : List PartSeen) (f g : FrameSeen) → IsPut p f g
    → AllByRecursion (λ y. is_of y p ≡ false) (cols_of rest) → AllByRecursion (FitsNow f) rest
    → AllByRecursion (FitsNow g) rest
fits_rest p [] f g h apart fits = tt
fits_rest p (q ∷ rest) f g h apart fits = (
  fits_one p q rest f g h apart fits.0,
  fits_rest p rest f g h
      (others_past p q rest apart) fits.1,
)

pub fits_after : (p : PartSeen) (rest : List PartSeen) (f g : FrameSeen) → IsPut p f g
    → IsDistinct (λ (a b : ℕ). a == b) (cols_of (p ∷ rest)) → All (FitsNow f) (p ∷ rest) → All (FitsNow g) rest
fits_after p rest f g h once fits =
    let each : AllByRecursion (FitsNow f) (p ∷ rest) = recursion_from_All (FitsNow f) (p ∷ rest) fits in
    All-from_recursion (FitsNow g) rest (fits_rest p rest f g h (others_of p rest once) each.1)

-- ---- The part at place k, where the first k are made

pub part_here : (w : ℕ) (all now : List PartSeen) (k : ℕ) → k < length all → now
    ≡ map (left w) (take k all) ++ drop k all → part_in now k ≡ part_in all k
part_here w all now k lt e =
    let long : length (map (left w) (take k all)) ≡ k = length-map (take k all) (left w)
    ∙ length-take-le k all (omega arith) in
    ap (λ (l : List PartSeen). part_in l k) (e ∙ ap (λ (l : List PartSeen). map (left w) (take k all) ++ l)
    (drop_more all k (Delete 0) lt)) ∙ get_or_at (map (left w) (take k all)) (part_in all k) (drop (k + 1) all)
    (Delete 0) k long

pub parts_here : (w : ℕ) (all now : List PartSeen) (k : ℕ) → k < length all → now
    ≡ map (left w) (take k all) ++ drop k all → drop k all ≡ part_in now k ∷ drop (k + 1) all
parts_here w all now k lt e = drop_more all k (Delete 0) lt
    ∙ ap (λ (p : PartSeen). p ∷ drop (k + 1) all) (sym (part_here w all now k lt e))

pub left_more : (w : ℕ) (all now new : List PartSeen) (k : ℕ) → k < length all → now
    ≡ map (left w) (take k all) ++ drop k all → new ≡ set now k (left w (part_in now k)) → new
    ≡ map (left w) (take (k + 1) all) ++ drop (k + 1) all
left_more w all now new k lt e s =
    let long : length (map (left w) (take k all)) ≡ k = length-map (take k all) (left w)
    ∙ length-take-le k all (omega arith) in
    let there : length now ≡ length (map (left w) (take k all) ++ drop k all) = ap length e in
    let within : k < length now = omega (arith, length-append {A = PartSeen}, length-drop {A = PartSeen}) in
    s ∙ map_over_more (left w) all now k (part_in now k) lt e (get_or_default now k (Delete 0) (part_in now k) within)

-- ---- One more part made

pub vectors_more : (p : PartSeen) (all rest : List PartSeen) (f g : FrameSeen) (total : List Vector) → all ≡ p ∷ rest
    → IsPut p f g → put_all all (vectors_of f.columns) ≡ total → put_all rest (vectors_of g.columns) ≡ total
vectors_more p all rest f g total e h so =
    let here : put_all (p ∷ rest) (vectors_of f.columns) ≡ total = subst
    (λ (l : List PartSeen). put_all l (vectors_of f.columns) ≡ total) e so in
    subst (λ (l : List Vector). put_all rest l ≡ total) (sym h.vectors) here

pub names_more : (p : PartSeen) (all rest : List PartSeen) (was now total : List (List ℕ)) → all ≡ p ∷ rest → now
    ≡ was ++ added_names (p ∷ []) → was ++ added_names all ≡ total → now ++ added_names rest ≡ total
names_more p all rest was now total e n so =
    ap (λ (l : List (List ℕ)). l ++ added_names rest) n ∙ (append_assoc was (added_names (p ∷ [])) (added_names rest)
    ∙ (ap (λ (l : List (List ℕ)). was ++ l) (sym (added_cons p rest))
    ∙ (ap (λ (l : List PartSeen). was ++ added_names l) (sym e) ∙ so)))

pub count_more : (p : PartSeen) (all rest : List PartSeen) → all ≡ p ∷ rest → length (added_names all)
    ≡ length (added_names (p ∷ [])) + length (added_names rest)
count_more p all rest e = ap (λ (l : List PartSeen). length (added_names l)) e
    ∙ (ap length (added_cons p rest) ∙ length-append (added_names (p ∷ [])) (added_names rest))

pub written_more : (p : PartSeen) (all rest : List PartSeen) → all ≡ p ∷ rest → written_cells all
    ≡ written_cells (p ∷ []) + written_cells rest
written_more p all rest e = ap written_cells e ∙ written_cons p rest
