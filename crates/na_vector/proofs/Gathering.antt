-- One more column of a gathered or copied frame.
use Rattle.std.proofs.Common.{◌≡◌, ◌+◌, ◌*◌, ◌<◌, ◌≤◌, ℕ, List, [], ◌∷◌, ◌++◌, map, length, take, Some, refl, ap, ◌∙◌}
use Rattle.std.proofs.Common.{arith, length-append}
use Rattle.std.proofs.lemmas.Bool.Decides.{nat_tests}
use Rattle.std.specs.List.{slice_get}
use Rattle.std.proofs.Math.Nat.{mul-le-mul_right}
use Rattle.std.proofs.lemmas.List.{map-append, take_more}
use Rattle.std.proofs.lemmas.Option.{slice_get_within, get_or_from_slice_get}
use Rattle.dt_model.specs.Vector.{Vector}
use Rattle.na_vector.specs.Column.{Seen}
use Rattle.na_vector.specs.Frame.{vectors_of, rows_with}

-- the first i columns and the one at i are the first i + 1
columns-more : (all : List Seen) (i : ℕ) (col : Seen) → slice_get all i ≡ Some col
    → take (i + 1) all ≡ take i all ++ col ∷ []
columns-more all i col h =
    take_more all i col (slice_get_within all i col h)
    ∙ ap (λ (x : Seen). take i all ++ x ∷ []) (get_or_from_slice_get all i col col h)

-- one more column that is made by f
pub vectors_of-more : (f : Vector → Vector) (all done : List Seen) (i : ℕ) (col next : Seen)
    → vectors_of done ≡ map f (vectors_of (take i all)) → slice_get all i ≡ Some col → next.vector ≡ f col.vector
    → vectors_of (done ++ next ∷ []) ≡ map f (vectors_of (take (i + 1) all))
vectors_of-more f all done i col next e h v = rw (columns-more all i col h) (simp map-append (rw (e, v) refl))

-- one more column that is copied
pub vectors_of-same : (all done : List Seen) (i : ℕ) (col next : Seen) → vectors_of done ≡ vectors_of (take i all)
    → slice_get all i ≡ Some col → next.vector ≡ col.vector
    → vectors_of (done ++ next ∷ []) ≡ vectors_of (take (i + 1) all)
vectors_of-same all done i col next e h v = rw (columns-more all i col h) (simp map-append (rw (e, v) refl))

-- a frame that has a column has as many rows as that column has cells
pub rows_with-more : (i n : ℕ) → rows_with (i + 1) n ≡ n
rows_with-more i n = grind (arith, nat_tests)

-- one more column
pub length-more : (xs : List Seen) (x : Seen) (i : ℕ) → length xs ≡ i → length (xs ++ x ∷ []) ≡ i + 1
length-more xs x i e = rw (length-append xs (x ∷ []), e) refl

-- one more time n touches
pub touches-more : (a b c i n : ℕ) → b ≡ a + i * n → c ≡ b + n → c ≡ a + (i + 1) * n
touches-more a b c i n e h = omega arith

-- so far there were no more touches than there may be
pub touches-within : (a b c i n width : ℕ) → i < width → b ≡ a + i * n → c ≡ b + n → c ≤ a + width * n
touches-within a b c i n width lt e h = omega (arith, mul-le-mul_right n (let le : i + 1 ≤ width = omega arith in le))
