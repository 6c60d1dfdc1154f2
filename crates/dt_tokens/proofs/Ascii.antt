-- Names are ASCII.
use Rattle.std.proofs.Common.{◌≡◌, ℕ, zero, suc, ◌+◌, ◌<◌, Bool, true, false, cond, List, [], ◌∷◌, length, take, drop}
use Rattle.std.proofs.Common.{IsUtf8, IsAscii, arith, slice_index, refl}
use Rattle.std.proofs.lemmas.Bool.Decides.{nat_tests}
use Rattle.std.proofs.lemmas.Str.{IsUtf8-from_ascii, IsAscii-append}
use Rattle.run_model.specs.Bytes.{is_in, run}
use Rattle.dt_tree.specs.declared.pieces.Class.TheVariants as class

name_byte : (b : ℕ) → is_in class.Name b ≡ true → b < 128
name_byte b h = grind (arith, nat_tests)

pub one_ascii : (b : ℕ) → b < 128 → IsAscii (b ∷ [])
one_ascii b small zero = small
one_ascii b small (suc i) = omega arith

more_ascii : (b : ℕ) (bs : List ℕ) (n : ℕ) → b < 128 → IsAscii (take n bs) → IsAscii (take (1 + n) (b ∷ bs))
more_ascii b bs n small rest =
    let e : 1 + n ≡ suc n = omega arith in
    rw e (IsAscii-append (b ∷ []) (take n bs) (one_ascii b small) rest)

by_test : (b : ℕ) (bs : List ℕ) (t : Bool) → is_in class.Name b ≡ t →
    IsAscii (take (run (is_in class.Name) bs) bs) →
    IsAscii (take (cond t (run (is_in class.Name) bs + 1) 0) (b ∷ bs))
by_test b bs true h rest = let e : run (is_in class.Name) bs + 1 ≡ 1 + run (is_in class.Name) bs = omega arith in
    rw e (more_ascii b bs _ (name_byte b h) rest)
by_test b bs false h rest = λ i. omega arith

run_is_ascii : (s : List ℕ) → IsAscii (take (run (is_in class.Name) s) s)
run_is_ascii [] = λ i. omega arith
run_is_ascii (b ∷ bs) = by_test b bs (is_in class.Name b) refl (run_is_ascii bs)

pub word_is_text : (s : List ℕ) → 0 < length s → slice_index s 0 < 128 →
    IsUtf8 (take (1 + run (is_in class.Name) (drop 1 s)) s)
word_is_text [] some small = absurd (omega arith)
word_is_text (b ∷ bs) some small = IsUtf8-from_ascii _ (more_ascii b bs _ small (run_is_ascii bs))
