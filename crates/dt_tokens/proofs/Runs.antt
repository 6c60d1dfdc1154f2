-- A run is all of the class, and what follows it is not.
use Rattle.std.proofs.Common.{◌≡◌, ℕ, zero, suc, ◌+◌, ◌<◌, Bool, true, false, cond, List, [], ◌∷◌, get_or, drop, refl}
use Rattle.std.proofs.Common.{arith}
use Rattle.run_model.specs.Bytes.{run, head_is}

in_test : (p : ℕ → Bool) (b : ℕ) (s : List ℕ) (i : ℕ) (t : Bool) → p b ≡ t →
    ((k : ℕ) → k < run p s → p (get_or s k 0) ≡ true) → i < cond t (run p s + 1) 0 →
    p (get_or (b ∷ s) i 0) ≡ true
in_test p b s zero true is rest within = is
in_test p b s (suc i) true is rest within = rest i (omega arith)
in_test p b s i false is rest within = absurd (omega arith)

pub run_inside : (p : ℕ → Bool) (s : List ℕ) (i : ℕ) → i < run p s → p (get_or s i 0) ≡ true
run_inside p [] i within = absurd (omega arith)
run_inside p (b ∷ s) i within = in_test p b s i (p b) refl (run_inside p s) within

next_test : (p : ℕ → Bool) (b : ℕ) (s : List ℕ) (t : Bool) → p b ≡ t → head_is p (drop (run p s) s) ≡ false →
    head_is p (drop (cond t (run p s + 1) 0) (b ∷ s)) ≡ false
next_test p b s true is rest = let e : run p s + 1 ≡ suc (run p s) = omega arith in rw e rest
next_test p b s false is rest = is

pub run_next : (p : ℕ → Bool) (s : List ℕ) → head_is p (drop (run p s) s) ≡ false
run_next p [] = refl
run_next p (b ∷ s) = next_test p b s (p b) refl (run_next p s)
