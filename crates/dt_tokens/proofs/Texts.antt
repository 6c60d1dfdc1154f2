-- Texts, byte by byte.
use Rattle.std.proofs.Common.{◌≡◌, ℕ, ◌+◌, List, [], ◌∷◌, ◌++◌, Option, Some, None, option_map, Result, Ok, Err, refl}
use Rattle.std.proofs.Common.{ap, sym, append_assoc, arith}
use Rattle.run_model.specs.First.{ahead, onto, plain}

pub counted : (o : Option ℕ) (n : ℕ) → option_map (λ k. n + k) (ahead o) ≡ option_map (λ k. (n + 1) + k) o
counted None n = refl
counted (Some k) n = ap Some (omega arith)

pub uncounted : (o : Option ℕ) → option_map (λ k. 0 + k) o ≡ o
uncounted None = refl
uncounted (Some k) = ap Some (omega arith)

pub ruleset lens = (counted, uncounted)

-- front is what the bytes so far stand for, and n is where the rest begins
abbrev pub joined : List ℕ → ℕ → Result (List ℕ) ℕ → Result (List ℕ) ℕ
joined front n (Ok bs) = Ok (front ++ bs)
joined front n (Err k) = Err (n + k)

pub joined_plain : (r : Result (List ℕ) ℕ) (front : List ℕ) (n b : ℕ) →
    joined front n (plain b r) ≡ joined (front ++ b ∷ []) (n + 1) r
joined_plain (Ok bs) front n b = ap Ok (sym (append_assoc front (b ∷ []) bs))
joined_plain (Err k) front n b = ap Err (omega arith)

pub joined_onto : (r : Result (List ℕ) ℕ) (front : List ℕ) (n b : ℕ) →
    joined front n (onto (Some b) r) ≡ joined (front ++ b ∷ []) (n + 2) r
joined_onto (Ok bs) front n b = ap Ok (sym (append_assoc front (b ∷ []) bs))
joined_onto (Err k) front n b = ap Err (omega arith)

pub ruleset meanings = (joined_plain, joined_onto)
