-- The place of a fault.
use Rattle.std.proofs.Common.{◌≡◌, ℕ, zero, suc, ◌<◌, ◌≤◌, List, [], ◌∷◌, length, drop, cond, Bool, true, false, get_or}
use Rattle.std.proofs.Common.{refl, sym, ap, arith, length-drop, nat_eq}
use Rattle.std.specs.List.{starts_with}
use Rattle.dt_tree.specs.declared.token.Placed.{Placed}
use Rattle.run_model.specs.Places.{place_at}
use Rattle.run_model.specs.Tokens.{mark, unmarked}
use Rattle.run_model.specs.Reading.{fault_place}

pub fault_place-some : (s : List ℕ) (us : List Placed) (n : ℕ) (u : Placed) → n < length us → u ≡ get_or us n u
    → fault_place s us n ≡ u.at
fault_place-some s [] n u lt e = absurd (omega arith)
fault_place-some s (v ∷ us) zero u lt e = ap (λ (x : Placed). x.at) (sym e)
fault_place-some s (v ∷ us) (suc n) u lt e = fault_place-some s us n u (omega arith) e

pub fault_place-none : (s : List ℕ) (us : List Placed) (n : ℕ) → length us ≤ n
    → fault_place s us n ≡ place_at s (length s)
fault_place-none s [] n h = refl
fault_place-none s (v ∷ us) zero h = absurd (omega arith)
fault_place-none s (v ∷ us) (suc n) h = fault_place-none s us n (omega arith)

no_longer : (b : Bool) (s : List ℕ) → length (cond b (drop 3 s) s) ≤ length s
no_longer true s = omega (arith, length-drop 3 s)
no_longer false s = omega arith

pub length-unmarked : (s : List ℕ) → length (unmarked s) ≤ length s
length-unmarked s = no_longer (starts_with nat_eq s mark) s

pub ruleset places = (length-unmarked)
