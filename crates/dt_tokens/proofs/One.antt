-- A script is one list of tokens, or has one first fault, and not both.
use Rattle.std.proofs.Common.{◌≡◌, ℕ, ◌+◌, List, [], ◌∷◌, length, drop, Some, None, refl, ap, sym, subst, ◌∙◌, arith}
use Rattle.std.proofs.lemmas.List.{drop_all}
use Rattle.dt_tree.specs.declared.token.Place.{Place}
use Rattle.dt_tree.specs.declared.token.Placed.{Placed}
use Rattle.dt_tree.specs.declared.pieces.First.TheVariants.{Found}
use Rattle.dt_tree.specs.declared.fault.ScriptFault.{ScriptFault}
use Rattle.dt_tree.specs.declared.fault.ScriptFault.TheVariants.{NotUtf8, Syntax, Number, TooDeep}
use Rattle.run_model.specs.First.{first}
use Rattle.run_model.specs.Tokens.{Cut, Cuts, begin, tokens_of, Spells, IsFirstFault, fault_of, AreTokens, HasFault}
use Rattle.run_model.specs.Tokens.{too_deep, unmarked}

-- at the byte j no piece begins: the end, or a fault
abbrev Stops : List ℕ → ℕ → Type 0
Stops s j = (x : Cut) → ¬ (first (drop j s) ≡ Found x.piece x.len)

pub record Same (xs ys : List Cut) (j k : ℕ) : Type 0 where
  pub pieces : xs ≡ ys
  pub place : j ≡ k

same_cuts : (xs ys : List Cut) (s : List ℕ) (i j k : ℕ) → Cuts s i xs j → Cuts s i ys k → Stops s j →
    Stops s k → Same xs ys j k
same_cuts [] [] s i j k c d p q = record { pieces = refl; place = sym c ∙ d }
same_cuts [] (y ∷ ys) s i j k c d p q = absurd (p y (ap (λ n. first (drop n s)) (sym c) ∙ d.1))
same_cuts (x ∷ xs) [] s i j k c d p q = absurd (q x (ap (λ n. first (drop n s)) (sym d) ∙ c.1))
same_cuts (x ∷ xs) (y ∷ ys) s i j k c d p q =
    let here : Found x.piece x.len ≡ Found y.piece y.len = sym c.1 ∙ d.1 in
    let piece : x.piece ≡ y.piece = cc in
    let len : x.len ≡ y.len = cc in
    let at : x.at ≡ y.at = c.0 ∙ sym d.0 in
    let rest = same_cuts xs ys s (i + x.len) j k c.2 (subst (λ n. Cuts s (i + n) ys k) (sym len) d.2) p q in
    record { pieces = (λ t. record { at = at t; piece = piece t; len = len t } ∷ rest.pieces t); place = rest.place }

stops_at_end : (s : List ℕ) (j : ℕ) → j ≡ length s → Stops s j
stops_at_end s j end x found = let e = sym at_end ∙ found in absurd (cc)
  where
    at_end : first (drop j s) ≡ first []
    at_end = ap first (drop_all j s (omega arith))

stops_at_fault : (s : List ℕ) (j : ℕ) (f : ScriptFault) → fault_of s j (first (drop j s)) ≡ Some f → Stops s j
stops_at_fault s j f fault x found = let e : fault_of s j (Found x.piece x.len) ≡ Some f = ap (fault_of s j) (sym found)
    ∙ fault in absurd (cc)

pub spells_one : (s : List ℕ) (ts us : List Placed) → Spells s ts → Spells s us → ts ≡ us
spells_one s ts us a b =
    let same = same_cuts a.pieces b.pieces s 0 (length s) (length s) a.cut b.cut (stops_at_end s (length s) refl)
    (stops_at_end s (length s) refl) in
    sym a.tokens ∙ ap (tokens_of begin) same.pieces ∙ b.tokens

pub first_fault_one : (s : List ℕ) (f g : ScriptFault) → IsFirstFault s f → IsFirstFault s g → f ≡ g
first_fault_one s f g a b =
    let same = same_cuts a.pieces b.pieces s 0 a.at b.at a.cut b.cut (stops_at_fault s a.at f a.fault)
    (stops_at_fault s b.at g b.fault) in
    let e : Some f ≡ Some g = sym a.fault ∙ ap (λ j. fault_of s j (first (drop j s))) same.place ∙ b.fault in
    cc

pub spells_no_fault : (s : List ℕ) (ts : List Placed) (f : ScriptFault) → Spells s ts → ¬ IsFirstFault s f
spells_no_fault s ts f a b =
    let same = same_cuts a.pieces b.pieces s 0 (length s) b.at a.cut b.cut (stops_at_end s (length s) refl)
    (stops_at_fault s b.at f b.fault) in
    absurd (omega (arith, same.place, b.within))

kept_deep : (s : List ℕ) (p q : Place) (a : HasFault s (TooDeep p)) (b : HasFault s (TooDeep q)) → Some p ≡ Some q
kept_deep s p q a b = sym a.3 ∙ ap (too_deep 0) (spells_one (unmarked s) a.1 b.1 a.2 b.2) ∙ b.3

pub fault_one : (s : List ℕ) (f g : ScriptFault) → HasFault s f → HasFault s g → f ≡ g
fault_one s NotUtf8 NotUtf8 a b = refl
fault_one s NotUtf8 (Syntax q) a b = absurd (a b.0)
fault_one s NotUtf8 (Number q) a b = absurd (a b.0)
fault_one s NotUtf8 (TooDeep q) a b = absurd (a b.0)
fault_one s (Syntax p) NotUtf8 a b = absurd (b a.0)
fault_one s (Number p) NotUtf8 a b = absurd (b a.0)
fault_one s (TooDeep p) NotUtf8 a b = absurd (b a.0)
fault_one s (TooDeep p) (TooDeep q) a b = let e = kept_deep s p q a b in let h : p ≡ q = cc in ap TooDeep h
fault_one s (TooDeep p) (Syntax q) a b = absurd (spells_no_fault (unmarked s) a.1 (Syntax q) a.2 b.1)
fault_one s (TooDeep p) (Number q) a b = absurd (spells_no_fault (unmarked s) a.1 (Number q) a.2 b.1)
fault_one s (Syntax p) (TooDeep q) a b = absurd (spells_no_fault (unmarked s) b.1 (Syntax p) b.2 a.1)
fault_one s (Number p) (TooDeep q) a b = absurd (spells_no_fault (unmarked s) b.1 (Number p) b.2 a.1)
fault_one s (Syntax p) (Syntax q) a b = first_fault_one (unmarked s) (Syntax p) (Syntax q) a.1 b.1
fault_one s (Syntax p) (Number q) a b = first_fault_one (unmarked s) (Syntax p) (Number q) a.1 b.1
fault_one s (Number p) (Syntax q) a b = first_fault_one (unmarked s) (Number p) (Syntax q) a.1 b.1
fault_one s (Number p) (Number q) a b = first_fault_one (unmarked s) (Number p) (Number q) a.1 b.1

pub not_both : (s : List ℕ) (ts : List Placed) (f : ScriptFault) → AreTokens s ts → ¬ HasFault s f
not_both s ts NotUtf8 a b = b a.utf8
not_both s ts (Syntax q) a b = spells_no_fault (unmarked s) ts (Syntax q) a.spelled b.1
not_both s ts (Number q) a b = spells_no_fault (unmarked s) ts (Number q) a.spelled b.1
not_both s ts (TooDeep q) a b = let e : None ≡ Some q = sym a.flat
    ∙ ap (too_deep 0) (spells_one (unmarked s) ts b.1 a.spelled b.2) ∙ b.3 in absurd (cc)
