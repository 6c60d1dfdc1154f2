-- How many columns stay before one: all of them, less one for each part that deletes one of them.
use Rattle.std.proofs.Common.{◌≡◌, ◌+◌, ◌<◌, ◌≤◌, ◌==◌, ℕ, zero, suc, true, false, cond, List, [], ◌∷◌, Some}
use Rattle.std.proofs.Common.{drop, get_or, length, arith, refl, sym, ap, ◌∙◌, inl, inr}
use Rattle.std.specs.List.{AllByRecursion, IsDistinct}
use Rattle.std.proofs.lemmas.Bool.{cases_Bool, cases_eq, eq-eqb, ltb-false, ltb-true, ne_eqb}
use Rattle.std.proofs.lemmas.List.{at_drop_more}
use Rattle.std.proofs.lemmas.Map.Keys.{IsDistinct-head}
use Rattle.dt_table.specs.declared.change.Part.{Part}
use Rattle.dt_table.specs.Change.{PartSeen, Replace, Write, Add, Delete, cols_of, goes, is_delete, part_at, part_seen}
use Rattle.dt_table.specs.Change.{parts_seen, stays_before}
use Rattle.dt_table.specs.Parts.{goes_before}
use Rattle.dt_table.proofs.Changing.{none_at}

-- as many stay where the same go
stay_alike : (ps qs : List PartSeen) → ((c : ℕ) → goes ps c ≡ goes qs c) → (c : ℕ) → stays_before ps c
    ≡ stays_before qs c
stay_alike ps qs h zero = refl
stay_alike ps qs h (suc c) = rw (h c, stay_alike ps qs h c) refl

-- no more stay than there are
pub stay_most : (ps : List PartSeen) (c : ℕ) → stays_before ps c ≤ c
stay_most ps zero = omega arith
stay_most ps (suc c) =
    let rest : stays_before ps c ≤ c = stay_most ps c in
    elim (cases_Bool (goes ps c)) [ inl hit ↦ rw hit (omega arith) | inr miss ↦ rw miss (omega arith) ]

-- where nothing goes, all stay
pub stay_all : (c : ℕ) → stays_before [] c ≡ c
stay_all zero = refl
stay_all (suc c) = ap suc (stay_all c)

-- ---- A part that deletes no column

goes_but : (d c : ℕ) (ps : List PartSeen) (p : PartSeen) → goes ps d ≡ false → is_delete (Some p) ≡ false
    → is_delete (cond (d == c) (Some p) (part_at c ps)) ≡ goes ps c
goes_but d c ps p free none =
    elim (cases_eq d c) [
      | inl here ↦ rw (eq-eqb d c here) (none ∙ (sym free ∙ ap (goes ps) here))
      | inr past ↦ rw (ne_eqb d c past) refl
    ]

-- ---- A part that deletes a column

goes_past : (d c : ℕ) (ps : List PartSeen) → (d ≡ c → ⊥) → goes (Delete d ∷ ps) c ≡ goes ps c
goes_past d c ps past = rw (ne_eqb d c past) refl

goes_here : (d : ℕ) (ps : List PartSeen) → goes (Delete d ∷ ps) d ≡ true
goes_here d ps = rw (eq-eqb d d refl) refl

before_it : (d : ℕ) (ps : List PartSeen) (c : ℕ) → c ≤ d → stays_before (Delete d ∷ ps) c ≡ stays_before ps c
before_it d ps zero le = refl
before_it d ps (suc c) le =
    rw (goes_past d c ps (λ (e : d ≡ c). absurd (omega arith)), before_it d ps c (omega arith)) refl

behind_it : (d : ℕ) (ps : List PartSeen) → goes ps d ≡ false → (c : ℕ) → d < c → suc (stays_before (Delete d ∷ ps) c)
    ≡ stays_before ps c
behind_it d ps free zero lt = absurd (omega arith)
behind_it d ps free (suc c) lt =
    elim (cases_eq d c) [
      | inl here ↦
          (let gone : goes (Delete d ∷ ps) c ≡ true = ap (goes (Delete d ∷ ps)) (sym here) ∙ goes_here d ps in
          let stay : goes ps c ≡ false = ap (goes ps) (sym here) ∙ free in
          rw (gone, stay) (ap suc (before_it d ps c (omega (arith, here)))))
      | inr past ↦
          (let rest : suc (stays_before (Delete d ∷ ps) c) ≡ stays_before ps c = behind_it d ps free c
          (omega (arith, past)) in
          rw (goes_past d c ps past)
          (elim (cases_Bool (goes ps c)) [ inl hit ↦ rw hit rest | inr miss ↦ rw miss (ap suc rest) ]))
    ]

-- ---- A part and the rest

free_of : (d : ℕ) (ps : List PartSeen) → AllByRecursion (λ y. (d == y) ≡ false) (cols_of ps) → goes ps d ≡ false
free_of d ps h = ap is_delete (none_at d ps h)

-- a part that deletes a column before c: one less stays
pub stay_less : (p : PartSeen) (ps : List PartSeen) (c : ℕ) → IsDistinct (λ (a b : ℕ). a == b) (cols_of (p ∷ ps))
    → goes_before c p ≡ true → suc (stays_before (p ∷ ps) c) ≡ stays_before ps c
stay_less (Replace d with) ps c once e = cc
stay_less (Write d at cells) ps c once e = cc
stay_less (Add name with) ps c once e = cc
stay_less (Delete d) ps c once e = behind_it d ps (free_of d ps
    (IsDistinct-head (λ (a b : ℕ). a == b) d (cols_of ps) once)) c (ltb-true d c e)

-- any other part: as many stay
pub stay_same : (p : PartSeen) (ps : List PartSeen) (c : ℕ) → IsDistinct (λ (a b : ℕ). a == b) (cols_of (p ∷ ps))
    → goes_before c p ≡ false → stays_before (p ∷ ps) c ≡ stays_before ps c
stay_same (Replace d with) ps c once e =
    let free : goes ps d ≡ false = free_of d ps (IsDistinct-head (λ (a b : ℕ). a == b) d (cols_of ps) once) in
    stay_alike (Replace d with ∷ ps) ps (λ k. goes_but d k ps (Replace d with) free refl) c
stay_same (Write d at cells) ps c once e =
    let free : goes ps d ≡ false = free_of d ps (IsDistinct-head (λ (a b : ℕ). a == b) d (cols_of ps) once) in
    stay_alike (Write d at cells ∷ ps) ps (λ k. goes_but d k ps (Write d at cells) free refl) c
stay_same (Add name with) ps c once e = stay_alike (Add name with ∷ ps) ps (λ k. refl) c
stay_same (Delete d) ps c once e = before_it d ps c (ltb-false d c e)

-- the part at a place, and those behind it
pub part_read : (parts : List Part) (k : ℕ) (p : Part) → k < length parts → p ≡ get_or parts k p
    → parts_seen (drop k parts) ≡ part_seen p ∷ parts_seen (drop (k + 1) parts)
part_read parts k p lt at = at_drop_more parts_seen parts k p lt
    ∙ ap (λ (x : Part). part_seen x ∷ parts_seen (drop (k + 1) parts)) (sym at)
