-- The field of a record at a place.
use Rattle.std.proofs.Common.{◌≡◌, ◌<◌, ◌≤◌, ℕ, zero, suc, List, [], ◌∷◌, Option, Some, None, get_or, length, refl}
use Rattle.std.proofs.Common.{arith}
use Rattle.csv.specs.Records.{field_at}

-- within a record there is a field
pub field_within : (fs : List (List ℕ)) (i : ℕ) → i < length fs → field_at fs i ≡ Some (get_or fs i [])
unfolding field_at
field_within [] i h = absurd (omega arith)
field_within (f ∷ fs) zero h = refl
field_within (f ∷ fs) (suc i) h = field_within fs i (omega arith)

-- the field at a place, where there is one
pub field_found : (fs : List (List ℕ)) (i : ℕ) (x : List ℕ) → field_at fs i ≡ Some x → (i < length fs)
    × (x ≡ get_or fs i [])
unfolding field_at
field_found [] i x e = let none : ◌≡◌ {A = Option (List ℕ)} None (Some x) = e in cc
field_found (f ∷ fs) zero x e = let same : Some f ≡ Some x = e in (omega arith, cc)
field_found (f ∷ fs) (suc i) x e = let found = field_found fs i x e in (omega (arith, found.0), found.1)

-- and behind the last there is none
pub field_absent : (fs : List (List ℕ)) (i : ℕ) → field_at fs i ≡ None → length fs ≤ i
unfolding field_at
field_absent [] i e = omega arith
field_absent (f ∷ fs) zero e = let some : ◌≡◌ {A = Option (List ℕ)} (Some f) None = e in cc
field_absent (f ∷ fs) (suc i) e = omega (arith, field_absent fs i e)
