-- Where a length fits, each vector is as long, or has one cell.
use Rattle.std.proofs.Common.{◌≡◌, ◌⊎◌, ◌==◌, ◌||◌, ℕ, Bool, true, false, List, [], ◌∷◌, length, map, All}
use Rattle.std.proofs.Common.{if◌then◌else◌, Result, Ok, Err, refl, arith}
use Rattle.std.proofs.lemmas.Grind.{common_steps}
use Rattle.std.proofs.lemmas.List.Elements.{All-nil, All-cons}
use Rattle.dt_base.specs.declared.fault.Fault.{Fault}
use Rattle.row_model.specs.Lengths.{fitting}
use Rattle.valued.specs.Valued.{vector_in}
use Rattle.valued.specs.declared.column.Valued.{Valued}

abbrev pub Fits : ℕ → Valued → Type 0
Fits n v = (length v.column.vector.cells ≡ 1) ⊎ (length v.column.vector.cells ≡ n)

-- a test that passes says which
either : (k n : ℕ) → (k == 1 || k == n) ≡ true → (k ≡ 1) ⊎ (k ≡ n)
either k n h = grind (arith, common_steps)

-- a test that lets the rest through passes
passed : (b : Bool) (rest : Result ℕ Fault) (f : Fault) (m : ℕ) → (if b then rest else Err f) ≡ Ok m → (b ≡ true)
    × (rest ≡ Ok m)
passed true rest f m h = (refl, h)
passed false rest f m h = cc

pub fitting_all : (n m : ℕ) (vs : List Valued) → fitting n (map vector_in vs) ≡ Ok m → All (Fits n) vs
fitting_all n m [] h = All-nil (Fits n)
fitting_all n m (v ∷ rest) h =
    let both = passed (length v.column.vector.cells == 1 || length v.column.vector.cells == n)
    (fitting n (map vector_in rest)) _ m h in
    All-cons (Fits n) v rest (either (length v.column.vector.cells) n both.0) (fitting_all n m rest both.1)
