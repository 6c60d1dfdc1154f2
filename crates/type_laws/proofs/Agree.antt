-- Two answers of which the second, where both are there, shows the first.
--   Agree p c r       where c and r both give something, p of r's is c's
--   agree_err, agree_then, agree_same, agree_each    how faults, steps and lists keep that
use Rattle.std.proofs.Common.{◌≡◌, Bool, true, false, List, [], ◌∷◌, map, Result, Ok, Err, refl, subst}
use Rattle.std.specs.Prelude.{if◌then◌else◌}
use Rattle.dt_base.specs.declared.fault.Fault.{Fault}
use Rattle.vector_model.specs.Then.{then_do}
use Rattle.session_model.specs.Expression.{each}
use Rattle.type_laws.proofs.Fold.{Each}

abbrev pub Agree : {A B : Type 0} → (B → A) → Result A Fault → Result B Fault → Type 0
Agree p (Ok a) (Ok b) = p b ≡ a
Agree p _ _ = Unit {0}

-- a fault agrees with anything
pub agree_err : {A B : Type 0} (p : B → A) (c : Result A Fault) (f : Fault) → Agree p c (Err f)
agree_err p (Ok a) f = tt
agree_err p (Err e) f = tt

-- one step after another
pub agree_then : {A B C D : Type 0} (p : B → A) (q : D → C) (c : Result A Fault) (r : Result B Fault)
    (f : A → Result C Fault) (g : B → Result D Fault) → Agree p c r → ((b : B) → Agree q (f (p b)) (g b))
    → Agree q (then_do c f) (then_do r g)
agree_then p q (Err e) r f g h k = tt
agree_then p q (Ok a) (Err e) f g h k = agree_err q (f a) e
agree_then p q (Ok a) (Ok b) f g h k = subst (λ z. Agree q (f z) (g b)) h (k b)

-- the second has a further step, which changes nothing of what shows
pub agree_after : {A B D : Type 0} (p : B → A) (q : D → A) (c : Result A Fault) (r : Result B Fault)
    (g : B → Result D Fault) → Agree p c r → ((b : B) → Agree q (Ok (p b)) (g b)) → Agree q c (then_do r g)
agree_after p q (Err e) r g h k = tt
agree_after p q (Ok a) (Err e) g h k = tt
agree_after p q (Ok a) (Ok b) g h k = subst (λ z. Agree q (Ok z) (g b)) h (k b)

-- both after the same step
pub agree_same : {X C D : Type 0} (q : D → C) (r : Result X Fault) (f : X → Result C Fault) (g : X → Result D Fault)
    → ((x : X) → Agree q (f x) (g x)) → Agree q (then_do r f) (then_do r g)
agree_same q (Err e) f g k = tt
agree_same q (Ok x) f g k = k x

-- a test that refuses or gives
pub agree_if : {C D : Type 0} (q : D → C) (b : Bool) (e : Fault) (c : Result C Fault) (r : Result D Fault) → Agree q c r
    → Agree q c (if b then Err e else r)
agree_if q true e c r h = agree_err q c e
agree_if q false e c r h = h

-- one by one
pub agree_each : {X A B : Type 0} (p : B → A) (f : X → Result A Fault) (g : X → Result B Fault) (xs : List X)
    → Each (λ x. Agree p (f x) (g x)) xs → Agree (map p) (each f xs) (each g xs)
agree_each p f g [] h = refl
agree_each p f g (x ∷ rest) h =
    agree_then p (map p) (f x) (g x) (λ y. then_do (each f rest) (λ more. Ok (y ∷ more)))
    (λ y. then_do (each g rest) (λ more. Ok (y ∷ more))) h.0
    (λ b. agree_then (map p) (map p) (each f rest) (each g rest) (λ more. Ok (p b ∷ more)) (λ more. Ok (b ∷ more))
    (agree_each p f g rest h.1) (λ bs. refl))
