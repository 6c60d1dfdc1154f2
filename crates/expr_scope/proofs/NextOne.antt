-- The step of a loop: the next one of a list, behind those that are done.
use Rattle.std.proofs.Common.{◌≡◌, ◌<◌, ◌+◌, ◌++◌, ℕ, List, [], ◌∷◌, length, map, drop, get_or, Result, Ok, refl, sym}
use Rattle.std.proofs.Common.{ap, ◌∙◌, add-one, drop-cons}
use Rattle.dt_base.specs.Warns.{both_warns}
use Rattle.dt_base.specs.declared.fault.Fault.{Fault}
use Rattle.dt_base.specs.declared.warns.Warns.{Warns}
use Rattle.session_model.proofs.InOrder.{each_next, onto, warns_next}
use Rattle.session_model.specs.Expression.{all_warns, each}

left_at : {X : Type 0} (xs : List X) (i : ℕ) (x : X) → i < length xs → x ≡ get_or xs i x
    → drop i xs ≡ x ∷ drop (i + 1) xs
left_at xs i x l e = drop-cons xs i x l ∙ rw (add-one i, ← e) refl

-- what f gives for the one at i was added
pub each_at : {X A B : Type 0} (m : X → A) (f : A → Result B Fault) (whole : Result (List B) Fault) (done new : List B)
    (xs : List X) (i : ℕ) (x : X) (y : B) → whole ≡ onto done (each f (map m (drop i xs))) → i < length xs
    → x ≡ get_or xs i x → f (m x) ≡ Ok y → new ≡ done ++ y ∷ [] → whole ≡ onto new (each f (map m (drop (i + 1) xs)))
each_at m f whole done new xs i x y h l e k n =
    each_next f whole done (m x) (map m (drop (i + 1) xs)) y
    (h ∙ ap (λ rest. onto done (each f (map m rest))) (left_at xs i x l e)) k
    ∙ ap (λ ys. onto ys (each f (map m (drop (i + 1) xs)))) (sym n)

-- the warnings of the one at i were joined
pub warns_at : {X Y : Type 0} (g : X → Y) (f : Y → Warns) (whole all new : Warns) (xs : List X) (i : ℕ) (x : X)
    → whole ≡ both_warns all (all_warns (map f (map g (drop i xs)))) → i < length xs → x ≡ get_or xs i x
    → new ≡ both_warns all (f (g x)) → whole ≡ both_warns new (all_warns (map f (map g (drop (i + 1) xs))))
warns_at g f whole all new xs i x h l e n =
    warns_next whole all (f (g x)) (map f (map g (drop (i + 1) xs)))
    (h ∙ ap (λ rest. both_warns all (all_warns (map f (map g rest)))) (left_at xs i x l e))
    ∙ ap (λ w. both_warns w (all_warns (map f (map g (drop (i + 1) xs))))) (sym n)
