-- Flags that are put behind others, part by part.
use Rattle.std.proofs.Common.{◌≡◌, ℕ, ◌+◌, ◌<◌, Bool, List, [], ◌∷◌, ◌++◌, length, take, get_or, Result, Ok, Err, OnOk}
use Rattle.std.proofs.Common.{sym, ◌∙◌, ap, append_assoc, append-nil}
use Rattle.std.proofs.lemmas.List.{take_more}

-- a part without flags
pub no_part : (old x : List Bool) → x ≡ [] → old ≡ old ++ x
no_part old x e = sym (ap (λ q. old ++ q) e ∙ append-nil old)

-- two parts, the second by a call that may fail
pub two_parts : {E : Type 0} (r : Result (Unit {0}) E) (old mid new x y z : List Bool) → mid ≡ old ++ x → z ≡ x ++ y
    → OnOk r (new ≡ mid ++ y) → OnOk r (new ≡ old ++ z)
two_parts (Ok u) old mid new x y z m e h = h ∙ ap (λ q. q ++ y) m ∙ append_assoc old x y ∙ ap (λ q. old ++ q) (sym e)
two_parts (Err e) old mid new x y z m e' h = tt

-- two parts that have come
pub both_parts : (old mid new x y : List Bool) → mid ≡ old ++ x → new ≡ mid ++ y → new ≡ old ++ (x ++ y)
both_parts old mid new x y m h = h ∙ ap (λ q. q ++ y) m ∙ append_assoc old x y

-- a loop over a list, one element further
pub one_more : {A : Type 0} (F : List A → List Bool) (g : A → List Bool)
    → ((ys : List A) (y : A) → F (ys ++ y ∷ []) ≡ F ys ++ g y) → (xs : List A) (i : ℕ) (d : A) (old mid new : List Bool)
    → i < length xs → d ≡ get_or xs i d → mid ≡ old ++ F (take i xs) → new ≡ mid ++ g d
    → new ≡ old ++ F (take (i + 1) xs)
one_more F g push xs i d old mid new h e m n =
    both_parts old mid new (F (take i xs)) (g d) m n
    ∙ ap (λ q. old ++ q) (sym (ap F (take_more xs i d h) ∙ push (take i xs) (get_or xs i d)
    ∙ ap (λ y. F (take i xs) ++ g y) (sym e)))

-- a mark behind one part and before another
pub around_mark : {E : Type 0} (r : Result (Unit {0}) E) (old mid next new x y z : List Bool) (wrong : Bool)
    → mid ≡ old ++ x → next ≡ mid ++ wrong ∷ [] → z ≡ x ++ wrong ∷ y → OnOk r (new ≡ next ++ y)
    → OnOk r (new ≡ old ++ z)
around_mark r old mid next new x y z wrong m n e h =
    two_parts r old next new (x ++ wrong ∷ []) y z (both_parts old mid next x (wrong ∷ []) m n)
    (e ∙ sym (append_assoc x (wrong ∷ []) y)) h

-- the parts of a bracket
pub bracket_parts : (mid m1 m2 m3 m4 new a b c d : List Bool) (wrong : Bool) → m1 ≡ mid ++ wrong ∷ [] → m2 ≡ m1 ++ a
    → m3 ≡ m2 ++ b → m4 ≡ m3 ++ c → new ≡ m4 ++ d → new ≡ mid ++ (wrong ∷ (a ++ (b ++ (c ++ d))))
bracket_parts mid m1 m2 m3 m4 new a b c d wrong e1 e2 e3 e4 e5 =
    both_parts mid m1 new (wrong ∷ []) (a ++ (b ++ (c ++ d))) e1
    (both_parts m1 m2 new a (b ++ (c ++ d)) e2
    (both_parts m2 m3 new b (c ++ d) e3 (both_parts m3 m4 new c d e4 e5)))
