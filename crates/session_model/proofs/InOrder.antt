-- One after another: what is done and what the rest gives are what all give.
--   onto done r    what r gives, behind what is done
use Rattle.std.proofs.Common.{◌≡◌, ◌||◌, ◌++◌, Bool, true, false, List, [], ◌∷◌, Result, Ok, Err, refl, sym, ap, ◌∙◌}
use Rattle.std.proofs.lemmas.List.{append_assoc, append-nil}
use Rattle.dt_base.specs.Warns.{no_warns, both_warns}
use Rattle.dt_base.specs.declared.fault.Fault.{Fault}
use Rattle.dt_base.specs.declared.warns.Warns.{Warns}
use Rattle.session_model.specs.Expression.{all_warns, each}
use Rattle.vector_model.specs.Then.{then_do}

abbrev pub onto : {B : Type 0} → List B → Result (List B) Fault → Result (List B) Fault
onto done r = then_do r (λ more. Ok (done ++ more))

-- behind nothing
pub onto_nothing : {B : Type 0} (r : Result (List B) Fault) → r ≡ onto [] r
onto_nothing (Ok more) = refl
onto_nothing (Err f) = refl

one_more : {B : Type 0} (done : List B) (y : B) (r : Result (List B) Fault)
    → onto done (then_do r (λ more. Ok (y ∷ more))) ≡ onto (done ++ y ∷ []) r
one_more done y (Ok more) = ap Ok (sym (append_assoc done (y ∷ []) more))
one_more done y (Err f) = refl

module _ {A B : Type 0} (f : A → Result B Fault) (whole : Result (List B) Fault) (done : List B) where
  -- one more was done
  pub each_next : (x : A) (rest : List A) (y : B) → whole ≡ onto done (each f (x ∷ rest)) → f x ≡ Ok y → whole
      ≡ onto (done ++ y ∷ []) (each f rest)
  each_next x rest y h e =
      h ∙ (ap (λ o. onto done (then_do o (λ z. then_do (each f rest) (λ more. Ok (z ∷ more))))) e
      ∙ one_more done y (each f rest))

  -- the next one's fault is the fault of all
  pub each_refused : (x : A) (rest : List A) (e : Fault) → whole ≡ onto done (each f (x ∷ rest)) → f x ≡ Err e → whole
      ≡ Err e
  each_refused x rest e h k = h ∙ ap (λ o. onto done (then_do o (λ z. then_do (each f rest) (λ more. Ok (z ∷ more))))) k

  -- all were done
  pub each_done : whole ≡ onto done (each f []) → whole ≡ Ok done
  each_done h = h ∙ ap Ok (append-nil done)

pub ruleset in_order = (onto_nothing, each_next, each_refused, each_done)

-- ---- Warnings of all

or_assoc : (a b c : Bool) → (a || (b || c)) ≡ ((a || b) || c)
or_assoc true b c = refl
or_assoc false b c = refl

or_false : (a : Bool) → (a || false) ≡ a
or_false true = refl
or_false false = refl

-- beside none
pub none_first : (s : Warns) → s ≡ both_warns no_warns s
none_first s = refl

pub none_last : (s : Warns) → both_warns s no_warns ≡ s
none_last s = λ j. record {
  w01 = or_false s.w01 j;
  w02 = or_false s.w02 j;
  w03 = or_false s.w03 j;
  w04 = or_false s.w04 j;
  w05 = or_false s.w05 j;
  w06 = or_false s.w06 j;
}

both_assoc : (s t u : Warns) → both_warns s (both_warns t u) ≡ both_warns (both_warns s t) u
both_assoc s t u = λ j. record {
  w01 = or_assoc s.w01 t.w01 u.w01 j;
  w02 = or_assoc s.w02 t.w02 u.w02 j;
  w03 = or_assoc s.w03 t.w03 u.w03 j;
  w04 = or_assoc s.w04 t.w04 u.w04 j;
  w05 = or_assoc s.w05 t.w05 u.w05 j;
  w06 = or_assoc s.w06 t.w06 u.w06 j;
}

-- one more was joined
pub warns_next : (whole all w : Warns) (rest : List Warns) → whole ≡ both_warns all (all_warns (w ∷ rest)) → whole
    ≡ both_warns (both_warns all w) (all_warns rest)
warns_next whole all w rest h = h ∙ both_assoc all w (all_warns rest)

pub ruleset warnings = (none_first, none_last, warns_next)
