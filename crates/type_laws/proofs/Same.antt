-- Two ways to look at arguments that give the same for each.
--   each_same         lists
--   arguments_same, slots_same    arguments, and what formals are given
--   described_same    the table that a call tells of, which the script's names alone give
use Rattle.std.proofs.Common.{◌≡◌, ◌∙◌, ℕ, zero, suc, Bool, true, false, List, [], ◌∷◌, Option, None, Some, Result, Ok}
use Rattle.std.proofs.Common.{Err, refl, ap}
use Rattle.std.specs.Prelude.{slice_get}
use Rattle.dt_base.specs.declared.fault.Fault.{Fault}
use Rattle.func_table.specs.Calls.{formals_of, is_flag}
use Rattle.func_table.specs.declared.formal.Formal.{Formal}
use Rattle.func_table.specs.declared.formal.Formal.TheVariants as formal
use Rattle.func_table.specs.declared.func.Func.{Func}
use Rattle.vector_model.specs.Then.{then_do}
use Rattle.expr_model.specs.Surroundings.{Env, var_table}
use Rattle.session_model.specs.Binding.{place_of, places}
use Rattle.session_model.specs.Expression.{each, each_argument, arg_at, all_slots, described_table, given, names_in}
use Rattle.session_model.specs.Expression.{slot_as, slot_at, table_at, table_in}
use Rattle.session_model.specs.Form.{name_in}
use Rattle.session_model.specs.Meanings.{Meaning, ArgMeaning}
use Rattle.type_laws.proofs.Fold.{Each}

-- one step after another
after_same : {A B : Type 0} (r : Result A Fault) (f g : A → Result B Fault) → ((a : A) → f a ≡ g a)
    → then_do r f ≡ then_do r g
after_same (Ok a) f g h = h a
after_same (Err x) f g h = refl

pub then_same : {A B : Type 0} (r q : Result A Fault) (f g : A → Result B Fault) → r ≡ q → ((a : A) → f a ≡ g a)
    → then_do r f ≡ then_do q g
then_same r q f g e h = ap (λ z. then_do z f) e ∙ after_same q f g h

pub each_same : {X A : Type 0} (f g : X → Result A Fault) (xs : List X) → Each (λ x. f x ≡ g x) xs
    → each f xs ≡ each g xs
each_same f g [] h = refl
each_same f g (x ∷ rest) h =
    then_same (f x) (g x) (λ y. then_do (each f rest) (λ more. Ok (y ∷ more)))
    (λ y. then_do (each g rest) (λ more. Ok (y ∷ more))) h.0
    (λ y. ap (λ z. then_do z (λ more. Ok (y ∷ more))) (each_same f g rest h.1))

-- ---- Arguments

abbrev pub Holds : {A : Type 0} → (A → Type 0) → Option A → Type 0
Holds P None = Unit {0}
Holds P (Some x) = P x

holds_at : {A : Type 0} (P : A → Type 0) (xs : List A) (i : ℕ) → Each P xs → Holds P (slice_get xs i)
holds_at P [] i h = tt
holds_at P (x ∷ xs) zero h = h.0
holds_at P (x ∷ xs) (suc i) h = holds_at P xs i h.1

-- what holds of each argument holds of the one at a place
pub holds_arg : (P : ArgMeaning → Type 0) (args : List ArgMeaning) (o : Option ℕ) → Each P args
    → Holds P (arg_at args o)
holds_arg P args None h = tt
holds_arg P args (Some i) h = holds_at P args i h

module _ {A : Type 0} (f g : Meaning → Result A Fault) where
  abbrev Same : ArgMeaning → Type 0
  Same a = f a.means ≡ g a.means

  pub arguments_same : (args : List ArgMeaning) → Each Same args → each_argument f args ≡ each_argument g args
  arguments_same args h = each_same (λ a. f a.means) (λ a. g a.means) args h

  as_same : (p : Formal) (flag : Bool) (m : Meaning) → f m ≡ g m → slot_as f p flag m ≡ slot_as g p flag m
  as_same p true m e = refl
  as_same p false m e = ap given e

  slot_same : (p : Formal) (o : Option ArgMeaning) → Holds Same o → slot_at f p o ≡ slot_at g p o
  slot_same p None h = refl
  slot_same p (Some a) h = as_same p (is_flag p) a.means h

  formals_same : (args : List ArgMeaning) (formals : List (Formal × Option ℕ)) → Each Same args
      → Each (λ x. slot_at f x.0 (arg_at args x.1) ≡ slot_at g x.0 (arg_at args x.1)) formals
  formals_same args [] h = tt
  formals_same args (x ∷ rest)
      h = (slot_same x.0 (arg_at args x.1) (holds_arg Same args x.1 h), formals_same args rest h)

  pub slots_same : (h : Func) (args : List ArgMeaning) → Each Same args → all_slots f h args ≡ all_slots g h args
  slots_same h args e =
      let formals = places (names_in args) 0 (formals_of h) in
      each_same (λ x. slot_at f x.0 (arg_at args x.1)) (λ x. slot_at g x.0 (arg_at args x.1)) formals
      (formals_same args formals e)

-- ---- The table that a call tells of

module _ (s t : Env) (vars : (name : List ℕ) → s.vars name ≡ t.vars name) where
  named_table : (o : Option (List ℕ)) → table_at s o ≡ table_at t o
  named_table None = refl
  named_table (Some name) = ap (var_table name) (vars name)

  table_same : (o : Option ArgMeaning) → table_in s o ≡ table_in t o
  table_same None = refl
  table_same (Some a) = named_table (name_in a.means.form)

  pub described_same : (args : List ArgMeaning) → described_table s args ≡ described_table t args
  described_same args = table_same (arg_at args (place_of (names_in args) 0 formal.D))
