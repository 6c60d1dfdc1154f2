-- Calls give the type that was checked.
--   Typed m           m's value has the type that was checked
--   tails_agree, call_agrees
use Rattle.std.proofs.Common.{ℕ, Bool, true, false, List, [], ◌∷◌, map, Option, None, Some, Ok, refl}
use Rattle.dt_base.specs.declared.cell.Cell.TheVariants as is
use Rattle.dt_model.specs.Combine.{common_of}
use Rattle.func_table.specs.Calls.{func_of, kind_of as call_kind, arity_of, formals_of, is_flag}
use Rattle.func_table.specs.declared.formal.Formal.{Formal}
use Rattle.func_table.specs.declared.func.Arity.{Arity}
use Rattle.func_table.specs.declared.func.Arity.TheVariants.{Fixed, Columns, Unnamed, More, Named as ByName}
use Rattle.func_table.specs.declared.func.Func.{Func}
use Rattle.func_table.specs.declared.func.Kind.{Kind}
use Rattle.func_table.specs.declared.func.Kind.TheVariants as kind
use Rattle.func_table.specs.declared.slot.Slot.TheVariants.{Given}
use Rattle.vector_model.specs.Functions.{Valued}
use Rattle.vector_model.specs.Then.{then_do}
use Rattle.expr_model.specs.Functions.{type_of, description_type, description_of}
use Rattle.expr_model.specs.Operators.{tail_type}
use Rattle.expr_model.specs.Surroundings.{Env}
use Rattle.session_model.specs.Binding.{bound, places}
use Rattle.session_model.specs.Expression.{quiet, each_argument, arg_at, all_slots, applied, check_call, check_kind}
use Rattle.session_model.specs.Expression.{check_named, check_tail, check_tails, check_vectors, combined}
use Rattle.session_model.specs.Expression.{described_table, flag_slot, met, names_in, slot_as, slot_at, value_call}
use Rattle.session_model.specs.Expression.{value_kind, value_named, value_tail, value_tails, value_vectors}
use Rattle.session_model.specs.Form.{Form, Literal}
use Rattle.session_model.specs.Meanings.{Meaning, ArgMeaning, TailMeaning}
use Rattle.type_laws.proofs.Agree.{Agree, agree_then, agree_same, agree_each}
use Rattle.type_laws.proofs.Fold.{Each}
use Rattle.type_laws.proofs.Functions.{slot_kind, function_agrees, combined_agrees, description_agrees}
use Rattle.type_laws.proofs.Operators.{kind_of, tail_agrees}
use Rattle.type_laws.proofs.Same.{Holds, holds_arg}

abbrev pub Typed : Meaning → Type 0
Typed m = (s : Env) → Agree kind_of (m.check s) (m.value s)

-- ---- Chains

pub tails_agree : (s : Env) (a : Valued) (rest : List TailMeaning) → Each (λ t. Typed t.means) rest
    → Agree kind_of (check_tails s (kind_of a) rest) (value_tails s a rest)
tails_agree s a [] h = refl
tails_agree s a (t ∷ rest) h =
    agree_then kind_of kind_of (check_tail s (kind_of a) t) (value_tail s a t) (λ b. check_tails s b rest)
    (λ b. value_tails s b rest)
    (agree_then kind_of kind_of (t.means.check s) (t.means.value s) (λ b. tail_type t.op (kind_of a) b)
    (λ b. met t.op a b) (h.0 s) (λ b. tail_agrees t.op a b))
    (λ b. tails_agree s b rest h.1)

-- ---- Slots

flag_agrees : (p : Formal) (form : Form) → Agree slot_kind (flag_slot p form) (flag_slot p form)
flag_agrees p (Literal (is.Lgl b) k) = refl
flag_agrees p _ = tt

module _ (s : Env) where
  as_agrees : (p : Formal) (flag : Bool) (m : Meaning) → Typed m
      → Agree slot_kind (slot_as (λ x. x.check s) p flag m) (slot_as (λ x. x.value s) p flag m)
  as_agrees p true m h = flag_agrees p m.form
  as_agrees p false m h = agree_then kind_of slot_kind (m.check s) (m.value s) (λ x. Ok (Given x)) (λ x. Ok (Given x))
      (h s) (λ v. refl)

  slot_agrees : (p : Formal) (o : Option ArgMeaning) → Holds (λ a. Typed a.means) o
      → Agree slot_kind (slot_at (λ x. x.check s) p o) (slot_at (λ x. x.value s) p o)
  slot_agrees p None h = refl
  slot_agrees p (Some a) h = as_agrees p (is_flag p) a.means h

  each_slot : (args : List ArgMeaning) (formals : List (Formal × Option ℕ)) → Each (λ a. Typed a.means) args
      → Each (λ x. Agree slot_kind (slot_at (λ m. m.check s) x.0 (arg_at args x.1))
      (slot_at (λ m. m.value s) x.0 (arg_at args x.1))) formals
  each_slot args [] h = tt
  each_slot args (x ∷ rest)
      h = (slot_agrees x.0 (arg_at args x.1) (holds_arg (λ a. Typed a.means) args x.1 h), each_slot args rest h)

  slots_agree : (f : Func) (args : List ArgMeaning) → Each (λ a. Typed a.means) args
      → Agree (map slot_kind) (all_slots (λ m. m.check s) f args) (all_slots (λ m. m.value s) f args)
  slots_agree f args h =
      let formals = places (names_in args) 0 (formals_of f) in
      agree_each slot_kind (λ x. slot_at (λ m. m.check s) x.0 (arg_at args x.1))
      (λ x. slot_at (λ m. m.value s) x.0 (arg_at args x.1)) formals (each_slot args formals h)

  each_arg : (args : List ArgMeaning) → Each (λ a. Typed a.means) args
      → Each (λ a. Agree kind_of (a.means.check s) (a.means.value s)) args
  each_arg [] h = tt
  each_arg (a ∷ rest) h = (h.0 s, each_arg rest h.1)

  arguments_agree : (args : List ArgMeaning) → Each (λ a. Typed a.means) args
      → Agree (map kind_of) (each_argument (λ m. m.check s) args) (each_argument (λ m. m.value s) args)
  arguments_agree args h = agree_each kind_of (λ a. a.means.check s) (λ a. a.means.value s) args (each_arg args h)

  -- ---- Calls

  vectors_agree : (a : Arity) (f : Func) (args : List ArgMeaning) → Each (λ a. Typed a.means) args
      → Agree kind_of (check_vectors a s f args) (value_vectors a s f args)
  vectors_agree Unnamed f args h = agree_then (map kind_of) kind_of (each_argument (λ m. m.check s) args)
      (each_argument (λ m. m.value s) args) (λ kinds. Ok (common_of kinds)) combined (arguments_agree args h)
      combined_agrees
  vectors_agree Fixed f args h = agree_then (map slot_kind) kind_of (all_slots (λ m. m.check s) f args)
      (all_slots (λ m. m.value s) f args) (type_of f) (applied f) (slots_agree f args h) (function_agrees f)
  vectors_agree Columns f args h = tt
  vectors_agree More f args h = tt
  vectors_agree ByName f args h = tt

  kind_agrees : (k : Kind) (f : Func) (args : List ArgMeaning) → Each (λ a. Typed a.means) args
      → Agree kind_of (check_kind k s f args) (value_kind k s f args)
  kind_agrees kind.Table f args h = tt
  kind_agrees kind.Command f args h = tt
  kind_agrees kind.Report f args h = tt
  kind_agrees kind.Rows f args h = tt
  kind_agrees kind.Vector f args h = agree_same kind_of (bound f (names_in args))
      (λ _. check_vectors (arity_of f) s f args) (λ _. value_vectors (arity_of f) s f args)
      (λ _. vectors_agree (arity_of f) f args h)
  kind_agrees kind.Description f args h =
      agree_same kind_of (bound f (names_in args)) (λ _. then_do (described_table s args) (λ t. description_type f))
      (λ _. then_do (described_table s args) (λ t. quiet (description_of f t)))
      (λ _. agree_same kind_of (described_table s args) (λ t. description_type f) (λ t. quiet (description_of f t))
      (description_agrees f))

  named_agrees : (name : List ℕ) (o : Option Func) (args : List ArgMeaning) → Each (λ a. Typed a.means) args
      → Agree kind_of (check_named s name o args) (value_named s name o args)
  named_agrees name None args h = tt
  named_agrees name (Some f) args h = kind_agrees (call_kind f) f args h

  pub call_agrees : (name : List ℕ) (args : List ArgMeaning) → Each (λ a. Typed a.means) args
      → Agree kind_of (check_call s name args) (value_call s name args)
  call_agrees name args h = named_agrees name (func_of name) args h
