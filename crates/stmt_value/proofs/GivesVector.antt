-- Expressions that give their vector as a statement's value.
--   GivesVector m w    what m gives is its vector
use Rattle.std.proofs.Common.{rules, ◌≡◌, ◌∙◌, ◌⊎◌, ℕ, List, Option, None, Some, inl, inr, map, refl, sym, ap, subst}
use Rattle.dt_tree.specs.declared.tree.Arg.{Arg}
use Rattle.dt_tree.specs.declared.tree.Expr.{Expr, the_lemmas}
use Rattle.dt_tree.specs.declared.tree.Expr.TheOpen.{Expr-F}
use Rattle.dt_tree.specs.declared.tree.Expr.TheVariants.{Minus, Not, Chain, Call}
use Rattle.dt_tree.specs.declared.tree.Tail.{Tail}
use Rattle.func_table.specs.declared.func.Func.{Func}
use Rattle.func_table.specs.declared.func.Kind.{Kind}
use Rattle.func_table.specs.declared.func.Kind.TheVariants as kind
use Rattle.func_table.specs.Calls.{func_of, kind_of}
use Rattle.session_model.specs.Meaning.{meaning, arg_meaning, tail_meaning, expr_step, vector_gives, call_of, call_given, call_gives, kind_gives}
use Rattle.session_model.specs.Meanings.{Meaning, ArgMeaning}
use Rattle.session_model.specs.Value.{Scene}
use Rattle.stmt_value.specs.Calls.{call_or, known_call}

-- what it gives is its vector
abbrev pub GivesVector : Meaning → Scene → Type 0
GivesVector m w = m.gives w ≡ vector_gives m.check m.value w

-- an expression of this meaning gives what the meaning gives
of_meaning : (e v : Expr) (m : Meaning) (w : Scene) → e ≡ v → meaning v ≡ m → GivesVector m w → GivesVector (meaning e) w
of_meaning e v m w p q h = let P : Meaning → Type 0 = λ x. GivesVector x w in subst P (sym (ap meaning p ∙ q)) h

meaning-Minus : (x : Expr) → meaning (Minus x) ≡ expr_step (Expr-F.Minus (meaning x))
meaning-Minus x = search (rules, the_lemmas)

meaning-Not : (x : Expr) → meaning (Not x) ≡ expr_step (Expr-F.Not (meaning x))
meaning-Not x = search (rules, the_lemmas)

meaning-Chain : (x : Expr) (rest : List Tail) → meaning (Chain x rest) ≡ expr_step (Expr-F.Chain (meaning x) (map tail_meaning rest))
meaning-Chain x rest = search (rules, the_lemmas)

meaning-Call : (name : List ℕ) (args : List Arg) → meaning (Call name args) ≡ call_of name (map arg_meaning args)
meaning-Call name args = search (rules, the_lemmas)

-- signs and chains of operators
pub sign_gives : (e : Expr) (w : Scene) → ((x : Expr) × e ≡ Minus x) ⊎ (((x : Expr) × e ≡ Not x) ⊎ ((x : Expr) × (rest : List Tail) × e ≡ Chain x rest)) → GivesVector (meaning e) w
sign_gives e w h =
    elim h [
      | inl p ↦ of_meaning e (Minus p.0) (expr_step (Expr-F.Minus (meaning p.0))) w p.1 (meaning-Minus p.0) refl
      | inr q ↦ elim q [
        | inl p ↦ of_meaning e (Not p.0) (expr_step (Expr-F.Not (meaning p.0))) w p.1 (meaning-Not p.0) refl
        | inr p ↦ of_meaning e (Chain p.0 p.1) (expr_step (Expr-F.Chain (meaning p.0) (map tail_meaning p.1))) w p.2 (meaning-Chain p.0 p.1) refl
      ]
    ]

-- ---- Calls

known_alike : (k : Kind) (name : List ℕ) (f : Func) (args : List ArgMeaning) (w : Scene) → kind_gives k name f args w ≡ known_call k f args (call_given name args) w
known_alike kind.Vector name f args w = refl
known_alike kind.Description name f args w = refl
known_alike kind.Report name f args w = refl
known_alike kind.Rows name f args w = refl
known_alike kind.Table name f args w = refl
known_alike kind.Command name f args w = refl

call_alike : (name : List ℕ) (o : Option Func) (args : List ArgMeaning) (w : Scene) → call_gives name o args w ≡ call_or o args (call_given name args) w
call_alike name None args w = refl
call_alike name (Some f) args w = known_alike (kind_of f) name f args w

-- what a call gives, by its vector
pub call_gives_by : (e : Expr) (w : Scene) (name : List ℕ) (args : List Arg) → e ≡ Call name args → (meaning e).gives w ≡ call_or (func_of name) (map arg_meaning args) (vector_gives (meaning e).check (meaning e).value) w
call_gives_by e w name args p =
    let P : Meaning → Type 0 = λ m. m.gives w ≡ call_or (func_of name) (map arg_meaning args) (vector_gives m.check m.value) w in
    subst P (sym (ap meaning p ∙ meaning-Call name args)) (call_alike name (func_of name) (map arg_meaning args) w)
