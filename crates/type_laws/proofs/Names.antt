-- A type and a value depend on what the names in an expression give, and on the tables of the script's
-- names.
--   Given m           m's type and value are the same where its names give the same
use Rattle.std.proofs.Common.{◌≡◌, ◌∙◌, sym, ap, ℕ, Bool, true, false, not, ◌&&◌, List, [], ◌∷◌, ◌++◌, Option, None}
use Rattle.std.proofs.Common.{Some, Result, Ok, refl}
use Rattle.std.specs.Prelude.{if◌then◌else◌, is_some, is_none, ◌||◌}
use Rattle.dt_base.specs.declared.cell.ColType.{ColType}
use Rattle.dt_base.specs.declared.fault.Fault.{Fault}
use Rattle.dt_base.specs.declared.fault.Code.TheVariants.{E02, E03}
use Rattle.dt_base.specs.declared.operators.UnOp.{UnOp}
use Rattle.dt_base.specs.declared.operators.UnOp.TheVariants as un
use Rattle.dt_model.specs.Combine.{common_of}
use Rattle.dt_model.specs.Vector.{Vector}
use Rattle.dt_tree.specs.declared.tree.Expr.{Expr}
use Rattle.dt_tree.specs.declared.tree.Expr.TheOpen as layer
use Rattle.func_table.specs.Calls.{func_of, kind_of as call_kind, arity_of}
use Rattle.func_table.specs.Special.{special_of}
use Rattle.func_table.specs.declared.func.Arity.{Arity}
use Rattle.func_table.specs.declared.func.Arity.TheVariants.{Fixed, Columns as AsColumns, Unnamed, More, Named as ByName}
use Rattle.func_table.specs.declared.func.Func.{Func}
use Rattle.func_table.specs.declared.func.Kind.{Kind}
use Rattle.func_table.specs.declared.func.Kind.TheVariants as kind
use Rattle.func_table.specs.declared.special.Special.{Special}
use Rattle.vector_model.specs.Functions.{Valued}
use Rattle.vector_model.specs.Then.{then_do}
use Rattle.expr_model.specs.Functions.{type_of, description_type, description_of}
use Rattle.expr_model.specs.Operators.{sign_type, tail_type}
use Rattle.expr_model.specs.Surroundings.{Env, column_named, found_or, name_vector, special_or, var_vector}
use Rattle.session_model.specs.Binding.{bound}
use Rattle.session_model.specs.Columns.{is_column}
use Rattle.session_model.specs.Expression.{applied, combined, check_kind, check_named, check_tail, check_tails}
use Rattle.session_model.specs.Expression.{check_vectors, kind_in, met, names_in, quiet, signed, value_kind}
use Rattle.session_model.specs.Expression.{value_named, value_tail, value_tails, value_vectors}
use Rattle.session_model.specs.Meaning.{check_of, value_in, expr_step, meaning, args_mention, tails_mention}
use Rattle.session_model.specs.Meaning.{kind_mentions, call_mentions}
use Rattle.session_model.specs.Meanings.{Meaning, ArgMeaning, TailMeaning}
use Rattle.type_laws.proofs.Fold.{Each, Layer, Parts, holds_of_all}
use Rattle.type_laws.proofs.Same.{then_same, arguments_same, described_same, slots_same}
use Rattle.type_laws.specs.Laws.{names_none}

-- surroundings in which the names give the same
pub record Alike (s t : Env) (names : List (List ℕ)) : Type 0 where
  pub vars : (name : List ℕ) → s.vars name ≡ t.vars name
  pub given : Each (λ q. name_vector s q ≡ name_vector t q) names

abbrev pub Given : Meaning → Type 0
Given m = (s t : Env) → Alike s t m.mentions → (m.check s ≡ m.check t) × (m.value s ≡ m.value t)

before : {A : Type 0} (P : A → Type 0) (xs ys : List A) → Each P (xs ++ ys) → Each P xs
before P [] ys h = tt
before P (x ∷ xs) ys h = (h.0, before P xs ys h.1)

behind : {A : Type 0} (P : A → Type 0) (xs ys : List A) → Each P (xs ++ ys) → Each P ys
behind P [] ys h = h
behind P (x ∷ xs) ys h = behind P xs ys h.1

module _ (s t : Env) (vars : (name : List ℕ) → s.vars name ≡ t.vars name) where
  abbrev Gives : List ℕ → Type 0
  Gives q = name_vector s q ≡ name_vector t q

  abbrev Equal : Meaning → Type 0
  Equal m = (m.check s ≡ m.check t) × (m.value s ≡ m.value t)

  tails_equal : (rest : List TailMeaning) → Each (λ x. Given x.means) rest → Each Gives (tails_mention rest)
      → Each (λ x. Equal x.means) rest
  tails_equal [] h e = tt
  tails_equal (x ∷ rest) h
      e = (
        h.0 s t (record { vars = vars; given = before Gives x.means.mentions (tails_mention rest) e }),
        tails_equal
            rest h.1 (behind Gives x.means.mentions (tails_mention rest) e),
      )

  args_equal : (args : List ArgMeaning) → Each (λ a. Given a.means) args → Each Gives (args_mention args)
      → Each (λ a. Equal a.means) args
  args_equal [] h e = tt
  args_equal (a ∷ rest) h
      e = (
        h.0 s t (record { vars = vars; given = before Gives a.means.mentions (args_mention rest) e }),
        args_equal
            rest h.1 (behind Gives a.means.mentions (args_mention rest) e),
      )

  -- ---- Chains

  types_same : (a : ColType) (rest : List TailMeaning) → Each (λ x. Equal x.means) rest
      → check_tails s a rest ≡ check_tails t a rest
  types_same a [] e = refl
  types_same a (x ∷ rest) e =
      then_same (check_tail s a x) (check_tail t a x) (λ b. check_tails s b rest) (λ b. check_tails t b rest)
      (ap (λ z. then_do z (λ b. tail_type x.op a b)) e.0.0) (λ b. types_same b rest e.1)

  values_same : (a : Valued) (rest : List TailMeaning) → Each (λ x. Equal x.means) rest
      → value_tails s a rest ≡ value_tails t a rest
  values_same a [] e = refl
  values_same a (x ∷ rest) e =
      then_same (value_tail s a x) (value_tail t a x) (λ b. value_tails s b rest) (λ b. value_tails t b rest)
      (ap (λ z. then_do z (λ b. met x.op a b)) e.0.1) (λ b. values_same b rest e.1)

  -- ---- Calls

  checks : (args : List ArgMeaning) → Each (λ a. Equal a.means) args
      → Each (λ a. a.means.check s ≡ a.means.check t) args
  checks [] e = tt
  checks (a ∷ rest) e = (e.0.0, checks rest e.1)

  values : (args : List ArgMeaning) → Each (λ a. Equal a.means) args
      → Each (λ a. a.means.value s ≡ a.means.value t) args
  values [] e = tt
  values (a ∷ rest) e = (e.0.1, values rest e.1)

  check_arity : (a : Arity) (f : Func) (args : List ArgMeaning) → Each (λ a. Equal a.means) args
      → check_vectors a s f args ≡ check_vectors a t f args
  check_arity Unnamed f args e = ap (λ z. then_do z (λ kinds. Ok (common_of kinds)))
      (arguments_same (λ m. m.check s) (λ m. m.check t) args (checks args e))
  check_arity Fixed f args e = ap (λ z. then_do z (type_of f))
      (slots_same (λ m. m.check s) (λ m. m.check t) f args (checks args e))
  check_arity AsColumns f args e = refl
  check_arity More f args e = refl
  check_arity ByName f args e = refl

  value_arity : (a : Arity) (f : Func) (args : List ArgMeaning) → Each (λ a. Equal a.means) args
      → value_vectors a s f args ≡ value_vectors a t f args
  value_arity Unnamed f args e = ap (λ z. then_do z combined)
      (arguments_same (λ m. m.value s) (λ m. m.value t) args (values args e))
  value_arity Fixed f args e = ap (λ z. then_do z (applied f))
      (slots_same (λ m. m.value s) (λ m. m.value t) f args (values args e))
  value_arity AsColumns f args e = refl
  value_arity More f args e = refl
  value_arity ByName f args e = refl

  kind_equal : (k : Kind) (f : Func) (args : List ArgMeaning) → Each (λ a. Given a.means) args
      → Each Gives (kind_mentions k args)
      → (check_kind k s f args ≡ check_kind k t f args) × (value_kind k s f args ≡ value_kind k t f args)
  kind_equal kind.Table f args h e = (refl, refl)
  kind_equal kind.Command f args h e = (refl, refl)
  kind_equal kind.Report f args h e = (refl, refl)
  kind_equal kind.Rows f args h e = (refl, refl)
  kind_equal kind.Vector f args h e = (
    ap (λ z. then_do (bound f (names_in args)) (λ _. z)) (check_arity (arity_of f) f args (args_equal args h e)),
    ap (λ z. then_do (bound f (names_in args)) (λ _. z)) (value_arity (arity_of f) f args (args_equal args h e)),
  )
  kind_equal kind.Description f args h e = (
    ap (λ z. then_do (bound f (names_in args)) (λ _. then_do z (λ t. description_type f)))
        (described_same s t vars args),
    ap (λ z. then_do (bound f (names_in args)) (λ _. then_do z (λ t. quiet (description_of f t))))
        (described_same s t vars args),
  )

  call_equal : (name : List ℕ) (o : Option Func) (args : List ArgMeaning) → Each (λ a. Given a.means) args
      → Each Gives (call_mentions o args)
      → (check_named s name o args ≡ check_named t name o args)
      × (value_named s name o args ≡ value_named t name o args)
  call_equal name None args h e = (refl, refl)
  call_equal name (Some f) args h e = kind_equal (call_kind f) f args h e

-- ---- The fold

signs : (o : UnOp) (arg : Meaning) → Given arg → (s t : Env) → Alike s t arg.mentions
    → (then_do (arg.check s) (sign_type o) ≡ then_do (arg.check t) (sign_type o))
    × (then_do (arg.value s) (signed o) ≡ then_do (arg.value t) (signed o))
signs o arg h s t e = let x = h s t e in (ap (λ z. then_do z (sign_type o)) x.0, ap (λ z. then_do z (signed o)) x.1)

chain : (first : Meaning) (rest : List TailMeaning) → Given first → Each (λ x. Given x.means) rest
    → Given (expr_step (layer.Chain first rest))
chain first rest h k s t e =
    let own : Alike s t first.mentions = record {
      vars = e.vars;
      given = before (λ q. name_vector s q ≡ name_vector t q) first.mentions
          (tails_mention rest) e.given;
    } in
    let more = tails_equal s t e.vars rest k
    (behind (λ q. name_vector s q ≡ name_vector t q) first.mentions (tails_mention rest) e.given) in
    let x = h s t own in (
      then_same (first.check s) (first.check t) (λ a. check_tails s a rest) (λ a. check_tails t a rest) x.0
          (λ a. types_same s t e.vars a rest more),
      then_same (first.value s) (first.value t) (λ a. value_tails s a rest) (λ a. value_tails t a rest) x.1
          (λ a. values_same s t e.vars a rest more),
    )

step : (l : Layer) → Parts Given l → Given (expr_step l)
step (layer.Lit cell k) h s t e = (refl, refl)
step layer.Null h s t e = (refl, refl)
step layer.Infinite h s t e = (refl, refl)
step (layer.Name name) h s t e = (ap kind_in e.given.0, ap quiet e.given.0)
step (layer.Paren inner) h s t e = h s t e
step (layer.Minus arg) h s t e = signs un.Neg arg h s t e
step (layer.Not arg) h s t e = signs un.Not arg h s t e
step (layer.Chain first rest) h s t e = chain first rest h.0 h.1 s t e
step (layer.Call name args) h s t e = call_equal s t e.vars name (func_of name) args h e.given
step (layer.Query head brackets) h s t e = (refl, refl)
step (layer.Formula left right) h s t e = (refl, refl)

pub given : (e : Expr) → Given (meaning e)
given = holds_of_all Given step

-- ---- Names that are no columns

both : (a b : Bool) → (a && b) ≡ true → (a ≡ true) × (b ≡ true)
both true b e = (refl, e)
both false b e = absurd (cc)

denied : (a : Bool) → not a ≡ true → a ≡ false
denied true e = absurd (cc)
denied false e = refl

not_special : (o : Option Special) → is_none o ≡ true → o ≡ None
not_special None e = refl
not_special (Some p) e = absurd (cc)

not_found : (x y : Option Vector) (r : Result Vector Fault) → (is_some x || is_some y) ≡ false
    → found_or x (found_or y r) ≡ r
not_found None None r e = refl
not_found None (Some v) r e = absurd (cc)
not_found (Some v) y r e = absurd (cc)

-- what is no column and not special is a script's name
plain_name : (s : Env) (q : List ℕ) → (is_none (special_of q) && not (is_column s q)) ≡ true
    → special_or s q (special_of q) ≡ var_vector E03 q (s.vars q)
plain_name s q h =
    let x = both (is_none (special_of q)) (not (is_column s q)) h in
    ap (special_or s q) (not_special (special_of q) x.0)
    ∙ not_found (column_named q s.single) (column_named q s.rows) (var_vector E03 q (s.vars q))
    (denied (is_column s q) x.1)

if_same : (b c : Bool) (x y z w : Result Vector Fault) → b ≡ c → x ≡ z → y ≡ w
    → (if b then x else y) ≡ (if c then z else w)
if_same true true x y z w e p q = p
if_same true false x y z w e p q = absurd (cc)
if_same false true x y z w e p q = absurd (cc)
if_same false false x y z w e p q = q

module _ (s t : Env) (inside : s.inside ≡ t.inside) (vars : (name : List ℕ) → s.vars name ≡ t.vars name) where
  name_same : (q : List ℕ) → (is_none (special_of q) && not (is_column s q)) ≡ true
      → (is_none (special_of q) && not (is_column t q)) ≡ true → name_vector s q ≡ name_vector t q
  name_same q h k =
      if_same s.inside t.inside (special_or s q (special_of q)) (var_vector E02 q (s.vars q))
      (special_or t q (special_of q)) (var_vector E02 q (t.vars q)) inside
      (plain_name s q h ∙ ap (var_vector E03 q) (vars q) ∙ sym (plain_name t q k)) (ap (var_vector E02 q) (vars q))

  names_same : (names : List (List ℕ)) → names_none s names ≡ true → names_none t names ≡ true
      → Each (λ q. name_vector s q ≡ name_vector t q) names
  names_same [] h k = tt
  names_same (q ∷ rest) h k =
      let x = both (is_none (special_of q) && not (is_column s q)) (names_none s rest) h in
      let y = both (is_none (special_of q) && not (is_column t q)) (names_none t rest) k in
      (name_same q x.0 y.0, names_same rest x.1 y.1)

  pub one_type : (e : Expr) → names_none s (meaning e).mentions ≡ true → names_none t (meaning e).mentions ≡ true
      → check_of e s ≡ check_of e t
  one_type e h k = (given e s t (record { vars = vars; given = names_same (meaning e).mentions h k })).0

  pub one_value : (e : Expr) → names_none s (meaning e).mentions ≡ true → names_none t (meaning e).mentions ≡ true
      → value_in e s ≡ value_in e t
  one_value e h k = (given e s t (record { vars = vars; given = names_same (meaning e).mentions h k })).1
