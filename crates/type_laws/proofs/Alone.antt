-- A type depends on the names and types of the surroundings alone.
use Rattle.std.proofs.Common.{◌≡◌, ◌∙◌, ◌==◌, sym, ap, ap₂, ℕ, Bool, true, false, List, [], ◌∷◌, map, Option, None}
use Rattle.std.proofs.Common.{Some, option_map, Result, Ok, Err, refl, codes}
use Rattle.std.specs.Prelude.{if◌then◌else◌, slice_get}
use Rattle.std.proofs.lemmas.Option.{slice_get-map}
use Rattle.dt_base.specs.Fault.{fault}
use Rattle.dt_base.specs.declared.cell.ColType.{ColType}
use Rattle.dt_base.specs.declared.fault.Fault.{Fault}
use Rattle.dt_base.specs.declared.fault.Code.TheVariants.{E02, E03}
use Rattle.dt_base.specs.declared.operators.UnOp.TheVariants as un
use Rattle.dt_model.specs.Combine.{common_of}
use Rattle.dt_model.specs.Table.{place_of}
use Rattle.dt_model.specs.Vector.{Vector}
use Rattle.dt_tree.specs.declared.tree.Expr.TheOpen as layer
use Rattle.func_table.specs.Calls.{func_of, kind_of as call_kind, arity_of}
use Rattle.func_table.specs.Special.{special_of}
use Rattle.func_table.specs.declared.func.Arity.{Arity}
use Rattle.func_table.specs.declared.func.Arity.TheVariants.{Fixed, Columns as AsColumns, Unnamed, More, Named as ByName}
use Rattle.func_table.specs.declared.func.Func.{Func}
use Rattle.func_table.specs.declared.func.Kind.{Kind}
use Rattle.func_table.specs.declared.func.Kind.TheVariants as kind
use Rattle.func_table.specs.declared.special.Special.{Special}
use Rattle.func_table.specs.declared.special.Special.TheVariants as special
use Rattle.vector_model.specs.Then.{then_do}
use Rattle.expr_model.specs.Functions.{type_of, description_type}
use Rattle.expr_model.specs.Operators.{sign_type, tail_type}
use Rattle.expr_model.specs.Surroundings.{Columns, Env, column_named, found_or, group_vector, integer, name_vector}
use Rattle.expr_model.specs.Surroundings.{special_or, var_vector, vector_at}
use Rattle.session_model.specs.Binding.{bound}
use Rattle.session_model.specs.Expression.{check_call, check_kind, check_named, check_tail, check_tails, check_vectors}
use Rattle.session_model.specs.Expression.{kind_in, names_in}
use Rattle.session_model.specs.Meaning.{expr_step}
use Rattle.session_model.specs.Meanings.{Meaning, ArgMeaning, TailMeaning}
use Rattle.type_laws.proofs.Fold.{Each, Layer, Parts, holds_of_all}
use Rattle.type_laws.proofs.Same.{then_same, arguments_same, described_same, slots_same}
use Rattle.type_laws.specs.Laws.{SameColumns, SameTypes, TypesAlone}

abbrev pub Alone : Meaning → Type 0
Alone m = (s t : Env) → SameTypes s t → m.check s ≡ m.check t

-- ---- Names

abbrev type_in : Vector → ColType
type_in v = v.kind

if_same : (b c : Bool) (x y z w : Result Vector Fault) → b ≡ c → kind_in x ≡ kind_in z → kind_in y ≡ kind_in w
    → kind_in (if b then x else y) ≡ kind_in (if c then z else w)
if_same true true x y z w e p q = p
if_same true false x y z w e p q = absurd (cc)
if_same false true x y z w e p q = absurd (cc)
if_same false false x y z w e p q = q

found_same : (o u : Option Vector) (x y : Result Vector Fault) → option_map type_in o ≡ option_map type_in u
    → kind_in x ≡ kind_in y → kind_in (found_or o x) ≡ kind_in (found_or u y)
found_same None None x y e p = p
found_same None (Some w) x y e p = absurd (cc)
found_same (Some v) None x y e p = absurd (cc)
found_same (Some v) (Some w) x y e p = let q : type_in v ≡ type_in w = cc in ap Ok q

at_kind : (vs : List Vector) (o : Option ℕ)
    → option_map type_in (vector_at vs o) ≡ elim o [ None ↦ None | Some c ↦ slice_get (map type_in vs) c ]
at_kind vs None = refl
at_kind vs (Some c) = sym (slice_get-map type_in vs c)

column_same : (name : List ℕ) (c d : Columns) → SameColumns c d
    → option_map type_in (column_named name c) ≡ option_map type_in (column_named name d)
column_same name c d h =
    at_kind c.vectors (place_of name c.names)
    ∙ ap₂ (λ n k. elim (place_of name n) [ None ↦ None | Some p ↦ slice_get k p ]) h.names h.types
    ∙ sym (at_kind d.vectors (place_of name d.names))

module _ (s t : Env) (h : SameTypes s t) where
  var_same : (name : List ℕ) → kind_in (var_vector E03 name (s.vars name)) ≡ kind_in (var_vector E03 name (t.vars name))
  var_same name = ap (λ z. kind_in (var_vector E03 name z)) (h.vars name)

  group_same : kind_in (group_vector s.group) ≡ kind_in (group_vector t.group)
  group_same = if_same (s.group == 0) (t.group == 0) (Err (fault E03 (codes ".GRP"))) (Ok (integer s.group))
      (Err (fault E03 (codes ".GRP"))) (Ok (integer t.group)) h.groups refl refl

  special_same : (name : List ℕ) (o : Option Special) → kind_in (special_or s name o) ≡ kind_in (special_or t name o)
  special_same name None =
      found_same (column_named name s.single) (column_named name t.single) _ _
      (column_same name s.single t.single h.single)
      (found_same (column_named name s.rows) (column_named name t.rows) _ _ (column_same name s.rows t.rows h.rows)
      (var_same name))
  special_same name (Some special.Count) = refl
  special_same name (Some special.Places) = refl
  special_same name (Some special.Group) = group_same
  special_same name (Some special.Rows) = refl

  name_same : (name : List ℕ) → kind_in (name_vector s name) ≡ kind_in (name_vector t name)
  name_same name = if_same s.inside t.inside (special_or s name (special_of name)) (var_vector E02 name (s.vars name))
      (special_or t name (special_of name)) (var_vector E02 name (t.vars name)) h.inside
      (special_same name (special_of name)) (ap (λ z. kind_in (var_vector E02 name z)) (h.vars name))

  -- ---- Chains and calls

  tails_same : (a : ColType) (rest : List TailMeaning) → Each (λ x. Alone x.means) rest
      → check_tails s a rest ≡ check_tails t a rest
  tails_same a [] e = refl
  tails_same a (x ∷ rest) e =
      then_same (check_tail s a x) (check_tail t a x) (λ b. check_tails s b rest) (λ b. check_tails t b rest)
      (ap (λ z. then_do z (λ b. tail_type x.op a b)) (e.0 s t h)) (λ b. tails_same b rest e.1)

  each_arg : (args : List ArgMeaning) → Each (λ a. Alone a.means) args
      → Each (λ a. a.means.check s ≡ a.means.check t) args
  each_arg [] e = tt
  each_arg (a ∷ rest) e = (e.0 s t h, each_arg rest e.1)

  vectors_same : (a : Arity) (f : Func) (args : List ArgMeaning) → Each (λ a. Alone a.means) args
      → check_vectors a s f args ≡ check_vectors a t f args
  vectors_same Unnamed f args e = ap (λ z. then_do z (λ kinds. Ok (common_of kinds)))
      (arguments_same (λ m. m.check s) (λ m. m.check t) args (each_arg args e))
  vectors_same Fixed f args e = ap (λ z. then_do z (type_of f))
      (slots_same (λ m. m.check s) (λ m. m.check t) f args (each_arg args e))
  vectors_same AsColumns f args e = refl
  vectors_same More f args e = refl
  vectors_same ByName f args e = refl

  kind_same : (k : Kind) (f : Func) (args : List ArgMeaning) → Each (λ a. Alone a.means) args
      → check_kind k s f args ≡ check_kind k t f args
  kind_same kind.Table f args e = refl
  kind_same kind.Command f args e = refl
  kind_same kind.Report f args e = refl
  kind_same kind.Rows f args e = refl
  kind_same kind.Vector f args e = ap (λ z. then_do (bound f (names_in args)) (λ _. z))
      (vectors_same (arity_of f) f args e)
  kind_same kind.Description f args e = ap
      (λ z. then_do (bound f (names_in args)) (λ _. then_do z (λ t. description_type f)))
      (described_same s t h.vars args)

  named_same : (name : List ℕ) (o : Option Func) (args : List ArgMeaning) → Each (λ a. Alone a.means) args
      → check_named s name o args ≡ check_named t name o args
  named_same name None args e = refl
  named_same name (Some f) args e = kind_same (call_kind f) f args e

  pub call_same : (name : List ℕ) (args : List ArgMeaning) → Each (λ a. Alone a.means) args
      → check_call s name args ≡ check_call t name args
  call_same name args e = named_same name (func_of name) args e

-- ---- The fold

step : (l : Layer) → Parts Alone l → Alone (expr_step l)
step (layer.Lit cell k) h s t e = refl
step layer.Null h s t e = refl
step layer.Infinite h s t e = refl
step (layer.Name name) h s t e = name_same s t e name
step (layer.Paren inner) h s t e = h s t e
step (layer.Minus arg) h s t e = ap (λ z. then_do z (sign_type un.Neg)) (h s t e)
step (layer.Not arg) h s t e = ap (λ z. then_do z (sign_type un.Not)) (h s t e)
step (layer.Chain first rest) h s t e = then_same (first.check s) (first.check t) (λ a. check_tails s a rest)
    (λ a. check_tails t a rest) (h.0 s t e) (λ a. tails_same s t e a rest h.1)
step (layer.Call name args) h s t e = call_same s t e name args h
step (layer.Query head brackets) h s t e = refl
step (layer.Formula left right) h s t e = refl

pub types_alone : TypesAlone
types_alone = holds_of_all Alone step
