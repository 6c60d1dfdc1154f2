-- A value has the type that was checked before it.
use Rattle.std.proofs.Common.{◌≡◌, ◌∙◌, sym, ap, Result, Ok, Err, refl}
use Rattle.dt_base.specs.declared.cell.ColType.{ColType}
use Rattle.dt_base.specs.declared.fault.Fault.{Fault}
use Rattle.dt_base.specs.declared.operators.UnOp.TheVariants as un
use Rattle.dt_model.specs.Vector.{Vector}
use Rattle.dt_tree.specs.declared.tree.Expr.{Expr}
use Rattle.dt_tree.specs.declared.tree.Expr.TheOpen as layer
use Rattle.vector_model.specs.Functions.{Valued}
use Rattle.expr_model.specs.Operators.{sign_type}
use Rattle.expr_model.specs.Surroundings.{name_vector}
use Rattle.session_model.specs.Expression.{check_tails, value_tails, kind_in, quiet, signed}
use Rattle.session_model.specs.Meaning.{expr_step, meaning}
use Rattle.type_laws.proofs.Agree.{Agree, agree_then}
use Rattle.type_laws.proofs.Calls.{Typed, tails_agree, call_agrees}
use Rattle.type_laws.proofs.Fold.{Layer, Parts, holds_of_all}
use Rattle.type_laws.proofs.Operators.{kind_of, sign_agrees}
use Rattle.type_laws.specs.Laws.{TypesHold}

vector_agrees : (r : Result Vector Fault) → Agree kind_of (kind_in r) (quiet r)
vector_agrees (Err e) = tt
vector_agrees (Ok v) = refl

step : (l : Layer) → Parts Typed l → Typed (expr_step l)
step (layer.Lit cell kind) h s = refl
step layer.Null h s = tt
step layer.Infinite h s = tt
step (layer.Name name) h s = vector_agrees (name_vector s name)
step (layer.Paren inner) h s = h s
step (layer.Minus arg) h s = agree_then kind_of kind_of (arg.check s) (arg.value s) (sign_type un.Neg) (signed un.Neg)
    (h s) (sign_agrees un.Neg)
step (layer.Not arg) h s = agree_then kind_of kind_of (arg.check s) (arg.value s) (sign_type un.Not) (signed un.Not)
    (h s) (sign_agrees un.Not)
step (layer.Chain first rest) h s = agree_then kind_of kind_of (first.check s) (first.value s)
    (λ a. check_tails s a rest) (λ a. value_tails s a rest) (h.0 s) (λ a. tails_agree s a rest h.1)
step (layer.Call name args) h s = call_agrees s name args h
step (layer.Query head brackets) h s = tt
step (layer.Formula left right) h s = tt

pub typed : (e : Expr) → Typed (meaning e)
typed = holds_of_all Typed step

same_kind : (c : Result ColType Fault) (r : Result Valued Fault) (k : ColType) (v : Valued) → Agree kind_of c r
    → c ≡ Ok k → r ≡ Ok v → v.vector.kind ≡ k
same_kind (Err e) r k v h p q = absurd (cc)
same_kind (Ok a) (Err e) k v h p q = absurd (cc)
same_kind (Ok a) (Ok b) k v h p q = let x : a ≡ k = cc in let y : b ≡ v = cc in ap kind_of (sym y) ∙ h ∙ x

pub types_hold : TypesHold
types_hold e s k v = same_kind ((meaning e).check s) ((meaning e).value s) k v (typed e s)
