-- What the code names a join goes with what the definitions call it.
use Rattle.std.proofs.Common.{rules, ◌≡◌, ◌∙◌, ℕ, Bool, true, false, if◌then◌else◌, List, Option, None, Some, Result, map, refl, sym, ap, subst}
use Rattle.dt_base.specs.declared.fault.Fault.{Fault}
use Rattle.dt_tree.specs.declared.tree.Arg.{Arg}
use Rattle.dt_tree.specs.declared.tree.Expr.{Expr, the_lemmas}
use Rattle.dt_tree.specs.declared.tree.Expr.TheOpen.{Expr-F}
use Rattle.dt_tree.specs.declared.tree.Expr.TheVariants.{Call, Not}
use Rattle.func_table.specs.Calls.{func_of, kind_of, is_list}
use Rattle.func_table.specs.declared.func.Func.{Func}
use Rattle.func_table.specs.declared.func.Kind.{Kind}
use Rattle.func_table.specs.declared.func.Kind.TheVariants as kind
use Rattle.session_model.specs.Meaning.{arg_meaning, meaning, expr_step, call_joins, func_joins, kind_joins, call_gives, listing_of}
use Rattle.session_model.specs.Meanings.{ArgMeaning, Meaning}
use Rattle.session_model.specs.Value.{Given, Scene}
use Rattle.session_model.specs.Written.{Joining, NoJoin, TableJoin, ListJoin, turned, in_parens, is_join}
use Rattle.served_forms.specs.declared.joins.Joining.TheVariants.{List as ListOf}
use Rattle.served_forms.specs.Joins.{joining_of, joining_by, joining_known, joining_named, turned_round, through_parens, is_any}

pub turned_alike : (j : Joining) → joining_of (turned j) ≡ turned_round (joining_of j)
turned_alike NoJoin = refl
turned_alike (TableJoin false table) = refl
turned_alike (TableJoin true table) = refl
turned_alike (ListJoin false l) = refl
turned_alike (ListJoin true l) = refl

pub in_parens_alike : (j : Joining) → joining_of (in_parens j) ≡ through_parens (joining_of j)
in_parens_alike NoJoin = refl
in_parens_alike (TableJoin false table) = refl
in_parens_alike (TableJoin true table) = refl
in_parens_alike (ListJoin false l) = refl
in_parens_alike (ListJoin true l) = refl

pub is_join_alike : (j : Joining) → is_join j ≡ is_any (joining_of j)
is_join_alike NoJoin = refl
is_join_alike (TableJoin false table) = refl
is_join_alike (TableJoin true table) = refl
is_join_alike (ListJoin false l) = refl
is_join_alike (ListJoin true l) = refl

kind_alike : (k : Kind) (table : Scene → Result Given Fault) → joining_of (kind_joins k table) ≡ joining_by k
kind_alike kind.Table table = refl
kind_alike kind.Command table = refl
kind_alike kind.Vector table = refl
kind_alike kind.Description table = refl
kind_alike kind.Report table = refl
kind_alike kind.Rows table = refl

func_alike : (o : Option Func) (table : Scene → Result Given Fault) → joining_of (func_joins o table) ≡ joining_known o
func_alike None table = refl
func_alike (Some f) table = kind_alike (kind_of f) table

call_by : (b : Bool) (name : List ℕ) (args : List ArgMeaning) → joining_of (if b then ListJoin false (listing_of name args) else func_joins (func_of name) (call_gives name (func_of name) args)) ≡ (if b then ListOf else joining_known (func_of name))
call_by true name args = refl
call_by false name args = func_alike (func_of name) (call_gives name (func_of name) args)

pub call_alike : (name : List ℕ) (args : List ArgMeaning) → joining_of (call_joins name args) ≡ joining_named name
call_alike name args = call_by (is_list name) name args

-- ---- Of trees

meaning-Not : (x : Expr) → meaning (Not x) ≡ expr_step (Expr-F.Not (meaning x))
meaning-Not x = search (rules, the_lemmas)

pub joins_Not : (e x : Expr) → e ≡ Not x → joining_of (meaning e).joins ≡ turned_round (joining_of (meaning x).joins)
joins_Not e x p =
    let P : Meaning → Type 0 = λ m. joining_of m.joins ≡ turned_round (joining_of (meaning x).joins) in
    subst P (sym (ap meaning p ∙ meaning-Not x)) (turned_alike (meaning x).joins)

meaning-Call : (x : List ℕ) (args : List Arg) → meaning (Call x args) ≡ expr_step (Expr-F.Call x (map arg_meaning args))
meaning-Call x args = search (rules, the_lemmas)

pub joins_Call : (e : Expr) (x : List ℕ) (args : List Arg) → e ≡ Call x args
    → joining_of (meaning e).joins ≡ joining_named x
joins_Call e x args p =
    ap (λ e. joining_of (meaning e).joins) p
    ∙ (ap (λ m. joining_of m.joins) (meaning-Call x args) ∙ call_alike x (map arg_meaning args))

pub ruleset alike = (turned_alike, in_parens_alike, call_alike)
