-- Which expressions give something else as a statement's value than elsewhere.
use Rattle.std.proofs.Common.{◌≡◌, ◌≢◌, ◌∙◌, ℕ, List, map, Option, None, Some, Result, rules, refl, sym, ap, subst}
use Rattle.dt_base.specs.declared.fault.Fault.{Fault}
use Rattle.dt_tree.specs.declared.tree.Arg.{Arg}
use Rattle.dt_tree.specs.declared.tree.Bracket.{Bracket}
use Rattle.dt_tree.specs.declared.tree.Expr.{Expr, out-Expr, roll-Expr, roll-out-Expr, the_lemmas}
use Rattle.dt_tree.specs.declared.tree.Expr.TheOpen.{Expr-F}
use Rattle.dt_tree.specs.declared.tree.Expr.TheOpen as layer
use Rattle.dt_tree.specs.declared.tree.Expr.TheVariants as code
use Rattle.dt_tree.specs.declared.tree.Second.{Second}
use Rattle.dt_tree.specs.declared.tree.Tail.{Tail}
use Rattle.func_table.specs.Calls.{func_of, kind_of}
use Rattle.func_table.specs.declared.func.Func.{Func}
use Rattle.func_table.specs.declared.func.Kind.{Kind}
use Rattle.func_table.specs.declared.func.Kind.TheVariants as kind
use Rattle.session_model.specs.Meaning.{arg_meaning, call_gives, call_whole, expr_step, kind_gives, kind_whole, meaning}
use Rattle.session_model.specs.Meanings.{ArgMeaning, Meaning}
use Rattle.session_model.specs.Value.{Given, Scene}
use Rattle.session_model.proofs.Forms.{meant, opened}
use Rattle.stmt_value.specs.Reports.{bound_report, report_by, reported, IsReport}
use Rattle.stmt_value.specs.declared.reports.ReportCall.{ReportCall}

-- ---- Calls

kind_other : (k : Kind) (x : List ℕ) (f : Func) (args : List ArgMeaning) (w : Scene) → report_by k f ≡ None
    → kind_whole k x f args w ≡ kind_gives k x f args w
kind_other kind.Report x f args w e = cc
kind_other kind.Table x f args w e = refl
kind_other kind.Command x f args w e = refl
kind_other kind.Vector x f args w e = refl
kind_other kind.Description x f args w e = refl
kind_other kind.Rows x f args w e = refl

call_other : (o : Option Func) (x : List ℕ) (args : List ArgMeaning) (w : Scene) → reported o ≡ None
    → call_whole x o args w ≡ call_gives x o args w
call_other None x args w e = refl
call_other (Some f) x args w e = kind_other (kind_of f) x f args w e

kind_report : (k : Kind) (x : List ℕ) (f g : Func) (args : List ArgMeaning) (w : Scene) → report_by k f ≡ Some g
    → kind_whole k x f args w ≡ bound_report g args w.state
kind_report kind.Report x f g args w e =
    let same : f ≡ g = cc in ap (λ h. bound_report h args w.state) same
kind_report kind.Table x f g args w e = cc
kind_report kind.Command x f g args w e = cc
kind_report kind.Vector x f g args w e = cc
kind_report kind.Description x f g args w e = cc
kind_report kind.Rows x f g args w e = cc

call_report : (o : Option Func) (x : List ℕ) (g : Func) (args : List ArgMeaning) (w : Scene) → reported o ≡ Some g
    → call_whole x o args w ≡ bound_report g args w.state
call_report None x g args w e = cc
call_report (Some f) x g args w e = kind_report (kind_of f) x f g args w e

call_means : (x : List ℕ) (args : List Arg) → meaning (code.Call x args)
    ≡ expr_step (Expr-F.Call x (map arg_meaning args))
call_means x args = search (rules, the_lemmas)

pub call_is_other : (e : Expr) (x : List ℕ) (args : List Arg) → e ≡ code.Call x args → reported (func_of x) ≡ None
    → IsReport (meaning e) None
call_is_other e x args p none w =
    let P : Meaning → Type 0 = λ m. m.whole w ≡ m.gives w in
    subst P (sym (ap meaning p ∙ call_means x args)) (call_other (func_of x) x (map arg_meaning args) w none)

pub call_is_report : (e : Expr) (x : List ℕ) (args : List Arg) (r : ReportCall) → e ≡ code.Call x args
    → reported (func_of x) ≡ Some r.func → r.args.now ≡ args → IsReport (meaning e) (Some r)
call_is_report e x args r p some same w =
    let P : Meaning → Type 0 = λ m. m.whole w ≡ bound_report r.func (map arg_meaning r.args.now) w.state in
    subst P (sym (ap meaning p ∙ call_means x args))
    (call_report (func_of x) x r.func (map arg_meaning args) w some
    ∙ ap (λ (all : List Arg). bound_report r.func (map arg_meaning all) w.state) (sym same))

-- ---- Parentheses

paren_means : (i : Expr) → meaning (code.Paren i) ≡ expr_step (Expr-F.Paren (meaning i))
paren_means i = search (rules, the_lemmas)

through : (m : Meaning) (o : Option ReportCall) → IsReport m o → IsReport (expr_step (Expr-F.Paren m)) o
through m None h = h
through m (Some r) h = h

pub paren_is : (e i : Expr) (o : Option ReportCall) → e ≡ code.Paren i → IsReport (meaning i) o → IsReport (meaning e) o
paren_is e i o p h =
    subst (λ m. IsReport m o) (sym (ap meaning p ∙ paren_means i)) (through (meaning i) o h)

-- ---- Any other expression

abbrev Opened : Type 0
Opened = Expr-F Expr Second Arg Bracket Tail

other_layer : (e : Expr) (l : Opened) → roll-Expr l ≡ e → ((i : Expr) → e ≢ code.Paren i)
    → ((x : List ℕ) (args : List Arg) → e ≢ code.Call x args) → (w : Scene)
    → (expr_step (meant l)).whole w ≡ (expr_step (meant l)).gives w
other_layer e (layer.Paren i) p paren call w = absurd (paren i (sym p ∙ code.rolls-Paren i))
other_layer e (layer.Call x args) p paren call w = absurd (call x args (sym p ∙ code.rolls-Call x args))
other_layer e (layer.Lit cell k) p paren call w = refl
other_layer e layer.Null p paren call w = refl
other_layer e layer.Infinite p paren call w = refl
other_layer e (layer.Name x) p paren call w = refl
other_layer e (layer.Minus i) p paren call w = refl
other_layer e (layer.Not i) p paren call w = refl
other_layer e (layer.Chain i rest) p paren call w = refl
other_layer e (layer.Query i brackets) p paren call w = refl
other_layer e (layer.Formula left right) p paren call w = refl

pub other_is : (e : Expr) → ((i : Expr) → e ≢ code.Paren i) → ((x : List ℕ) (args : List Arg) → e ≢ code.Call x args)
    → IsReport (meaning e) None
other_is e paren call w =
    let P : Meaning → Type 0 = λ m. m.whole w ≡ m.gives w in
    subst P (sym (opened e)) (other_layer e (out-Expr e) (roll-out-Expr e) paren call w)
