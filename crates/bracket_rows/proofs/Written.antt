-- Forms: what is written by `-` and `!`, and what an i of each form means.
use Rattle.std.proofs.Common.{◌≡◌, ◌≢◌, ◌∙◌, sym, ap, ℕ, List, [], ◌∷◌, map, Option, None, Some, refl}
use Rattle.dt_tree.specs.declared.tree.Arg.{Arg}
use Rattle.dt_tree.specs.declared.tree.BinOp.{BinOp}
use Rattle.dt_tree.specs.declared.tree.BinOp.TheVariants.{Arith}
use Rattle.dt_tree.specs.declared.tree.Bracket.{Bracket}
use Rattle.dt_tree.specs.declared.tree.Expr.{Expr, out-Expr, roll-Expr, roll-out-Expr}
use Rattle.dt_tree.specs.declared.tree.Expr.TheOpen.{Expr-F}
use Rattle.dt_tree.specs.declared.tree.Expr.TheOpen as layer
use Rattle.dt_tree.specs.declared.tree.Expr.TheVariants as code
use Rattle.dt_tree.specs.declared.tree.Second.{Second}
use Rattle.dt_tree.specs.declared.tree.Tail.{Tail}
use Rattle.session_model.proofs.Forms.{meant, opened}
use Rattle.dt_base.specs.declared.cell.Cell.TheVariants as is
use Rattle.bracket_rows.specs.Forms.{not_name_in}
use Rattle.expr_model.specs.Surroundings.{Env}
use Rattle.func_table.specs.Special.{special_of}
use Rattle.session_model.specs.Form.{Form, Literal, Negative, NullWord, InfWord, BareName, NotName, name_in}
use Rattle.session_model.specs.Meaning.{chain_form, compares, expr_step, meaning, minus_form, not_form, tail_meaning}
use Rattle.session_model.specs.Meanings.{Meaning, TailMeaning}
use Rattle.session_model.specs.Expression.{checked_value}
use Rattle.session_model.specs.Found.{i_by_form, i_name, i_not_name}

-- ---- `-` before an expression is no negated name, and `!` before a name is one

pub not_name_in-minus : (f : Form) → not_name_in (minus_form f) ≡ None
not_name_in-minus (Literal (is.Int n) kind) = refl
not_name_in-minus _ = refl

pub not_name_in-not : (f : Form) → not_name_in (not_form f) ≡ name_in f
not_name_in-not (Literal cell kind) = refl
not_name_in-not (Negative n) = refl
not_name_in-not NullWord = refl
not_name_in-not InfWord = refl
not_name_in-not (BareName name) = refl
not_name_in-not (NotName name) = refl
not_name_in-not _ = refl

not_name_in-compares : (o : BinOp) (x y : Option (List ℕ)) → not_name_in (compares o x y) ≡ None
not_name_in-compares (Arith o) (Some x) (Some y) = refl
not_name_in-compares _ _ _ = refl

pub not_name_in-chain : (x : Option (List ℕ)) (rest : List TailMeaning) → not_name_in (chain_form x rest) ≡ None
not_name_in-chain x [] = refl
not_name_in-chain x (t ∷ []) = not_name_in-compares t.op x (name_in t.means.form)
not_name_in-chain x (t ∷ u ∷ rest) = refl

negated_layer : (t : Expr) (l : Expr-F Expr Second Arg Bracket Tail) → roll-Expr l ≡ t → ((u : Expr) → t ≢ code.Not u)
    → None ≡ not_name_in (expr_step (meant l)).form
negated_layer t (layer.Not u) e h = absurd (h u (sym e ∙ code.rolls-Not u))
negated_layer t (layer.Minus u) e h = sym (not_name_in-minus (meaning u).form)
negated_layer t (layer.Chain u rest) e h = sym (not_name_in-chain (name_in (meaning u).form) (map tail_meaning rest))
negated_layer t _ e h = refl

-- a tree that does not begin with `!` negates no name
pub no_negated : (t : Expr) → ((u : Expr) → t ≢ code.Not u) → None ≡ not_name_in (meaning t).form
no_negated t h = negated_layer t (out-Expr t) (roll-out-Expr t) h ∙ ap (λ m. not_name_in m.form) (sym (opened t))

pub ruleset forms = (not_name_in-minus, not_name_in-not, no_negated)

-- ---- What an i of each form means

pub i_bare : (m : Meaning) (s : Env) (f : Form) (name : List ℕ) → Some name ≡ name_in f → i_by_form m s f
    ≡ i_name m s name (special_of name)
i_bare m s (Literal cell kind) name h = cc
i_bare m s (Negative n) name h = cc
i_bare m s NullWord name h = cc
i_bare m s InfWord name h = cc
i_bare m s (BareName q) name h = cc
i_bare m s (NotName q) name h = cc
i_bare m s _ name h = cc

pub i_negated : (m : Meaning) (s : Env) (f : Form) (name : List ℕ) → Some name ≡ not_name_in f → i_by_form m s f
    ≡ i_not_name m s name (special_of name)
i_negated m s (Literal cell kind) name h = cc
i_negated m s (Negative n) name h = cc
i_negated m s NullWord name h = cc
i_negated m s InfWord name h = cc
i_negated m s (BareName q) name h = cc
i_negated m s (NotName q) name h = cc
i_negated m s _ name h = cc

pub i_other : (m : Meaning) (s : Env) (f : Form) → None ≡ name_in f → None ≡ not_name_in f → i_by_form m s f
    ≡ checked_value m s
i_other m s (Literal cell kind) h k = refl
i_other m s (Negative n) h k = refl
i_other m s NullWord h k = refl
i_other m s InfWord h k = refl
i_other m s (BareName q) h k = cc
i_other m s (NotName q) h k = cc
i_other m s _ h k = refl

pub ruleset i_forms = (i_bare, i_negated, i_other)
