-- What a literal gives is the same in all surroundings.
--   IsFixed m    the type and the value of m are the same in all surroundings
use Rattle.std.proofs.Common.{◌≡◌, ◌∙◌, Bool, true, false, List, [], ◌∷◌, ℕ, Option, None, Some, map, refl, sym, ap}
use Rattle.std.proofs.Common.{subst}
use Rattle.dt_base.specs.declared.cell.Cell.TheVariants as is
use Rattle.dt_tree.specs.declared.tree.BinOp.{BinOp}
use Rattle.dt_tree.specs.declared.tree.BinOp.TheVariants.{Arith}
use Rattle.dt_base.specs.declared.operators.UnOp.TheVariants as un
use Rattle.dt_tree.specs.declared.tree.Arg.{Arg}
use Rattle.dt_tree.specs.declared.tree.Bracket.{Bracket}
use Rattle.dt_tree.specs.declared.tree.Second.{Second}
use Rattle.dt_tree.specs.declared.tree.Tail.{Tail}
use Rattle.dt_tree.specs.declared.tree.Expr.{Expr, out-Expr}
use Rattle.dt_tree.specs.declared.tree.Expr.TheOpen as layer
use Rattle.assign_sides.specs.Seen.{side_seen}
use Rattle.assign_sides.specs.declared.side.Side.{Side}
use Rattle.assign_sides.specs.declared.side.Side.TheVariants as side
use Rattle.bracket_assign.specs.Literals.{is_lone_literal}
use Rattle.expr_model.specs.Surroundings.{Env}
use Rattle.session_model.proofs.Forms.{meant, opened}
use Rattle.session_model.specs.Assigned.{RightSide, ForAll, right_values}
use Rattle.session_model.specs.Form.{Form, Literal, BareName, is_literal, name_in}
use Rattle.session_model.specs.Items.{bare_item}
use Rattle.session_model.specs.Meaning.{chain_form, compares, expr_step, meaning, minus_form, not_form, sign_of}
use Rattle.session_model.specs.Meaning.{tail_meaning}
use Rattle.session_model.specs.Meanings.{Meaning, TailMeaning}
use Rattle.session_model.specs.Written.{Joining}

record IsFixed (m : Meaning) : Type 0 where
  pub check : (s u : Env) → m.check s ≡ m.check u
  pub value : (s u : Env) → m.value s ≡ m.value u

-- ---- Forms that are no literal

abbrev is_cell : Form → Bool
is_cell (Literal cell kind) = true
is_cell _ = false

never : {A : Type 0} → false ≡ true → A
never e = cc

cell_in-minus : (f : Form) → is_cell (minus_form f) ≡ false
cell_in-minus (Literal (is.Int n) kind) = refl
cell_in-minus _ = refl

cell_in-not : (f : Form) → is_cell (not_form f) ≡ false
cell_in-not (BareName name) = refl
cell_in-not _ = refl

cell_in-compares : (o : BinOp) (x y : Option (List ℕ)) → is_cell (compares o x y) ≡ false
cell_in-compares (Arith o) (Some x) (Some y) = refl
cell_in-compares _ _ _ = refl

cell_in-chain : (x : Option (List ℕ)) (rest : List TailMeaning) → is_cell (chain_form x rest) ≡ false
cell_in-chain x [] = refl
cell_in-chain x (t ∷ []) = cell_in-compares t.op x (name_in t.means.form)
cell_in-chain x (t ∷ u ∷ rest) = refl

literal_in-not : (f : Form) → is_literal (not_form f) ≡ false
literal_in-not (BareName name) = refl
literal_in-not _ = refl

literal_in-compares : (o : BinOp) (x y : Option (List ℕ)) → is_literal (compares o x y) ≡ false
literal_in-compares (Arith o) (Some x) (Some y) = refl
literal_in-compares _ _ _ = refl

literal_in-chain : (x : Option (List ℕ)) (rest : List TailMeaning) → is_literal (chain_form x rest) ≡ false
literal_in-chain x [] = refl
literal_in-chain x (t ∷ []) = literal_in-compares t.op x (name_in t.means.form)
literal_in-chain x (t ∷ u ∷ rest) = refl

-- `-` makes a literal of a cell alone
literal_in-minus : (f : Form) → is_literal (minus_form f) ≡ true → is_cell f ≡ true
literal_in-minus (Literal cell kind) e = refl
literal_in-minus (BareName name) e = never e
literal_in-minus _ e = never e

-- ---- Trees

abbrev Opened : Type 0
Opened = layer.Expr-F Expr Second Arg Bracket Tail

cell_layer : (l : Opened) → is_cell (expr_step (meant l)).form ≡ true → IsFixed (expr_step (meant l))
cell_layer (layer.Lit cell kind) e = record { check = λ s u. refl; value = λ s u. refl }
cell_layer (layer.Minus arg) e = never (sym (cell_in-minus (meaning arg).form) ∙ e)
cell_layer (layer.Not arg) e = never (sym (cell_in-not (meaning arg).form) ∙ e)
cell_layer (layer.Chain first rest) e =
    never (sym (cell_in-chain (name_in (meaning first).form) (map tail_meaning rest)) ∙ e)
cell_layer _ e = never e

cell_fixed : (t : Expr) → is_cell (meaning t).form ≡ true → IsFixed (meaning t)
cell_fixed t e =
    subst IsFixed (sym (opened t)) (cell_layer (out-Expr t) (ap (λ (m : Meaning). is_cell m.form) (sym (opened t)) ∙ e))

sign_fixed : (form : Form) (joins : Joining) (m : Meaning) → IsFixed m → IsFixed (sign_of un.Neg form joins m)
sign_fixed form joins m h = record {
  check = λ s u. rw (h.check s u) refl;
  value = λ s u. rw (h.value s u) refl;
}

literal_layer : (l : Opened) → is_literal (expr_step (meant l)).form ≡ true → IsFixed (expr_step (meant l))
literal_layer (layer.Lit cell kind) e = record { check = λ s u. refl; value = λ s u. refl }
literal_layer layer.Null e = record { check = λ s u. refl; value = λ s u. refl }
literal_layer layer.Infinite e = record { check = λ s u. refl; value = λ s u. refl }
literal_layer (layer.Minus arg) e = sign_fixed _ _ (meaning arg)
    (cell_fixed arg (literal_in-minus (meaning arg).form e))
literal_layer (layer.Not arg) e = never (sym (literal_in-not (meaning arg).form) ∙ e)
literal_layer (layer.Chain first rest) e =
    never (sym (literal_in-chain (name_in (meaning first).form) (map tail_meaning rest)) ∙ e)
literal_layer _ e = never e

literal_fixed : (t : Expr) → is_literal (meaning t).form ≡ true → IsFixed (meaning t)
literal_fixed t e =
    subst IsFixed (sym (opened t))
    (literal_layer (out-Expr t) (ap (λ (m : Meaning). is_literal m.form) (sym (opened t)) ∙ e))

values_fixed : (m : Meaning) (s u : Env) → IsFixed m → right_values (ForAll (bare_item m)) s
    ≡ right_values (ForAll (bare_item m)) u
values_fixed m s u h = rw (h.check s u, h.value s u) refl

pub same_values : (r : Side) (s u : Env) → is_lone_literal (side_seen r) ≡ true → right_values (side_seen r) s
    ≡ right_values (side_seen r) u
same_values (side.ForAll e) s u h = values_fixed (meaning e.now) s u (literal_fixed e.now h)
same_values (side.ForEach items) s u h = never h
same_values side.Deletes s u h = never h
