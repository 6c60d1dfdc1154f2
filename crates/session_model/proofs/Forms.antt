-- What `-`, `!` and an operator before or between expressions write is neither a bare name nor a text; nor is
-- any tree that is not one.
use Rattle.std.proofs.Common.{rules, ◌≡◌, ◌≢◌, ◌∙◌, sym, ap, ℕ, List, [], ◌∷◌, map, Option, None, Some, refl}
use Rattle.dt_base.specs.declared.cell.Cell.TheVariants as is
use Rattle.dt_base.specs.declared.cell.Cell.{Cell}
use Rattle.dt_base.specs.declared.cell.ColType.{ColType}
use Rattle.dt_tree.specs.declared.tree.Arg.{Arg}
use Rattle.dt_tree.specs.declared.tree.BinOp.{BinOp}
use Rattle.dt_tree.specs.declared.tree.Bracket.{Bracket}
use Rattle.dt_tree.specs.declared.tree.Expr.{Expr, out-Expr, roll-Expr, roll-out-Expr, the_lemmas}
use Rattle.dt_tree.specs.declared.tree.Expr.TheFolds.{fold_out-Expr, map-Expr}
use Rattle.dt_tree.specs.declared.tree.Expr.TheOpen.{Expr-F}
use Rattle.dt_tree.specs.declared.tree.Expr.TheOpen as layer
use Rattle.dt_tree.specs.declared.tree.Expr.TheVariants as code
use Rattle.dt_tree.specs.declared.tree.Second.{Second}
use Rattle.dt_tree.specs.declared.tree.Tail.{Tail}
use Rattle.dt_tree.specs.declared.tree.BinOp.TheVariants.{Arith}
use Rattle.session_model.specs.Form.{Form, Literal, BareName, flag_in, name_in, text_in}
use Rattle.session_model.specs.Meaning.{arg_meaning, arg_step, bracket_meaning, bracket_step, chain_form, compares}
use Rattle.session_model.specs.Meaning.{expr_step, meaning, minus_form, not_form, second_meaning, second_step}
use Rattle.session_model.specs.Meaning.{tail_meaning, tail_step}
use Rattle.session_model.specs.Items.{item_of}
use Rattle.session_model.specs.Meanings.{ArgMeaning, BracketMeaning, Meaning, SecondMeaning, TailMeaning}

pub name_in-minus : (f : Form) → name_in (minus_form f) ≡ None
name_in-minus (Literal (is.Int n) kind) = refl
name_in-minus _ = refl

pub text_in-minus : (f : Form) → text_in (minus_form f) ≡ None
text_in-minus (Literal (is.Int n) kind) = refl
text_in-minus _ = refl

pub name_in-not : (f : Form) → name_in (not_form f) ≡ None
name_in-not (BareName name) = refl
name_in-not _ = refl

pub text_in-not : (f : Form) → text_in (not_form f) ≡ None
text_in-not (BareName name) = refl
text_in-not _ = refl

name_in-compares : (o : BinOp) (x y : Option (List ℕ)) → name_in (compares o x y) ≡ None
name_in-compares (Arith o) (Some x) (Some y) = refl
name_in-compares _ _ _ = refl

pub name_in-chain : (x : Option (List ℕ)) (rest : List TailMeaning) → name_in (chain_form x rest) ≡ None
name_in-chain x [] = refl
name_in-chain x (t ∷ []) = name_in-compares t.op x (name_in t.means.form)
name_in-chain x (t ∷ u ∷ rest) = refl

flag_in-compares : (o : BinOp) (x y : Option (List ℕ)) → flag_in (compares o x y) ≡ None
flag_in-compares (Arith o) (Some x) (Some y) = refl
flag_in-compares _ _ _ = refl

pub flag_in-chain : (x : Option (List ℕ)) (rest : List TailMeaning) → flag_in (chain_form x rest) ≡ None
flag_in-chain x [] = refl
flag_in-chain x (t ∷ []) = flag_in-compares t.op x (name_in t.means.form)
flag_in-chain x (t ∷ u ∷ rest) = refl

pub flag_in-minus : (f : Form) → flag_in (minus_form f) ≡ None
flag_in-minus (Literal (is.Int n) kind) = refl
flag_in-minus _ = refl

pub flag_in-not : (f : Form) → flag_in (not_form f) ≡ None
flag_in-not (BareName name) = refl
flag_in-not _ = refl

text_in-compares : (o : BinOp) (x y : Option (List ℕ)) → text_in (compares o x y) ≡ None
text_in-compares (Arith o) (Some x) (Some y) = refl
text_in-compares _ _ _ = refl

pub text_in-chain : (x : Option (List ℕ)) (rest : List TailMeaning) → text_in (chain_form x rest) ≡ None
text_in-chain x [] = refl
text_in-chain x (t ∷ []) = text_in-compares t.op x (name_in t.means.form)
text_in-chain x (t ∷ u ∷ rest) = refl

-- ---- Trees

abbrev Opened : Type 0
Opened = Expr-F Expr Second Arg Bracket Tail

-- a layer of a tree with the meanings of its parts
abbrev pub meant : Opened → Expr-F Meaning SecondMeaning ArgMeaning BracketMeaning TailMeaning
meant = map-Expr Expr Second Arg Bracket Tail Meaning SecondMeaning ArgMeaning BracketMeaning TailMeaning meaning
    second_meaning arg_meaning bracket_meaning tail_meaning

pub opened : (t : Expr) → meaning t ≡ expr_step (meant (out-Expr t))
opened t = fold_out-Expr Meaning SecondMeaning ArgMeaning BracketMeaning TailMeaning expr_step second_step arg_step
    bracket_step tail_step t

name_layer : (t : Expr) (l : Opened) → roll-Expr l ≡ t → ((x : List ℕ) → t ≢ code.Name x) → None
    ≡ name_in (expr_step (meant l)).form
name_layer t (layer.Name x) e h = absurd (h x (sym e ∙ code.rolls-Name x))
name_layer t (layer.Minus u) e h = sym (name_in-minus (meaning u).form)
name_layer t (layer.Not u) e h = sym (name_in-not (meaning u).form)
name_layer t (layer.Chain u rest) e h = sym (name_in-chain (name_in (meaning u).form) (map tail_meaning rest))
name_layer t _ e h = refl

pub no_name : (t : Expr) → ((x : List ℕ) → t ≢ code.Name x) → None ≡ name_in (meaning t).form
no_name t h = name_layer t (out-Expr t) (roll-out-Expr t) h ∙ ap (λ m. name_in m.form) (sym (opened t))

text_layer : (t : Expr) (l : Opened) → roll-Expr l ≡ t → ((c : Cell) (k : ColType) → t ≢ code.Lit c k) → None
    ≡ text_in (expr_step (meant l)).form
text_layer t (layer.Lit c k) e h = absurd (h c k (sym e ∙ code.rolls-Lit c k))
text_layer t (layer.Minus u) e h = sym (text_in-minus (meaning u).form)
text_layer t (layer.Not u) e h = sym (text_in-not (meaning u).form)
text_layer t (layer.Chain u rest) e h = sym (text_in-chain (name_in (meaning u).form) (map tail_meaning rest))
text_layer t _ e h = refl

pub no_text : (t : Expr) → ((c : Cell) (k : ColType) → t ≢ code.Lit c k) → None ≡ text_in (meaning t).form
no_text t h = text_layer t (out-Expr t) (roll-out-Expr t) h ∙ ap (λ m. text_in m.form) (sym (opened t))

flag_layer : (t : Expr) (l : Opened) → roll-Expr l ≡ t → ((c : Cell) (k : ColType) → t ≢ code.Lit c k) → None
    ≡ flag_in (expr_step (meant l)).form
flag_layer t (layer.Lit c k) e h = absurd (h c k (sym e ∙ code.rolls-Lit c k))
flag_layer t (layer.Minus u) e h = sym (flag_in-minus (meaning u).form)
flag_layer t (layer.Not u) e h = sym (flag_in-not (meaning u).form)
flag_layer t (layer.Chain u rest) e h = sym (flag_in-chain (name_in (meaning u).form) (map tail_meaning rest))
flag_layer t _ e h = refl

pub no_flag : (t : Expr) → ((c : Cell) (k : ColType) → t ≢ code.Lit c k) → None ≡ flag_in (meaning t).form
no_flag t h = flag_layer t (out-Expr t) (roll-out-Expr t) h ∙ ap (λ m. flag_in m.form) (sym (opened t))

listing_layer : (t : Expr) (l : Opened) → roll-Expr l ≡ t → ((x : List ℕ) (args : List Arg) → t ≢ code.Call x args)
    → None ≡ (expr_step (meant l)).listing
listing_layer t (layer.Call x args) e h = absurd (h x args (sym e ∙ code.rolls-Call x args))
listing_layer t _ e h = refl

pub no_listing : (t : Expr) → ((x : List ℕ) (args : List Arg) → t ≢ code.Call x args) → None ≡ (meaning t).listing
no_listing t h = listing_layer t (out-Expr t) (roll-out-Expr t) h ∙ ap (λ m. m.listing) (sym (opened t))

items_in : (args : List Arg) → map item_of (map arg_meaning args) ≡ map (λ a. item_of (arg_meaning a)) args
items_in [] = refl
items_in (a ∷ rest) = ap (λ z. item_of (arg_meaning a) ∷ z) (items_in rest)

call_means : (x : List ℕ) (args : List Arg) → meaning (code.Call x args)
    ≡ expr_step (layer.Call x (map arg_meaning args))
call_means x args = search (rules, the_lemmas)

pub call_listing : (x : List ℕ) (args : List Arg) → (meaning (code.Call x args)).listing
    ≡ Some (record { word = x; items = map (λ a. item_of (arg_meaning a)) args })
call_listing x args = ap (λ m. m.listing) (call_means x args)
    ∙ ap (λ z. Some (record { word = x; items = z })) (items_in args)

pub ruleset written = (
  name_in-minus,
  text_in-minus,
  name_in-not,
  text_in-not,
  name_in-chain,
  text_in-chain,
  flag_in-minus,
  flag_in-not,
  flag_in-chain,
  no_name,
  no_text,
  no_flag,
  no_listing,
  call_listing,
)
