-- The names of a sum of bare names, from left to right.
use Rattle.std.proofs.Common.{◌≡◌, ◌≢◌, ℕ, ◌+◌, ◌<◌, List, [], ◌∷◌, ◌++◌, length, get_or, drop, Option, Some, None}
use Rattle.std.proofs.Common.{option_map, option_and_then, map, refl, sym, ◌∙◌, ap, subst, append_assoc, append-nil}
use Rattle.std.proofs.Common.{add-one}
use Rattle.std.proofs.Math.Seq.{drop-cons}
use Rattle.dt_base.specs.declared.operators.Op.TheVariants.{Add}
use Rattle.dt_tree.specs.declared.tree.BinOp.{BinOp}
use Rattle.dt_tree.specs.declared.tree.BinOp.TheVariants.{Arith}
use Rattle.dt_tree.specs.declared.tree.Expr.{Expr, out-Expr, roll-Expr, roll-out-Expr}
use Rattle.dt_tree.specs.declared.tree.Expr.TheOpen.{Expr-F}
use Rattle.dt_tree.specs.declared.tree.Expr.TheOpen as layer
use Rattle.dt_tree.specs.declared.tree.Expr.TheVariants as code
use Rattle.dt_tree.specs.declared.tree.Second.{Second}
use Rattle.dt_tree.specs.declared.tree.Arg.{Arg}
use Rattle.dt_tree.specs.declared.tree.Bracket.{Bracket}
use Rattle.dt_tree.specs.declared.tree.Tail.{Tail}
use Rattle.run_model.specs.GrammarTrees.{Word, Tree, Var, Chain, Tails, NoTails, MoreTails}
use Rattle.run_model.specs.TreeView.{TailTree, tails_from, tree_of, tail_of, tails_of}
use Rattle.dt_grammar.specs.Machine.{tail_names, names_of}
use Rattle.dt_grammar.proofs.Trees.{tree_of-Lit, tree_of-Null, tree_of-Infinite, tree_of-Paren, tree_of-Minus}
use Rattle.dt_grammar.proofs.Trees.{tree_of-Not, tree_of-Chain, tree_of-Call, tree_of-Query, tree_of-Formula}
use Rattle.script_frames.specs.Steps.{bare_name, name_added, added_name, names_behind}

-- one operator more
tail_names-added : (before : Tails) (op : BinOp) (t : Tree)
    → tail_names (MoreTails before op t) ≡ option_and_then (λ x. option_map (λ xs. xs ++ x ∷ []) (tail_names before))
    (name_added op t)
tail_names-added before (Arith Add) (Var x) = refl
tail_names-added before (Arith Add) t = refl
tail_names-added before op t = refl

none_from : (xs : List TailTree) (before : Tails) → tail_names before ≡ None → tail_names (tails_from before xs) ≡ None
none_from [] before e = e
none_from (x ∷ xs) before e = none_from xs (MoreTails before x.0 x.1)
    (tail_names-added before x.0 x.1 ∙ no_more (added_name x))
  where
    no_more : (r : Option Word) → option_and_then (λ x. option_map (λ ys. ys ++ x ∷ []) (tail_names before)) r ≡ None
    no_more None = refl
    no_more (Some y) = ap (option_map (λ ys. ys ++ y ∷ [])) e

names_from : (xs : List TailTree) (before : Tails) (names so_far : List Word) → tail_names before ≡ Some so_far
    → option_map (λ more. names ++ more) (tail_names (tails_from before xs)) ≡ names_behind (names ++ so_far) xs
names_from [] before names so_far e = ap (option_map (λ more. names ++ more)) e
names_from (x ∷ xs) before names so_far e =
    by_name (added_name x) refl (λ y. names_from xs (MoreTails before x.0 x.1) names (so_far ++ y ∷ []))
  where
    at : (r : Option Word) → added_name x ≡ r
        → tail_names (MoreTails before x.0 x.1) ≡ option_and_then
        (λ y. option_map (λ ys. ys ++ y ∷ []) (tail_names before)) r
    at r f = tail_names-added before x.0 x.1
        ∙ ap (option_and_then (λ y. option_map (λ ys. ys ++ y ∷ []) (tail_names before))) f

    by_name : (r : Option Word) → added_name x ≡ r
        → ((y : Word) → tail_names (MoreTails before x.0 x.1) ≡ Some (so_far ++ y ∷ [])
        → option_map (λ more. names ++ more) (tail_names (tails_from (MoreTails before x.0 x.1) xs))
        ≡ names_behind (names ++ (so_far ++ y ∷ [])) xs)
        → option_map (λ more. names ++ more) (tail_names (tails_from (MoreTails before x.0 x.1) xs))
        ≡ option_and_then (λ name. names_behind ((names ++ so_far) ++ name ∷ []) xs) r
    by_name None f more = ap (option_map (λ ys. names ++ ys)) (none_from xs (MoreTails before x.0 x.1) (at None f))
    by_name (Some y) f more = more y (at (Some y) f ∙ ap (option_map (λ ys. ys ++ y ∷ [])) e)
        ∙ ap (λ z. names_behind z xs) (sym (append_assoc names so_far (y ∷ [])))

pub names_behind_is : (names : List Word) (rest : List Tail)
    → option_map (λ more. names ++ more) (tail_names (tails_of rest)) ≡ names_behind names (map tail_of rest)
names_behind_is names rest = names_from (map tail_of rest) NoTails names [] refl
    ∙ ap (λ z. names_behind z (map tail_of rest)) (append-nil names)

-- the loop over the tails
pub names_turn : (names : List Word) (rest : List Tail) (i : ℕ) (d : Tail) → i < length rest
    → names_behind names (map tail_of (drop i rest))
    ≡ option_and_then (λ name. names_behind (names ++ name ∷ []) (map tail_of (drop (i + 1) rest)))
    (added_name (tail_of (get_or rest i d)))
names_turn names rest i d h = ap (λ z. names_behind names (map tail_of z)) (drop-cons rest i d h)
    ∙ ap (λ n. option_and_then (λ name. names_behind (names ++ name ∷ []) (map tail_of (drop n rest)))
    (added_name (tail_of (get_or rest i d)))) (sym (add-one i))

-- what is no bare name in the code is none in the view
bare_name_other_layer : (l : Expr-F Expr Second Arg Bracket Tail) → ((x : Word) → roll-Expr l ≢ code.Name x)
    → bare_name (tree_of (roll-Expr l)) ≡ None
bare_name_other_layer (layer.Lit c k) h0 =
    subst (λ z. bare_name (z) ≡ None) (sym (ap tree_of (code.rolls-Lit c k) ∙ tree_of-Lit c k)) refl
bare_name_other_layer layer.Null h0 = subst (λ z. bare_name (z) ≡ None)
    (sym (ap tree_of (code.rolls-Null) ∙ tree_of-Null)) refl
bare_name_other_layer layer.Infinite h0 =
    subst (λ z. bare_name (z) ≡ None) (sym (ap tree_of (code.rolls-Infinite) ∙ tree_of-Infinite)) refl
bare_name_other_layer (layer.Name x) h0 = absurd (h0 x (code.rolls-Name x))
bare_name_other_layer (layer.Paren t) h0 =
    subst (λ z. bare_name (z) ≡ None) (sym (ap tree_of (code.rolls-Paren t) ∙ tree_of-Paren t)) refl
bare_name_other_layer (layer.Minus t) h0 =
    subst (λ z. bare_name (z) ≡ None) (sym (ap tree_of (code.rolls-Minus t) ∙ tree_of-Minus t)) refl
bare_name_other_layer (layer.Not t) h0 =
    subst (λ z. bare_name (z) ≡ None) (sym (ap tree_of (code.rolls-Not t) ∙ tree_of-Not t)) refl
bare_name_other_layer (layer.Chain t rest) h0 =
    subst (λ z. bare_name (z) ≡ None) (sym (ap tree_of (code.rolls-Chain t rest) ∙ tree_of-Chain t rest)) refl
bare_name_other_layer (layer.Call x args) h0 =
    subst (λ z. bare_name (z) ≡ None) (sym (ap tree_of (code.rolls-Call x args) ∙ tree_of-Call x args)) refl
bare_name_other_layer (layer.Query t bs) h0 =
    subst (λ z. bare_name (z) ≡ None) (sym (ap tree_of (code.rolls-Query t bs) ∙ tree_of-Query t bs)) refl
bare_name_other_layer (layer.Formula xs ys) h0 =
    subst (λ z. bare_name (z) ≡ None) (sym (ap tree_of (code.rolls-Formula xs ys) ∙ tree_of-Formula xs ys)) refl

pub bare_name_other : (t : Expr) → ((x : Word) → t ≢ code.Name x) → bare_name (tree_of t) ≡ None
bare_name_other t h0 = subst (λ s. ((x : Word) → s ≢ code.Name x) → bare_name (tree_of s) ≡ None) (roll-out-Expr t)
    (bare_name_other_layer (out-Expr t)) h0

names_of_other_layer : (l : Expr-F Expr Second Arg Bracket Tail) → ((x : Word) → roll-Expr l ≢ code.Name x)
    → ((u : Expr) (rest : List Tail) → roll-Expr l ≢ code.Chain u rest) → names_of (tree_of (roll-Expr l)) ≡ None
names_of_other_layer (layer.Lit c k) h0 h1 =
    subst (λ z. names_of (z) ≡ None) (sym (ap tree_of (code.rolls-Lit c k) ∙ tree_of-Lit c k)) refl
names_of_other_layer layer.Null h0 h1 = subst (λ z. names_of (z) ≡ None)
    (sym (ap tree_of (code.rolls-Null) ∙ tree_of-Null)) refl
names_of_other_layer layer.Infinite h0 h1 =
    subst (λ z. names_of (z) ≡ None) (sym (ap tree_of (code.rolls-Infinite) ∙ tree_of-Infinite)) refl
names_of_other_layer (layer.Name x) h0 h1 = absurd (h0 x (code.rolls-Name x))
names_of_other_layer (layer.Paren t) h0 h1 =
    subst (λ z. names_of (z) ≡ None) (sym (ap tree_of (code.rolls-Paren t) ∙ tree_of-Paren t)) refl
names_of_other_layer (layer.Minus t) h0 h1 =
    subst (λ z. names_of (z) ≡ None) (sym (ap tree_of (code.rolls-Minus t) ∙ tree_of-Minus t)) refl
names_of_other_layer (layer.Not t) h0 h1 =
    subst (λ z. names_of (z) ≡ None) (sym (ap tree_of (code.rolls-Not t) ∙ tree_of-Not t)) refl
names_of_other_layer (layer.Chain t rest) h0 h1 = absurd (h1 t rest (code.rolls-Chain t rest))
names_of_other_layer (layer.Call x args) h0 h1 =
    subst (λ z. names_of (z) ≡ None) (sym (ap tree_of (code.rolls-Call x args) ∙ tree_of-Call x args)) refl
names_of_other_layer (layer.Query t bs) h0 h1 =
    subst (λ z. names_of (z) ≡ None) (sym (ap tree_of (code.rolls-Query t bs) ∙ tree_of-Query t bs)) refl
names_of_other_layer (layer.Formula xs ys) h0 h1 =
    subst (λ z. names_of (z) ≡ None) (sym (ap tree_of (code.rolls-Formula xs ys) ∙ tree_of-Formula xs ys)) refl

pub names_of_other : (t : Expr) → ((x : Word) → t ≢ code.Name x)
    → ((u : Expr) (rest : List Tail) → t ≢ code.Chain u rest) → names_of (tree_of t) ≡ None
names_of_other t h0 h1 = subst (λ s. ((x : Word) → s ≢ code.Name x)
    → ((u : Expr) (rest : List Tail) → s ≢ code.Chain u rest) → names_of (tree_of s) ≡ None) (roll-out-Expr t)
    (names_of_other_layer (out-Expr t)) h0 h1

-- the names of a chain
pub names_of-Chain : (t : Tree) (rest : List Tail) (x : Word) → bare_name t ≡ Some x
    → names_of (Chain t (tails_of rest)) ≡ names_behind (x ∷ []) (map tail_of rest)
names_of-Chain (Var y) rest x e = let same : y ≡ x = cc in
    ap (λ z. option_map (λ xs. (z ∷ []) ++ xs) (tail_names (tails_of rest))) same ∙ names_behind_is (x ∷ []) rest
names_of-Chain t rest x e = absurd cc

pub names_of-chain_other : (t : Tree) (tails : Tails) → bare_name t ≡ None → names_of (Chain t tails) ≡ None
names_of-chain_other (Var y) tails e = cc
names_of-chain_other t tails e = refl

pub ruleset sums = (names_of-Chain, names_of-chain_other)
