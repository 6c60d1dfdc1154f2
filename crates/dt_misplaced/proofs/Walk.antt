-- The flags of a tree that code holds, part by part.
use Rattle.std.proofs.Common.{◌≡◌, true, false, List, [], ◌∷◌, ◌++◌, refl, sym, ◌∙◌, ap, append_assoc, append-nil}
use Rattle.dt_base.specs.declared.cell.Cell.{Cell}
use Rattle.dt_base.specs.declared.cell.ColType.{ColType}
use Rattle.dt_tree.specs.declared.tree.Expr.{Expr}
use Rattle.dt_tree.specs.declared.tree.Expr.TheVariants as code
use Rattle.dt_tree.specs.declared.tree.Tail.{Tail}
use Rattle.dt_tree.specs.declared.tree.Arg.{Arg}
use Rattle.dt_tree.specs.declared.tree.Bracket.{Bracket, out-Bracket}
use Rattle.dt_tree.specs.declared.tree.Second.TheVariants as second
use Rattle.run_model.specs.GrammarTrees.{Word}
use Rattle.run_model.specs.Misplaced.{name_flags, target_flags, names_flags, inner, inner_tails, inner_args, inner_item}
use Rattle.run_model.specs.Misplaced.{inner_brackets}
use Rattle.run_model.specs.TreeView.{tree_of, item_of_second, tails_of, args_of, brackets_of, first_of, second_of}
use Rattle.dt_grammar.proofs.Inverse.{bracket_opened}
use Rattle.dt_grammar.proofs.Trees.{tree_of-Lit, tree_of-Null, tree_of-Infinite, tree_of-Name, tree_of-Paren}
use Rattle.dt_grammar.proofs.Trees.{tree_of-Minus, tree_of-Not, tree_of-Chain, tree_of-Call, tree_of-Query}
use Rattle.dt_grammar.proofs.Trees.{tree_of-Formula, tails_of-push, args_of-push, brackets_of-push}
use Rattle.dt_grammar.proofs.Trees.{item_of_second-Value, item_of_second-Assign, item_of_second-AssignAll}

pub inner-Lit : (c : Cell) (k : ColType) → inner (tree_of (code.Lit c k)) ≡ []
inner-Lit c k = ap inner (tree_of-Lit c k)

pub inner-Null : inner (tree_of code.Null) ≡ []
inner-Null = ap inner tree_of-Null

pub inner-Infinite : inner (tree_of code.Infinite) ≡ []
inner-Infinite = ap inner tree_of-Infinite

pub inner-Name : (x : Word) → inner (tree_of (code.Name x)) ≡ name_flags x false
inner-Name x = ap inner (tree_of-Name x)

pub inner-Paren : (t : Expr) → inner (tree_of (code.Paren t)) ≡ inner (tree_of t)
inner-Paren t = ap inner (tree_of-Paren t)

pub inner-Minus : (t : Expr) → inner (tree_of (code.Minus t)) ≡ inner (tree_of t)
inner-Minus t = ap inner (tree_of-Minus t)

pub inner-Not : (t : Expr) → inner (tree_of (code.Not t)) ≡ inner (tree_of t)
inner-Not t = ap inner (tree_of-Not t)

pub inner-Chain : (t : Expr) (rest : List Tail)
    → inner (tree_of (code.Chain t rest)) ≡ inner (tree_of t) ++ inner_tails (tails_of rest)
inner-Chain t rest = ap inner (tree_of-Chain t rest)

pub inner-Call : (x : Word) (args : List Arg)
    → inner (tree_of (code.Call x args)) ≡ name_flags x true ++ inner_args (args_of args)
inner-Call x args = ap inner (tree_of-Call x args)

pub inner-Query : (t : Expr) (bs : List Bracket)
    → inner (tree_of (code.Query t bs)) ≡ inner (tree_of t) ++ inner_brackets (brackets_of bs)
inner-Query t bs = ap inner (tree_of-Query t bs)

pub inner-Formula : (xs ys : List Word) → inner (tree_of (code.Formula xs ys)) ≡ names_flags xs ++ names_flags ys
inner-Formula xs ys = ap inner (tree_of-Formula xs ys)

pub inner-Value : (t : Expr) → inner_item (item_of_second (second.Value t)) ≡ inner (tree_of t)
inner-Value t = ap inner_item (item_of_second-Value t)

pub inner-Assign : (l r : Expr) → inner_item (item_of_second (second.Assign l r)) ≡ inner (tree_of l) ++ true
    ∷ inner (tree_of r)
inner-Assign l r = ap inner_item (item_of_second-Assign l r)

pub inner-AssignAll : (args : List Arg) → inner_item (item_of_second (second.AssignAll args)) ≡ true
    ∷ inner_args (args_of args)
inner-AssignAll args = ap inner_item (item_of_second-AssignAll args)

-- one more at the end
pub names-push : (xs : List Word) (x : Word) → names_flags (xs ++ x ∷ []) ≡ names_flags xs ++ name_flags x false
names-push [] x = simp append-nil refl
names-push (y ∷ xs) x = ap (λ z. name_flags y false ++ z) (names-push xs x)
    ∙ sym (append_assoc (name_flags y false) (names_flags xs) (name_flags x false))

pub tails-push : (rest : List Tail) (x : Tail)
    → inner_tails (tails_of (rest ++ x ∷ [])) ≡ inner_tails (tails_of rest) ++ inner (tree_of x.arg)
tails-push rest x = ap inner_tails (tails_of-push rest x)

pub args-push : (args : List Arg) (x : Arg)
    → inner_args (args_of (args ++ x ∷ [])) ≡ inner_args (args_of args)
    ++ (target_flags x.name ++ inner (tree_of x.value))
args-push args x = ap inner_args (args_of-push args x)

pub brackets-push : (bs : List Bracket) (x : Bracket)
    → inner_brackets (brackets_of (bs ++ x ∷ []))
    ≡ (let b = out-Bracket x in inner_brackets (brackets_of bs)
    ++ (false ∷ (inner_item (first_of b.first)
    ++ (inner_item (second_of b.second) ++ (inner_item (first_of b.third) ++ inner_args (args_of b.args))))))
brackets-push bs x = ap inner_brackets (brackets_of-push bs x)
    ∙ ap (λ b. inner_brackets (brackets_of bs)
    ++ (false ∷ (inner_item b.first ++ (inner_item b.second ++ (inner_item b.third ++ inner_args b.args)))))
    (bracket_opened x)

pub ruleset walking = (
  inner-Lit,
  inner-Null,
  inner-Infinite,
  inner-Name,
  inner-Paren,
  inner-Minus,
  inner-Not,
  inner-Chain,
  inner-Call,
  inner-Query,
  inner-Formula,
  inner-Value,
  inner-Assign,
  inner-AssignAll,
  names-push,
  tails-push,
  args-push,
  brackets-push,
)
