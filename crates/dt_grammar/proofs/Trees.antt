-- The view of a code tree, form by form.
use Rattle.std.proofs.Common.{◌≡◌, List, [], ◌∷◌, ◌++◌, Option, map, refl, ap, rules}
use Rattle.dt_base.specs.declared.cell.Cell.{Cell}
use Rattle.dt_base.specs.declared.cell.ColType.{ColType}
use Rattle.dt_tree.specs.declared.tree.Expr.{Expr, the_lemmas}
use Rattle.dt_tree.specs.declared.tree.Expr.TheVariants as code
use Rattle.dt_tree.specs.declared.tree.Tail.{Tail}
use Rattle.dt_tree.specs.declared.tree.Arg.{Arg}
use Rattle.dt_tree.specs.declared.tree.Bracket.{Bracket, roll-Bracket}
use Rattle.dt_tree.specs.declared.tree.Second.{Second}
use Rattle.dt_tree.specs.declared.tree.Second.TheVariants as second
use Rattle.run_model.specs.GrammarTrees.{Word, Typed, Null, Infinite, Not, Negate, Lit, Var, Paren, Unary, Chain, Call}
use Rattle.run_model.specs.GrammarTrees.{Query, Formula, Tails, NoTails, MoreTails, Args, NoArgs, MoreArgs, Given}
use Rattle.run_model.specs.GrammarTrees.{Assigns, AssignsAll, Brackets, NoBrackets, MoreBrackets}
use Rattle.run_model.specs.TreeView.{tails_from, args_from, brackets_from, tree_of, item_of_second, arg_of, bracket_of}
use Rattle.run_model.specs.TreeView.{tail_of, tails_of, args_of, brackets_of, first_of, second_of}

pub tree_of-Lit : (c : Cell) (k : ColType) → tree_of (code.Lit c k) ≡ Lit (Typed c k)
unfolding tree_of item_of_second arg_of bracket_of tail_of
tree_of-Lit c k = search (rules, the_lemmas)

pub tree_of-Null : tree_of code.Null ≡ Lit Null
unfolding tree_of item_of_second arg_of bracket_of tail_of
tree_of-Null = search (rules, the_lemmas)

pub tree_of-Infinite : tree_of code.Infinite ≡ Lit Infinite
unfolding tree_of item_of_second arg_of bracket_of tail_of
tree_of-Infinite = search (rules, the_lemmas)

pub tree_of-Name : (x : Word) → tree_of (code.Name x) ≡ Var x
unfolding tree_of item_of_second arg_of bracket_of tail_of
tree_of-Name x = search (rules, the_lemmas)

pub tree_of-Paren : (t : Expr) → tree_of (code.Paren t) ≡ Paren (tree_of t)
unfolding tree_of item_of_second arg_of bracket_of tail_of
tree_of-Paren t = search (rules, the_lemmas)

pub tree_of-Minus : (t : Expr) → tree_of (code.Minus t) ≡ Unary Negate (tree_of t)
unfolding tree_of item_of_second arg_of bracket_of tail_of
tree_of-Minus t = search (rules, the_lemmas)

pub tree_of-Not : (t : Expr) → tree_of (code.Not t) ≡ Unary Not (tree_of t)
unfolding tree_of item_of_second arg_of bracket_of tail_of
tree_of-Not t = search (rules, the_lemmas)

pub tree_of-Chain : (t : Expr) (rest : List Tail) → tree_of (code.Chain t rest) ≡ Chain (tree_of t) (tails_of rest)
unfolding tree_of item_of_second arg_of bracket_of tail_of
tree_of-Chain t rest = search (rules, the_lemmas)

pub tree_of-Call : (x : Word) (args : List Arg) → tree_of (code.Call x args) ≡ Call x (args_of args)
unfolding tree_of item_of_second arg_of bracket_of tail_of
tree_of-Call x args = search (rules, the_lemmas)

pub tree_of-Query : (t : Expr) (bs : List Bracket) → tree_of (code.Query t bs) ≡ Query (tree_of t) (brackets_of bs)
unfolding tree_of item_of_second arg_of bracket_of tail_of
tree_of-Query t bs = search (rules, the_lemmas)

pub tree_of-Formula : (xs ys : List Word) → tree_of (code.Formula xs ys) ≡ Formula xs ys
unfolding tree_of item_of_second arg_of bracket_of tail_of
tree_of-Formula xs ys = search (rules, the_lemmas)

pub item_of_second-Value : (t : Expr) → item_of_second (second.Value t) ≡ Given (tree_of t)
unfolding tree_of item_of_second arg_of bracket_of tail_of
item_of_second-Value t = search (rules, the_lemmas)

pub item_of_second-Assign : (l r : Expr) → item_of_second (second.Assign l r) ≡ Assigns (tree_of l) (tree_of r)
unfolding tree_of item_of_second arg_of bracket_of tail_of
item_of_second-Assign l r = search (rules, the_lemmas)

pub item_of_second-AssignAll : (args : List Arg) → item_of_second (second.AssignAll args) ≡ AssignsAll (args_of args)
unfolding tree_of item_of_second arg_of bracket_of tail_of
item_of_second-AssignAll args = search (rules, the_lemmas)

pub tail_of_is : (t : Tail) → tail_of t ≡ (t.op, tree_of t.arg)
unfolding tree_of item_of_second arg_of bracket_of tail_of
tail_of_is t = search (rules, the_lemmas)

pub arg_of_is : (a : Arg) → arg_of a ≡ (a.name, tree_of a.value)
unfolding tree_of item_of_second arg_of bracket_of tail_of
arg_of_is a = search (rules, the_lemmas)

pub bracket_of-roll : (a : Option Expr) (j : Option Second) (b : Option Expr) (args : List Arg)
    → bracket_of (roll-Bracket (record { first = a; second = j; third = b; args = args })) ≡ record {
      first = first_of a;
      second = second_of j;
      third = first_of b;
      args = args_of args;
    }
unfolding tree_of item_of_second arg_of bracket_of tail_of
bracket_of-roll a j b args = search (rules, the_lemmas)

-- one more at the end of a list
tails_push : (before : Tails) (rest : List Tail) (x : Tail)
    → tails_from before (map tail_of (rest ++ x ∷ []))
    ≡ MoreTails (tails_from before (map tail_of rest)) x.op (tree_of x.arg)
tails_push before [] x = ap (λ y. tails_from before (y ∷ [])) (tail_of_is x)
tails_push before (y ∷ rest) x = tails_push (MoreTails before (tail_of y).0 (tail_of y).1) rest x

pub tails_of-push : (rest : List Tail) (x : Tail)
    → tails_of (rest ++ x ∷ []) ≡ MoreTails (tails_of rest) x.op (tree_of x.arg)
tails_of-push rest x = tails_push NoTails rest x

args_push : (before : Args) (args : List Arg) (x : Arg)
    → args_from before (map arg_of (args ++ x ∷ []))
    ≡ MoreArgs (args_from before (map arg_of args)) x.name (tree_of x.value)
args_push before [] x = ap (λ y. args_from before (y ∷ [])) (arg_of_is x)
args_push before (y ∷ args) x = args_push (MoreArgs before (arg_of y).0 (arg_of y).1) args x

pub args_of-push : (args : List Arg) (x : Arg)
    → args_of (args ++ x ∷ []) ≡ MoreArgs (args_of args) x.name (tree_of x.value)
args_of-push args x = args_push NoArgs args x

brackets_push : (before : Brackets) (bs : List Bracket) (x : Bracket)
    → brackets_from before (map bracket_of (bs ++ x ∷ []))
    ≡ (let b = bracket_of x in MoreBrackets (brackets_from before (map bracket_of bs)) b.first b.second b.third b.args)
brackets_push before [] x = refl
brackets_push before (y ∷ bs) x = let b = bracket_of y in
    brackets_push (MoreBrackets before b.first b.second b.third b.args) bs x

pub brackets_of-push : (bs : List Bracket) (x : Bracket)
    → brackets_of (bs ++ x ∷ []) ≡ (let b = bracket_of x in
    MoreBrackets (brackets_of bs) b.first b.second b.third b.args)
brackets_of-push bs x = brackets_push NoBrackets bs x

-- the view of what the code makes
pub ruleset trees = (
  tree_of-Lit,
  tree_of-Null,
  tree_of-Infinite,
  tree_of-Name,
  tree_of-Paren,
  tree_of-Minus,
  tree_of-Not,
  tree_of-Chain,
  tree_of-Call,
  tree_of-Query,
  tree_of-Formula,
  tails_of-push,
  args_of-push,
)
