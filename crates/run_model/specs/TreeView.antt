-- Which tree of the grammar a tree that code holds is: the same tree, with each list turned into
-- one whose last part stands outermost.
--   tree_of e          an expression
--   tails_of rest      operators with their right sides
--   args_of args       arguments
--   brackets_of bs     the brackets behind a head
--   first_of o         what stands at i or by
--   second_of o        what stands at j
--   stmt_of s          a statement
--   script_of s        the statements of a script
use Rattle.std.specs.Prelude.{ℕ, List, [], ◌∷◌, Option, Some, None, map, option_map}
use Rattle.dt_tree.specs.declared.tree.Expr.{Expr, fold-Expr}
use Rattle.dt_tree.specs.declared.tree.Expr.TheOpen.{Expr-F, Second-F, Arg-F, Bracket-F, Tail-F}
use Rattle.dt_tree.specs.declared.tree.Expr.TheOpen as layer
use Rattle.dt_tree.specs.declared.tree.Expr.TheFolds.{fold-Tail, fold-Arg, fold-Bracket, fold-Second}
use Rattle.dt_tree.specs.declared.tree.Tail.{Tail}
use Rattle.dt_tree.specs.declared.tree.Arg.{Arg}
use Rattle.dt_tree.specs.declared.tree.Bracket.{Bracket}
use Rattle.dt_tree.specs.declared.tree.Second.{Second}
use Rattle.dt_tree.specs.declared.tree.BinOp.{BinOp}
use Rattle.dt_tree.specs.declared.tree.Stmt as stmt_type
use Rattle.dt_tree.specs.declared.tree.Script as script_type
use Rattle.run_model.specs.GrammarTrees.{Word, Typed, Null, Infinite, Not, Negate, Tree, Lit, Var, Paren, Unary, Chain}
use Rattle.run_model.specs.GrammarTrees.{Call, Query, Formula, Tails, NoTails, MoreTails, Args, NoArgs, MoreArgs, Item}
use Rattle.run_model.specs.GrammarTrees.{Absent, Given, Assigns, AssignsAll, Brackets, NoBrackets, MoreBrackets, Stmt}

-- an argument, an operator with its right side, and a bracket, each with the trees of its parts
abbrev pub ArgTree : Type 0
ArgTree = Option Word × Tree

abbrev pub TailTree : Type 0
TailTree = BinOp × Tree

pub record BracketTree : Type 0 where
  pub first : Item
  pub second : Item
  pub third : Item
  pub args : Args

-- lists of them, behind what came before
abbrev pub tails_from : Tails → List TailTree → Tails
tails_from before [] = before
tails_from before (x ∷ xs) = tails_from (MoreTails before x.0 x.1) xs

abbrev pub args_from : Args → List ArgTree → Args
args_from before [] = before
args_from before (x ∷ xs) = args_from (MoreArgs before x.0 x.1) xs

abbrev pub brackets_from : Brackets → List BracketTree → Brackets
brackets_from before [] = before
brackets_from before (x ∷ xs) = brackets_from (MoreBrackets before x.first x.second x.third x.args) xs

-- an item that may be absent
abbrev pub given : Option Tree → Item
given None = Absent
given (Some t) = Given t

abbrev pub item_in : Option Item → Item
item_in None = Absent
item_in (Some x) = x

-- the parts of a tree, from the trees of their own parts
abbrev pub tail_step : Tail-F Tree Item ArgTree BracketTree TailTree → TailTree
tail_step t = (t.op, t.arg)

abbrev pub arg_step : Arg-F Tree Item ArgTree BracketTree TailTree → ArgTree
arg_step a = (a.name, a.value)

abbrev pub bracket_step : Bracket-F Tree Item ArgTree BracketTree TailTree → BracketTree
bracket_step b = record {
  first = given b.first;
  second = item_in b.second;
  third = given b.third;
  args = args_from NoArgs b.args;
}

abbrev pub second_step : Second-F Tree Item ArgTree BracketTree TailTree → Item
second_step (layer.Value t) = Given t
second_step (layer.Assign l r) = Assigns l r
second_step (layer.AssignAll args) = AssignsAll (args_from NoArgs args)

abbrev pub expr_step : Expr-F Tree Item ArgTree BracketTree TailTree → Tree
expr_step (layer.Lit c k) = Lit (Typed c k)
expr_step layer.Null = Lit Null
expr_step layer.Infinite = Lit Infinite
expr_step (layer.Name x) = Var x
expr_step (layer.Paren t) = Paren t
expr_step (layer.Minus t) = Unary Negate t
expr_step (layer.Not t) = Unary Not t
expr_step (layer.Chain t rest) = Chain t (tails_from NoTails rest)
expr_step (layer.Call x args) = Call x (args_from NoArgs args)
expr_step (layer.Query t brackets) = Query t (brackets_from NoBrackets brackets)
expr_step (layer.Formula xs ys) = Formula xs ys

-- an expression
unfoldable pub tree_of : Expr → Tree
tree_of = fold-Expr Tree Item ArgTree BracketTree TailTree expr_step second_step arg_step bracket_step tail_step

-- what stands at j
unfoldable pub item_of_second : Second → Item
item_of_second = fold-Second Tree Item ArgTree BracketTree TailTree expr_step second_step arg_step
    bracket_step tail_step

-- an argument
unfoldable pub arg_of : Arg → ArgTree
arg_of = fold-Arg Tree Item ArgTree BracketTree TailTree expr_step second_step arg_step bracket_step tail_step

-- a bracket
unfoldable pub bracket_of : Bracket → BracketTree
bracket_of = fold-Bracket Tree Item ArgTree BracketTree TailTree expr_step second_step arg_step bracket_step tail_step

-- an operator with its right side
unfoldable pub tail_of : Tail → TailTree
tail_of = fold-Tail Tree Item ArgTree BracketTree TailTree expr_step second_step arg_step bracket_step tail_step

abbrev pub tails_of : List Tail → Tails
tails_of rest = tails_from NoTails (map tail_of rest)

abbrev pub args_of : List Arg → Args
args_of args = args_from NoArgs (map arg_of args)

abbrev pub brackets_of : List Bracket → Brackets
brackets_of brackets = brackets_from NoBrackets (map bracket_of brackets)

abbrev pub first_of : Option Expr → Item
first_of o = given (option_map tree_of o)

abbrev pub second_of : Option Second → Item
second_of o = item_in (option_map item_of_second o)

-- a statement
abbrev pub stmt_of : stmt_type.Stmt → Stmt
stmt_of s = record { line = s.line; target = s.target; expr = tree_of s.expr }

abbrev pub stmts_of : List stmt_type.Stmt → List Stmt
stmts_of ss = map stmt_of ss

-- a script
abbrev pub script_of : script_type.Script → List Stmt
script_of s = stmts_of s.stmts
