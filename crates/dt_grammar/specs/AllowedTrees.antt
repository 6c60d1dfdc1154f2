-- Which trees the grammar's rules allow, said of the tree alone.
--   IsLiteral v         some word, integer or text is the literal v
--   IsAllowed k t       the expression t, whose operators outside of brackets bind at least as tightly as k
--   AreTails l rest     operators of level l, one at most where the level takes one, with their right sides
--   IsFormula t         the formula t
--   AreArgs args        the arguments of a call, each an expression or a formula
--   IsPlain x, IsSecond x     what stands at i or by, and what stands at j
--   AreNamed args       the arguments of a bracket, each with a name
--   AreBrackets bs      one bracket or more
--   AreStmts ss         the statements of a script
use Rattle.std.specs.Prelude.{◌≡◌, ◌≢◌, ℕ, suc, ◌≤◌, false, List, [], ◌∷◌, Some, None, ◌⊎◌}
use Rattle.dt_base.specs.declared.cell.Cell.TheVariants as cell
use Rattle.dt_base.specs.declared.cell.ColType.TheVariants as ty
use Rattle.run_model.specs.GrammarTrees.{Value, Typed, Null, Infinite, Tree, Lit, Var, Paren, Unary, Chain, Call, Query}
use Rattle.run_model.specs.GrammarTrees.{Formula, Tails, NoTails, MoreTails, Args, NoArgs, MoreArgs, Item, Absent}
use Rattle.run_model.specs.GrammarTrees.{Given, Assigns, AssignsAll, Brackets, NoBrackets, MoreBrackets, Stmt}
use Rattle.run_model.specs.Grammar.{level, is_single, prefix_level, post, prim, as_j}

-- a literal's cell is NA or of its type
abbrev pub IsLiteral : Value → Type 0
IsLiteral Null = Unit {0}
IsLiteral Infinite = Unit {0}
IsLiteral (Typed cell.Na k) = Unit {0}
IsLiteral (Typed (cell.Lgl b) ty.Lgl) = Unit {0}
IsLiteral (Typed (cell.Int n) ty.Int) = Unit {0}
IsLiteral (Typed (cell.Text s) ty.Chr) = Unit {0}
IsLiteral (Typed _ _) = ⊥

-- the level of a chain is that of its last operator
abbrev pub level_of : Tails → ℕ
level_of NoTails = 0
level_of (MoreTails before op t) = level op

-- a formula has a name on both sides
abbrev pub IsFormula : Tree → Type 0
IsFormula (Formula xs ys) = (xs ≢ []) × (ys ≢ [])
IsFormula _ = ⊥

abbrev mutual
  -- A chain's operands bind more tightly than its operators, an operand of "!" or "-" more tightly
  -- than that, and the head of a query is a literal, a name, a call or a parenthesis. A formula is
  -- no expression.
  pub IsAllowed : ℕ → Tree → Type 0
  IsAllowed k (Lit v) = (k ≤ prim) × IsLiteral v
  IsAllowed k (Var x) = k ≤ prim
  IsAllowed k (Paren t) = (k ≤ prim) × IsAllowed 0 t
  IsAllowed k (Unary p t) = (k ≤ prefix_level p) × IsAllowed (suc (prefix_level p)) t
  IsAllowed k (Chain t rest) = (k ≤ level_of rest) × IsAllowed (suc (level_of rest)) t × AreTails (level_of rest) rest
  IsAllowed k (Call x args) = (k ≤ prim) × AreArgs args
  IsAllowed k (Query t brackets) = (k ≤ post) × IsAllowed prim t × AreBrackets brackets
  IsAllowed k (Formula xs ys) = ⊥

  pub AreTails : ℕ → Tails → Type 0
  AreTails l NoTails = ⊥
  AreTails l (MoreTails NoTails op t) = (level op ≡ l) × IsAllowed (suc l) t
  AreTails l (MoreTails (MoreTails before o u) op t) = (level op ≡ l) × (is_single op ≡ false)
      × AreTails l (MoreTails before o u) × IsAllowed (suc l) t

  pub AreArgs : Args → Type 0
  AreArgs NoArgs = Unit {0}
  AreArgs (MoreArgs before o t) = AreArgs before × (IsAllowed 0 t ⊎ IsFormula t)

  -- The call of `:=` as j is an assignment, and no value.
  pub IsPlain : Item → Type 0
  IsPlain Absent = Unit {0}
  IsPlain (Given t) = IsAllowed 0 t
  IsPlain (Assigns l r) = ⊥
  IsPlain (AssignsAll args) = ⊥

  pub IsSecond : Item → Type 0
  IsSecond Absent = Unit {0}
  IsSecond (Given t) = (as_j t ≡ Given t) × IsAllowed 0 t
  IsSecond (Assigns l r) = IsAllowed 0 l × IsAllowed 0 r
  IsSecond (AssignsAll args) = AreArgs args

  pub AreNamed : Args → Type 0
  AreNamed NoArgs = Unit {0}
  AreNamed (MoreArgs before None t) = ⊥
  AreNamed (MoreArgs before (Some x) t) = AreNamed before × IsAllowed 0 t

  pub AreBrackets : Brackets → Type 0
  AreBrackets NoBrackets = ⊥
  AreBrackets (MoreBrackets NoBrackets i j by args) = IsPlain i × IsSecond j × IsPlain by × AreNamed args
  AreBrackets (MoreBrackets (MoreBrackets before i' j' by' args') i j by args) =
      AreBrackets (MoreBrackets before i' j' by' args') × IsPlain i × IsSecond j × IsPlain by × AreNamed args

-- Each statement is an expression of any level.
abbrev pub AreStmts : List Stmt → Type 0
AreStmts [] = Unit {0}
AreStmts (s ∷ ss) = IsAllowed 0 s.expr × AreStmts ss
