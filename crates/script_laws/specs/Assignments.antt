-- Where the assignments of a script stand that has none in a wrong place, said of its trees alone.
--   HasNoAssignment t                 in the expression t stands no assignment and no call of `:=`
--   NoneInTails .. NoneInBrackets     the same of the parts of an expression
--   IsAssignment j                    what stands at j is an assignment, with no other within it
--   AssignsLast bs                    of the brackets bs the last one assigns, and no other
--   AssignsBeforeEmpty bs             only the last but one assigns, and the last is empty
--   StandsRight t                     a statement's expression
--   StandRight ss                     the statements of a script
--   NoneMisplaced                     no token stands wrong exactly where the statements stand right
use Rattle.std.specs.Prelude.{◌≡◌, ◌↔◌, ◌⊎◌, true, false, List, None}
use Rattle.std.specs.List.{All}
use Rattle.run_model.specs.Grammar.{is_assign, IsScript}
use Rattle.run_model.specs.GrammarTrees.{Token, Tree, Lit, Var, Paren, Unary, Chain, Call, Query, Formula, Tails}
use Rattle.run_model.specs.GrammarTrees.{NoTails, MoreTails, Args, NoArgs, MoreArgs, Item, Absent, Given, Assigns}
use Rattle.run_model.specs.GrammarTrees.{AssignsAll, Brackets, NoBrackets, MoreBrackets, Stmt}
use Rattle.run_model.specs.Misplaced.{are_pairs, is_empty, misplaced}

abbrev mutual
  -- No bracket of the expression assigns, and no call in it is that of `:=`. A name that is no
  -- call's may be `:=`.
  pub HasNoAssignment : Tree → Type 0
  HasNoAssignment (Lit v) = Unit {0}
  HasNoAssignment (Var x) = Unit {0}
  HasNoAssignment (Paren t) = HasNoAssignment t
  HasNoAssignment (Unary p t) = HasNoAssignment t
  HasNoAssignment (Chain t rest) = HasNoAssignment t × NoneInTails rest
  HasNoAssignment (Call x args) = (is_assign x ≡ false) × NoneInArgs args
  HasNoAssignment (Query t brackets) = HasNoAssignment t × NoneInBrackets brackets
  HasNoAssignment (Formula xs ys) = Unit {0}

  pub NoneInTails : Tails → Type 0
  NoneInTails NoTails = Unit {0}
  NoneInTails (MoreTails before op t) = NoneInTails before × HasNoAssignment t

  pub NoneInArgs : Args → Type 0
  NoneInArgs NoArgs = Unit {0}
  NoneInArgs (MoreArgs before o t) = NoneInArgs before × HasNoAssignment t

  pub NoneInItem : Item → Type 0
  NoneInItem Absent = Unit {0}
  NoneInItem (Given t) = HasNoAssignment t
  NoneInItem (Assigns l r) = ⊥
  NoneInItem (AssignsAll args) = ⊥

  pub NoneInBrackets : Brackets → Type 0
  NoneInBrackets NoBrackets = Unit {0}
  NoneInBrackets (MoreBrackets before i j by args) = NoneInBrackets before × NoneInItem i × NoneInItem j × NoneInItem by
      × NoneInArgs args

-- An assignment is `l := r`, or the call of `:=` with one argument or more, each with a name.
abbrev pub IsAssignment : Item → Type 0
IsAssignment Absent = ⊥
IsAssignment (Given t) = ⊥
IsAssignment (Assigns l r) = HasNoAssignment l × HasNoAssignment r
IsAssignment (AssignsAll args) = (are_pairs args ≡ true) × NoneInArgs args

-- The j of the last bracket is an assignment, and nothing before it or beside it has one.
abbrev pub AssignsLast : Brackets → Type 0
AssignsLast NoBrackets = ⊥
AssignsLast (MoreBrackets before i j by args) = NoneInBrackets before × NoneInItem i × IsAssignment j × NoneInItem by
    × NoneInArgs args

-- Nothing stands in the last bracket, and the one before it assigns.
abbrev pub AssignsBeforeEmpty : Brackets → Type 0
AssignsBeforeEmpty NoBrackets = ⊥
AssignsBeforeEmpty (MoreBrackets before i j by args) = AssignsLast before × (is_empty i j by args ≡ true)

-- A statement's expression has no assignment; or it is a chain of brackets of which one assigns,
-- and behind that one stands nothing or one empty bracket.
abbrev pub StandsRight : Tree → Type 0
StandsRight (Query t brackets) = HasNoAssignment t
    × (NoneInBrackets brackets ⊎ (AssignsLast brackets ⊎ AssignsBeforeEmpty brackets))
StandsRight t = HasNoAssignment t

-- Each statement's expression stands right.
abbrev pub StandRight : List Stmt → Type 0
StandRight = All (λ s. StandsRight s.expr)

-- No token of a script stands wrong exactly where its statements stand right.
abbrev pub NoneMisplaced : Type 0
NoneMisplaced = (ts : List Token) (ss : List Stmt) → IsScript ts ss → (misplaced ts ss ≡ None) ↔ StandRight ss
