-- The tokens and the trees of the grammar.
--   Token      what the grammar sees of a token: a name, a literal, an operator, a symbol, a break
--   Value      what a literal is: a cell with its type, NULL or Inf
--   Tree       an expression
--   Tails      operators of one level with their right sides
--   Args       arguments, each with its name where one is written
--   Item       what stands at i, j or by
--   Brackets   the brackets behind a head
--   Stmt       a statement: its line, the name that it assigns to, and its expression
-- Tails, Args and Brackets are lists whose last part stands outermost, since a text is read from
-- left to right.
use Rattle.std.specs.Prelude.{ℕ, List, Option}
use Rattle.dt_base.specs.declared.cell.Cell.{Cell}
use Rattle.dt_base.specs.declared.cell.ColType.{ColType}
use Rattle.dt_tree.specs.declared.tree.BinOp.{BinOp}

-- a name is the list of its bytes
abbrev pub Word : Type 0
Word = List ℕ

-- a literal: a cell with its type, or one of the two words without a type
pub data Value : Type 0 where
  Typed : Cell → ColType → Value
  Null : Value
  Infinite : Value

-- the one-sided operators: "!" and "-" before its operand
pub data Prefix : Type 0 where
  Not : Prefix
  Negate : Prefix

-- A break is a line feed or ";", with the line that the next token stands on. A semicolon that is
-- no break is in no production.
pub data Token : Type 0 where
  Name : Word → Token
  Literal : Value → Token
  Operator : BinOp → Token
  Bang : Token
  Tilde : Token
  Assign : Token
  Arrow : Token
  Is : Token
  Open : Token
  Shut : Token
  OpenSquare : Token
  ShutSquare : Token
  Comma : Token
  Break : ℕ → Token
  Semicolon : Token

mutual
  pub data Tree : Type 0 where
    Lit : Value → Tree
    Var : Word → Tree
    Paren : Tree → Tree
    Unary : Prefix → Tree → Tree
    Chain : Tree → Tails → Tree
    Call : Word → Args → Tree
    Query : Tree → Brackets → Tree
    Formula : List Word → List Word → Tree

  -- operators of one level with their right sides
  pub data Tails : Type 0 where
    NoTails : Tails
    MoreTails : Tails → BinOp → Tree → Tails

  -- arguments
  pub data Args : Type 0 where
    NoArgs : Args
    MoreArgs : Args → Option Word → Tree → Args

  -- what stands at i, j or by: nothing, an expression, `l := r`, or the call of `:=`
  pub data Item : Type 0 where
    Absent : Item
    Given : Tree → Item
    Assigns : Tree → Tree → Item
    AssignsAll : Args → Item

  -- brackets: i, j, by and the arguments with a name
  pub data Brackets : Type 0 where
    NoBrackets : Brackets
    MoreBrackets : Brackets → Item → Item → Item → Args → Brackets

-- a statement
pub record Stmt : Type 0 where
  pub line : ℕ
  pub target : Option Word
  pub expr : Tree
