-- What the parts of an expression mean, as records. `Meaning` fills them from a tree.
--   Outcome           what one bracket gives: the same table, a new table, a vector, or an assignment
--   Answer            an outcome and its warnings
--   Meaning           an expression
--   ArgMeaning        an argument: its name, and the meaning of its value
--   TailMeaning       an operator, and the meaning of its right side
--   SecondMeaning     what stands as j: an expression, or an assignment
--   BracketMeaning    a bracket: i, j, by, and the arguments with a name
use Rattle.std.specs.Prelude.{ℕ, Bool, List, Option, Result}
use Rattle.dt_base.specs.declared.cell.ColType.{ColType}
use Rattle.dt_base.specs.declared.fault.Fault.{Fault}
use Rattle.dt_base.specs.declared.warns.Warns.{Warns}
use Rattle.dt_model.specs.Table.{PlainTable}
use Rattle.dt_model.specs.Vector.{Vector as Cells}
use Rattle.dt_tree.specs.declared.tree.BinOp.{BinOp}
use Rattle.vector_model.specs.Functions.{Valued}
use Rattle.expr_model.specs.Surroundings.{Env}
use Rattle.session_model.specs.Effect.{Effect}
use Rattle.session_model.specs.Form.{Form}
use Rattle.session_model.specs.Value.{Given, Scene}
use Rattle.session_model.specs.Written.{Joining, Listing, Probe}

-- What one bracket gives. By an assignment the table before it becomes another, and these of its columns
-- are assigned to.
pub data Outcome : Type 0 where
  Same : Outcome
  Table : PlainTable → Outcome
  Vector : Cells → Outcome
  Assigned : List (List ℕ) → PlainTable → Outcome

pub record Answer : Type 0 where
  pub outcome : Outcome
  pub warns : Warns

-- An expression:
--   form      what it is as written
--   called    the name that it has as the head of a bracket, through parentheses; `[` where it has none
--   joins     what it is as the i of a bracket, whatever its names are bound to
--   served    whether all of its forms are served, where it stands in a bracket or outside
--   check     its type where a vector is wanted, or its first fault; it looks at no cell
--   value     its value there with its warnings, or its first fault
--   listing   its word and its items, if it is a call
--   mentions  the bare names in it, but not the name of a table that is told of, as in `nrow(D)`
--   probe     a column beside a value, if it is that
--   gives     what it gives as a head, and where a table is wanted
--   whole     what it gives as a statement's value
--   indexed   that value, where the statement is this expression itself: with the index that it adds
--   command   what it does as a whole statement, with a name to assign to or none, if it is a command
pub record Meaning : Type 0 where
  pub form : Form
  pub called : List ℕ
  pub joins : Joining
  pub served : Bool → Bool
  pub check : Env → Result ColType Fault
  pub value : Env → Result Valued Fault
  pub listing : Option Listing
  pub mentions : List (List ℕ)
  pub probe : Option Probe
  pub gives : Scene → Result Given Fault
  pub whole : Scene → Result Given Fault
  pub indexed : Scene → Given → Given
  pub command : Option (Option (List ℕ) → Scene → Result Effect Fault)

-- an argument
pub record ArgMeaning : Type 0 where
  pub name : Option (List ℕ)
  pub means : Meaning

-- an operator and its right side
pub record TailMeaning : Type 0 where
  pub op : BinOp
  pub means : Meaning

-- what stands as j
pub data SecondMeaning : Type 0 where
  Computes : Meaning → SecondMeaning
  Assigns : Meaning → Meaning → SecondMeaning
  AssignsAll : List ArgMeaning → SecondMeaning

-- a bracket
pub record BracketMeaning : Type 0 where
  pub first : Option Meaning
  pub second : Option SecondMeaning
  pub third : Option Meaning
  pub args : List ArgMeaning
