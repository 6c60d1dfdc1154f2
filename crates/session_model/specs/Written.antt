-- What is written, of the parts that rules on brackets and calls look at.
--   Item              an item of a call, or an argument: its name, its form, and what it is as a vector
--   Listing           a call: its word and its items
--   Probe             `c == e` or `c %in% e`, which an index of the column c can answer
--   Joining           what an expression is as the i of a bracket: a table to join with, a list of values to
--                     join with, each behind `!` or not, or no join
--   is_join j         it is a join
-- No record here holds a Meaning, so none reaches itself.
use Rattle.std.specs.Prelude.{ℕ, Bool, true, false, List, Option, Result}
use Rattle.dt_base.specs.declared.cell.ColType.{ColType}
use Rattle.dt_base.specs.declared.fault.Fault.{Fault}
use Rattle.vector_model.specs.Functions.{Valued}
use Rattle.expr_model.specs.Surroundings.{Env}
use Rattle.session_model.specs.Form.{Form}
use Rattle.session_model.specs.Value.{Given, Scene}

-- an item: `mentions` are the bare names in it
pub record Item : Type 0 where
  pub name : Option (List ℕ)
  pub form : Form
  pub mentions : List (List ℕ)
  pub check : Env → Result ColType Fault
  pub value : Env → Result Valued Fault

-- a call as written
pub record Listing : Type 0 where
  pub word : List ℕ
  pub items : List Item

-- a column beside a value; `member` tells `%in%` from `==`
pub record Probe : Type 0 where
  pub column : List ℕ
  pub member : Bool
  pub right : Item

-- ---- What an expression is as the i of a bracket, whatever its names are bound to

-- A query or a table function gives a table to join with, and a list gives values to join with; true
-- behind `!`.
pub data Joining : Type 0 where
  NoJoin : Joining
  TableJoin : Bool → (Scene → Result Given Fault) → Joining
  ListJoin : Bool → Listing → Joining

-- `!` turns a join round; before anything else it is logical
abbrev pub turned : Joining → Joining
turned (TableJoin false table) = TableJoin true table
turned (ListJoin false l) = ListJoin true l
turned _ = NoJoin

-- parentheses let a table through, and hide a list and a `!`
abbrev pub in_parens : Joining → Joining
in_parens (TableJoin false table) = TableJoin false table
in_parens _ = NoJoin

abbrev pub is_join : Joining → Bool
is_join NoJoin = false
is_join _ = true
