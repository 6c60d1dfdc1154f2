-- What contracts see of the surroundings of an expression.
--   vector_seen c, table_seen t     a borrowed column's vector, a borrowed table as a plain one
--   vector_bound b, table_bound b   the vector, or the table, that a name is bound to, if it is to one
--   IsScope s            what is so of all surroundings
--   env_of bound s       the surroundings, where `bound` tells what the script's names are bound to
use Rattle.std.specs.Borrow.{Bor}
use Rattle.std.specs.Prelude.{◌≡◌, ◌<◌, ◌^◌, ℕ, List, length, Option, None, Some}
use Rattle.dt_model.specs.Table.{PlainTable}
use Rattle.dt_model.specs.Vector.{Vector as Cells}
use Rattle.dt_table.specs.Plain.{plain}
use Rattle.dt_table.specs.Table.{TableSeen}
use Rattle.dt_tree.specs.declared.tree.Arg.{Arg}
use Rattle.expr_scope.specs.declared.scope.Scope.{Scope}
use Rattle.session_model.specs.Meaning.{arg_meaning}
use Rattle.session_model.specs.Meanings.{ArgMeaning}
use Rattle.expr_model.specs.Surroundings.{Columns, Env, Var, Table, Vector}
use Rattle.na_vector.specs.Column.{Seen}
use Rattle.na_vector.specs.Frame.{FrameSeen, vectors_of}

abbrev pub vector_seen : Option Seen → Option Cells
vector_seen None = None
vector_seen (Some c) = Some c.vector

abbrev pub table_seen : Option TableSeen → Option PlainTable
table_seen None = None
table_seen (Some t) = Some (plain t)

-- the vector of a column that is lent
abbrev pub vector_lent : Bor Seen → Cells
vector_lent c = c.now.vector

-- the plain table of a table that is lent
abbrev pub table_lent : Bor TableSeen → PlainTable
table_lent t = plain t.now

-- the vector of a column that is lent, if there is one
abbrev pub column_seen : Option (Bor Seen) → Option Cells
column_seen None = None
column_seen (Some c) = Some c.now.vector

-- the meaning of an argument that is lent, if there is one
abbrev pub argument_seen : Option (Bor Arg) → Option ArgMeaning
argument_seen None = None
argument_seen (Some a) = Some (arg_meaning a.now)

-- the vector that a name is bound to
abbrev pub vector_bound : Option Var → Option Cells
vector_bound (Some (Vector v)) = Some v
vector_bound _ = None

-- the table that a name is bound to
abbrev pub table_bound : Option Var → Option PlainTable
table_bound (Some (Table t)) = Some t
table_bound _ = None

-- columns with their names
abbrev pub columns_of : List (List ℕ) → FrameSeen → Columns
columns_of names frame = record { names = names; vectors = vectors_of frame.columns }

-- There are as many names as columns, and as many positions as rows; no number is past the greatest
-- integer of a cell.
pub record IsScope {V : Type 0} (s : Scope V) : Type 0 where
  pub named : length s.names.now ≡ length s.wide.now.columns
  pub single_named : length s.single_names.now ≡ length s.single.now.columns
  pub positions : length s.positions.now ≡ s.wide.now.rows
  pub count : s.count < 2 ^ 63
  pub group : s.group < 2 ^ 63

-- the surroundings as the definitions speak of them
abbrev pub env_of : {V : Type 0} → (V → List ℕ → Option Var) → Scope V → Env
env_of bound s = record {
  inside = s.inside;
  rows = columns_of s.names.now s.wide.now;
  single = columns_of s.single_names.now s.single.now;
  places = s.positions.now;
  count = s.count;
  group = s.group;
  sd = s.sd.now;
  vars = bound s.vars.now;
}
