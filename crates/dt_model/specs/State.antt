-- The state of a session: names, and the tables and vectors that they are bound to.
--   Bound               a table, by its number, or a vector
--   State               the names, the tables by their numbers, and the number of the next table
--   empty_state         no name and no table
--   has_name names k    some name is bound to table k
--   bound_to s q b      the state after the name q is bound to b
--   removed s q         the state after the name q is removed
--   bound_new s q t     the state after q is bound to a new table
--   with_table s k t    the state after table k has become t
--   IsLive s o          a table that is named so is there
--   IsState s           what every state meets
--   IsNamed s           each table has a name
-- A table has one number for its whole life, and no number is used again. So two names are bound to
-- one table exactly where they are bound to one number.
use Rattle.std.specs.Prelude.{◌≡◌, ◌≤◌, ◌+◌, ℕ, List, Bool, true, false, cond, Option, None, Some, IsSome, nat_eq}
use Rattle.std.specs.List.{list_any}
use Rattle.std.specs.Ordering.{nat_cmp}
use Rattle.std.specs.Cmp.Lexicographic.{slice_cmp}
use Rattle.std.specs.FinMap as finite
use Rattle.dt_model.specs.Table.{PlainTable}
use Rattle.dt_model.specs.Vector.{Vector as Cells}

-- what a name is bound to
pub data Bound : Type 0 where
  Table : ℕ → Bound
  Vector : Cells → Bound

-- names, which are bytes, and what they are bound to
abbrev pub Names : Type 0
Names = finite.FinMap (slice_cmp nat_cmp) Bound

-- tables by their numbers
abbrev pub Tables : Type 0
Tables = finite.FinMap nat_cmp PlainTable

-- names, tables, and the number that the next new table gets
pub record State : Type 0 where
  pub names : Names
  pub tables : Tables
  pub next : ℕ

-- no name and no table
abbrev pub empty_state : State
empty_state = record { names = finite.empty; tables = finite.empty; next = 0 }

-- whether this is table k
abbrev pub is_table : ℕ → Bound → Bool
is_table k (Table n) = nat_eq n k
is_table k (Vector v) = false

-- whether some name is bound to table k
abbrev pub has_name : Names → ℕ → Bool
has_name names k = list_any (λ e. is_table k e.1) (finite.entries names)

-- The tables without the one that has lost its last name. What the changed name was bound to before
-- is the only one that can have.
abbrev pub swept : Names → Tables → Option Bound → Tables
swept names tables None = tables
swept names tables (Some (Vector v)) = tables
swept names tables (Some (Table k)) = cond (has_name names k) tables (finite.remove tables k)

-- the name is bound anew; a table that loses its last name by that is dropped
abbrev pub bound_to : State → List ℕ → Bound → State
bound_to s q b =
    record s {
      names = finite.insert s.names q b;
      tables = swept (finite.insert s.names q b) s.tables (finite.get s.names q);
    }

-- the name is bound no longer; a table that loses its last name by that is dropped
abbrev pub removed : State → List ℕ → State
removed s q =
    record s {
      names = finite.remove s.names q;
      tables = swept (finite.remove s.names q) s.tables (finite.get s.names q);
    }

-- one more table, under the next number
abbrev pub added : State → PlainTable → State
added s t = record s { tables = finite.insert s.tables s.next t; next = s.next + 1 }

-- the name is bound to a new table
abbrev pub bound_new : State → List ℕ → PlainTable → State
bound_new s q t = bound_to (added s t) q (Table s.next)

-- table k has become t, under all its names
abbrev pub with_table : State → ℕ → PlainTable → State
with_table s k t = record s { tables = finite.insert s.tables k t }

-- a table that something is bound to is there
abbrev pub IsLive : State → Option Bound → Type 0
IsLive s None = Unit {0}
IsLive s (Some (Vector v)) = Unit {0}
IsLive s (Some (Table k)) = IsSome (finite.get s.tables k)

-- each name's table is there, and no number from the next one on is in use
pub record IsState (s : State) : Type 0 where
  pub live : (q : List ℕ) → IsLive s (finite.get s.names q)
  pub fresh : (k : ℕ) → s.next ≤ k → finite.get s.tables k ≡ None

-- each table has a name
abbrev pub IsNamed : State → Type 0
IsNamed s = (k : ℕ) → IsSome (finite.get s.tables k) → has_name s.names k ≡ true
