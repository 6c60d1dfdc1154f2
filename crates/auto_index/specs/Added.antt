-- The index that a statement adds, as the code comes to it.
--   cell_count v             how many cells a value has
--   IsFree t c               c is a column of the table t, and neither its key nor an index begins with it
--   IsNew t o                so is the column that is found, if one is
--   names_column parts c     the change, if there is one, names the column
--   keeps n c a              what is altered, if anything, is the table of this number, and keeps an index of c
--   kept_column n c a        the column c, if there is one, where its index is kept
--   numbered_bound b, numbered_in v   the number of the table that a name is bound to, or that a value is
--   indexed_parts o          the index that what stands before brackets and these add, if there are such
--   Headed, headed_seen o    the table before the first bracket, and that bracket, if there are both
--   indexed_at w o g         what is given, with the index that this bracket adds to this table
--   FitsWith h a             what is altered, if anything, is live, and its index and its change fit it
--   IsOf id a                what is altered, if anything, is the table of this Id
--   altered_with id x a      the table of this Id gets the index, and then the change that there is
use Rattle.std.specs.Prelude.{◌≡◌, ◌<◌, ◌==◌, ◌&&◌, not, ℕ, Bool, true, false, List, length, IfSome, Option, None, Some}
use Rattle.std.specs.Prelude.{if◌then◌else◌, map, option_map}
use Rattle.std.specs.Borrow.{Bor}
use Rattle.std.specs.List.{list_any}
use Rattle.std.specs.Str.{bytes_eq}
use Rattle.dt_model.specs.State.{Bound, Table}
use Rattle.dt_model.specs.Table.{name_at}
use Rattle.dt_table.specs.Change.{ChangeSeen, is_named}
use Rattle.dt_table.specs.Plain.{plain}
use Rattle.dt_table.specs.Table.{IndexSeen, TableSeen}
use Rattle.dt_tree.specs.declared.tree.Bracket.{Bracket}
use Rattle.dt_tree.specs.declared.tree.Expr.{Expr}
use Rattle.session_model.specs.AutoIndex.{first_indexed, indexed_given}
use Rattle.session_model.specs.Meaning.{bracket_meaning, meaning, no_index}
use Rattle.session_model.specs.Indices.{begins_with}
use Rattle.session_model.specs.Meanings.{BracketMeaning}
use Rattle.session_model.specs.Value.{Alteration, Given, Numbered, Scene, Value}
use Rattle.stmt_change.specs.Places.{table_at}
use Rattle.stmt_change.specs.declared.change.Altered.{Altered}
use Rattle.table_heap.specs.Altered.{FitsAltered}
use Rattle.table_heap.specs.Seen.{HeapSeen, IsAt}
use Rattle.table_heap.specs.declared.bound.Id.{Id}
use Rattle.vector_model.specs.Functions.{Valued}

-- the cells of a value's vector
abbrev pub cell_count : Valued → ℕ
cell_count v = length v.vector.cells

-- ---- The column

-- a column of the table, with which neither its key nor an index begins
pub record IsFree (t : TableSeen) (c : ℕ) : Type 0 where
  pub within : c < length t.names
  pub free : begins_with (name_at t.names c) (plain t) ≡ false

-- so is the column that is found
abbrev pub IsNew : TableSeen → Option ℕ → Type 0
IsNew t o = IfSome o (IsFree t)

-- ---- Whether its index is kept

-- no change names none
abbrev pub names_column : Option ChangeSeen → ℕ → Bool
names_column None c = false
names_column (Some ch) c = is_named ch.parts c

-- another table, or one whose column is assigned to, keeps none
abbrev pub keeps : ℕ → List ℕ → Option Alteration → Bool
keeps n c None = true
keeps n c (Some a) = a.number == n && not (list_any (bytes_eq c) a.names)

-- the column, where its index is kept
abbrev pub kept_column : ℕ → Option (List ℕ) → Option Alteration → Option (List ℕ)
kept_column n None a = None
kept_column n (Some c) a = if keeps n c a then Some c else None

-- ---- The table before the brackets

-- a name that is bound to no table has no number, and neither has any other value
abbrev pub numbered_bound : Option Bound → Option ℕ
numbered_bound (Some (Table n)) = Some n
numbered_bound _ = None

abbrev pub numbered_in : Option Value → Option ℕ
numbered_in (Some (Numbered n)) = Some n
numbered_in _ = None

-- what is no query adds none
abbrev pub indexed_parts : Option (Bor Expr × Bor (List Bracket)) → Scene → Given → Given
indexed_parts None = no_index
indexed_parts (Some p) = indexed_given (meaning p.0.now) (map bracket_meaning p.1.now)

-- a table's number, and the first bracket behind it
abbrev pub Headed : Type 0
Headed = Option (ℕ × BracketMeaning)

abbrev pub headed_one : Id × Bor Bracket → ℕ × BracketMeaning
headed_one p = (p.0.number, bracket_meaning p.1.now)

abbrev pub headed_seen : Option (Id × Bor Bracket) → Headed
headed_seen = option_map headed_one

-- without both nothing is added
abbrev pub indexed_at : Scene → Headed → Given → Given
indexed_at w None g = g
indexed_at w (Some p) g = first_indexed w p.0 p.1 g

-- ---- What is altered

-- what is altered is live, and its index and its change fit it
abbrev pub FitsWith : HeapSeen → Option Altered → Type 0
FitsWith h None = Unit {0}
FitsWith h (Some a) = IsAt h a.id × FitsAltered (table_at h a.id) a.index a.parts

-- it is the table of this Id
abbrev pub IsOf : Id → Option Altered → Type 0
IsOf id a = IfSome a (λ x. x.id ≡ id)

-- its change, if there is one
abbrev pub parts_in : Option Altered → Option ChangeSeen
parts_in None = None
parts_in (Some a) = a.parts

-- the index is added first
abbrev pub altered_with : Id → IndexSeen → Option Altered → Altered
altered_with id x a = record { id = id; index = Some x; parts = parts_in a }
