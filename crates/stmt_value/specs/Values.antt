-- What contracts see of a value.
--   plain_value v       a table by its number or as a plain table, a column as its vector, or NULL
--   plain_given h g     a value, its warnings, the table that it alters, and whether it is shown
--   scene held s        the files, the state and the options that a statement meets
--   head_of h v         the table that a value is before a bracket
--   assigned_given ..   what is given where that table is assigned to
--   IsValueIn h v       a table that has an Id is live
--   IsIndexedIn h g     so is a table that is altered, and its index and its change fit it
--   IsGivenIn h g       the same, where it gets no index
--   FitsOwn v ch, FitsOutcome v o    a change of a table that has no name fits it
use Rattle.std.specs.Prelude.{◌≡◌, false, IfSome, Option, None, Some, option_map}
use Rattle.dt_query.specs.declared.answer.Outcome.{Outcome}
use Rattle.dt_query.specs.declared.answer.Outcome.TheVariants.{Assigned}
use Rattle.dt_base.specs.declared.warns.Warns.{Warns}
use Rattle.dt_table.specs.Change.{ChangeSeen, FitsTable, part_names}
use Rattle.dt_table.specs.Plain.{plain, plain_changed}
use Rattle.dt_table.specs.Table.{TableSeen}
use Rattle.dt_world.specs.Told.{FileMap}
use Rattle.session_model.specs.Meanings as gives
use Rattle.session_model.specs.Query.{altered, value_assigned}
use Rattle.session_model.specs.Value as model
use Rattle.session_model.specs.World.{look}
use Rattle.stmt_change.specs.Places.{table_at, without_columns}
use Rattle.table_heap.specs.Seen.{HeapSeen, IsAt}
use Rattle.table_heap.specs.State.{state_of}
use Rattle.stmt_change.specs.Altered.{plain_altered}
use Rattle.table_heap.specs.Altered.{FitsAltered}
use Rattle.stmt_change.specs.declared.change.Altered.{Altered}
use Rattle.table_heap.specs.declared.bound.Id.{Id}
use Rattle.stmt_value.specs.declared.given.Given.{Given}
use Rattle.stmt_value.specs.declared.given.Value.{Value}
use Rattle.stmt_value.specs.declared.given.Value.TheVariants.{Named, New, Cells, Kept, Null}
use Rattle.stmt_setting.specs.declared.setting.Setting.{Setting}

-- a table by its number or as a plain table, a column as its vector, or NULL
abbrev pub plain_value : Value → model.Value
plain_value (Named id) = model.Numbered id.number
plain_value (New t) = model.New (plain t)
plain_value (Cells column) = model.Cells column.vector
plain_value (Kept column) = model.Cells column.now.vector
plain_value Null = model.Null

abbrev pub plain_given : HeapSeen → Given → model.Given
plain_given h g = record {
  value = plain_value g.value;
  warns = g.warns;
  alters = option_map (plain_altered h) g.altered;
  shown = g.shown;
}

-- the files, the state and the options that a statement meets
abbrev pub scene : Option FileMap → Setting → model.Scene
scene held s = record { files = look held; state = state_of s.heap.now; options = s.options }

-- ---- The table before a bracket

-- the table of an Id, or a new one; what is no table has no columns
abbrev pub head_of : HeapSeen → Value → TableSeen
head_of h (Named id) = table_at h id
head_of h (New t) = t
head_of h _ = without_columns

-- what is given where that table is assigned to
abbrev pub assigned_given : HeapSeen → Value → ChangeSeen → Warns → model.Given
assigned_given h v parts warns = record {
  value = value_assigned (plain_value v) (plain_changed (head_of h v) parts);
  warns = warns;
  alters = altered (plain_value v)
      (gives.Assigned (part_names (head_of h v).names parts.parts) (plain_changed (head_of h v) parts));
  shown = false;
}

-- ---- What is so of values

-- a table that has an Id is live
abbrev pub IsValueIn : HeapSeen → Value → Type 0
IsValueIn h (Named id) = IsAt h id
IsValueIn h _ = Unit {0}

-- A table whose columns are changed is the value itself.
abbrev pub IsOwn : Value → Id → Option ChangeSeen → Type 0
IsOwn v id None = Unit {0}
IsOwn v id (Some ch) = v ≡ Named id

-- a table that is altered is live, and its index and its change fit it
abbrev pub IsAlteredIn : HeapSeen → Value → Option Altered → Type 0
IsAlteredIn h v None = Unit {0}
IsAlteredIn h v (Some a) = IsOwn v a.id a.parts × (IsAt h a.id × FitsAltered (table_at h a.id) a.index a.parts)

pub record IsIndexedIn (h : HeapSeen) (g : Given) : Type 0 where
  pub value : IsValueIn h g.value
  pub altered : IsAlteredIn h g.value g.altered

-- what is altered, if anything, gets no index
abbrev pub HasNoIndex : Option Altered → Type 0
HasNoIndex a = IfSome a (λ x. x.index ≡ None)

-- what an expression gives: no index is added yet
pub record IsGivenIn (h : HeapSeen) (g : Given) : Type 0 where
  pub value : IsValueIn h g.value
  pub altered : IsAlteredIn h g.value g.altered
  pub none : HasNoIndex g.altered

-- a change of a table that has no name fits it
abbrev pub FitsOwn : Value → ChangeSeen → Type 0
FitsOwn (New t) ch = FitsTable t ch
FitsOwn _ ch = Unit {0}

abbrev pub FitsOutcome : Value → Outcome → Type 0
FitsOutcome v (Assigned ch) = FitsOwn v ch
FitsOutcome v _ = Unit {0}
