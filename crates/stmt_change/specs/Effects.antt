-- What contracts see of an effect, over the heap that it was computed from.
--   no_change             nothing changes
--   names_change c, changes_table c, changes_options o    one thing changes
--   plain_renamed h id cols names    a table's number, and the plain table once columns have other names
--   plain_change h c      the change, with each table as a plain table or by its number
--   plain_effect h e      the effect, with its change so
--   FitsRename t cols names    these columns of the table can get these names
--   FitsIn h c            the tables that the change names are live, and it fits them
use Rattle.std.specs.Prelude.{◌≡◌, ℕ, List, length, Option, None, Some, option_map}
use Rattle.dt_model.specs.State.{Table as NumberedTable, Vector as BoundVector}
use Rattle.dt_model.specs.Table.{PlainTable}
use Rattle.dt_table.specs.Plain.{plain}
use Rattle.func_table.specs.declared.options.Options.{Options}
use Rattle.dt_table.specs.Table.{TableSeen, IsColumnList, IsNames, renamed}
use Rattle.session_model.specs.Effect as model
use Rattle.stmt_change.specs.declared.change.Change.{Change}
use Rattle.stmt_change.specs.declared.change.NameChange.{NameChange}
use Rattle.stmt_change.specs.declared.change.NameChange.TheVariants as name
use Rattle.stmt_change.specs.declared.change.TableChange.{TableChange}
use Rattle.stmt_change.specs.declared.change.TableChange.TheVariants as table
use Rattle.stmt_change.specs.declared.effect.Effect.{Effect}
use Rattle.stmt_change.specs.declared.effect.Written.{Written}
use Rattle.stmt_change.specs.Altered.{FitsKey, keyed_by, without_indices, without_key}
use Rattle.stmt_change.specs.Places.{table_at}
use Rattle.table_heap.specs.declared.bound.Id.{Id}
use Rattle.table_heap.specs.Altered.{FitsAltered, table_altered}
use Rattle.table_heap.specs.Seen.{HeapSeen, IsAt}

-- nothing changes but a name
abbrev pub names_change : NameChange → Change
names_change c = record { table = table.Nothing; name = c; options = None }

abbrev pub changes_table : TableChange → Change
changes_table c = record { table = c; name = name.Nothing; options = None }

abbrev pub changes_options : Options → Change
changes_options o = record { table = table.Nothing; name = name.Nothing; options = Some o }

abbrev pub no_change : Change
no_change = names_change name.Nothing

-- ---- The change, plainly

abbrev pub with_names : List ℕ → List (List ℕ) → TableSeen → TableSeen
with_names cols names t = record t { names = renamed cols names t.names }

abbrev pub plain_renamed : HeapSeen → Id → List ℕ → List (List ℕ) → ℕ × PlainTable
plain_renamed h id cols names = (id.number, plain (with_names cols names (table_at h id)))

abbrev pub plain_table : HeapSeen → TableChange → Option (ℕ × PlainTable)
plain_table h table.Nothing = None
plain_table h (table.Altered a) = Some (a.id.number, table_altered (table_at h a.id) a.index a.parts)
plain_table h (table.Rename id cols names) = Some (plain_renamed h id cols.items names.items)
plain_table h (table.Reordered id t) = Some (id.number, plain t)
plain_table h (table.Keyed id key) = Some (id.number, plain (keyed_by key.items (table_at h id)))
plain_table h (table.Unkeyed id) = Some (id.number, plain (without_key (table_at h id)))
plain_table h (table.Unindexed id) = Some (id.number, plain (without_indices (table_at h id)))

abbrev pub plain_name : NameChange → model.NameChange
plain_name name.Nothing = model.Nothing
plain_name (name.BindNew name t) = model.BindNew name (plain t)
plain_name (name.BindVector name column) = model.Bind name (BoundVector column.vector)
plain_name (name.Alias name id) = model.Bind name (NumberedTable id.number)
plain_name (name.Remove name) = model.Remove name

abbrev pub plain_change : HeapSeen → Change → model.Change
plain_change h c = record { table = plain_table h c.table; name = plain_name c.name; options = c.options }

-- a file's name and bytes
abbrev pub plain_file : Written → List ℕ × List ℕ
plain_file w = (w.name, w.bytes.items)

abbrev pub plain_effect : HeapSeen → Effect → model.Effect
plain_effect h e = record {
  text = e.text.items;
  file = option_map plain_file e.file;
  warns = e.warns;
  change = plain_change h e.change;
}

-- ---- That the change can be made

-- the columns are distinct and in range; there are as many names, and all names are distinct then and
-- none is empty
pub record FitsRename (t : TableSeen) (cols : List ℕ) (names : List (List ℕ)) : Type 0 where
  pub columns : IsColumnList (length t.names) cols
  pub each : length cols ≡ length names
  pub all : IsNames (renamed cols names t.names)

-- the table is live, and the change fits it
abbrev pub FitsTableIn : HeapSeen → TableChange → Type 0
FitsTableIn h table.Nothing = Unit {0}
FitsTableIn h (table.Altered a) = IsAt h a.id × FitsAltered (table_at h a.id) a.index a.parts
FitsTableIn h (table.Rename id cols names) = IsAt h id × FitsRename (table_at h id) cols.items names.items
FitsTableIn h (table.Reordered id t) = IsAt h id
FitsTableIn h (table.Keyed id key) = IsAt h id × FitsKey (table_at h id) key.items
FitsTableIn h (table.Unkeyed id) = IsAt h id
FitsTableIn h (table.Unindexed id) = IsAt h id

-- a table that gets one more name is live
abbrev pub FitsNameIn : HeapSeen → NameChange → Type 0
FitsNameIn h (name.Alias name id) = IsAt h id
FitsNameIn h _ = Unit {0}

pub record FitsIn (h : HeapSeen) (c : Change) : Type 0 where
  pub table : FitsTableIn h c.table
  pub name : FitsNameIn h c.name
