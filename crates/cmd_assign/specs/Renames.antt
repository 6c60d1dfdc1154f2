-- The steps of `setnames`, over a table as contracts see it.
--   places_of names old      the first place of each old name, or none
--   steps_done places        that so many steps were done
--   is_at o k                whether o is this place
--   old_name_by ..           an old name, where it is known whether it stands before
--   distinct names           nothing, or the first name that stands twice
--   checked_in t old new     the old names, once all is checked but the names that there are then
--   renames_in t old new     the table with the new names, or the first fault
--   rename_effect_of ..      the effect that columns get new names
--   renamed_answer ..        that effect on the table of an Id, or the first fault
--   IsNamed names old new cols    distinct old names stand at these places, and new names go with them
use Rattle.std.specs.Prelude.{◌≡◌, ℕ, ◌==◌, Bool, All, false, List, Option, None, Some, Result, Ok, Err}
use Rattle.std.specs.Prelude.{if◌then◌else◌, is_none, length, map}
use Rattle.std.specs.List.{IsDistinct}
use Rattle.std.specs.Str.{bytes_eq}
use Rattle.dt_base.specs.Fault.{fault}
use Rattle.dt_base.specs.declared.fault.Code.TheVariants.{E03, E12}
use Rattle.dt_base.specs.declared.fault.Fault.{Fault}
use Rattle.dt_base.specs.declared.warns.Warns.{Warns}
use Rattle.dt_model.specs.Table.{PlainTable, first_repeated, place_of}
use Rattle.dt_table.specs.Plain.{plain}
use Rattle.dt_table.specs.Table.{IsFilled, TableSeen}
use Rattle.session_model.specs.Effect as model
use Rattle.session_model.specs.Set.{distinct_names, new_names, old_names, renamed_columns, renamed_table, renames}
use Rattle.session_model.specs.Set.{same_length}
use Rattle.stmt_change.specs.Effects.{with_names}
use Rattle.session_model.specs.NamedTable.{table_change}
use Rattle.stmt_change.specs.Places.{table_at}
use Rattle.table_heap.specs.declared.bound.Id.{Id}
use Rattle.table_heap.specs.Seen.{HeapSeen}
use Rattle.vector_model.specs.Then.{then_do}

-- the first place of each old name
abbrev pub places_of : List (List ℕ) → List (List ℕ) → List (Option ℕ)
places_of names old = map (λ name. place_of name names) old

-- that so many steps were done
abbrev pub steps_done : List ℕ → List (Unit {0})
steps_done places = map (λ _. tt) places

-- whether a place, where there is one, is this
abbrev pub is_at : Option ℕ → ℕ → Bool
is_at None k = false
is_at (Some r) k = r == k

-- an old name that stands before, or that is no column's
abbrev pub old_name_by : List (List ℕ) → List ℕ → Bool → Result (Unit {0}) Fault
old_name_by names name is_repeated =
    if is_repeated then Err (fault E12 name)
    else (if is_none (place_of name names) then Err (fault E03 name) else Ok tt)

-- no name stands twice
abbrev pub distinct : List (List ℕ) → Result (Unit {0}) Fault
distinct names = distinct_names (first_repeated names) names

-- as many names, then the old ones, then the new ones
abbrev pub checked_in : TableSeen → List (List ℕ) → List (List ℕ) → Result (List (Unit {0})) Fault
checked_in t old new =
    then_do (same_length old new) (λ _.
    then_do (old_names t.names old) (λ done. then_do (new_names new) (λ _. Ok done)))

-- and then the names that there are
abbrev pub renames_in : TableSeen → List (List ℕ) → List (List ℕ) → Result PlainTable Fault
renames_in t old new =
    then_do (checked_in t old new) (λ _.
    then_do (distinct (renamed_columns old new t.names)) (λ _. Ok (renamed_table old new (plain t))))

-- columns of the Id's table get these names, with these warnings
abbrev pub rename_effect_of : HeapSeen → Id → List ℕ → List (List ℕ) → Warns → model.Effect
rename_effect_of h id cols names warns =
    model.changes_with (table_change id.number (plain (with_names cols names (table_at h id)))) warns

-- the same of the table of an Id, or the first fault
abbrev pub renamed_answer : ℕ × PlainTable → List (List ℕ) → List (List ℕ) → Warns → Result model.Effect Fault
renamed_answer x old new warns = then_do (renames x old new) (λ t. Ok (model.changes_with (table_change x.0 t) warns))

-- each old name stands at its place, none twice; there are as many new names, and none is empty
pub record IsNamed (names old new : List (List ℕ)) (cols : List ℕ) : Type 0 where
  pub places : places_of names old ≡ map Some cols
  pub distinct : IsDistinct bytes_eq old
  pub filled : All IsFilled new
  pub each : length cols ≡ length new
