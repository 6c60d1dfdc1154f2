-- What contracts see of the rows that an i finds, and of what an expression meets over them.
--   found_of t f      the rows of the table t, as the definitions speak of them
--   is_chosen f       whether there is an i
--   AreRows t ps      the places are rows of the table, within the limit; where it has no columns there
--                     are none
--   AreFound t f      the places that i chose are rows of the table
--   StandAsBefore ps  the places are rows in the order of the table, each once, and no row of NA
--   KeepsOrder f      a logical i lets its rows stand as they stood
--   met_frame t s     the columns that an expression meets: the table's own, or those that are gathered
--   met_places f s    where their rows stand
--   IsAround t f s    these are the rows that were found
use Rattle.std.specs.Prelude.{◌≡◌, ◌≤◌, ℕ, List, [], Bool, true, All, IfSome, Option, None, Some, length, is_some, map}
use Rattle.std.specs.Global.{Vec}
use Rattle.std.specs.List.Sorted.{IsStrictlyIncreasing}
use Rattle.dt_base.specs.declared.limits.TheConstants.{MAX_ROWS}
use Rattle.dt_base.specs.declared.warns.Warns.{Warns}
use Rattle.dt_model.specs.Table.{PlainTable}
use Rattle.dt_model.specs.Vector.{IsWithin}
use Rattle.dt_table.specs.Plain.{plain}
use Rattle.dt_table.specs.Table.{TableSeen}
use Rattle.bracket_rows.specs.declared.around.Surroundings.{Surroundings}
use Rattle.bracket_rows.specs.declared.found.Found.{Found}
use Rattle.expr_model.specs.Surroundings.{columns_in}
use Rattle.na_vector.specs.Frame.{FrameSeen, rows_with, vectors_of}
use Rattle.row_model.specs.Rows.{Places, all_rows}
use Rattle.session_model.specs.Found as model

-- without i all rows of the table
abbrev pub found_by : PlainTable → Option Places → Bool → Bool → Warns → model.Found
found_by t None past logical warns = record {
  columns = columns_in t;
  places = all_rows (length t.rows);
  past = past;
  logical = logical;
  warns = warns;
}
found_by t (Some places) past logical warns = model.found_at t places past logical warns

abbrev pub places_in : Option (Vec (Option ℕ)) → Option Places
places_in None = None
places_in (Some v) = Some v.items

-- the rows as the definitions speak of them
abbrev pub found_of : TableSeen → Found → model.Found
found_of t f = found_by (plain t) (places_in f.positions) f.past f.logical f.warns

-- whether there is an i
abbrev pub is_chosen : Found → Bool
is_chosen f = is_some f.positions

-- rows of the table, or rows of NA; without columns there are none
pub record AreRows (t : TableSeen) (places : Places) : Type 0 where
  pub within : All (IsWithin t.frame.rows) places
  pub short : length places ≤ MAX_ROWS
  pub none : rows_with (length t.frame.columns) (length places) ≡ length places

-- the places that i chose are rows of the table
abbrev pub AreFound : TableSeen → Found → Type 0
AreFound t f = IfSome f.positions (λ v. AreRows t v.items)

-- rows in the order of the table, each once; none is a row of NA
pub record StandAsBefore (places : Places) : Type 0 where
  pub rows : List ℕ
  pub same : places ≡ map Some rows
  pub rise : IsStrictlyIncreasing rows

-- a logical i lets its rows stand as they stood
abbrev pub KeepsOrder : Found → Type 0
KeepsOrder f = f.logical ≡ true → IfSome f.positions (λ v. StandAsBefore v.items)

-- ---- What an expression meets

abbrev pub frame_or : FrameSeen → Option FrameSeen → FrameSeen
frame_or own None = own
frame_or own (Some f) = f

abbrev pub places_or : Places → Option Places → Places
places_or all None = all
places_or all (Some places) = places

-- the table's own columns, or those that are gathered
abbrev pub met_frame : TableSeen → Surroundings → FrameSeen
met_frame t s = frame_or t.frame s.frame

-- where their rows stand
abbrev pub met_places : Found → Surroundings → Places
met_places f s = places_or s.all.items (places_in f.positions)

-- these are the columns and the places of the rows that were found, a place for each row
pub record IsAround (t : TableSeen) (f : Found) (s : Surroundings) : Type 0 where
  pub vectors : vectors_of (met_frame t s).columns ≡ (found_of t f).columns.vectors
  pub places : met_places f s ≡ (found_of t f).places
  pub count : length (met_places f s) ≡ (met_frame t s).rows
  pub none : s.none.columns ≡ []
