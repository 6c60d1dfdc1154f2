-- What the commands `set` and `setnames` do.
--   rows_named n v         the rows of n that a vector of places names
--   names_named names v    the columns that a vector of names, or of places, names
--   set_effect args s      what `set` does in a state
--   renamed_table ..       a table some of whose columns have new names, in its key and indices too
--   set_names_effect args s    what `setnames` does in a state
-- The table comes first; then the types of all further arguments, in order; then all values; then what the
-- values are.
use Rattle.std.specs.Prelude.{ℕ, ◌-◌, ◌==◌, pos, nat_le, not, Bool, true, false, ◌&&◌, ◌||◌, List, [], ◌∷◌, length}
use Rattle.std.specs.Prelude.{map, Option, None, Some, Result, Ok, Err, is_none, if◌then◌else◌}
use Rattle.std.specs.List.{list_any, range_with_len}
use Rattle.std.specs.Str.{bytes_eq}
use Rattle.dt_base.specs.declared.cell.Cell.{Cell}
use Rattle.dt_base.specs.declared.cell.Cell.TheVariants as is
use Rattle.dt_base.specs.declared.cell.ColType.{ColType}
use Rattle.dt_base.specs.declared.cell.ColType.TheVariants as ty
use Rattle.dt_base.specs.declared.fault.Fault.{Fault}
use Rattle.dt_base.specs.declared.fault.Code.TheVariants.{E03, E12, E19}
use Rattle.dt_base.specs.Fault.{fault}
use Rattle.dt_base.specs.declared.warns.Warns.{Warns}
use Rattle.dt_base.specs.Warns.{both_warns}
use Rattle.dt_model.specs.State.{State}
use Rattle.dt_model.specs.Table.{ColumnHead, PlainTable, first_repeated, is_repeated, name_at, place_of as first_place}
use Rattle.dt_model.specs.Vector.{Vector}
use Rattle.func_table.specs.declared.formal.Formal.{Formal}
use Rattle.func_table.specs.declared.formal.Formal.TheVariants as formal
use Rattle.func_table.specs.Calls.{name_of}
use Rattle.vector_model.specs.Faults.{length_fault}
use Rattle.vector_model.specs.Functions.{Valued}
use Rattle.vector_model.specs.Then.{then_do}
use Rattle.assign_model.specs.Assign.{Assigned, names_in as columns_of}
use Rattle.assign_model.specs.Targets.{Rows}
use Rattle.expr_model.specs.Surroundings.{Env, outside}
use Rattle.session_model.specs.Assigned.{RightSide, RightValues, assigned_by, check_right, is_null, right_side}
use Rattle.session_model.specs.Assigned.{right_warns}
use Rattle.session_model.specs.Assigned.{value_right}
use Rattle.session_model.specs.Effect.{Effect, changes_with}
use Rattle.session_model.specs.Expression.{each}
use Rattle.session_model.specs.Found.{vars_of}
use Rattle.session_model.specs.Meanings.{ArgMeaning, Meaning}
use Rattle.session_model.specs.NamedTable.{argument_for, needed, table_change, table_named}

-- ---- Types of arguments

-- the type of an argument is one of those that are wanted
abbrev pub of_type : Formal → (ColType → Bool) → Env → Meaning → Result (Unit {0}) Fault
of_type p wanted s m = then_do (m.check s) (λ kind. if wanted kind then Ok tt else Err (fault E19 (name_of p)))

abbrev pub is_int : ColType → Bool
is_int ty.Int = true
is_int _ = false

abbrev pub is_chr : ColType → Bool
is_chr ty.Chr = true
is_chr _ = false

abbrev pub is_place_or_name : ColType → Bool
is_place_or_name kind = is_int kind || is_chr kind

-- ---- Rows and columns by their places

-- a place from 1 to n, counted from 0
abbrev pub place_below : ℕ → Cell → Option ℕ
place_below n (is.Int (pos k)) = if not (k == 0) && nat_le k n then Some (k - 1) else None
place_below n _ = None

abbrev pub wanted_place : Formal → Option ℕ → Result ℕ Fault
wanted_place p None = Err (fault E19 (name_of p))
wanted_place p (Some k) = Ok k

-- each cell is a place of a row
abbrev pub rows_named : ℕ → Vector → Result (List ℕ) Fault
rows_named n v = each (λ cell. wanted_place formal.I (place_below n cell)) v.cells

-- a text is a name, a whole number a column's place
abbrev pub name_by_cell : List (List ℕ) → Cell → Result (List ℕ) Fault
name_by_cell names (is.Text name) = Ok name
name_by_cell names cell =
    then_do (wanted_place formal.J (place_below (length names) cell)) (λ c. Ok (name_at names c))

abbrev pub names_named : List (List ℕ) → Vector → Result (List (List ℕ)) Fault
names_named names v = each (name_by_cell names) v.cells

-- ---- `set(D, i, j, value)`

-- without i, or where it is the word NULL, all rows
abbrev pub row_side : Option ArgMeaning → Option Meaning
row_side None = None
row_side (Some a) = if is_null a.means.form then None else Some a.means

abbrev pub check_rows : Env → Option Meaning → Result (Unit {0}) Fault
check_rows s None = Ok tt
check_rows s (Some m) = of_type formal.I is_int s m

abbrev pub value_rows : Env → Option Meaning → Result (Option Valued) Fault
value_rows s None = Ok None
value_rows s (Some m) = then_do (m.value s) (λ v. Ok (Some v))

abbrev pub rows_wanted : ℕ → Option Valued → Result Rows Fault
rows_wanted n None = Ok None
rows_wanted n (Some v) = then_do (rows_named n v.vector) (λ rows. Ok (Some rows))

abbrev pub rows_warns : Option Valued → Warns → Warns
rows_warns None warns = warns
rows_warns (Some v) warns = both_warns v.warns warns

-- what is set, for the rows and columns that are named
abbrev pub set_table : PlainTable → Option Valued → Vector → RightValues → Result Assigned Fault
set_table t rows columns v =
    then_do (rows_wanted (length t.rows) rows) (λ chosen.
    then_do (names_named (columns_of t) columns) (λ names. assigned_by t chosen names v))

-- the table of this number becomes the one that is set
abbrev pub sets : ℕ → Warns → Assigned → Result Effect Fault
sets n warns a = Ok (changes_with (table_change n a.table) (both_warns warns a.warns))

-- what is set, once all is valued
abbrev pub set_values : ℕ × PlainTable → Option Valued → Valued → RightValues → Result Effect Fault
set_values x rows columns v =
    then_do (set_table x.1 rows columns.vector v)
    (sets x.0 (rows_warns rows (both_warns columns.warns (right_warns v))))

-- the types of all; an empty list on the right is at fault before its types
abbrev pub set_checked : Env → Option Meaning → Meaning → Meaning → Result RightSide Fault
set_checked s i j value =
    then_do (check_rows s i) (λ _.
    then_do (of_type formal.J is_place_or_name s j) (λ _.
    then_do (right_side value) (λ side.
    then_do (check_right side s) (λ _. Ok side))))

-- the values of all
abbrev pub set_valued : Env → ℕ × PlainTable → Option Meaning → Meaning → RightSide → Result Effect Fault
set_valued s x i j side =
    then_do (value_rows s i) (λ rows.
    then_do (j.value s) (λ columns.
    then_do (value_right side s) (set_values x rows columns)))

abbrev pub set_sides : Env → ℕ × PlainTable → Option Meaning → Meaning → Meaning → Result Effect Fault
set_sides s x i j value = then_do (set_checked s i j value) (set_valued s x i j)

abbrev pub set_effect : List ArgMeaning → State → Result Effect Fault
set_effect args s =
    then_do (table_named args s) (λ x.
    then_do (needed (argument_for args (formal.D ∷ formal.I ∷ []) formal.J)) (λ j.
    then_do (needed (argument_for args (formal.D ∷ formal.I ∷ formal.J ∷ []) formal.NewValue)) (λ value.
    set_sides (outside (vars_of s)) x (row_side (argument_for args (formal.D ∷ []) formal.I)) j value)))

-- ---- `setnames(D, old, new)`

-- texts without NA
abbrev pub text_cell : Formal → Cell → Result (List ℕ) Fault
text_cell p (is.Text name) = Ok name
text_cell p _ = Err (fault E19 (name_of p))

abbrev pub text_cells : Formal → Vector → Result (List (List ℕ)) Fault
text_cells p v = each (text_cell p) v.cells

-- as many new names as old ones
abbrev pub same_length : List (List ℕ) → List (List ℕ) → Result (Unit {0}) Fault
same_length old new =
    if length new == length old then Ok tt else Err (length_fault (length new) (length old))

-- each old name is a column's, and none stands twice
abbrev pub old_name : List (List ℕ) → List (List ℕ) → ℕ → Result (Unit {0}) Fault
old_name names old k =
    if is_repeated old k then Err (fault E12 (name_at old k))
    else (if is_none (first_place (name_at old k) names) then Err (fault E03 (name_at old k)) else Ok tt)

abbrev pub old_names : List (List ℕ) → List (List ℕ) → Result (List (Unit {0})) Fault
old_names names old = each (old_name names old) (range_with_len 0 (length old))

-- no new name is empty
abbrev pub new_names : List (List ℕ) → Result (Unit {0}) Fault
new_names new = if list_any (bytes_eq []) new then Err (fault E19 (name_of formal.New)) else Ok tt

-- the name that a column gets in place of its own
abbrev pub name_for : Option ℕ → List (List ℕ) → List ℕ → List ℕ
name_for None new name = name
name_for (Some k) new name = name_at new k

abbrev pub new_name_of : List (List ℕ) → List (List ℕ) → List ℕ → List ℕ
new_name_of old new name = name_for (first_place name old) new name

-- the columns, the key and the indices have the new names
abbrev pub renamed_head : List (List ℕ) → List (List ℕ) → ColumnHead → ColumnHead
renamed_head old new h = record { name = new_name_of old new h.name; kind = h.kind }

abbrev pub renamed_table : List (List ℕ) → List (List ℕ) → PlainTable → PlainTable
renamed_table old new t = record t {
  columns = map (renamed_head old new) t.columns;
  key = map (new_name_of old new) t.key;
  indices = map (map (new_name_of old new)) t.indices;
}

-- the first name that would stand twice is at fault
abbrev pub distinct_names : Option ℕ → List (List ℕ) → Result (Unit {0}) Fault
distinct_names None names = Ok tt
distinct_names (Some k) names = Err (fault E12 (name_at names k))

abbrev pub renamed_columns : List (List ℕ) → List (List ℕ) → List (List ℕ) → List (List ℕ)
renamed_columns old new names = map (new_name_of old new) names

abbrev pub renames : ℕ × PlainTable → List (List ℕ) → List (List ℕ) → Result PlainTable Fault
renames x old new =
    then_do (same_length old new) (λ _.
    then_do (old_names (columns_of x.1) old) (λ _.
    then_do (new_names new) (λ _.
    then_do (distinct_names (first_repeated (renamed_columns old new (columns_of x.1)))
    (renamed_columns old new (columns_of x.1))) (λ _.
    Ok (renamed_table old new x.1)))))

-- what is new_name_of, once all is valued
abbrev pub set_names_values : ℕ × PlainTable → Valued → Valued → Result Effect Fault
set_names_values x old new =
    then_do (text_cells formal.Old old.vector) (λ olds.
    then_do (text_cells formal.New new.vector) (λ news.
    then_do (renames x olds news) (λ t.
    Ok (changes_with (table_change x.0 t) (both_warns old.warns new.warns)))))

abbrev pub set_names_sides : Env → ℕ × PlainTable → Meaning → Meaning → Result Effect Fault
set_names_sides s x old new =
    then_do (of_type formal.Old is_chr s old) (λ _.
    then_do (of_type formal.New is_chr s new) (λ _.
    then_do (old.value s) (λ a.
    then_do (new.value s) (set_names_values x a))))

abbrev pub set_names_effect : List ArgMeaning → State → Result Effect Fault
set_names_effect args s =
    then_do (table_named args s) (λ x.
    then_do (needed (argument_for args (formal.D ∷ []) formal.Old)) (λ old.
    then_do (needed (argument_for args (formal.D ∷ formal.Old ∷ []) formal.New)) (λ new.
    set_names_sides (outside (vars_of s)) x old new)))
