-- Tables that lists of expressions give, as columns side by side.
--   item_name s p a      the name of the column that the item a gives at place p, counted from 1
--   list_table names vs  the table of these vectors, each brought to the length of the longest
--   columns_answer args s    what `.( )` gives of its items
--   arguments_answer args s  what `data.table` gives of its arguments
--   list_answer w args s     the same of one item or more; of none it is a fault with the word w
--   text_columns names s     what the names of columns give: these columns
--   vector_answer check value s    what any other expression gives: a vector
use Rattle.std.specs.Prelude.{ℕ, ◌+◌, Bool, List, [], ◌∷◌, map, Option, None, Some, Result, Ok, Err, codes, decimal}
use Rattle.std.specs.Prelude.{is_some, ◌||◌, if◌then◌else◌}
use Rattle.dt_base.specs.declared.cell.ColType.{ColType}
use Rattle.dt_base.specs.declared.fault.Fault.{Fault}
use Rattle.dt_base.specs.declared.fault.Code.TheVariants.{E03, E19}
use Rattle.dt_base.specs.Fault.{fault}
use Rattle.dt_base.specs.declared.warns.Warns.{Warns}
use Rattle.dt_base.specs.Warns.{no_warns}
use Rattle.dt_model.specs.Table.{PlainTable}
use Rattle.dt_model.specs.Vector.{Vector}
use Rattle.func_table.specs.declared.special.Special.{Special}
use Rattle.func_table.specs.declared.special.Special.TheVariants as special
use Rattle.func_table.specs.Special.{special_of}
use Rattle.vector_model.specs.Functions.{Valued}
use Rattle.vector_model.specs.Then.{then_do}
use Rattle.row_model.specs.Lengths.{common_length, repeated}
use Rattle.expr_model.specs.Surroundings.{Env, column_named}
use Rattle.session_model.specs.Expression.{all_warns, checked_value, each, each_argument, vector_in, warns_in}
use Rattle.session_model.specs.Form.{Form, BareName}
use Rattle.session_model.specs.Meanings.{Meaning, ArgMeaning, Answer, Outcome}
use Rattle.session_model.specs.Meanings as gives
use Rattle.session_model.specs.Value.{new_table}

-- ---- Names of columns

-- V and the place
abbrev pub numbered_name : ℕ → List ℕ
numbered_name p = 86 ∷ decimal p

-- some column has the name
abbrev pub is_column : Env → List ℕ → Bool
is_column s name = is_some (column_named name s.single) || is_some (column_named name s.rows)

-- `.N` is `N`; a column that stands bare keeps its name; anything else has its number
abbrev pub special_name : Env → ℕ → List ℕ → Option Special → List ℕ
special_name s p name (Some special.Count) = codes "N"
special_name s p name (Some _) = numbered_name p
special_name s p name None = if is_column s name then name else numbered_name p

-- no script writes an empty name, and it names no column
abbrev pub form_name : Env → ℕ → Form → List ℕ
form_name s p (BareName (byte ∷ rest)) = special_name s p (byte ∷ rest) (special_of (byte ∷ rest))
form_name s p _ = numbered_name p

-- outside brackets a bare name is no column
abbrev pub unwritten_name : Env → ℕ → Form → List ℕ
unwritten_name s p form = if s.inside then form_name s p form else numbered_name p

-- A column has the name that is written. No script writes an empty name; in a tree it counts as none.
abbrev pub column_name : Env → ℕ → Option (List ℕ) → Form → List ℕ
column_name s p (Some (byte ∷ rest)) form = byte ∷ rest
column_name s p _ form = unwritten_name s p form

abbrev pub item_name : Env → ℕ → ArgMeaning → List ℕ
item_name s p a = column_name s p a.name a.means.form

-- the names of columns, of which the first stands at place p
abbrev pub item_names : Env → ℕ → List ArgMeaning → List (List ℕ)
item_names s p [] = []
item_names s p (a ∷ rest) = item_name s p a ∷ item_names s (p + 1) rest

-- ---- Lists

-- lengths first; then the first name that stands twice, and the limits
abbrev pub list_table : List (List ℕ) → List Vector → Result PlainTable Fault
list_table names vs = then_do (common_length vs) (λ n. new_table names n (map (repeated n) vs))

abbrev pub gives_columns : Warns → PlainTable → Result Answer Fault
gives_columns warns t = Ok (record { outcome = gives.Table t; warns = warns })

-- the table of the values, with their warnings
abbrev pub values_answer : List (List ℕ) → List Valued → Result Answer Fault
values_answer names vs = then_do (list_table names (map vector_in vs)) (gives_columns (all_warns (map warns_in vs)))

-- all types first, then all values, then the table
abbrev pub columns_answer : List ArgMeaning → Env → Result Answer Fault
columns_answer args s =
    then_do (each_argument (λ m. m.check s) args) (λ _.
    then_do (each_argument (λ m. m.value s) args) (values_answer (item_names s 1 args)))

-- the arguments of a table function: each one's type and value, before the next is looked at
abbrev pub arguments_answer : List ArgMeaning → Env → Result Answer Fault
arguments_answer args s =
    then_do (each_argument (λ m. checked_value m s) args) (values_answer (item_names s 1 args))

abbrev pub list_answer : List ℕ → List ArgMeaning → Env → Result Answer Fault
list_answer word [] s = Err (fault E19 word)
list_answer word (a ∷ rest) s = columns_answer (a ∷ rest) s

-- ---- Columns by their names

abbrev pub known_column : List ℕ → Option Vector → Result Vector Fault
known_column name None = Err (fault E03 name)
known_column name (Some v) = Ok v

-- the columns of these names, or the first that is unknown
abbrev pub known_columns : Env → List (List ℕ) → Result (List Vector) Fault
known_columns s names = each (λ name. known_column name (column_named name s.rows)) names

abbrev pub text_columns : List (List ℕ) → Env → Result Answer Fault
text_columns names s =
    then_do (known_columns s names) (λ vs. then_do (new_table names s.count vs) (gives_columns no_warns))

-- ---- Vectors

abbrev pub gives_vector : Valued → Result Answer Fault
gives_vector v = Ok (record { outcome = gives.Vector v.vector; warns = v.warns })

-- the type first, then the value
abbrev pub vector_answer : (Env → Result ColType Fault) → (Env → Result Valued Fault) → Env → Result Answer Fault
vector_answer check value s = then_do (check s) (λ _. then_do (value s) gives_vector)
