-- What an assignment in a bracket gives.
--   left_names m         the names on its left side, or the fault of its form
--   RightSide            its right side: one value for all, one for each name, or the word NULL
--   right_side m         the right side that an expression is, or its fault
--   call_names, call_side    both sides of the call of `:=`
--   RightValues          what the right side gives
--   right_values r s     all of its types first, then all of its values
--   targets_of names v   a value for each name, or the fault that their numbers differ
--   told_fault ..        how the fault of a target is told
--   assigned_by ..       the assigned table with the warnings, or the first fault
--   assigned_answer ..   an assignment over the rows that a bracket's i finds
-- The form of the left side comes first; then the types and the values of the right side, over the old
-- table; then a row that is named and not there; then an empty name; then the number of values; then the
-- targets, in order.
use Rattle.std.specs.Prelude.{ℕ, ◌==◌, Bool, true, false, List, [], ◌∷◌, length, map, Option, None, Some, Result, Ok}
use Rattle.std.specs.Prelude.{Err, codes, if◌then◌else◌}
use Rattle.std.specs.List.{list_any}
use Rattle.std.specs.Str.{bytes_eq}
use Rattle.dt_base.specs.declared.cell.ColType.{ColType}
use Rattle.dt_base.specs.declared.fault.Fault.{Fault}
use Rattle.dt_base.specs.declared.fault.Code.TheVariants.{E03, E08, E09, E12, E19}
use Rattle.dt_base.specs.Fault.{fault}
use Rattle.dt_base.specs.declared.warns.Warns.{Warns}
use Rattle.dt_base.specs.Warns.{no_warns, both_warns}
use Rattle.dt_model.specs.Table.{PlainTable, name_at}
use Rattle.dt_model.specs.Vector.{Vector}
use Rattle.func_table.specs.Calls.{is_list}
use Rattle.vector_model.specs.Faults.{length_fault, number_fault}
use Rattle.vector_model.specs.Functions.{Valued}
use Rattle.vector_model.specs.Then.{then_do}
use Rattle.row_model.specs.Rows.{Places}
use Rattle.expr_model.specs.Surroundings.{Env, Vars}
use Rattle.assign_model.specs.Targets.{Rows, Target, AssignFault, Duplicate, Unknown, Delete, Length, Slots, Cells}
use Rattle.assign_model.specs.Assign.{Assigned, assigned}
use Rattle.session_model.specs.Asked.{bad, listed}
use Rattle.session_model.specs.Binding.{word_in}
use Rattle.session_model.specs.Expression.{all_warns, each}
use Rattle.session_model.specs.Form.{Form, NullWord, name_in, text_in}
use Rattle.session_model.specs.Found.{Found, rows_env}
use Rattle.session_model.specs.Items.{bare_item, item_of}
use Rattle.session_model.specs.Meanings.{Answer, Meaning, ArgMeaning}
use Rattle.session_model.specs.Meanings as gives
use Rattle.session_model.specs.Written.{Item, Listing}

-- ---- The left side: a bare name, a text, or texts in `c`

abbrev pub unnamed_text : Option (List ℕ) → Option (List ℕ) → Option (List ℕ)
unnamed_text None text = text
unnamed_text (Some name) text = None

abbrev pub left_text : Item → Option (List ℕ)
left_text i = unnamed_text i.name (text_in i.form)

abbrev pub left_call : List ℕ → List Item → Result (List (List ℕ)) Fault
left_call word items = if bytes_eq word (codes "c") then listed (codes "j") left_text items else bad (codes "j")

abbrev pub left_listing : Option Listing → Result (List (List ℕ)) Fault
left_listing None = bad (codes "j")
left_listing (Some l) = left_call l.word l.items

abbrev pub left_form : Option (List ℕ) → Option (List ℕ) → Option Listing → Result (List (List ℕ)) Fault
left_form (Some name) text l = Ok (name ∷ [])
left_form None (Some text) l = Ok (text ∷ [])
left_form None None l = left_listing l

abbrev pub left_names : Meaning → Result (List (List ℕ)) Fault
left_names m = left_form (name_in m.form) (text_in m.form) m.listing

-- ---- The right side

-- one value for all names; for each name a value, or none for the word NULL; or that word alone
pub data RightSide : Type 0 where
  ForAll : Item → RightSide
  ForEach : List (Option Item) → RightSide
  Deletes : RightSide

abbrev pub is_null : Form → Bool
is_null NullWord = true
is_null _ = false

-- the word NULL is no value
abbrev pub valued_item : Item → Option Item
valued_item i = if is_null i.form then None else Some i

-- a list has one item or more
abbrev pub list_side : List ℕ → List Item → Result RightSide Fault
list_side word [] = Err (fault E19 word)
list_side word (i ∷ rest) = Ok (ForEach (map valued_item (i ∷ rest)))

abbrev pub listing_side : Option Listing → Item → Result RightSide Fault
listing_side None i = Ok (ForAll i)
listing_side (Some l) i = if is_list l.word then list_side l.word l.items else Ok (ForAll i)

abbrev pub right_side : Meaning → Result RightSide Fault
right_side m = if is_null m.form then Ok Deletes else listing_side m.listing (bare_item m)

-- in the call of `:=` each argument has a column's name
abbrev pub call_names : List ArgMeaning → List (List ℕ)
call_names args = map (λ a. word_in a.name) args

abbrev pub call_side : List ArgMeaning → RightSide
call_side args = ForEach (map valued_item (map item_of args))

-- ---- The values of the right side

pub data RightValues : Type 0 where
  OneForAll : Valued → RightValues
  OneForEach : List (Option Valued) → RightValues
  NoValue : RightValues

-- the type of an item; the word NULL has none
abbrev pub check_item : Env → Option Item → Result (Option ColType) Fault
check_item s None = Ok None
check_item s (Some i) = then_do (i.check s) (λ kind. Ok (Some kind))

abbrev pub value_item : Env → Option Item → Result (Option Valued) Fault
value_item s None = Ok None
value_item s (Some i) = then_do (i.value s) (λ v. Ok (Some v))

abbrev pub check_right : RightSide → Env → Result (Unit {0}) Fault
check_right (ForAll i) s = then_do (i.check s) (λ _. Ok tt)
check_right (ForEach items) s = then_do (each (check_item s) items) (λ _. Ok tt)
check_right Deletes s = Ok tt

abbrev pub value_right : RightSide → Env → Result RightValues Fault
value_right (ForAll i) s = then_do (i.value s) (λ v. Ok (OneForAll v))
value_right (ForEach items) s = then_do (each (value_item s) items) (λ vs. Ok (OneForEach vs))
value_right Deletes s = Ok NoValue

abbrev pub right_values : RightSide → Env → Result RightValues Fault
right_values r s = then_do (check_right r s) (λ _. value_right r s)

-- ---- Targets

abbrev pub target : List ℕ → Option Vector → Target
target name v = record { name = name; value = v }

abbrev pub item_vector : Option Valued → Option Vector
item_vector None = None
item_vector (Some v) = Some v.vector

-- as many values as names, one for each
abbrev pub paired : List (List ℕ) → List (Option Valued) → List Target
paired (name ∷ names) (v ∷ vs) = target name (item_vector v) ∷ paired names vs
paired _ _ = []

abbrev pub each_target : List (List ℕ) → List (Option Valued) → Result (List Target) Fault
each_target names vs =
    if length vs == length names then Ok (paired names vs) else Err (length_fault (length vs) (length names))

abbrev pub targets_of : List (List ℕ) → RightValues → Result (List Target) Fault
targets_of names (OneForAll v) = Ok (map (λ name. target name (Some v.vector)) names)
targets_of names (OneForEach vs) = each_target names vs
targets_of names NoValue = Ok (map (λ name. target name None) names)

-- the warnings of the values
abbrev pub item_warns : Option Valued → Warns
item_warns None = no_warns
item_warns (Some v) = v.warns

abbrev pub right_warns : RightValues → Warns
right_warns (OneForAll v) = v.warns
right_warns (OneForEach vs) = all_warns (map item_warns vs)
right_warns NoValue = no_warns

-- ---- What is assigned

-- a fault of a target names its column; that of too many columns the table's slots
abbrev pub told_fault : List (List ℕ) → ℕ → AssignFault → Fault
told_fault names slots (Duplicate k) = fault E12 (name_at names k)
told_fault names slots (Unknown k) = fault E03 (name_at names k)
told_fault names slots (Delete k) = fault E19 (codes "NULL")
told_fault names slots (Length k got want) = length_fault got want
told_fault names slots Slots = number_fault E09 slots
told_fault names slots Cells = fault E08 []

abbrev pub told_assigned : List (List ℕ) → ℕ → Result Assigned AssignFault → Result Assigned Fault
told_assigned names slots (Ok a) = Ok a
told_assigned names slots (Err f) = Err (told_fault names slots f)

-- an empty name is none of a column
abbrev pub named_targets : List (List ℕ) → Result (Unit {0}) Fault
named_targets names = if list_any (bytes_eq []) names then Err (fault E19 (codes "j")) else Ok tt

-- the values, once they are there, for these names and rows of the table
abbrev pub assigned_by : PlainTable → Rows → List (List ℕ) → RightValues → Result Assigned Fault
assigned_by t rows names v =
    then_do (named_targets names) (λ _.
    then_do (targets_of names v) (λ targets.
    told_assigned names t.slots (assigned t rows targets)))

-- ---- In a bracket

-- the rows that are there
abbrev pub rows_there : Places → List ℕ
rows_there [] = []
rows_there (None ∷ places) = rows_there places
rows_there (Some p ∷ places) = p ∷ rows_there places

-- without an i all rows
abbrev pub target_rows : Bool → Places → Rows
target_rows false places = None
target_rows true places = Some (rows_there places)

-- a row that is named and not there cannot be assigned to
abbrev pub no_row_past : Bool → Result (Unit {0}) Fault
no_row_past past = if past then Err (fault E19 (codes "i")) else Ok tt

-- the warnings of i, of the values, and of bringing these to the columns' types
abbrev pub gives_assigned : List (List ℕ) → Warns → Assigned → Result Answer Fault
gives_assigned names warns a = Ok (record { outcome = gives.Assigned names a.table; warns = both_warns warns a.warns })

-- once all is valued; `chosen` tells whether there is an i
abbrev pub values_assigned : Bool → PlainTable → Found → List (List ℕ) → RightValues → Result Answer Fault
values_assigned chosen t r names v =
    then_do (no_row_past r.past) (λ _.
    then_do (assigned_by t (target_rows chosen r.places) names v)
    (gives_assigned names (both_warns r.warns (right_warns v))))

-- once both sides are known
abbrev pub sides_assigned : Bool → PlainTable → Vars → Found → List (List ℕ) → RightSide → Result Answer Fault
sides_assigned chosen t vars r names side =
    then_do (right_values side (rows_env r vars)) (values_assigned chosen t r names)

abbrev pub assigned_answer : Bool → Result (List (List ℕ)) Fault → Result RightSide Fault → PlainTable → Vars → Found
    → Result Answer Fault
assigned_answer chosen left right t vars r =
    then_do left (λ names. then_do right (sides_assigned chosen t vars r names))
