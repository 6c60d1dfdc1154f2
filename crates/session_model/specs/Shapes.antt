-- What j is, as columns.
--   JColumn           a column of j: its name, and what it is as a vector
--   JShape            what j is without groups: one vector, or columns of a table
--   j_shape m s       the shape of the j that means m, or its fault
--   answer_in m s     what it gives without groups
use Rattle.std.specs.Prelude.{ℕ, ◌+◌, List, [], ◌∷◌, map, Option, None, Some, Result, Ok, Err, codes, if◌then◌else◌}
use Rattle.std.specs.Str.{bytes_eq}
use Rattle.dt_base.specs.Fault.{fault}
use Rattle.dt_base.specs.declared.cell.ColType.{ColType}
use Rattle.dt_base.specs.declared.fault.Code.TheVariants.{E19}
use Rattle.dt_base.specs.declared.fault.Fault.{Fault}
use Rattle.func_table.specs.Calls.{is_list}
use Rattle.vector_model.specs.Functions.{Valued}
use Rattle.vector_model.specs.Then.{then_do}
use Rattle.expr_model.specs.Surroundings.{Env}
use Rattle.session_model.specs.Columns.{column_name, text_columns, values_answer, vector_answer}
use Rattle.session_model.specs.Expression.{each}
use Rattle.session_model.specs.Form.{text_in}
use Rattle.session_model.specs.Items.{item_texts}
use Rattle.session_model.specs.Meanings.{Answer, Meaning}
use Rattle.session_model.specs.Written.{Item, Listing}

-- a column of j: its name, and what it is as a vector
pub record JColumn : Type 0 where
  pub name : List ℕ
  pub check : Env → Result ColType Fault
  pub value : Env → Result Valued Fault

-- One vector; columns side by side; or columns of the rows, by their names. Without groups one vector is a
-- vector, and with groups each shape is a table.
pub data JShape : Type 0 where
  OneVector : JColumn → JShape
  ManyColumns : List JColumn → JShape
  NamedColumns : List (List ℕ) → JShape

-- ---- Items

abbrev pub j_column : Env → ℕ → Item → JColumn
j_column s p i = record { name = column_name s p i.name i.form; check = i.check; value = i.value }

-- the first stands at place p
abbrev pub j_columns : Env → ℕ → List Item → List JColumn
j_columns s p [] = []
j_columns s p (i ∷ rest) = j_column s p i ∷ j_columns s (p + 1) rest

abbrev pub list_shape : List ℕ → List Item → Env → Result JShape Fault
list_shape word [] s = Err (fault E19 word)
list_shape word (i ∷ rest) s = Ok (ManyColumns (j_columns s 1 (i ∷ rest)))

-- ---- Any j

abbrev pub one_vector : Meaning → Env → Result JShape Fault
one_vector m s = Ok (OneVector (record { name = column_name s 1 None m.form; check = m.check; value = m.value }))

abbrev pub texts_shape : Option (List (List ℕ)) → Meaning → Env → Result JShape Fault
texts_shape None m s = one_vector m s
texts_shape (Some names) m s = Ok (NamedColumns names)

abbrev pub call_shape : Listing → Meaning → Env → Result JShape Fault
call_shape l m s =
    if is_list l.word then list_shape l.word l.items s
    else (if bytes_eq l.word (codes "c") then texts_shape (item_texts l.items) m s else one_vector m s)

abbrev pub listing_shape : Option Listing → Meaning → Env → Result JShape Fault
listing_shape None m s = one_vector m s
listing_shape (Some l) m s = call_shape l m s

abbrev pub form_shape : Option (List ℕ) → Meaning → Env → Result JShape Fault
form_shape None m s = listing_shape m.listing m s
form_shape (Some text) m s = Ok (NamedColumns (text ∷ []))

abbrev pub j_shape : Meaning → Env → Result JShape Fault
j_shape m s = form_shape (text_in m.form) m s

-- ---- What it gives without groups

-- all types first, then all values, then the table
abbrev pub shape_answer : Env → JShape → Result Answer Fault
shape_answer s (OneVector c) = vector_answer c.check c.value s
shape_answer s (ManyColumns cs) =
    then_do (each (λ c. c.check s) cs) (λ _.
    then_do (each (λ c. c.value s) cs) (values_answer (map (λ c. c.name) cs)))
shape_answer s (NamedColumns names) = text_columns names s

abbrev pub answer_in : Meaning → Env → Result Answer Fault
answer_in m s = then_do (j_shape m s) (shape_answer s)
