-- What brackets give.
--   bracket_answer b t vars   what a bracket gives behind a table
--   bracketed ..              one bracket behind a value
--   chained ..                brackets one after another
-- A bracket is looked at in this order:
--   (1) its head, which is a table
--   (2) its arguments: their names and forms, as written
--   (3) i: its type, its value, and the rows that it finds
--   (4) arguments that want a join, where there is none
--   (5) by, which is not served yet
--   (6) j: its types, and then its values; or the two sides of an assignment
--   (7) the names and limits of a new table
--   (8) the targets of an assignment
use Rattle.std.specs.Prelude.{ℕ, ◌&&◌, not, Bool, true, false, List, [], ◌∷◌, Option, None, Some, Result, Ok, Err}
use Rattle.std.specs.Prelude.{codes, if◌then◌else◌, is_none, is_some}
use Rattle.dt_base.specs.declared.fault.Fault.{Fault}
use Rattle.dt_base.specs.declared.fault.Code.TheVariants.{E01, E04, E20}
use Rattle.dt_base.specs.Fault.{fault}
use Rattle.dt_base.specs.Warns.{no_warns, both_warns}
use Rattle.dt_model.specs.State.{State}
use Rattle.dt_model.specs.Table.{PlainTable}
use Rattle.expr_model.specs.Surroundings.{Vars}
use Rattle.vector_model.specs.Faults.{unbuilt}
use Rattle.vector_model.specs.Then.{then_do}
use Rattle.session_model.specs.Asked.{Asked, ByAsked, NoBy, asked}
use Rattle.session_model.specs.Found.{found, vars_of}
use Rattle.session_model.specs.Meanings.{Outcome, Same, Answer, ArgMeaning, BracketMeaning}
use Rattle.session_model.specs.Meanings as gives
use Rattle.session_model.specs.Second.{second_answer}
use Rattle.session_model.specs.Value.{Alteration, Value, Numbered, New, Cells, Null, Given, numbered_table}
use Rattle.session_model.specs.Written.{Item}

-- ---- One bracket

-- the bracket has nothing in it
abbrev pub has_no_arguments : List ArgMeaning → Bool
has_no_arguments [] = true
has_no_arguments (a ∷ rest) = false

abbrev pub is_empty : BracketMeaning → Bool
is_empty b = is_none b.first && (is_none b.second && (is_none b.third && has_no_arguments b.args))

-- groups, and the columns of `.SD`, are not served yet
abbrev pub ungrouped_by : ByAsked → Option Item → Result (Unit {0}) Fault
ungrouped_by NoBy None = Ok tt
ungrouped_by _ _ = Err unbuilt

abbrev pub ungrouped : Asked → Result (Unit {0}) Fault
ungrouped q = ungrouped_by q.by q.sd

-- (2) to (8); an empty bracket gives the same table
abbrev pub asked_answer : BracketMeaning → PlainTable → Vars → Result Answer Fault
asked_answer b t vars =
    then_do (asked b) (λ q.
    then_do (found q b.first t vars) (λ r.
    then_do (ungrouped q) (λ _.
    second_answer (is_some b.first) b.second t vars r)))

abbrev pub bracket_answer : BracketMeaning → PlainTable → Vars → Result Answer Fault
bracket_answer b t vars =
    if is_empty b then Ok (record { outcome = Same; warns = no_warns }) else asked_answer b t vars

-- ---- Chains of brackets

-- The table before a bracket. A vector has the name that it is called by.
abbrev pub head_table : State → List ℕ → Value → Result PlainTable Fault
head_table s word (Numbered n) = Ok (numbered_table s n)
head_table s word (New t) = Ok t
head_table s word (Cells v) = Err (fault E20 word)
head_table s word Null = Err (fault E04 (codes "NULL"))

-- The same table stays the value that it was. A table that is assigned to stays it too, under its number;
-- a table that has none becomes the assigned one.
abbrev pub value_assigned : Value → PlainTable → Value
value_assigned (New t) new = New new
value_assigned v new = v

abbrev pub value_after : Value → Outcome → Value
value_after v Same = v
value_after v (gives.Table t) = New t
value_after v (gives.Vector x) = Cells x
value_after v (gives.Assigned names t) = value_assigned v t

-- what an assignment alters: the table that has a number
abbrev pub altered : Value → Outcome → Option Alteration
altered (Numbered n) (gives.Assigned names t) = Some (record { number = n; names = names; table = t })
altered _ _ = None

-- what an assignment gives is not shown
abbrev pub is_shown : Outcome → Bool
is_shown (gives.Assigned names t) = false
is_shown _ = true

abbrev pub given_after : Given → Answer → Result Given Fault
given_after g a =
    Ok (record {
      value = value_after g.value a.outcome;
      warns = both_warns g.warns a.warns;
      alters = altered g.value a.outcome;
      shown = is_shown a.outcome;
    })

-- behind an assignment only the empty bracket has a meaning, and it shows the table
abbrev pub shown_after : Given → BracketMeaning → Result Given Fault
shown_after g b = if is_empty b then Ok (record g { shown = true }) else Err (fault E01 [])

-- one bracket behind a value that is called by this word
abbrev pub bracketed : State → List ℕ → Given → BracketMeaning → Result Given Fault
bracketed s word g b =
    if not g.shown then shown_after g b else
    then_do (head_table s word g.value) (λ t.
    then_do (bracket_answer b t (vars_of s)) (given_after g))

-- from the left; what a bracket gives has no name
abbrev pub chained : State → List ℕ → Given → List BracketMeaning → Result Given Fault
chained s word g [] = Ok g
chained s word g (b ∷ rest) = then_do (bracketed s word g b) (λ h. chained s (codes "[") h rest)
