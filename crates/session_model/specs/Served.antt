-- Which forms of a bracket are served. A form that is not is told before anything else of its statement.
--   bracket_served b     whether all forms of a bracket are served
use Rattle.std.specs.Prelude.{◌&&◌, ◌||◌, not, Bool, true, Option, None, Some, is_none, is_some}
use Rattle.std.specs.List.{list_all}
use Rattle.func_table.specs.Special.{is_bracket_argument}
use Rattle.session_model.specs.Binding.{word_in}
use Rattle.session_model.specs.Form.{name_in}
use Rattle.session_model.specs.Meanings.{Meaning, ArgMeaning, SecondMeaning, Computes, Assigns, AssignsAll}
use Rattle.session_model.specs.Meanings.{BracketMeaning}
use Rattle.session_model.specs.Written.{is_join}

abbrev pub is_served_first : Option Meaning → Bool
is_served_first None = true
is_served_first (Some i) = not (is_join i.joins) && i.served true

-- a bare name to assign to is a column's, whatever it means elsewhere
abbrev pub is_served_left : Meaning → Bool
is_served_left left = is_some (name_in left.form) || left.served true

abbrev pub is_served_second : Option SecondMeaning → Bool
is_served_second None = true
is_served_second (Some (Computes j)) = j.served true
is_served_second (Some (Assigns left right)) = is_served_left left && right.served true
is_served_second (Some (AssignsAll args)) = list_all (λ a. a.means.served true) args

-- an argument that brackets have is not served yet; one that they have not is told when its turn comes
abbrev pub is_served_argument : ArgMeaning → Bool
is_served_argument a = not (is_bracket_argument (word_in a.name)) && a.means.served true

abbrev pub bracket_served : BracketMeaning → Bool
bracket_served b =
    is_none b.third && (is_served_first b.first && (is_served_second b.second && list_all is_served_argument b.args))
