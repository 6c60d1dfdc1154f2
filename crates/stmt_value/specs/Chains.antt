-- What a bracket gives behind a value that is shown.
--   answered s word g b     the bracket's answer behind the value's table
use Rattle.std.specs.Prelude.{ℕ, List, Result}
use Rattle.dt_base.specs.declared.fault.Fault.{Fault}
use Rattle.dt_model.specs.State.{State}
use Rattle.session_model.specs.Found.{vars_of}
use Rattle.session_model.specs.Meanings.{BracketMeaning}
use Rattle.session_model.specs.Query.{head_table, bracket_answer, given_after}
use Rattle.session_model.specs.Value.{Given}
use Rattle.vector_model.specs.Then.{then_do}

abbrev pub answered : State → List ℕ → Given → BracketMeaning → Result Given Fault
answered s word g b =
    then_do (head_table s word g.value) (λ t. then_do (bracket_answer b t (vars_of s)) (given_after g))
