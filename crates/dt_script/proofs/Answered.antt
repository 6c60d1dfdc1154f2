-- The bytes of a script are one script, or have one first fault, and not both.
use Rattle.std.proofs.Common.{ℕ, List, Ok, refl}
use Rattle.dt_tree.specs.declared.fault.ScriptFault.{ScriptFault}
use Rattle.dt_tree.specs.declared.fault.ScriptFault.TheVariants.{NotUtf8, Syntax, Number, TooDeep}
use Rattle.dt_tree.specs.declared.token.Placed.{Placed}
use Rattle.dt_tree.specs.declared.tree.Script.{Script}
use Rattle.run_model.specs.Reading.{IsReadAs, IsRefused}
use Rattle.run_model.specs.TokenLaws.{OneAnswer}
use Rattle.run_model.specs.TokenView.{plain_tokens}
use Rattle.run_model.specs.Tokens.{AreTokens, unmarked}
use Rattle.dt_tokens.proofs.One.{spells_one, fault_one, not_both as not_both_tokens}
use Rattle.dt_grammar.proofs.OneAnswer.{one_reading, one_refusal, not_both}
use Rattle.dt_script.specs.Answers.{Reads, IsOnlyReading, IsOnlyFault, FailsAs, fail_of}

one : OneAnswer
one = record {
  tokens = λ s ts us a b. spells_one (unmarked s) ts us a.spelled b.spelled;
  fault = fault_one;
  either = not_both_tokens;
}

pub only_reading : (s : List ℕ) (us : List Placed) (script : Script) → AreTokens s us
    → Reads (plain_tokens us) (Ok script) → IsOnlyReading s script
only_reading s us script cut h =
    let reading : IsReadAs s script = record { tokens = us; cut = cut; spelled = h.0; right = h.1 } in
    record {
      reading = reading;
      only = λ other r. one_reading one s script other reading r;
      no_fault = λ f r. not_both one s script f reading r;
    }

only_fault : (s : List ℕ) (f : ScriptFault) → IsRefused s f → IsOnlyFault s (fail_of f)
only_fault s f h = record {
  fault = f;
  refused = h;
  told = refl;
  only = λ g r. one_refusal one s f g h r;
  no_script = λ script r. not_both one s script f r h;
}

pub fails_as : (s : List ℕ) (f : ScriptFault) → IsRefused s f → FailsAs s (fail_of f)
fails_as s NotUtf8 h = only_fault s NotUtf8 h
fails_as s (Syntax p) h = only_fault s (Syntax p) h
fails_as s (Number p) h = only_fault s (Number p) h
fails_as s (TooDeep p) h = only_fault s (TooDeep p) h
