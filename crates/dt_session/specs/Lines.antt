-- What stands on the other output after a statement or a script, whether or not the files tell what
-- they hold.
--   warned_lines ws          the lines of sets of warnings, each with the line of its statement
--   WarnedAt line b v        after b came the lines of warnings on this line
--   Warned b v               after b came lines of warnings, and nothing else
--   FaultPut line b v e      after b came the line of the fault that e is
--   EndsInFault b v line f   after b came lines of warnings, and then the line of the fault f
--   TellsFault line b v e    after b came lines of warnings, and then the line of the fault that e is
--   OneFault                 what came after b tells the line of the fault, and its code
use Rattle.std.specs.Prelude.{◌≡◌, ℕ, List, Option, Some}
use Rattle.std.specs.List.{flat_map}
use Rattle.dt_base.specs.declared.fault.Fault.{Fault}
use Rattle.dt_base.specs.declared.warns.Warns.{Warns}
use Rattle.dt_world.specs.Told.{appended}
use Rattle.run_model.specs.Messages.{printed_fault, printed_warns}
use Rattle.dt_session.specs.declared.fail.ExecFail.{ExecFail}
use Rattle.dt_session.specs.declared.fail.ExecFail.TheVariants.{Stop}

-- the lines of one set of warnings after another, each set with the line of its statement
abbrev pub warned_lines : List (ℕ × Warns) → List ℕ
warned_lines ws = flat_map (λ w. printed_warns w.0 w.1) ws

-- a statement that is done puts the lines of its warnings
pub record WarnedAt (line : ℕ) (b v : Option (List ℕ)) : Type 0 where
  pub warns : Warns
  pub lines : v ≡ appended b (printed_warns line warns)

-- so do several, one after another
pub record Warned (b v : Option (List ℕ)) : Type 0 where
  pub sets : List (ℕ × Warns)
  pub lines : v ≡ appended b (warned_lines sets)

-- a statement that is refused puts the line of its fault, and no warning
abbrev pub FaultPut : ℕ → Option (List ℕ) → Option (List ℕ) → ExecFail → Type 0
FaultPut line b v (Stop f) = v ≡ appended b (printed_fault line f)
FaultPut line b v _ = Unit {0}

-- a script that is refused puts the warnings of what was done before, and then the line of its fault
pub record EndsInFault (b v : Option (List ℕ)) (line : ℕ) (f : Fault) : Type 0 where
  pub sets : List (ℕ × Warns)
  pub lines : v ≡ appended (appended b (warned_lines sets)) (printed_fault line f)

abbrev pub TellsFault : ℕ → Option (List ℕ) → Option (List ℕ) → ExecFail → Type 0
TellsFault line b v (Stop f) = EndsInFault b v line f
TellsFault line b v _ = Unit {0}

-- Bytes that came after others are in one way, if in any, lines of warnings and then the line of a
-- fault: they tell that line, and the fault's code.
abbrev pub OneFault : Type 0
OneFault =
    (b : List ℕ) (v : Option (List ℕ)) (l k : ℕ) (f g : Fault) → EndsInFault (Some b) v l f → EndsInFault (Some b) v k g
    → (printed_fault l f ≡ printed_fault k g) × (f.code ≡ g.code)
