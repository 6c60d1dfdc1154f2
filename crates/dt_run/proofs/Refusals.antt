-- A script that was only read and refused, by how that was told.
use Rattle.std.proofs.Common.{◌≡◌, ◌⊎◌, ℕ, List, Option, refl, inl, inr}
use Rattle.dt_script.specs.Answers.{FailsAs}
use Rattle.dt_script.specs.declared.bytes.ParseFail.{ParseFail}
use Rattle.dt_session.proofs.Refusals.{refused_with}
use Rattle.dt_session.specs.Answers.{IsStopped}
use Rattle.dt_session.specs.Refusals.{EndsWith, IsNoMemory, RefusalEnd, Untold}
use Rattle.dt_session.specs.declared.fail.ExecFail.{ExecFail}
use Rattle.dt_session.specs.declared.fail.ExecFail.TheVariants.{Stop, ReadFault, WriteFault, NoMemory}
use Rattle.dt_session.specs.declared.fail.RunFail.{RunFail}
use Rattle.dt_tree.specs.declared.fault.ScriptFault.{ScriptFault}
use Rattle.run_model.specs.Reading.{IsRefused}
use Rattle.session_model.specs.Evaluation.{line_of, script_fault}
use Rattle.dt_run.specs.Steps.{CheckedAs, status_for}

-- the line of the fault was put, or was to be
told_checked : (bytes : List ℕ) (f : ScriptFault) (old now : Option (List ℕ)) (rose : Type 0) (cause : ExecFail)
    → IsRefused bytes f → (cause ≡ WriteFault → rose) → IsStopped (line_of f) (script_fault f) old now cause
    → CheckedAs bytes old now rose (status_for cause)
told_checked bytes f old now rose (Stop g) k failed h = (f, k, h.1)
told_checked bytes f old now rose ReadFault k failed h = absurd h
told_checked bytes f old now rose WriteFault k failed h = (failed refl, (f, k, h))
told_checked bytes f old now rose (NoMemory e) k failed h = h

-- memory was wanting before that
untold_checked : (bytes : List ℕ) (old now : Option (List ℕ)) (rose : Type 0) (cause : ExecFail) → IsNoMemory cause
    → now ≡ old → CheckedAs bytes old now rose (status_for cause)
untold_checked bytes old now rose (Stop g) is h = absurd is
untold_checked bytes old now rose ReadFault is h = absurd is
untold_checked bytes old now rose WriteFault is h = absurd is
untold_checked bytes old now rose (NoMemory e) is h = h

either_checked : (bytes : List ℕ) (old now : Option (List ℕ)) (rose : Type 0) (r : RunFail)
    → (r.cause ≡ WriteFault → rose)
    → ((f : ScriptFault) × IsRefused bytes f × EndsWith f old now r) ⊎ Untold old now r
    → CheckedAs bytes old now rose (status_for r.cause)
either_checked bytes old now rose r failed (inl (f, refused, h)) =
    told_checked bytes f old now rose r.cause refused failed h.2
either_checked bytes old now rose r failed (inr h) = untold_checked bytes old now rose r.cause h.0 h.3

pub refusal_checked : (bytes : List ℕ) (e : ParseFail) (old now : Option (List ℕ)) (rose : Type 0) (r : RunFail)
    → FailsAs bytes e → (r.cause ≡ WriteFault → rose) → RefusalEnd e old now r
    → CheckedAs bytes old now rose (status_for r.cause)
refusal_checked bytes e old now rose r k failed h =
    either_checked bytes old now rose r failed (refused_with bytes e old now r k h)
