-- How a run ends, by what was put.
use Rattle.std.proofs.Common.{◌≡◌, ℕ, Bool, true, false, List, [], Option, Some, None, Result, Ok, Err, refl}
use Rattle.std.proofs.Common.{sym, ap, subst, inl, inr}
use Rattle.dt_base.specs.declared.fault.Fault.{Fault}
use Rattle.dt_session.specs.Answers.{ReadsAs, EndsAs, EndCause}
use Rattle.dt_session.specs.declared.fail.ExecFail.{ExecFail}
use Rattle.dt_session.specs.declared.fail.ExecFail.TheVariants as exec
use Rattle.dt_session.specs.declared.fail.RunFail.{RunFail}
use Rattle.dt_world.specs.Told.{FileMap, appended, AppendedPart}
use Rattle.session_model.proofs.Parts.{appended_nothing, none_part, parted_in_lines, parted_none}
use Rattle.session_model.specs.Evaluation.{End, Evaluates, IsEnd}
use Rattle.session_model.specs.Session.{SessionState, empty_session}
use Rattle.session_model.specs.World.{World, Parted, world, after}
use Rattle.dt_run.specs.Run.{Answers, AskedAnswers, AskedCut, FileCut, Runs, ScriptAnswers, ScriptCut, Told}
use Rattle.dt_run.specs.Run.{on_err, script_bytes, status_of}
use Rattle.dt_run.specs.Run.Checks.{reads, refuses}
use Rattle.dt_run.specs.Steps.{CheckedAs, PutAs, status_for}
use Rattle.dt_run.specs.Words.{Asked}
use Rattle.dt_run.specs.declared.status.Status.{Status}
use Rattle.dt_run.specs.declared.status.Status.TheVariants.{Done, Stopped, Usage, ReadFault, WriteFault, NoMemory}

-- only `err` has more
only_err : (f : Option FileMap) (o e n : Option (List ℕ)) (line : List ℕ) → n ≡ appended e line
    → world f o n ≡ after (world f o e) (on_err line)
only_err f o e n line h =
    let same : o ≡ appended o [] = sym (appended_nothing o) in λ i. record { files = f; out = same i; err = h i }

-- only `err` has a first part more
part_on_err : (f : Option FileMap) (o e n : Option (List ℕ)) (line : List ℕ) → AppendedPart e n line
    → Parted (world f o e) (on_err line) (world f o n)
part_on_err f o e n line h = parted_in_lines f o e n line h

none_on_err : (f : Option FileMap) (o e n : Option (List ℕ)) (line : List ℕ) → n ≡ e
    → Parted (world f o e) (on_err line) (world f o n)
none_on_err f o e n line h = part_on_err f o e n line (none_part e n line h)

-- a run that put one line on `err`
pub put_answers : (f : Option FileMap) (o e n : Option (List ℕ)) (line : List ℕ) (wanted : Status) (rose : Type 0)
    (ends : Status → World → Type 0) (cut before : World → Type 0) (s : Status)
    → (world f o n ≡ after (world f o e) (on_err line) → ends wanted (world f o n))
    → (Parted (world f o e) (on_err line) (world f o n) → cut (world f o n))
    → PutAs wanted e n line rose s → Answers ends cut before (world f o n) s
put_answers f o e n line wanted rose ends cut before Done put part h =
    subst (λ s. ends s (world f o n)) h.0 (put (only_err f o e n line h.1))
put_answers f o e n line wanted rose ends cut before Stopped put part h =
    subst (λ s. ends s (world f o n)) h.0 (put (only_err f o e n line h.1))
put_answers f o e n line wanted rose ends cut before Usage put part h =
    subst (λ s. ends s (world f o n)) h.0 (put (only_err f o e n line h.1))
put_answers f o e n line wanted rose ends cut before ReadFault put part h = absurd h
put_answers f o e n line wanted rose ends cut before WriteFault put part h = part (part_on_err f o e n line h.0)
put_answers f o e n line wanted rose ends cut before NoMemory put part h = part (none_on_err f o e n line h)

-- a script that was only read
pub checked_answers : (bytes : List ℕ) (f : Option FileMap) (o e n : Option (List ℕ)) (rose : Type 0) (s : Status)
    → CheckedAs bytes e n rose s → ScriptAnswers true bytes (world f o e) (world f o n) s
checked_answers bytes f o e n rose Done h = reads h.1.0 h.1.1 refl (ap (world f o) h.0)
checked_answers bytes f o e n rose Stopped h = refuses h.0 h.1 refl (only_err f o e n _ h.2)
checked_answers bytes f o e n rose Usage h = absurd h
checked_answers bytes f o e n rose ReadFault h = absurd h
checked_answers bytes f o e n rose WriteFault h = inr (h.1.0, h.1.1, part_on_err f o e n _ h.1.2)
checked_answers bytes f o e n rose NoMemory h = inl (ap (world f o) h)

-- a script that ran to its end
pub ran : (bytes : List ℕ) (s0 now : SessionState) (w v : World) → s0 ≡ empty_session
    → ReadsAs bytes s0 w (λ e. IsEnd e now v) → Runs bytes w Done v
ran bytes s0 now w v is h =
    (h.0, subst (λ s. Evaluates bytes s w h.0) is h.1, sym (ap status_of h.2.0), sym h.2.2)

by_end : (bytes : List ℕ) (now : SessionState) (w v : World) (r : RunFail) (cause : ExecFail)
    → EndCause bytes empty_session w now v r cause → ScriptAnswers false bytes w v (status_for cause)
by_end bytes now w v r (exec.Stop f) h =
    (h.0, h.1, sym (ap (λ (e : End). status_of e.fault) h.2), sym (ap (λ (e : End). e.world) h.2))
by_end bytes now w v r exec.ReadFault h = (r.done, r.line, now, h)
by_end bytes now w v r exec.WriteFault h = inr (r.done, r.line, now, h)
by_end bytes now w v r (exec.NoMemory e) h = elim h [ inl k ↦ inr (r.done, r.line, now, k) | inr k ↦ inl k.3 ]

-- a script that ended early
pub ended_early : (bytes : List ℕ) (s0 now : SessionState) (w v : World) (r : RunFail) → s0 ≡ empty_session
    → EndsAs bytes s0 w now v r → ScriptAnswers false bytes w v (status_for r.cause)
ended_early bytes s0 now w v r is h =
    by_end bytes now w v r r.cause (subst (λ s. EndCause bytes s w now v r r.cause) is h)

none_cut : (check : Bool) (bytes : List ℕ) (w v : World) → v ≡ w → ScriptCut check bytes w v
none_cut true bytes w v h = inl h
none_cut false bytes w v h = inl h

none_read : (check : Bool) (o : Result (List ℕ) Fault) (w v : World) → v ≡ w → FileCut check o w v
none_read check (Ok bytes) w v h = none_cut check bytes w v h
none_read check (Err f) w v h = parted_none w v _ h

none_asked : (m : FileMap) (o : Option Asked) (w v : World) → v ≡ w → AskedCut m o w v
none_asked m None w v h = parted_none w v _ h
none_asked m (Some a) w v h = none_read a.is_check (script_bytes m a.script) w v h

-- memory was wanting before anything was put
pub none_wanting : (held : Option FileMap) (o : Option Asked) (w v : World) → v ≡ w
    → Told held (λ m. AskedAnswers m o w v NoMemory)
none_wanting None o w v h = tt
none_wanting (Some m) o w v h = none_asked m o w v h

-- the read of the script failed
pub none_unread : (held : Option FileMap) (a : Asked) (w v : World) → v ≡ w
    → Told held (λ m. AskedAnswers m (Some a) w v ReadFault)
none_unread None a w v h = tt
none_unread (Some m) a w v h = inl h
