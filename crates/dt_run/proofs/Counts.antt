-- Of the counts of what failed, only the one that is answered may have risen.
use Rattle.std.specs.Prelude.{⊤}
use Rattle.std.proofs.Common.{◌≡◌, ℕ, List, Option, Ok, Err, IsErrOf, inl, inr, refl}
use Rattle.dt_session.specs.Answers as session
use Rattle.dt_session.specs.Execs.{IsCounted}
use Rattle.dt_session.specs.Lines.{TellsFault}
use Rattle.dt_session.specs.Outside.{Outside}
use Rattle.dt_session.specs.declared.fail.ExecFail.{ExecFail}
use Rattle.dt_session.specs.declared.fail.ExecFail.TheVariants as exec
use Rattle.dt_world.specs.Causes.{Rose}
use Rattle.dt_run.specs.Ending.{IsBlamed}
use Rattle.dt_run.specs.Run.{StopsWith}
use Rattle.dt_run.specs.Steps.{CheckedAs, CountsOwn, PutAs, status_for}
use Rattle.dt_run.specs.declared.status.Status.{Status}
use Rattle.dt_run.specs.declared.status.Status.TheVariants.{Done, Stopped, Usage, ReadFault, WriteFault, NoMemory}
use Rattle.dt_run.proofs.Stops.{by_cause}

-- by what is so of the counts that stand
pub own_as : {R S W X : Type 0} (s : Status) → (R → S) → (W → X) → CountsOwn R W s → CountsOwn S X s
own_as Done r w h = (r h.0, w h.1)
own_as Stopped r w h = (r h.0, w h.1)
own_as Usage r w h = (r h.0, w h.1)
own_as ReadFault r w h = w h
own_as WriteFault r w h = r h
own_as NoMemory r w h = (r h.0, w h.1)

-- ---- A script that was run

own_status : (R W : Type 0) (e : ExecFail) → session.CountsOwn R W e → CountsOwn R W (status_for e)
own_status R W (exec.Stop f) h = h
own_status R W exec.ReadFault h = h
own_status R W exec.WriteFault h = h
own_status R W (exec.NoMemory x) h = h

read_status : (e : ExecFail) → status_for e ≡ ReadFault → IsErrOf {T = Unit {0}} (Err e) exec.ReadFault
read_status (exec.Stop f) is = cc
read_status exec.ReadFault is = refl
read_status exec.WriteFault is = cc
read_status (exec.NoMemory x) is = cc

write_status : (e : ExecFail) → status_for e ≡ WriteFault → IsErrOf {T = Unit {0}} (Err e) exec.WriteFault
write_status (exec.Stop f) is = cc
write_status exec.ReadFault is = cc
write_status exec.WriteFault is = refl
write_status (exec.NoMemory x) is = cc

-- to its end
pub blamed_done : (w v : Outside) → IsCounted w v (Ok tt) → IsBlamed w v Done
blamed_done w v h = record { read = λ is. cc; write = λ is. cc; quiet = h.ok_quiet; stopped = λ is. cc }

-- until it ended early
pub blamed_early : (w v : Outside) (line : ℕ) (e : ExecFail) → IsCounted w v (Err e)
    → TellsFault line w.err.bytes v.err.bytes e → IsBlamed w v (status_for e)
blamed_early w v line e h put = record {
  read = λ is. h.read (read_status e is);
  write = λ is. h.write (write_status e is);
  quiet = own_status _ _ e h.quiet;
  stopped = by_cause w.files.held w.err.bytes v.err.bytes _ _ line e put h.cause;
}

-- ---- A run that put one line on `err` or none

-- no read and no put of another sink was counted
pub blamed_on_err : (w v : Outside) (s : Status) → v.files.read_faults ≡ w.files.read_faults
    → v.files.write_faults ≡ w.files.write_faults → v.out.faults ≡ w.out.faults
    → (s ≡ ReadFault → ⊥) → (s ≡ WriteFault → Rose w.err.faults v.err.faults)
    → CountsOwn ⊤ (v.err.faults ≡ w.err.faults) s
    → (s ≡ Stopped
    → StopsWith w.files.held w.err.bytes v.err.bytes (Rose w.files.misses v.files.misses)
    (Rose w.files.longs v.files.longs))
    → IsBlamed w v s
blamed_on_err w v s reads writes outs unread failed quiet stops = record {
  read = λ is. absurd (unread is);
  write = λ is. inr (inl (failed is));
  quiet = own_as s (λ x. reads) (λ x. (outs, x, writes)) quiet;
  stopped = stops;
}

pub put_unread : (wanted : Status) (old now : Option (List ℕ)) (piece : List ℕ) (rose : Type 0) (s : Status)
    → PutAs wanted old now piece rose s → s ≡ ReadFault → ⊥
put_unread wanted old now piece rose Done h is = cc
put_unread wanted old now piece rose Stopped h is = cc
put_unread wanted old now piece rose Usage h is = cc
put_unread wanted old now piece rose ReadFault h is = h
put_unread wanted old now piece rose WriteFault h is = cc
put_unread wanted old now piece rose NoMemory h is = cc

pub put_failed : (wanted : Status) (old now : Option (List ℕ)) (piece : List ℕ) (rose : Type 0) (s : Status)
    → PutAs wanted old now piece rose s → s ≡ WriteFault → rose
put_failed wanted old now piece rose Done h is = cc
put_failed wanted old now piece rose Stopped h is = cc
put_failed wanted old now piece rose Usage h is = cc
put_failed wanted old now piece rose ReadFault h is = absurd h
put_failed wanted old now piece rose WriteFault h is = h.1
put_failed wanted old now piece rose NoMemory h is = cc

pub checked_unread : (bytes : List ℕ) (old now : Option (List ℕ)) (rose : Type 0) (s : Status)
    → CheckedAs bytes old now rose s → s ≡ ReadFault → ⊥
checked_unread bytes old now rose Done h is = cc
checked_unread bytes old now rose Stopped h is = cc
checked_unread bytes old now rose Usage h is = cc
checked_unread bytes old now rose ReadFault h is = h
checked_unread bytes old now rose WriteFault h is = cc
checked_unread bytes old now rose NoMemory h is = cc

pub checked_failed : (bytes : List ℕ) (old now : Option (List ℕ)) (rose : Type 0) (s : Status)
    → CheckedAs bytes old now rose s → s ≡ WriteFault → rose
checked_failed bytes old now rose Done h is = cc
checked_failed bytes old now rose Stopped h is = cc
checked_failed bytes old now rose Usage h is = cc
checked_failed bytes old now rose ReadFault h is = absurd h
checked_failed bytes old now rose WriteFault h is = h.0
checked_failed bytes old now rose NoMemory h is = cc
