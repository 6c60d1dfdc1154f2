-- A run that stopped: the fault that it told, and where that comes from.
use Rattle.std.proofs.Common.{◌≡◌, ℕ, List, Option, None, Some, IsNone}
use Rattle.dt_base.specs.declared.fault.Fault.{Fault}
use Rattle.dt_session.proofs.Lines.{fault_alone}
use Rattle.dt_session.specs.Answers.{Blames}
use Rattle.dt_session.specs.Lines.{TellsFault}
use Rattle.dt_session.specs.declared.fail.ExecFail.{ExecFail}
use Rattle.dt_session.specs.declared.fail.ExecFail.TheVariants as exec
use Rattle.dt_tree.specs.declared.fault.ScriptFault.{ScriptFault}
use Rattle.dt_tree.specs.declared.fault.ScriptFault.TheVariants.{NotUtf8, Syntax, Number, TooDeep}
use Rattle.dt_world.specs.Told.{FileMap, IsAbsent, IsLonger}
use Rattle.run_model.specs.Messages.{printed_fault}
use Rattle.session_model.specs.Evaluation.{line_of, script_fault}
use Rattle.file_value.specs.Answers.{cause_of}
use Rattle.dt_run.specs.Run.{StopsWith}
use Rattle.dt_run.specs.Steps.{CheckedAs, PutAs, absent, too_long, status_for}
use Rattle.dt_run.specs.declared.status.Status.{Status}
use Rattle.dt_run.specs.declared.status.Status.TheVariants.{Done, Stopped, Usage, ReadFault, WriteFault, NoMemory}

-- a script that was run
pub by_cause : (held : Option FileMap) (b v : Option (List ℕ)) (miss long : Type 0) (line : ℕ) (e : ExecFail)
    → TellsFault line b v e → Blames held miss long e → status_for e ≡ Stopped → StopsWith held b v miss long
by_cause held b v miss long line (exec.Stop f) t c is = record { line = line; fault = f; told = t; cause = c }
by_cause held b v miss long line exec.ReadFault t c is = cc
by_cause held b v miss long line exec.WriteFault t c is = cc
by_cause held b v miss long line (exec.NoMemory x) t c is = cc

-- the fault of a script's reading blames no file
reading_cause : (f : ScriptFault) (miss long : Type 0) → cause_of (script_fault f).code miss long
reading_cause NotUtf8 miss long = tt
reading_cause (Syntax at) miss long = tt
reading_cause (Number at) miss long = tt
reading_cause (TooDeep at) miss long = tt

-- a script that was only read
pub checked_stops : (bytes : List ℕ) (held : Option FileMap) (b v : Option (List ℕ)) (rose miss long : Type 0)
    (s : Status) → CheckedAs bytes b v rose s → s ≡ Stopped → StopsWith held b v miss long
checked_stops bytes held b v rose miss long Stopped h is =
    record {
      line = line_of h.0;
      fault = script_fault h.0;
      told = fault_alone _ _ b v h.2;
      cause = λ n. reading_cause
          h.0 miss long;
    }
checked_stops bytes held b v rose miss long Done h is = cc
checked_stops bytes held b v rose miss long Usage h is = cc
checked_stops bytes held b v rose miss long ReadFault h is = cc
checked_stops bytes held b v rose miss long WriteFault h is = cc
checked_stops bytes held b v rose miss long NoMemory h is = cc

-- one line was put for a script that is not read
told_stops : (held : Option FileMap) (b v : Option (List ℕ)) (f : Fault) (rose miss long : Type 0) (s : Status)
    → (IsNone held → cause_of f.code miss long) → PutAs Stopped b v (printed_fault 0 f) rose s → s ≡ Stopped
    → StopsWith held b v miss long
told_stops held b v f rose miss long Stopped c h is =
    record { line = 0; fault = f; told = fault_alone 0 f b v h.1; cause = c }
told_stops held b v f rose miss long Done c h is = cc
told_stops held b v f rose miss long Usage c h is = cc
told_stops held b v f rose miss long ReadFault c h is = cc
told_stops held b v f rose miss long WriteFault c h is = cc
told_stops held b v f rose miss long NoMemory c h is = cc

absent_cause : (held : Option FileMap) (name : List ℕ) (miss : Type 0) → IsAbsent held name miss → IsNone held → miss
absent_cause None name miss is n = is
absent_cause (Some m) name miss is n = cc

longer_cause : (held : Option FileMap) (name : List ℕ) (limit : ℕ) (long : Type 0) → IsLonger held name limit long
    → IsNone held → long
longer_cause None name limit long is n = is
longer_cause (Some m) name limit long is n = cc

-- there is no such script
pub absent_stops : (held : Option FileMap) (name : List ℕ) (b v : Option (List ℕ)) (rose miss long : Type 0)
    (s : Status) → IsAbsent held name miss → PutAs Stopped b v (printed_fault 0 (absent name)) rose s → s ≡ Stopped
    → StopsWith held b v miss long
absent_stops held name b v rose miss long s is h stops =
    told_stops held b v (absent name) rose miss long s (absent_cause held name miss is) h stops

-- it is too long
pub long_stops : (held : Option FileMap) (name : List ℕ) (b v : Option (List ℕ)) (rose miss long : Type 0)
    (s : Status) → IsLonger held name 1048576 long → PutAs Stopped b v (printed_fault 0 (too_long name)) rose s
    → s ≡ Stopped → StopsWith held b v miss long
long_stops held name b v rose miss long s is h stops =
    told_stops held b v (too_long name) rose miss long s (longer_cause held name 1048576 long is) h stops
