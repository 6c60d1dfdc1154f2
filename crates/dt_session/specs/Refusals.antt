-- A script whose reading is refused.
--   IsRefusalOf e x     x is the line and the fault that tell the refusal e
--   EndsWith f b v r    the run ended with the fault f of the reading, whose line was put on what holds
--                       b, and then v
--   RefusalEnd e b v r  so it ended with the refusal e; or memory was wanting, and nothing was put
use Rattle.std.specs.Prelude.{◌≡◌, ◌⊎◌, ℕ, List, Option}
use Rattle.dt_script.specs.Answers.{fail_of}
use Rattle.dt_script.specs.declared.bytes.ParseFail.{ParseFail}
use Rattle.dt_tree.specs.declared.fault.ScriptFault.{ScriptFault}
use Rattle.session_model.specs.Evaluation.{line_of, script_fault}
use Rattle.dt_session.specs.Answers.{IsStopped}
use Rattle.dt_session.specs.declared.fail.ExecFail.{ExecFail}
use Rattle.dt_session.specs.declared.fail.ExecFail.TheVariants.{NoMemory}
use Rattle.dt_session.specs.declared.fail.RunFail.{RunFail}
use Rattle.dt_session.specs.declared.refusal.Refusal.{Refusal}

-- the line and the fault of a script whose reading has this fault; of want of memory nothing is told
abbrev pub IsRefusalOf : ParseFail → Refusal → Type 0
IsRefusalOf e x = (f : ScriptFault) × (e ≡ fail_of f) × (x ≡ record { line = line_of f; fault = script_fault f })

abbrev pub IsNoMemory : ExecFail → Type 0
IsNoMemory (NoMemory e) = Unit {0}
IsNoMemory _ = ⊥

-- no statement was done, and the fault's line was put, or a first part of it where that put failed
abbrev pub EndsWith : ScriptFault → Option (List ℕ) → Option (List ℕ) → RunFail → Type 0
EndsWith f b v r = (r.line ≡ line_of f) × (r.done ≡ 0) × IsStopped (line_of f) (script_fault f) b v r.cause

-- memory was wanting before there was a line to put
abbrev pub Untold : Option (List ℕ) → Option (List ℕ) → RunFail → Type 0
Untold b v r = IsNoMemory r.cause × (r.line ≡ 0) × (r.done ≡ 0) × (v ≡ b)

-- the fault that the reading was refused for, and no other
abbrev pub RefusalEnd : ParseFail → Option (List ℕ) → Option (List ℕ) → RunFail → Type 0
RefusalEnd e b v r = ((f : ScriptFault) × (e ≡ fail_of f) × EndsWith f b v r) ⊎ Untold b v r
