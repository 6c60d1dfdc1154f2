-- What reading a script answers.
--   Reads ts r            the tokens ts are the script r, or have their fault at the token r
--   IsOnlyReading s t     the bytes s are the script t, no other script, and have no fault
--   FailsAs s e           the bytes s have the fault e as their first, and are no script
--   fail_of f             how a fault is told: a syntax fault by its line and byte, others by their line
use Rattle.std.specs.Prelude.{◌≡◌, ℕ, List, None, Result, Ok, Err}
use Rattle.dt_tree.specs.declared.fault.ScriptFault.{ScriptFault}
use Rattle.dt_tree.specs.declared.fault.ScriptFault.TheVariants as fault
use Rattle.dt_tree.specs.declared.tree.Script.{Script}
use Rattle.run_model.specs.Grammar.{IsScript}
use Rattle.run_model.specs.GrammarTrees.{Token}
use Rattle.run_model.specs.Misplaced.{misplaced}
use Rattle.run_model.specs.Reading.{IsFaultAt, IsReadAs, IsRefused}
use Rattle.run_model.specs.TreeView.{script_of}
use Rattle.dt_script.specs.declared.bytes.ParseFail.{ParseFail}
use Rattle.dt_script.specs.declared.bytes.ParseFail.TheVariants as fail

-- the script that tokens are, or where their fault stands
abbrev pub Reads : List Token → Result Script ℕ → Type 0
Reads ts (Ok script) = IsScript ts (script_of script) × (misplaced ts (script_of script) ≡ None)
Reads ts (Err n) = IsFaultAt ts n

-- The bytes are this script, and nothing else.
pub record IsOnlyReading (s : List ℕ) (script : Script) : Type 0 where
  pub reading : IsReadAs s script
  pub only : (other : Script) → IsReadAs s other → script ≡ other
  pub no_fault : (f : ScriptFault) → ¬ IsRefused s f

-- how a fault is told
abbrev pub fail_of : ScriptFault → ParseFail
fail_of fault.NotUtf8 = fail.NotUtf8
fail_of (fault.Syntax p) = fail.Syntax p.line p.byte
fail_of (fault.Number p) = fail.Number p.line
fail_of (fault.TooDeep p) = fail.TooDeep p.line

-- The bytes have this fault as their first, and nothing else.
pub record IsOnlyFault (s : List ℕ) (e : ParseFail) : Type 0 where
  pub fault : ScriptFault
  pub refused : IsRefused s fault
  pub told : e ≡ fail_of fault
  pub only : (g : ScriptFault) → IsRefused s g → fault ≡ g
  pub no_script : (script : Script) → ¬ IsReadAs s script

-- Of memory nothing is said.
abbrev pub FailsAs : List ℕ → ParseFail → Type 0
FailsAs s (fail.NoMemory e) = Unit {0}
FailsAs s e = IsOnlyFault s e
