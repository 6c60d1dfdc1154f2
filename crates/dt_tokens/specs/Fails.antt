-- When reading a script ends without tokens.
--   FailsAs script e     e is the script's first fault, or want of memory
use Rattle.std.specs.Prelude.{ℕ, List}
use Rattle.dt_tokens.specs.declared.reading.TokensFail.{TokensFail}
use Rattle.dt_tokens.specs.declared.reading.TokensFail.TheVariants as fail
use Rattle.run_model.specs.Tokens.{HasFault}

-- A fault is the script's first one. Of memory nothing is said.
abbrev pub FailsAs : List ℕ → TokensFail → Type 0
FailsAs script (fail.Fault f) = HasFault script f
FailsAs script (fail.NoMemory e) = Unit {0}
