-- Faults.
--   fault code what     the fault that tells a name and no numbers
use Rattle.std.specs.Prelude.{ℕ, List}
use Rattle.dt_base.specs.declared.fault.Fault.{Fault}
use Rattle.dt_base.specs.declared.fault.Code.{Code}

-- a fault that tells a name and no numbers
abbrev pub fault : Code → List ℕ → Fault
fault code what = record { code = code; what = what; n = 0; m = 0 }
