-- Faults that tell numbers, and the one of what is not served yet.
--   length_fault n m       a length n where m is wanted
--   number_fault code n    a fault that tells a number
--   unbuilt                the fault of a form of the language that nothing serves yet
use Rattle.std.specs.Prelude.{ℕ, [], codes}
use Rattle.dt_base.specs.declared.fault.Fault.{Fault}
use Rattle.dt_base.specs.declared.fault.Code.{Code}
use Rattle.dt_base.specs.declared.fault.Code.TheVariants.{E05, E19}
use Rattle.dt_base.specs.Fault.{fault}

-- a length where another is wanted
abbrev pub length_fault : ℕ → ℕ → Fault
length_fault n m = record { code = E05; what = []; n = n; m = m }

-- a fault that tells a number
abbrev pub number_fault : Code → ℕ → Fault
number_fault code n = record { code = code; what = []; n = n; m = 0 }

-- the fault of a form of the language that nothing serves yet
abbrev pub unbuilt : Fault
unbuilt = fault E19 (codes "unbuilt")
