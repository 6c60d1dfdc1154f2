-- `c` of any number of vectors.
--   joined vs           all their cells in the common type, or the fault that they are too many
use Rattle.std.specs.Prelude.{nat_lt, if◌then◌else◌, List, [], Result, Ok, Err}
use Rattle.dt_base.specs.declared.fault.Fault.{Fault}
use Rattle.dt_base.specs.declared.fault.Code.TheVariants.{E07}
use Rattle.dt_base.specs.Fault.{fault}
use Rattle.dt_base.specs.declared.limits.TheConstants.{MAX_ROWS}
use Rattle.dt_model.specs.Combine.{in_a_row, total_length}
use Rattle.dt_model.specs.Vector.{Vector}

-- all cells in the common type; more than 16,777,216 are a fault
abbrev pub joined : List Vector → Result Vector Fault
joined vs = if nat_lt MAX_ROWS (total_length vs) then Err (fault E07 []) else Ok (in_a_row vs)
