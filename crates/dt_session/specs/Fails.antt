-- Why a statement is refused, by why one of its parts is.
--   of_value e     why its value was not given
--   of_write e     why its text was not put
use Rattle.dt_world.specs.declared.traits.WriteFail.{WriteFail}
use Rattle.dt_world.specs.declared.traits.WriteFail.TheVariants as write
use Rattle.file_value.specs.declared.fail.ValueFail.{ValueFail}
use Rattle.file_value.specs.declared.fail.ValueFail.TheVariants as value
use Rattle.dt_session.specs.declared.fail.ExecFail.{ExecFail}
use Rattle.dt_session.specs.declared.fail.ExecFail.TheVariants.{Stop, ReadFault, WriteFault, NoMemory}

-- why its value was not given
abbrev pub of_value : ValueFail → ExecFail
of_value (value.Stop f) = Stop f
of_value value.ReadFault = ReadFault
of_value (value.NoMemory e) = NoMemory e

-- why its text was not put
abbrev pub of_write : WriteFail → ExecFail
of_write write.Failed = WriteFault
of_write (write.NoMemory e) = NoMemory e
