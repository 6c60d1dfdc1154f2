-- The number that the program ends with.
--   exit_number s    the number of the status s
use Rattle.std.specs.Prelude.{ℕ}
use Rattle.dt_run.specs.declared.status.Status.{Status}
use Rattle.dt_run.specs.declared.status.Status.TheVariants.{Done, Stopped, Usage, ReadFault, WriteFault, NoMemory}

-- 0 where the script ran to its end, and a number of its own for each other end
abbrev pub exit_number : Status → ℕ
exit_number Done = 0
exit_number Stopped = 1
exit_number Usage = 2
exit_number ReadFault = 3
exit_number WriteFault = 4
exit_number NoMemory = 5
