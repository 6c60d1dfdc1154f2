-- The number that the program ends with, by the arguments of its process.
--   words_behind all   the words after the program's name, which is the first argument
--   wordless k         the status of a run whose arguments could not be had
--   IsNumberOf P n     n is the number of a status that P holds of
use Rattle.std.specs.Prelude.{◌≡◌, ℕ, List, drop}
use Rattle.std.specs.declared.io.ErrorKind.{ErrorKind}
use Rattle.std.specs.declared.io.ErrorKind.TheVariants.{OutOfMemory}
use Rattle.dt_run.specs.Exit.{exit_number}
use Rattle.dt_run.specs.declared.status.Status.{Status}
use Rattle.dt_run.specs.declared.status.Status.TheVariants.{ReadFault, NoMemory}

-- the words after the program's name
abbrev pub words_behind : List (List ℕ) → List (List ℕ)
words_behind all = drop 1 all

-- A run whose arguments could not be had ends as one that lacks memory, where that was why, and else
-- as after a failed read.
abbrev pub wordless : ErrorKind → Status
wordless OutOfMemory = NoMemory
wordless _ = ReadFault

-- the number of a status that this holds of
abbrev pub IsNumberOf : (Status → Type 0) → ℕ → Type 0
IsNumberOf P n = (s : Status) × (n ≡ exit_number s) × P s
