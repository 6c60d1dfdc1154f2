-- Why a value is not given, where no file is read.
--   widened e          the same of a call that may read files
--   IsFileStop e r      r is the fault of a file that is refused by e
use Rattle.eval_fail.specs.declared.fail.EvalFail.{EvalFail}
use Rattle.eval_fail.specs.declared.fail.EvalFail.TheVariants as eval
use Rattle.std.specs.Prelude.{[]}
use Rattle.eval_fail.specs.Answers.{IsStop, IsNoMemory}
use Rattle.dt_base.specs.Fault.{fault}
use Rattle.dt_base.specs.declared.fault.Code.TheVariants.{E07, E09, E17, E18}
use Rattle.csv_edge.specs.declared.fail.CsvFail.{CsvFail}
use Rattle.csv_edge.specs.declared.fail.CsvFail.TheVariants as file
use Rattle.dt_base.specs.declared.limits.TheConstants.{MAX_COLUMNS}
use Rattle.vector_model.specs.Faults.{number_fault}
use Rattle.file_value.specs.declared.fail.ValueFail.{ValueFail}
use Rattle.file_value.specs.declared.fail.ValueFail.TheVariants.{Stop, NoMemory}

-- the same of a call that may read files
abbrev pub widened : EvalFail → ValueFail
widened (eval.Stop f) = Stop f
widened (eval.NoMemory e) = NoMemory e

-- the fault of a file that is refused so
abbrev pub IsFileStop : CsvFail → EvalFail → Type 0
IsFileStop (file.Ragged at) r = IsStop (number_fault E17 at) r
IsFileStop (file.NotUtf8 at) r = IsStop (number_fault E18 at) r
IsFileStop file.TooManyColumns r = IsStop (number_fault E09 MAX_COLUMNS) r
IsFileStop file.TooManyRows r = IsStop (fault E07 []) r
IsFileStop (file.NoMemory e) r = IsNoMemory r
