-- Why a table is not made.
--   IsMakeStop ns e r  r is the fault of a table of columns ns that is refused by e
use Rattle.std.specs.Prelude.{List, [], ℕ}
use Rattle.eval_fail.specs.Answers.{IsStop, IsNoMemory}
use Rattle.eval_fail.specs.declared.fail.EvalFail.{EvalFail}
use Rattle.dt_base.specs.Fault.{fault}
use Rattle.dt_base.specs.declared.fault.Code.TheVariants.{E07, E08, E09, E12}
use Rattle.dt_base.specs.declared.limits.TheConstants.{MAX_COLUMNS}
use Rattle.dt_model.specs.Table.{name_at}
use Rattle.dt_table.specs.declared.make.MakeFail.{MakeFail}
use Rattle.dt_table.specs.declared.make.MakeFail.TheVariants as refused
use Rattle.vector_model.specs.Faults.{number_fault}

-- the fault of a table of columns of these names that is refused so
abbrev pub IsMakeStop : List (List ℕ) → MakeFail → EvalFail → Type 0
IsMakeStop names (refused.Duplicate c) r = IsStop (fault E12 (name_at names c)) r
IsMakeStop names refused.TooManyRows r = IsStop (fault E07 []) r
IsMakeStop names refused.TooManyCells r = IsStop (fault E08 []) r
IsMakeStop names refused.TooManyColumns r = IsStop (number_fault E09 MAX_COLUMNS) r
IsMakeStop names (refused.NoMemory e) r = IsNoMemory r
