-- Operations that are refused.
--   Refuses w fail e   e is the fault of this refusal, told with the word w, or want of memory
use Rattle.std.specs.Prelude.{ℕ, List, []}
use Rattle.eval_fail.specs.Answers.{IsStop, IsNoMemory}
use Rattle.eval_fail.specs.declared.fail.EvalFail.{EvalFail}
use Rattle.dt_base.specs.declared.fault.Code.TheVariants.{E04, E06, E07}
use Rattle.dt_base.specs.Fault.{fault}
use Rattle.vector_model.specs.Faults.{length_fault}
use Rattle.na_common.specs.declared.fail.OpFail.{OpFail}
use Rattle.na_common.specs.declared.fail.OpFail.TheVariants.{BadType, Length, Overflow, TooManyRows, NoMemory}

-- the fault of a refusal
abbrev pub Refuses : List ℕ → OpFail → EvalFail → Type 0
Refuses w BadType e = IsStop (fault E04 w) e
Refuses w (Length left right) e = IsStop (length_fault right left) e
Refuses w (Overflow place) e = IsStop (fault E06 w) e
Refuses w TooManyRows e = IsStop (fault E07 []) e
Refuses w (NoMemory x) e = IsNoMemory e
