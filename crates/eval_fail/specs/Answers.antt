-- The answer of a call against its definition.
--   AnswersAs view o r   r is the answer of o, as view sees it, or want of memory
--   Answers o r          r is the answer of o, or want of memory
--   IsStop f e           e is the fault f, or want of memory
--   is_of_file c         a fault of this code blames a file that is read: absent, or too long
--   IsOwn e              e blames no such file
--   IsNoMemory e         e is want of memory
use Rattle.std.specs.Prelude.{◌≡◌, Bool, true, false, Result, Ok, Err}
use Rattle.dt_base.specs.declared.fault.Code.{Code}
use Rattle.dt_base.specs.declared.fault.Code.TheVariants.{E15, E16}
use Rattle.dt_base.specs.declared.fault.Fault.{Fault}
use Rattle.eval_fail.specs.declared.fail.EvalFail.{EvalFail}
use Rattle.eval_fail.specs.declared.fail.EvalFail.TheVariants.{Stop, NoMemory}

-- the answer, as `view` sees it, is the one of the definition, or want of memory
abbrev pub AnswersAs : {A B : Type 0} → (B → A) → Result A Fault → Result B EvalFail → Type 0
AnswersAs view o (Ok t) = o ≡ Ok (view t)
AnswersAs view o (Err (Stop f)) = o ≡ Err f
AnswersAs view o (Err (NoMemory e)) = Unit {0}

abbrev pub Answers : {A : Type 0} → Result A Fault → Result A EvalFail → Type 0
Answers o r = AnswersAs (λ x. x) o r

-- the fault, or want of memory for its text
abbrev pub IsStop : Fault → EvalFail → Type 0
IsStop g (Stop f) = g ≡ f
IsStop g (NoMemory e) = Unit {0}

-- a fault of this code blames a file that is read: it is absent, or too long
abbrev pub is_of_file : Code → Bool
is_of_file E15 = true
is_of_file E16 = true
is_of_file _ = false

-- the fault, if it is one, blames no file that is read
abbrev pub IsOwn : EvalFail → Type 0
IsOwn (Stop f) = is_of_file f.code ≡ false
IsOwn (NoMemory e) = Unit {0}

-- it is want of memory
abbrev pub IsNoMemory : EvalFail → Type 0
IsNoMemory (Stop f) = ⊥
IsNoMemory (NoMemory e) = Unit {0}
