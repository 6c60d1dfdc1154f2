-- The answer of a call that may read files, against its definition.
--   Gives view o r     r is the answer of o, as view sees it, or a failed read, or want of memory
--   IsStop f e         e is the fault f, or want of memory
--   Blames held m l e  where files tell nothing, e blames a file only where m, or l, holds
use Rattle.std.specs.Prelude.{◌≡◌, Option, IsNone, Result, Ok, Err}
use Rattle.dt_base.specs.declared.fault.Code.{Code}
use Rattle.dt_base.specs.declared.fault.Code.TheVariants.{E15, E16}
use Rattle.dt_world.specs.Told.{FileMap}
use Rattle.dt_base.specs.declared.fault.Fault.{Fault}
use Rattle.file_value.specs.declared.fail.ValueFail.{ValueFail}
use Rattle.file_value.specs.declared.fail.ValueFail.TheVariants.{Stop, ReadFault, NoMemory}

-- the answer, as `view` sees it, is the one of the definition; a failed read and want of memory may
-- come in its place
abbrev pub Gives : {A B : Type 0} → (B → A) → Result A Fault → Result B ValueFail → Type 0
Gives view o (Ok x) = o ≡ Ok (view x)
Gives view o (Err (Stop f)) = o ≡ Err f
Gives view o (Err ReadFault) = Unit {0}
Gives view o (Err (NoMemory e)) = Unit {0}

-- the fault, or want of memory for its text
abbrev pub IsStop : Fault → ValueFail → Type 0
IsStop g (Stop f) = g ≡ f
IsStop g ReadFault = ⊥
IsStop g (NoMemory e) = Unit {0}

-- an absent file has one cause, and one that is too long another
abbrev pub cause_of : Code → Type 0 → Type 0 → Type 0
cause_of E15 miss long = miss
cause_of E16 miss long = long
cause_of _ miss long = Unit {0}

-- Where files tell nothing, a file is told as absent, or as too long, only where that was so.
abbrev pub Blames : Option FileMap → Type 0 → Type 0 → ValueFail → Type 0
Blames held miss long (Stop f) = IsNone held → cause_of f.code miss long
Blames held miss long ReadFault = Unit {0}
Blames held miss long (NoMemory e) = Unit {0}
