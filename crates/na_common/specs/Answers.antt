-- What a call answers, beside its definition.
--   Answers view o r   the call's answer r is what the definition gives, o, or want of memory
--   vector_of c        the vector of a column
use Rattle.std.specs.Prelude.{◌≡◌, Result, Ok, Err}
use Rattle.dt_model.specs.Operations.{OpFault}
use Rattle.dt_model.specs.Operations as fault
use Rattle.dt_model.specs.Vector.{Vector}
use Rattle.na_vector.specs.Column.{Seen}
use Rattle.na_common.specs.declared.fail.OpFail.{OpFail}
use Rattle.na_common.specs.declared.fail.OpFail.TheVariants.{BadType, Length, Overflow, TooManyRows, NoMemory}

-- the answer, as `view` sees it, is the one of the definition, or want of memory
abbrev pub Answers : {A B : Type 0} → (B → A) → Result A OpFault → Result B OpFail → Type 0
Answers view o (Ok v) = o ≡ Ok (view v)
Answers view o (Err BadType) = o ≡ Err fault.BadType
Answers view o (Err (Length left right)) = o ≡ Err (fault.Length left right)
Answers view o (Err (Overflow place)) = o ≡ Err (fault.Overflow place)
Answers view o (Err TooManyRows) = o ≡ Err fault.TooManyRows
Answers view o (Err (NoMemory e)) = Unit {0}

abbrev pub IsNoMemory : OpFail → Type 0
IsNoMemory (NoMemory e) = Unit {0}
IsNoMemory _ = ⊥

abbrev pub vector_of : Seen → Vector
vector_of c = c.vector
