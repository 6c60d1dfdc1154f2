-- What a call that reads files does to them, and what its answer blames on them.
--   FilesSeen           the files, where they are told, and the four counts of what went wrong
--   files_seen ..       the same of files of any kind
--   NoReadFailed r      the answer r is no failed read
--   OnlyReads see o n r   a call that answers r made of the files o the files n: it changed no file,
--                       its answer blames a file only where that was counted, and a failed read is
--                       counted only where it is the answer
--   unread r            the answer r of a call that reads none
use Rattle.std.specs.Prelude.{◌≡◌, ◌≤◌, ℕ, Option, Result, Ok, Err, IfErr, IsErrOf}
use Rattle.eval_fail.specs.declared.fail.EvalFail.{EvalFail}
use Rattle.dt_world.specs.Causes.{Rose}
use Rattle.dt_world.specs.Told.{FileMap}
use Rattle.file_value.specs.Answers.{Blames}
use Rattle.file_value.specs.Fails.{widened}
use Rattle.file_value.specs.declared.fail.ValueFail.{ValueFail}
use Rattle.file_value.specs.declared.fail.ValueFail.TheVariants.{Stop, ReadFault, NoMemory}

-- the files, where they are told, and how often what went wrong
pub record FilesSeen : Type 0 where
  pub held : Option FileMap
  pub read_faults : ℕ
  pub misses : ℕ
  pub longs : ℕ
  pub write_faults : ℕ

-- the same of files of any kind, by what their trait tells of them
abbrev pub files_seen : {F : Type 0} → (F → Option FileMap) → (F → ℕ) → (F → ℕ) → (F → ℕ) → (F → ℕ) → F → FilesSeen
files_seen held read_faults misses longs write_faults files = record {
  held = held files;
  read_faults = read_faults files;
  misses = misses files;
  longs = longs files;
  write_faults = write_faults files;
}

-- the answer is no failed read
abbrev pub NoReadFailed : {B : Type 0} → Result B ValueFail → Type 0
NoReadFailed (Ok x) = Unit {0}
NoReadFailed (Err (Stop f)) = Unit {0}
NoReadFailed (Err ReadFault) = ⊥
NoReadFailed (Err (NoMemory e)) = Unit {0}

-- No file is changed and no count falls. A read that failed was counted, and no other answer counts one;
-- where files tell nothing an absent file and one that is too long were counted.
pub record OnlyReads {F B : Type 0} (see : F → FilesSeen) (old new : F) (answer : Result B ValueFail) : Type 0 where
  pub held : (see new).held ≡ (see old).held
  pub failed : IsErrOf answer ReadFault → Rose (see old).read_faults (see new).read_faults
  pub quiet : NoReadFailed answer → (see new).read_faults ≡ (see old).read_faults
  pub read_faults : (see old).read_faults ≤ (see new).read_faults
  pub misses : (see old).misses ≤ (see new).misses
  pub longs : (see old).longs ≤ (see new).longs
  pub write_faults : (see new).write_faults ≡ (see old).write_faults
  pub cause : IfErr answer (Blames (see old).held (Rose (see old).misses (see new).misses) (Rose (see old).longs (see new).longs))

-- the answer of a call that reads no file, as one of a call that may
abbrev pub unread : {B : Type 0} → Result B EvalFail → Result B ValueFail
unread (Ok x) = Ok x
unread (Err e) = Err (widened e)
