-- What the program gives for its words and the files.
--   usage_line, usage          the line that tells how the program is called
--   script_bytes files name    the bytes of the script of this name, or why it is not read
--   Runs bytes w s v           the script of these bytes runs to an end of this status
--   Checks bytes w s v         the script of these bytes is only read
--   ScriptEnds, FileEnds       either of the two; of bytes, or of a script that may not be there
--   Whole files words w s v    the plain evaluation of the words: it has this status
--   RunCut, CheckCut, ScriptCut, FileCut, CutOff
--                              the same where a put or a write failed, or memory was wanting
--   RunBefore, ScriptBefore, AskedBefore, CutBefore
--                              the same where a read failed
--   Answers ends cut before v s  which of the three a status tells
--   ScriptAnswers, FileAnswers, AskedAnswers
--                              the same of a script's bytes, of a script, of what is asked for
--   Headline held words w v s  the theorem on `run`
--   IsByWords words s          usage is told exactly by the words
--   StopsWith held b v m l     a fault is told on `err`, which held b; where the files tell nothing, it
--                              tells a file as absent, or too long, only where m, or l, holds
-- In each but the last w is the world before, and v the one that is left, and the files are told
-- wherever these speak.
use Rattle.std.specs.Prelude.{◌≡◌, ◌⊎◌, ℕ, Bool, true, false, List, [], Option, None, Some, IsNone}
use Rattle.std.specs.Prelude.{Result, Ok, Err, codes}
use Rattle.std.specs.Option.{is_some}
use Rattle.std.specs.FinMap as finite
use Rattle.dt_base.specs.declared.fault.Fault.{Fault}
use Rattle.dt_base.specs.declared.limits.TheConstants.{MAX_SCRIPT_BYTES}
use Rattle.dt_session.specs.Answers.{IsCutBefore}
use Rattle.dt_session.specs.Lines.{EndsInFault}
use Rattle.dt_tree.specs.declared.fault.ScriptFault.{ScriptFault}
use Rattle.dt_tree.specs.declared.tree.Script.{Script}
use Rattle.dt_world.specs.Told.{FileMap}
use Rattle.run_model.specs.Reading.{IsReadAs, IsRefused}
use Rattle.session_model.specs.Evaluation.{End, Evaluates, IsCutOff, line_of, script_fault}
use Rattle.session_model.specs.Session.{SessionState, empty_session}
use Rattle.session_model.specs.Value.{file_bytes}
use Rattle.session_model.specs.World.{World, Pieces, Parted, after, fault_pieces}
use Rattle.file_value.specs.Answers.{cause_of}
use Rattle.dt_run.specs.Words.{Asked, asked}
use Rattle.dt_run.specs.declared.status.Status.{Status}
use Rattle.dt_run.specs.declared.status.Status.TheVariants.{Done, Stopped, Usage, ReadFault, WriteFault, NoMemory}

-- how the program is called
abbrev pub usage_line : List ℕ
usage_line = codes "usage: dtq [--check] SCRIPT | dtq --gen N\n"

-- a line for `err`, and nothing else
abbrev pub on_err : List ℕ → Pieces
on_err line = record { text = []; file = None; lines = line }

abbrev pub usage : Pieces
usage = on_err usage_line

-- the bytes of a script, at most 1,048,576
abbrev pub script_bytes : FileMap → List ℕ → Result (List ℕ) Fault
script_bytes files name = file_bytes MAX_SCRIPT_BYTES name (finite.get files name)

-- a script that ended with a fault stopped
abbrev pub status_of : Option (ℕ × Fault) → Status
status_of None = Done
status_of (Some f) = Stopped

-- The script of these bytes is evaluated from an empty session, to an end of this status and this
-- world.
abbrev pub Runs : List ℕ → World → Status → World → Type 0
Runs bytes w s v = (e : End) × Evaluates bytes empty_session w e × (s ≡ status_of e.fault) × (v ≡ e.world)

-- The bytes are a script, and nothing is put; or their first fault is told.
pub data Checks (bytes : List ℕ) (w : World) (s : Status) (v : World) : Type 0 where
  reads : (t : Script) → IsReadAs bytes t → s ≡ Done → v ≡ w → Checks bytes w s v
  refuses :
      (f : ScriptFault) → IsRefused bytes f → s ≡ Stopped →
      v ≡ after w (fault_pieces (line_of f) (script_fault f)) →
      Checks bytes w s v

-- the script of these bytes is only read, or run
abbrev pub ScriptEnds : Bool → List ℕ → World → Status → World → Type 0
ScriptEnds true = Checks
ScriptEnds false = Runs

-- a script that is not read has its fault at line 0
abbrev pub FileEnds : Bool → Result (List ℕ) Fault → World → Status → World → Type 0
FileEnds check (Ok bytes) w s v = ScriptEnds check bytes w s v
FileEnds check (Err f) w s v = (s ≡ Stopped) × (v ≡ after w (fault_pieces 0 f))

-- where nothing is asked for, the usage is told
abbrev pub AskedEnds : FileMap → Option Asked → World → Status → World → Type 0
AskedEnds files None w s v = (s ≡ Usage) × (v ≡ after w usage)
AskedEnds files (Some a) w s v = FileEnds a.is_check (script_bytes files a.script) w s v

-- the plain evaluation of the words
abbrev pub Whole : FileMap → List (List ℕ) → World → Status → World → Type 0
Whole files words = AskedEnds files (asked words)

-- For one j the first j statements were done, and a first part of the next one; or nothing was.
abbrev pub RunCut : List ℕ → World → World → Type 0
RunCut bytes w v =
    (v ≡ w) ⊎ ((j : ℕ) × (line : ℕ) × (now : SessionState) × IsCutOff bytes empty_session w j line now v)

-- a first part of the fault's line was put; or nothing was
abbrev pub CheckCut : List ℕ → World → World → Type 0
CheckCut bytes w v =
    (v ≡ w) ⊎ ((f : ScriptFault) × IsRefused bytes f × Parted w (fault_pieces (line_of f) (script_fault f)) v)

abbrev pub ScriptCut : Bool → List ℕ → World → World → Type 0
ScriptCut true = CheckCut
ScriptCut false = RunCut

abbrev pub FileCut : Bool → Result (List ℕ) Fault → World → World → Type 0
FileCut check (Ok bytes) w v = ScriptCut check bytes w v
FileCut check (Err f) w v = Parted w (fault_pieces 0 f) v

abbrev pub AskedCut : FileMap → Option Asked → World → World → Type 0
AskedCut files None w v = Parted w usage v
AskedCut files (Some a) w v = FileCut a.is_check (script_bytes files a.script) w v

-- what stands where a put or a write failed, or memory was wanting
abbrev pub CutOff : FileMap → List (List ℕ) → World → World → Type 0
CutOff files words = AskedCut files (asked words)

-- For one j the first j statements were done, and of the next one nothing.
abbrev pub RunBefore : List ℕ → World → World → Type 0
RunBefore bytes w v =
    (j : ℕ) × (line : ℕ) × (now : SessionState) × IsCutBefore bytes empty_session w j line now v

-- a script that is only read reads nothing else
abbrev pub ScriptBefore : Bool → List ℕ → World → World → Type 0
ScriptBefore true bytes w v = ⊥
ScriptBefore false bytes w v = RunBefore bytes w v

abbrev pub FileBefore : Bool → Result (List ℕ) Fault → World → World → Type 0
FileBefore check (Ok bytes) w v = ScriptBefore check bytes w v
FileBefore check (Err f) w v = ⊥

-- the read of the script failed, and nothing was put; or one of its statements'
abbrev pub AskedBefore : FileMap → Option Asked → World → World → Type 0
AskedBefore files None w v = ⊥
AskedBefore files (Some a) w v = (v ≡ w) ⊎ FileBefore a.is_check (script_bytes files a.script) w v

-- what stands where a read failed
abbrev pub CutBefore : FileMap → List (List ℕ) → World → World → Type 0
CutBefore files words = AskedBefore files (asked words)

-- A run that ended by itself ended so, one in which a read failed has put nothing of the statement that
-- read, and one that was cut off otherwise left this.
abbrev pub Answers : (Status → World → Type 0) → (World → Type 0) → (World → Type 0) → World → Status → Type 0
Answers ends cut before v Done = ends Done v
Answers ends cut before v Stopped = ends Stopped v
Answers ends cut before v Usage = ends Usage v
Answers ends cut before v ReadFault = before v
Answers ends cut before v WriteFault = cut v
Answers ends cut before v NoMemory = cut v

-- the same of the script of these bytes, of a script that may not be there, and of what is asked for
abbrev pub ScriptAnswers : Bool → List ℕ → World → World → Status → Type 0
ScriptAnswers check bytes w =
    Answers (ScriptEnds check bytes w) (ScriptCut check bytes w) (ScriptBefore check bytes w)

abbrev pub FileAnswers : Bool → Result (List ℕ) Fault → World → World → Status → Type 0
FileAnswers check o w = Answers (FileEnds check o w) (FileCut check o w) (FileBefore check o w)

abbrev pub AskedAnswers : FileMap → Option Asked → World → World → Status → Type 0
AskedAnswers files asked w = Answers (AskedEnds files asked w) (AskedCut files asked w) (AskedBefore files asked w)

-- where the files tell, the fact holds of them
abbrev pub Told : Option FileMap → (FileMap → Type 0) → Type 0
Told None P = Unit {0}
Told (Some files) P = P files

-- the theorem on `run`, at every list of words
abbrev pub Headline : Option FileMap → List (List ℕ) → World → World → Status → Type 0
Headline held words w v s =
    Told held (λ files. Answers (Whole files words w) (CutOff files words w) (CutBefore files words w) v s)

-- The usage is told only where the words ask for nothing, and where they do nothing else is, unless
-- `err` failed or memory was wanting.
abbrev pub NeedsScript : Status → Bool → Type 0
NeedsScript Done b = b ≡ true
NeedsScript Stopped b = b ≡ true
NeedsScript Usage b = b ≡ false
NeedsScript ReadFault b = b ≡ true
NeedsScript WriteFault b = Unit {0}
NeedsScript NoMemory b = Unit {0}

abbrev pub IsByWords : List (List ℕ) → Status → Type 0
IsByWords words s = NeedsScript s (is_some (asked words))

-- What came on `err` after b is lines of warnings, and then the line of one fault: where `err` tells its
-- bytes, they tell that line and the fault's code. Where the files tell nothing, that fault tells a file as
-- absent, or as too long, only where that was so.
pub record StopsWith (held : Option FileMap) (b v : Option (List ℕ)) (miss long : Type 0) : Type 0 where
  pub line : ℕ
  pub fault : Fault
  pub told : EndsInFault b v line fault
  pub cause : IsNone held → cause_of fault.code miss long
