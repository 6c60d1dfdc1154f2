-- What a statement or a script that ended early leaves.
--   PartOf line o w v         v has a first part of what the statement on this line gives, after w
--   Refused line o w v e      what stands outside after a refusal e
--   PutsNothing w v e         after a fault or a failed read nothing stands outside that did not
--   CountsOwn reads writes e  of the counts of what failed, only the one that e answers may have risen
--   IsStopped line f e v r    the line of the fault f was put, or a first part of it
--   LineCause line o w v e    what stands outside after the statement on a line ended early
--   StmtsEnd xs s w now v r   how statements ended early
--   Blames held m l e         where files tell nothing, e blames a file only where m, or l, holds
--   IsOwn e                   a fault that blames no file that is read
--   ReadsAs bytes s w P       the bytes are evaluated to an end of which P holds
--   CutBefore xs j l s w now v  the run was cut off before statement j + 1, which stands on line l
--   IsCutBefore bytes ..      so it was in the script of these bytes
--   prepared_effect h p       the effect that was prepared, plainly, over the names and tables h
--   sent e lines              an effect's text and file, and these lines
--   EndsAs bytes s w now v r  how the script of these bytes ended early
use Rattle.std.specs.Prelude.{◌≡◌, ◌⊎◌, ℕ, zero, suc, List, [], ◌∷◌, Option, IsNone, false, Some, Ok, Err, option_map}
use Rattle.eval_fail.specs.Answers.{is_of_file}
use Rattle.dt_base.specs.declared.fault.Fault.{Fault}
use Rattle.dt_tree.specs.declared.tree.Script.{Script}
use Rattle.dt_tree.specs.declared.tree.Stmt.{Stmt}
use Rattle.dt_world.specs.Told.{FileMap, appended, AppendedPart}
use Rattle.file_value.specs.Answers.{cause_of}
use Rattle.run_model.specs.Messages.{printed_fault}
use Rattle.run_model.specs.Reading.{IsReadAs}
use Rattle.session_model.specs.Evaluation.{Step, End, Evaluates, IsCutOff, plain, Cut, goes_on_to, sends}
use Rattle.session_model.specs.Session.{SessionState}
use Rattle.session_model.specs.Statement.{step}
use Rattle.session_model.specs.World.{World, Pieces, Parted, after, pieces_of, fault_pieces, look}
use Rattle.session_model.specs.Effect as model
use Rattle.stmt_change.specs.Effects.{plain_file, plain_effect}
use Rattle.table_heap.specs.Seen.{HeapSeen}
use Rattle.dt_session.specs.declared.session.Prepared.{Prepared}
use Rattle.stmt_change.specs.declared.effect.Effect.{Effect}
use Rattle.dt_session.specs.declared.fail.ExecFail.{ExecFail}
use Rattle.dt_session.specs.declared.fail.ExecFail.TheVariants.{Stop, ReadFault, WriteFault, NoMemory}
use Rattle.dt_session.specs.declared.fail.RunFail.{RunFail}

-- a first part of an effect's text, file and warnings; of a fault nothing
abbrev pub PartOf : ℕ → Step → World → World → Type 0
PartOf line (Ok e) w v = Parted w (pieces_of line e) v
PartOf line (Err f) w v = v ≡ w

-- A fault is exactly the one of the definition, and nothing is put. After a failed put or write, or
-- want of memory, a first part stands.
abbrev pub Refused : ℕ → Step → World → World → ExecFail → Type 0
Refused line o w v (Stop f) = (o ≡ Err f) × (v ≡ w)
Refused line o w v ReadFault = v ≡ w
Refused line o w v WriteFault = PartOf line o w v
Refused line o w v (NoMemory e) = PartOf line o w v

-- after a fault or a failed read nothing stands outside that did not
abbrev pub PutsNothing : World → World → ExecFail → Type 0
PutsNothing w v (Stop f) = v ≡ w
PutsNothing w v ReadFault = v ≡ w
PutsNothing w v _ = Unit {0}

-- Only what is answered may have been counted: after a failed read the counts of failed puts and writes
-- stand, after a failed put or write that of failed reads, and after any other answer both. It holds also
-- where files and outputs tell nothing of what they hold.
abbrev pub CountsOwn : Type 0 → Type 0 → ExecFail → Type 0
CountsOwn reads writes (Stop f) = reads × writes
CountsOwn reads writes ReadFault = writes
CountsOwn reads writes WriteFault = reads
CountsOwn reads writes (NoMemory e) = reads × writes

-- the bytes are evaluated to an end of which this holds
abbrev pub ReadsAs : List ℕ → SessionState → World → (End → Type 0) → Type 0
ReadsAs bytes s w P = (e : End) × Evaluates bytes s w e × P e

-- the end with a fault, which leaves this state and world
abbrev pub stopped_at : SessionState → World → RunFail → (ExecFail → End → Type 0)
stopped_at now v r (Stop f) e = e ≡ record { state = now; world = v; done = r.done; fault = Some (r.line, f) }
stopped_at now v r _ e = ⊥

-- The state and the world are those after j statements; the next one stands on this line, and has put
-- nothing.
abbrev pub CutBefore : List Stmt → ℕ → ℕ → SessionState → World → SessionState → World → Type 0
CutBefore [] j line s w now v = ⊥
CutBefore (x ∷ xs) zero line s w now v = (line ≡ x.line) × (now ≡ s) × (v ≡ w)
CutBefore (x ∷ xs) (suc j) line s w now v =
    goes_on_to x.line (step (look w.files) s x) (λ t u. CutBefore xs j line t u now v) s w

-- The bytes are a script, of which j statements were done, and of the next one nothing.
abbrev pub IsCutBefore : List ℕ → SessionState → World → ℕ → ℕ → SessionState → World → Type 0
IsCutBefore bytes s w j line now v = (t : Script) × IsReadAs bytes t × CutBefore t.stmts j line s w now v

-- A fault is the one of the plain evaluation, whose end this is. After a failed read the run was cut off
-- before a statement; after a failed put or write, or want of memory, in one; or memory was wanting before
-- anything was read.
abbrev pub EndCause : List ℕ → SessionState → World → SessionState → World → RunFail → ExecFail → Type 0
EndCause bytes s w now v r (Stop f) = ReadsAs bytes s w (stopped_at now v r (Stop f))
EndCause bytes s w now v r ReadFault = IsCutBefore bytes s w r.done r.line now v
EndCause bytes s w now v r WriteFault = IsCutOff bytes s w r.done r.line now v
EndCause bytes s w now v r (NoMemory e) =
    IsCutOff bytes s w r.done r.line now v ⊎ ((r.done ≡ 0) × (r.line ≡ 0) × (now ≡ s) × (v ≡ w))

abbrev pub EndsAs : List ℕ → SessionState → World → SessionState → World → RunFail → Type 0
EndsAs bytes s w now v r = EndCause bytes s w now v r r.cause

-- an effect's text and file, and these lines
abbrev pub sent : Effect → List ℕ → Pieces
sent e lines = record { text = e.text.items; file = option_map plain_file e.file; lines = lines }

-- the effect that was prepared, plainly
abbrev pub prepared_effect : HeapSeen → Prepared → model.Effect
prepared_effect h p = plain_effect h p.effect

-- The line of the fault was put. Where that put failed a first part of it was, and where memory was
-- wanting nothing.
abbrev pub IsStopped : ℕ → Fault → Option (List ℕ) → Option (List ℕ) → ExecFail → Type 0
IsStopped line f e v (Stop g) = (g ≡ f) × (v ≡ appended e (printed_fault line f))
IsStopped line f e v ReadFault = ⊥
IsStopped line f e v WriteFault = AppendedPart e v (printed_fault line f)
IsStopped line f e v (NoMemory x) = v ≡ e

-- A fault is the one of the definition, and its line is put. After a failed read nothing is. Else a
-- first part stands of what the statement sends, its fault's line included.
abbrev pub LineCause : ℕ → Step → World → World → ExecFail → Type 0
LineCause line o w v (Stop f) = (o ≡ Err f) × (v ≡ after w (fault_pieces line f))
LineCause line o w v ReadFault = v ≡ w
LineCause line o w v WriteFault = Parted w (sends line o) v
LineCause line o w v (NoMemory e) = Parted w (sends line o) v

-- statements ended early: with the fault of the plain evaluation, or cut off
abbrev pub StmtsCause : List Stmt → SessionState → World → SessionState → World → RunFail → ExecFail → Type 0
StmtsCause xs s w now v r (Stop f) =
    plain xs s w 0 ≡ record { state = now; world = v; done = r.done; fault = Some (r.line, f) }
StmtsCause xs s w now v r ReadFault = CutBefore xs r.done r.line s w now v
StmtsCause xs s w now v r WriteFault = Cut xs r.done r.line s w now v
StmtsCause xs s w now v r (NoMemory e) = Cut xs r.done r.line s w now v

abbrev pub StmtsEnd : List Stmt → SessionState → World → SessionState → World → RunFail → Type 0
StmtsEnd xs s w now v r = StmtsCause xs s w now v r r.cause

-- Where files tell nothing, a file is told as absent, or as too long, only where that was so.
abbrev pub Blames : Option FileMap → Type 0 → Type 0 → ExecFail → Type 0
Blames held miss long (Stop f) = IsNone held → cause_of f.code miss long
Blames held miss long _ = Unit {0}

-- the fault, if it is one, blames no file that is read
abbrev pub IsOwn : ExecFail → Type 0
IsOwn (Stop f) = is_of_file f.code ≡ false
IsOwn _ = Unit {0}
