-- What running statements promises, by the session and what stood outside before, and what stands now.
--   step_in x s w               what the definition says that the statement x does
--   caused r                    why a script ended early, as why its last statement did
--   IsCounted w v r             of the counts only those rose that the answer r tells of
--   IsExec x s t w v r          `exec` answers r for the statement x
--   IsLine x s t w v r          the same, where the line of its fault is put too
--   AreStmts xs s t w v r       the statements xs were run one after another
--   IsScriptRun bytes s t w v r `run_script` answers r for these bytes
-- In each s is the session before and t the one after it, and w and v are what stands outside.
use Rattle.std.specs.Prelude.{◌≡◌, ℕ, List, Result, Ok, Err, IfErr, OnOk, OnErr, IsErrOf}
use Rattle.dt_tree.specs.declared.tree.Stmt.{Stmt}
use Rattle.session_model.specs.Evaluation.{Step, Did, IsEnd, plain}
use Rattle.session_model.specs.Statement.{step}
use Rattle.session_model.specs.World.{look}
use Rattle.table_heap.specs.Changes.{HoldsSame}
use Rattle.dt_session.specs.Answers.{Refused, PutsNothing, CountsOwn, Blames, LineCause, StmtsEnd, ReadsAs, EndsAs}
use Rattle.dt_session.specs.Lines.{WarnedAt, FaultPut, TellsFault}
use Rattle.dt_session.specs.Outside.{Outside, world_of, Tells, ReadRose, WriteRose, MissRose, LongRose}
use Rattle.dt_session.specs.Outside.{ReadsStand, WritesStand, NoneFell, StaysTold}
use Rattle.dt_session.specs.Session.{SessionSeen, state_of}
use Rattle.dt_session.specs.declared.fail.ExecFail.{ExecFail}
use Rattle.dt_session.specs.declared.fail.ExecFail.TheVariants.{ReadFault, WriteFault}
use Rattle.dt_session.specs.declared.fail.RunFail.{RunFail}

-- what the definition says of the statement, over the state and the files before it
abbrev pub step_in : Stmt → SessionSeen → Outside → Step
step_in x s w = step (look w.files.held) (state_of s) x

-- done, or why it ended early
abbrev pub Ended : Type 0
Ended = Result (Unit {0}) ExecFail

-- the same of statements one after another, with the line of the one that was refused
abbrev pub ScriptEnded : Type 0
ScriptEnded = Result (Unit {0}) RunFail

-- the same by the cause alone for which they ended early
abbrev pub caused : ScriptEnded → Ended
caused (Ok x) = Ok x
caused (Err r) = Err r.cause

-- What a call that answers r made of the counts, whether or not anything outside tells what it holds.
pub record IsCounted (w v : Outside) (r : Ended) : Type 0 where
  -- whether the files tell stays as it was
  pub stays : StaysTold w v
  -- no count fell
  pub none_fell : NoneFell w v
  -- where all was done, no failed read, put or write was counted
  pub ok_quiet : OnOk r (ReadsStand w v × WritesStand w v)
  -- else only what is answered may have been counted
  pub quiet : IfErr r (CountsOwn (ReadsStand w v) (WritesStand w v))
  -- a failed read is answered only where one was counted
  pub read : IsErrOf r ReadFault → ReadRose w v
  -- a failed put or write is answered only where one was counted
  pub write : IsErrOf r WriteFault → WriteRose w v
  -- where files tell nothing, a fault blames a file as absent or too long only where that was counted
  pub cause : IfErr r (Blames w.files.held (MissRose w v) (LongRose w v))

-- One statement, whose fault's line is not put yet.
pub record IsExec (x : Stmt) (s t : SessionSeen) (w v : Outside) (r : Ended) : Type 0 where
  -- where files tell and it is done: the state and what stands outside are those of the definition
  pub done : Tells w → OnOk r (Did x.line (step_in x s w) (state_of s) (state_of t) (world_of w) (world_of v))
  -- where files tell and it is refused: its fault is that of the definition, and what was put a first part
  pub refused : Tells w → IfErr r (Refused x.line (step_in x s w) (world_of w) (world_of v))
  -- after a refusal names and tables are as they were, but for spare room
  pub same : OnErr r (HoldsSame s.heap t.heap)
  -- and so are the options
  pub options : OnErr r (t.options ≡ s.options)
  -- after a fault or a failed read nothing was put or written
  pub nothing : IfErr r (PutsNothing (world_of w) (world_of v))
  -- where it is done, the lines of its warnings were put
  pub warned : OnOk r (WarnedAt x.line w.err.bytes v.err.bytes)
  -- what went wrong outside was counted, and nothing else
  pub counted : IsCounted w v r

-- One statement, and the line of its fault.
pub record IsLine (x : Stmt) (s t : SessionSeen) (w v : Outside) (r : Ended) : Type 0 where
  -- where files tell and it is done: the state and what stands outside are those of the definition
  pub done : Tells w → OnOk r (Did x.line (step_in x s w) (state_of s) (state_of t) (world_of w) (world_of v))
  -- where files tell and it is refused: its fault is that of the definition, and its line was put
  pub fails : Tells w → IfErr r (LineCause x.line (step_in x s w) (world_of w) (world_of v))
  -- after a refusal the session is as it was, but for spare room
  pub same : OnErr r (HoldsSame s.heap t.heap)
  pub options : OnErr r (t.options ≡ s.options)
  -- where it is done, the lines of its warnings were put
  pub warned : OnOk r (WarnedAt x.line w.err.bytes v.err.bytes)
  -- after a fault its line was put, and no warning
  pub put : IfErr r (FaultPut x.line w.err.bytes v.err.bytes)
  -- what went wrong outside was counted, and nothing else
  pub counted : IsCounted w v r

-- Statements one after another, until the first that is refused.
pub record AreStmts (xs : List Stmt) (s t : SessionSeen) (w v : Outside) (r : ScriptEnded) : Type 0 where
  -- where files tell and all are done: the plain evaluation ends without a fault, with this state and world
  pub done : Tells w → OnOk r (IsEnd (plain xs (state_of s) (world_of w) 0) (state_of t) (world_of v))
  -- where files tell and one is refused: it ends with this fault, or the run was cut off so
  pub ends : Tells w → IfErr r (StmtsEnd xs (state_of s) (world_of w) (state_of t) (world_of v))
  -- after a fault the lines of warnings stand on the other output, and then the fault's line
  pub put : IfErr r (λ e. TellsFault e.line w.err.bytes v.err.bytes e.cause)
  -- what went wrong outside was counted, and nothing else
  pub counted : IsCounted w v (caused r)

-- A whole script.
pub record IsScriptRun (bytes : List ℕ) (s t : SessionSeen) (w v : Outside) (r : ScriptEnded) : Type 0 where
  -- where files tell and all is done: the bytes are evaluated to an end without a fault, and this is left
  pub done : Tells w → OnOk r (ReadsAs bytes (state_of s) (world_of w) (λ e. IsEnd e (state_of t) (world_of v)))
  -- where files tell and it ends early: it ends with this fault, or the run was cut off so
  pub ends : Tells w → IfErr r (EndsAs bytes (state_of s) (world_of w) (state_of t) (world_of v))
  -- after a fault the lines of warnings stand on the other output, and then the fault's line
  pub put : IfErr r (λ e. TellsFault e.line w.err.bytes v.err.bytes e.cause)
  -- what went wrong outside was counted, and nothing else
  pub counted : IsCounted w v (caused r)
