-- What a run promises of its status, by what stood outside before and what stands now.
--   IsBlamed w v s              of the counts only the one rose that the status s tells of
--   IsScriptEnd check bytes w v s   the script of these bytes was run, or only read
--   IsAskedEnd a w v s          what the words ask for was done
--   IsRun given w v s           `run` answers s on the words after the program's name
-- In each w is what stood outside before, and v what stands now.
use Rattle.std.specs.Prelude.{◌≡◌, ◌≤◌, ℕ, Bool, true, List, Option}
use Rattle.std.specs.Option.{is_some}
use Rattle.dt_session.specs.Outside.{Outside, world_of, Tells, ReadRose, WriteRose, MissRose, LongRose}
use Rattle.dt_session.specs.Outside.{ReadsStand, WritesStand}
use Rattle.dt_run.specs.Run.{AskedAnswers, Headline, IsByWords, NeedsScript, ScriptAnswers}
use Rattle.dt_run.specs.Run.{StopsWith, Told}
use Rattle.dt_run.specs.Steps.{CountsOwn}
use Rattle.dt_run.specs.Words.{Asked, LacksScript, with_name}
use Rattle.dt_run.specs.declared.status.Status.{Status}
use Rattle.dt_run.specs.declared.status.Status.TheVariants.{Stopped, Usage, ReadFault, WriteFault}

-- What the status tells of the outside, whether or not anything there tells what it holds.
pub record IsBlamed (w v : Outside) (s : Status) : Type 0 where
  -- a failed read is told only where one was counted
  pub read : s ≡ ReadFault → ReadRose w v
  -- a failed put or write is told only where one was counted
  pub write : s ≡ WriteFault → WriteRose w v
  -- of the counts of what failed only the one that is told may have risen
  pub quiet : CountsOwn (ReadsStand w v) (WritesStand w v) s
  -- a run that stopped told one fault; where files tell nothing, it blames one only where that was counted
  pub stopped :
      s ≡ Stopped → StopsWith w.files.held w.err.bytes v.err.bytes (MissRose w v) (LongRose w v)

-- The script of these bytes, run or only read.
pub record IsScriptEnd (check : Bool) (bytes : List ℕ) (w v : Outside) (s : Status) : Type 0 where
  -- where files tell: it ended as the definition says, or was cut off so
  pub ends : Tells w → ScriptAnswers check bytes (world_of w) (world_of v) s
  -- a script was asked for
  pub words : NeedsScript s true
  -- what went wrong outside was counted, and nothing else
  pub blamed : IsBlamed w v s
  -- no failed read was forgotten
  pub reads : w.files.read_faults ≤ v.files.read_faults

-- What the words ask for, if they have a script.
pub record IsAskedEnd (asked : Option Asked) (w v : Outside) (s : Status) : Type 0 where
  -- where files tell: it ended as the definition says, or was cut off so
  pub ends : Told w.files.held (λ files. AskedAnswers files asked (world_of w) (world_of v) s)
  -- the usage is told exactly where no script is asked for
  pub words : NeedsScript s (is_some asked)
  -- what went wrong outside was counted, and nothing else
  pub blamed : IsBlamed w v s

-- The whole run, on the words after the program's name.
pub record IsRun (given : List (List ℕ)) (w v : Outside) (s : Status) : Type 0 where
  -- where files tell: it ended as the plain evaluation of the words does, or was cut off so
  pub headline : Headline w.files.held given (world_of w) (world_of v) s
  -- the usage is told exactly by the words
  pub words : IsByWords given s
  -- and only where the command does not take them, or they have no script
  pub usage : s ≡ Usage → LacksScript (with_name given)
  -- what went wrong outside was counted, and nothing else
  pub blamed : IsBlamed w v s
