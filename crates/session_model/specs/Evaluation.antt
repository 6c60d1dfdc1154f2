-- What a script does: its statements one after another, until the first fault.
--   Step                  a statement's effect, or its fault
--   End                   how a script ends: the state, the world, how many statements were done,
--                         and the fault with its line
--   plain stmts s w n     the end of these statements, after n others
--   Did line o s now w v  the statement was done, and left this state and this world
--   IsEnd e now v         the script ended without a fault, with this state and this world
--   Cut stmts j l s w now v
--                         the run was cut off in statement j + 1, which stands on line l
--   script_fault f        the fault that a refused script tells; line_of f is its line
--   Evaluates bytes s w e the script of these bytes ends so, from this state and world
--   IsCutOff bytes ..     the script of these bytes was cut off
-- Where a put or a write fails, or memory lacks, a run is cut off: what stands is what the first j
-- statements gave, and a first part of what the next one gives.
use Rattle.std.specs.Prelude.{◌≡◌, ◌+◌, ℕ, zero, suc, List, [], ◌∷◌, Option, None, Some, Result, Ok, Err}
use Rattle.dt_base.specs.declared.fault.Code.TheVariants.{E01, E18, E21, E22}
use Rattle.dt_base.specs.declared.fault.Fault.{Fault}
use Rattle.dt_base.specs.Fault.{fault}
use Rattle.dt_tree.specs.declared.fault.ScriptFault.{ScriptFault}
use Rattle.dt_tree.specs.declared.fault.ScriptFault.TheVariants.{NotUtf8, Syntax, Number, TooDeep}
use Rattle.dt_tree.specs.declared.tree.Script.{Script}
use Rattle.dt_tree.specs.declared.tree.Stmt.{Stmt}
use Rattle.run_model.specs.Reading.{IsReadAs, IsRefused}
use Rattle.session_model.specs.Effect.{Effect, changed}
use Rattle.session_model.specs.Session.{SessionState}
use Rattle.session_model.specs.Statement.{step}
use Rattle.vector_model.specs.Faults.{number_fault}
use Rattle.session_model.specs.World.{World, Pieces, pieces_of, fault_pieces, after, Parted, look}

-- what a statement gives
abbrev pub Step : Type 0
Step = Result Effect Fault

-- how a script ends
pub record End : Type 0 where
  pub state : SessionState
  pub world : World
  pub done : ℕ
  pub fault : Option (ℕ × Fault)

-- it stops with a fault, whose line is put
abbrev pub stopped : ℕ → Fault → SessionState → World → ℕ → End
stopped line f s w n = record { state = s; world = after w (fault_pieces line f); done = n; fault = Some (line, f) }

-- behind a statement the rest goes on, unless the statement is refused
abbrev pub goes_on : ℕ → Step → (SessionState → World → ℕ → End) → SessionState → World → ℕ → End
goes_on line (Ok e) rest s w n = rest (changed s e.change) (after w (pieces_of line e)) (n + 1)
goes_on line (Err f) rest s w n = stopped line f s w n

-- each statement meets the state and the files that the one before it left
abbrev pub plain : List Stmt → SessionState → World → ℕ → End
plain [] s w n = record { state = s; world = w; done = n; fault = None }
plain (x ∷ xs) s w n = goes_on x.line (step (look w.files) s x) (plain xs) s w n

-- the statement on this line was done: the state and the world are those after its effect
abbrev pub Did : ℕ → Step → SessionState → SessionState → World → World → Type 0
Did line (Ok e) s now w v = (now ≡ changed s e.change) × (v ≡ after w (pieces_of line e))
Did line (Err f) s now w v = ⊥

-- all statements were done, with no fault
abbrev pub IsEnd : End → SessionState → World → Type 0
IsEnd e now v = (e.fault ≡ None) × (e.state ≡ now) × (e.world ≡ v)

-- what the statement at hand sends outside, its fault's line included
abbrev pub sends : ℕ → Step → Pieces
sends line (Ok e) = pieces_of line e
sends line (Err f) = fault_pieces line f

abbrev pub goes_on_to : ℕ → Step → (SessionState → World → Type 0) → SessionState → World → Type 0
goes_on_to line (Ok e) rest s w = rest (changed s e.change) (after w (pieces_of line e))
goes_on_to line (Err f) rest s w = ⊥

-- The state is the one after j statements, and the world has all that these gave and a first part
-- of what the next one gives.
abbrev pub Cut : List Stmt → ℕ → ℕ → SessionState → World → SessionState → World → Type 0
Cut [] j line s w now v = ⊥
Cut (x ∷ xs) zero line s w now v =
    (line ≡ x.line) × (now ≡ s) × Parted w (sends x.line (step (look w.files) s x)) v
Cut (x ∷ xs) (suc j) line s w now v =
    goes_on_to x.line (step (look w.files) s x) (λ t u. Cut xs j line t u now v) s w

-- the fault of a script that is not read, as it is told
abbrev pub script_fault : ScriptFault → Fault
script_fault NotUtf8 = fault E18 []
script_fault (Syntax at) = number_fault E01 at.byte
script_fault (Number at) = fault E22 []
script_fault (TooDeep at) = fault E21 []

-- its line, and 0 where it concerns the script as a whole
abbrev pub line_of : ScriptFault → ℕ
line_of NotUtf8 = 0
line_of (Syntax at) = at.line
line_of (Number at) = at.line
line_of (TooDeep at) = at.line

-- The bytes are a script, whose statements run; or they are refused, and nothing runs.
pub data Evaluates (bytes : List ℕ) (s : SessionState) (w : World) : End → Type 0 where
  reads : (t : Script) → IsReadAs bytes t → Evaluates bytes s w (plain t.stmts s w 0)
  refuses : (f : ScriptFault) → IsRefused bytes f → Evaluates bytes s w (stopped (line_of f) (script_fault f) s w 0)

-- The run of the bytes was cut off: in a statement, or in the line of the fault of the reading.
pub data IsCutOff (bytes : List ℕ) (s : SessionState) (w : World) (j line : ℕ) (now : SessionState) (v : World)
    : Type 0 where
  in_statement : (t : Script) → IsReadAs bytes t → Cut t.stmts j line s w now v → IsCutOff bytes s w j line now v
  in_refusal : (f : ScriptFault) → IsRefused bytes f → j ≡ 0 → line ≡ line_of f → now ≡ s
      → Parted w (fault_pieces (line_of f) (script_fault f)) v → IsCutOff bytes s w j line now v
