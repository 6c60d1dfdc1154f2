-- An assignment that is refused, from the fault of its targets and how that is told.
use Rattle.std.proofs.Common.{◌≡◌, ◌∙◌, ap, subst, ℕ, List, Some, Result, Err, length, refl}
use Rattle.assign_model.specs.Assign.{Assigned, assigned, names_in}
use Rattle.assign_model.specs.Targets.{AssignFault, Rows, Target, assign_fault}
use Rattle.assign_model.specs.Targets as model
use Rattle.assign_ref.specs.Seen.{IsFault}
use Rattle.assign_ref.specs.declared.fail.ChangeFail.{ChangeFail}
use Rattle.assign_ref.specs.declared.fail.ChangeFail.TheVariants.{Duplicate, Unknown, Delete, Length, Slots}
use Rattle.assign_ref.specs.declared.fail.ChangeFail.TheVariants.{TooManyCells}
use Rattle.assign_ref.specs.declared.fail.ChangeFail.TheVariants.{NoMemory}
use Rattle.assign_sides.specs.Answers.{IsTold}
use Rattle.dt_base.specs.declared.fault.Fault.{Fault}
use Rattle.dt_table.specs.Plain.{plain}
use Rattle.dt_table.specs.Table.{IsTable, TableSeen}
use Rattle.dt_table.proofs.Plain.{plain_names, plain_rows}
use Rattle.eval_fail.specs.Answers.{AnswersAs, IsStop}
use Rattle.eval_fail.specs.declared.fail.EvalFail.{EvalFail}
use Rattle.eval_fail.specs.declared.fail.EvalFail.TheVariants as eval
use Rattle.session_model.specs.Assigned.{told_assigned, told_fault}
use Rattle.vector_model.specs.Faults.{number_fault}
use Rattle.dt_base.specs.declared.fault.Code.TheVariants.{E09}

-- the plain table has the names and the rows of the table
same_fault : (t : TableSeen) (rows : Rows) (ts : List Target) → IsTable t
    → assign_fault (names_in (plain t)) (length (plain t).rows) t.slots rows ts
    ≡ assign_fault t.names t.frame.rows t.slots rows ts
same_fault t rows ts h = λ j. assign_fault (plain_names t h j) (plain_rows t j) t.slots rows ts

refused : (t : TableSeen) (rows : Rows) (ts : List Target) (names : List (List ℕ)) (f : AssignFault) → IsTable t
    → assign_fault t.names t.frame.rows t.slots rows ts ≡ Some f
    → told_assigned names t.slots (assigned (plain t) rows ts) ≡ Err (told_fault names t.slots f)
refused t rows ts names f h is = rw (same_fault t rows ts h, is) refl

stops : {A B : Type 0} (view : B → A) (o : Result A Fault) (g : Fault) (e : EvalFail) → o ≡ Err g → IsStop g e
    → AnswersAs view o (Err e)
stops view o g (eval.Stop f) is told = is ∙ ap Err told
stops view o g (eval.NoMemory x) is told = tt

-- the fault of a target is told by its column's name
pub told_refused : {B : Type 0} (view : B → Assigned) (t : TableSeen) (rows : Rows) (ts : List Target)
    (names : List (List ℕ)) (fail : ChangeFail) (e : EvalFail) → IsTable t
    → IsFault t.slots fail (assign_fault t.names t.frame.rows t.slots rows ts) → IsTold names fail e
    → AnswersAs view (told_assigned names t.slots (assigned (plain t) rows ts)) (Err e)
told_refused view t rows ts names (Duplicate k) e h is told =
    stops view _ _ e (refused t rows ts names (model.Duplicate k) h is) told
told_refused view t rows ts names (Unknown k) e h is told =
    stops view _ _ e (refused t rows ts names (model.Unknown k) h is) told
told_refused view t rows ts names (Delete k) e h is told =
    stops view _ _ e (refused t rows ts names (model.Delete k) h is) told
told_refused view t rows ts names (Length k got want) e h is told =
    stops view _ _ e (refused t rows ts names (model.Length k got want) h is) told
told_refused view t rows ts names (Slots s) e h is told =
    stops view _ _ e (refused t rows ts names model.Slots h is.0) (subst (λ n. IsStop (number_fault E09 n) e) is.1 told)
told_refused view t rows ts names TooManyCells e h is told =
    stops view _ _ e (refused t rows ts names model.Cells h is) told
told_refused view t rows ts names (NoMemory x) (eval.Stop f) h is told = absurd told
told_refused view t rows ts names (NoMemory x) (eval.NoMemory y) h is told = tt
