-- Statements one after another, from how each one ended.
--   HasRun xs s t w v i n   the run has done i of the statements xs, and n is their count
use Rattle.std.specs.Prelude.{⊤}
use Rattle.std.proofs.Common.{◌≡◌, ◌<◌, ◌≤◌, ◌+◌, ◌∙◌, ℕ, suc, List, ◌∷◌, Option, Ok, Err, IsErrOf, length}
use Rattle.std.proofs.Common.{add-one, arith, drop, drop-cons, get_or, subst}
use Rattle.std.proofs.Common.{ap, inl, inr, refl, sym}
use Rattle.std.specs.declared.alloc.AllocError.{AllocError}
use Rattle.dt_base.specs.declared.fault.Fault.{Fault}
use Rattle.dt_tree.specs.declared.tree.Stmt.{Stmt}
use Rattle.dt_world.specs.Causes.{Rose}
use Rattle.dt_world.specs.Told.{FileMap}
use Rattle.run_model.specs.Messages.{printed_fault}
use Rattle.session_model.proofs.Parts.{none_part, parted_none, rose_later, told_all, told_part}
use Rattle.session_model.proofs.Runs.{Reached, cut_here, ends_done, ends_refused, reached_first, reached_next}
use Rattle.session_model.specs.Evaluation.{Did, Step, goes_on_to, sends}
use Rattle.session_model.specs.Session.{SessionState}
use Rattle.session_model.specs.Statement.{step}
use Rattle.session_model.specs.World.{World, Parted, after, fault_pieces, look, pieces_of, world}
use Rattle.table_heap.specs.Changes.{HoldsSame, SameHeaps}
use Rattle.dt_session.specs.Answers.{Blames, CountsOwn, CutBefore, IsStopped, LineCause, PartOf, StmtsEnd}
use Rattle.dt_session.specs.Execs.{AreStmts, IsCounted, IsExec, IsLine}
use Rattle.dt_session.specs.Lines.{Warned}
use Rattle.dt_session.specs.Outside.{Outside, SinkSeen, Tells, outside, world_of}
use Rattle.dt_session.specs.Session.{SessionSeen, state_of}
use Rattle.dt_session.specs.declared.fail.ExecFail.{ExecFail}
use Rattle.dt_session.specs.declared.fail.ExecFail.TheVariants.{Stop, ReadFault, WriteFault, NoMemory}
use Rattle.dt_session.proofs.Counts.{counted_later, counted_none, error_of, later, own_as}
use Rattle.dt_session.proofs.Lines.{fault_next, stopped_put, warned_next, warned_none}

-- ---- The line of one statement

-- nothing, or a first part of what an effect gives, is a first part of what is sent
part_sent : (line : ℕ) (o : Step) (w v : World) → PartOf line o w v → Parted w (sends line o) v
part_sent line (Ok e) w v h = h
part_sent line (Err f) w v h = parted_none w v (fault_pieces line f) h

-- the statement at hand has a fault, whose line was put, or a first part of it
stopped_cause : (line : ℕ) (o : Step) (f : Fault) (w v : World) (n : Option (List ℕ)) (e : ExecFail) → o ≡ Err f
    → v ≡ w → IsStopped line f v.err n e → LineCause line o w (world v.files v.out n) e
stopped_cause line o f w v n (Stop g) is same h =
    (is ∙ ap Err (sym h.0), told_all line f w v n same h.1 ∙ ap (λ x. after w (fault_pieces line x)) (sym h.0))
stopped_cause line o f w v n ReadFault is same h = absurd h
stopped_cause line o f w v n WriteFault is same h = told_part line o f w v n is same h
stopped_cause line o f w v n (NoMemory x) is same h =
    told_part line o f w v n is same (none_part v.err n (printed_fault line f) h)

stopped_read : (P : Type 0) (line : ℕ) (f : Fault) (v n : Option (List ℕ)) (e : ExecFail) → IsStopped line f v n e
    → IsErrOf {T = Unit {0}} (Err e) ReadFault → P
stopped_read P line f v n (Stop g) h is = cc
stopped_read P line f v n ReadFault h is = absurd h
stopped_read P line f v n WriteFault h is = cc
stopped_read P line f v n (NoMemory x) h is = cc

stopped_blames : (line : ℕ) (f : Fault) (v n : Option (List ℕ)) (held : Option FileMap) (miss long : Type 0)
    (e : ExecFail) → IsStopped line f v n e → Blames held miss long (Stop f) → Blames held miss long e
stopped_blames line f v n held miss long (Stop g) h b = rw (h.0) b
stopped_blames line f v n held miss long ReadFault h b = tt
stopped_blames line f v n held miss long WriteFault h b = tt
stopped_blames line f v n held miss long (NoMemory x) h b = tt

-- what was put of the fault's line was counted too
stopped_counted : (line : ℕ) (f : Fault) (w v : Outside) (n : SinkSeen) (e : ExecFail) → IsCounted w v (Err (Stop f))
    → IsStopped line f v.err.bytes n.bytes e → (e ≡ WriteFault → Rose v.err.faults n.faults)
    → CountsOwn ⊤ (n.faults ≡ v.err.faults) e → v.err.faults ≤ n.faults
    → IsCounted w (outside v.files v.out n) (Err e)
stopped_counted line f w v n e h put failed quiet faults =
    let fell = h.none_fell in
    let stood = h.quiet in
    record {
      stays = record { told = h.stays.told; untold = h.stays.untold };
      none_fell = record {
        out = fell.out;
        err = later _ _ _ fell.err faults;
        write_faults = fell.write_faults;
        read_faults = fell.read_faults;
        misses = fell.misses;
        longs = fell.longs;
      };
      ok_quiet = tt;
      quiet = own_as e (λ x. stood.0) (λ x. (stood.1.0, x ∙ stood.1.1, stood.1.2)) quiet;
      read = stopped_read _ line f v.err.bytes n.bytes e put;
      write = λ is. inr (inl (rose_later _ _ _ fell.err (failed (error_of e _ is))));
      cause = stopped_blames line f v.err.bytes n.bytes _ _ _ e put h.cause;
    }

pub line_done : (x : Stmt) (s t : SessionSeen) (w v : Outside) → IsExec x s t w v (Ok tt) → IsLine x s t w v (Ok tt)
line_done x s t w v h = record {
  done = h.done;
  fails = λ told. tt;
  same = tt;
  options = tt;
  warned = h.warned;
  put = tt;
  counted = h.counted;
}

pub line_stopped : (x : Stmt) (s t : SessionSeen) (w v : Outside) (f : Fault) (n : SinkSeen) (e : ExecFail)
    → IsExec x s t w v (Err (Stop f)) → IsStopped x.line f v.err.bytes n.bytes e
    → (e ≡ WriteFault → Rose v.err.faults n.faults) → CountsOwn ⊤ (n.faults ≡ v.err.faults) e
    → v.err.faults ≤ n.faults → IsLine x s t w (outside v.files v.out n) (Err e)
line_stopped x s t w v f n e h put failed quiet faults = record {
  done = λ told. tt;
  fails = λ told. let refused = h.refused told in
      stopped_cause x.line _ f _ (world_of v) n.bytes e refused.0 refused.1 put;
  same = h.same;
  options = h.options;
  warned = tt;
  put = stopped_put x.line f w.err.bytes v.err.bytes n.bytes e (ap (λ (u : World). u.err) h.nothing) put;
  counted = stopped_counted x.line f w v n e h.counted put failed quiet faults;
}

-- by the answer that it is
pub exec_as : (x : Stmt) (s t : SessionSeen) (w v : Outside) (e f : ExecFail) → e ≡ f → IsExec x s t w v (Err e)
    → IsExec x s t w v (Err f)
exec_as x s t w v e f is h = subst (λ (k : ExecFail). IsExec x s t w v (Err k)) is h

pub line_unread : (x : Stmt) (s t : SessionSeen) (w v : Outside) → IsExec x s t w v (Err ReadFault)
    → IsLine x s t w v (Err ReadFault)
line_unread x s t w v h = record {
  done = λ told. tt;
  fails = λ told. h.nothing;
  same = h.same;
  options = h.options;
  warned = tt;
  put = tt;
  counted = h.counted;
}

pub line_unsent : (x : Stmt) (s t : SessionSeen) (w v : Outside) → IsExec x s t w v (Err WriteFault)
    → IsLine x s t w v (Err WriteFault)
line_unsent x s t w v h = record {
  done = λ told. tt;
  fails = λ told. part_sent x.line _ _ _ (h.refused told);
  same = h.same;
  options = h.options;
  warned = tt;
  put = tt;
  counted = h.counted;
}

pub line_wanting : (x : Stmt) (s t : SessionSeen) (w v : Outside) (e : AllocError) → IsExec x s t w v (Err (NoMemory e))
    → IsLine x s t w v (Err (NoMemory e))
line_wanting x s t w v e h = record {
  done = λ told. tt;
  fails = λ told. part_sent x.line _ _ _ (h.refused told);
  same = h.same;
  options = h.options;
  warned = tt;
  put = tt;
  counted = h.counted;
}

-- ---- Before a statement of which nothing is put

goes_to : (line : ℕ) (o : Step) (rest : SessionState → World → Type 0) (s t : SessionState) (w v : World)
    → Did line o s t w v → rest t v → goes_on_to line o rest s w
goes_to line (Ok e) rest s t w v h r =
    subst (λ x. rest x (after w (pieces_of line e))) h.0 (subst (λ y. rest t y) h.1 r)
goes_to line (Err f) rest s t w v h r = absurd h

-- what is left of the statements at i
left_at : (xs : List Stmt) (i : ℕ) (x : Stmt) → i < length xs → x ≡ get_or xs i x → drop i xs ≡ x ∷ drop (i + 1) xs
left_at xs i x h e = drop-cons xs i x h ∙ rw (add-one i, ← e) refl

-- a run that is cut off later is cut off in all of the statements
abbrev GoesBefore : List Stmt → SessionState → World → ℕ → SessionState → World → Type 0
GoesBefore xs s w i t v =
    (j line : ℕ) (now : SessionState) (u : World) → CutBefore (drop i xs) j line t v now u
    → CutBefore xs (i + j) line s w now u

before_first : (xs : List Stmt) (s : SessionState) (w : World) → GoesBefore xs s w 0 s w
before_first xs s w j line now u h =
    let same : j ≡ 0 + j = omega arith in subst (λ k. CutBefore xs k line s w now u) same h

before_next : (xs : List Stmt) (s t t1 : SessionState) (w v v1 : World) (i : ℕ) (x : Stmt)
    → GoesBefore xs s w i t v → i < length xs → x ≡ get_or xs i x
    → Did x.line (step (look v.files) t x) t t1 v v1 → GoesBefore xs s w (i + 1) t1 v1
before_next xs s t t1 w v v1 i x goes below is did j line now u h =
    let here : CutBefore (x ∷ drop (i + 1) xs) (suc j) line t v now u =
    goes_to x.line (step (look v.files) t x) (λ y z. CutBefore (drop (i + 1) xs) j line y z now u) t t1 v v1 did
    h in
    let more : CutBefore (drop i xs) (suc j) line t v now u =
    subst (λ ys. CutBefore ys (suc j) line t v now u) (sym (left_at xs i x below is)) here in
    let same : i + suc j ≡ (i + 1) + j = omega arith in
    subst (λ k. CutBefore xs k line s w now u) same (goes (suc j) line now u more)

before_here : (xs : List Stmt) (s t now : SessionState) (w v u : World) (i n : ℕ) (x : Stmt)
    → GoesBefore xs s w i t v → n ≡ i → i < length xs → x ≡ get_or xs i x → now ≡ t → u ≡ v
    → CutBefore xs n x.line s w now u
before_here xs s t now w v u i n x goes count below is state world =
    let here : CutBefore (drop i xs) 0 x.line t v now u =
    subst (λ ys. CutBefore ys 0 x.line t v now u) (sym (left_at xs i x below is)) (refl, state, world) in
    let same : i + 0 ≡ n = omega (arith, count) in
    subst (λ k. CutBefore xs k x.line s w now u) same (goes 0 x.line now u here)

-- ---- Statements one after another

pub record HasRun (xs : List Stmt) (s t : SessionSeen) (w v : Outside) (i n : ℕ) : Type 0 where
  pub reached : Tells w → Reached xs (state_of s) (world_of w) i (state_of t) (world_of v) n
  pub before : Tells w → GoesBefore xs (state_of s) (world_of w) i (state_of t) (world_of v)
  pub done : n ≡ i
  pub warned : Warned w.err.bytes v.err.bytes
  pub counted : IsCounted w v (Ok tt)

pub run_first : (xs : List Stmt) (s : SessionSeen) (w : Outside) → HasRun xs s s w w 0 0
run_first xs s w = record {
  reached = λ told. reached_first xs (state_of s) (world_of w);
  before = λ told. before_first xs (state_of s) (world_of w);
  done = refl;
  warned = warned_none w.err.bytes;
  counted = counted_none w;
}

pub run_next : (xs : List Stmt) (s t u : SessionSeen) (w v z : Outside) (i n : ℕ) (x : Stmt)
    → HasRun xs s t w v i n → i < length xs → x ≡ get_or xs i x → IsLine x t u v z (Ok tt)
    → HasRun xs s u w z (i + 1) (n + 1)
run_next xs s t u w v z i n x h below is line = record {
  reached = λ told. reached_next xs _ _ i x _ _ _ _ n (h.reached told) below is
      (line.done (h.counted.stays.told told));
  before = λ told. before_next xs _ _ _ _ _ _ i x (h.before told) below is (line.done (h.counted.stays.told told));
  done = ap (λ k. k + 1) h.done;
  warned = warned_next x.line _ _ _ h.warned line.warned;
  counted = counted_later w v z (Ok tt) h.counted line.counted;
}

pub run_done : (xs : List Stmt) (s t : SessionSeen) (w v : Outside) (n : ℕ) → HasRun xs s t w v (length xs) n
    → AreStmts xs s t w v (Ok tt)
run_done xs s t w v n h = record {
  done = λ told. ends_done xs _ _ _ _ n (h.reached told);
  ends = λ told. tt;
  put = tt;
  counted = h.counted;
}

-- the statement at i ended early
line_ends : (xs : List Stmt) (s0 : SessionState) (w0 : World) (i : ℕ) (l : Stmt) (s now : SessionState) (w v : World)
    (n : ℕ) (cause : ExecFail) → Reached xs s0 w0 i s w n → GoesBefore xs s0 w0 i s w → i < length xs
    → l ≡ get_or xs i l → now ≡ s → LineCause l.line (step (look w.files) s l) w v cause
    → StmtsEnd xs s0 w0 now v (record { line = l.line; done = n; cause = cause })
line_ends xs s0 w0 i l s now w v n (Stop f) r b h e a c = ends_refused xs s0 w0 i l s now w v n f r h e a c.0 c.1
line_ends xs s0 w0 i l s now w v n ReadFault r b h e a c = before_here xs s0 s now w0 w v i n l b r.done h e a c
line_ends xs s0 w0 i l s now w v n WriteFault r b h e a c = cut_here xs s0 w0 i l s now w v n l.line r h e refl a c
line_ends xs s0 w0 i l s now w v n (NoMemory x) r b h e a c = cut_here xs s0 w0 i l s now w v n l.line r h e refl a c

unmoved : SameHeaps → (s t : SessionSeen) → HoldsSame s.heap t.heap → t.options ≡ s.options → state_of t ≡ state_of s
unmoved l s t same options = λ i. record { state = l.state s.heap t.heap same i; options = options i }

pub run_stopped : SameHeaps → (xs : List Stmt) (s t u : SessionSeen) (w v z : Outside) (i n : ℕ) (x : Stmt)
    (e : ExecFail)
    → HasRun xs s t w v i n → i < length xs → x ≡ get_or xs i x → IsLine x t u v z (Err e)
    → AreStmts xs s u w z (Err (record { line = x.line; done = n; cause = e }))
run_stopped l xs s t u w v z i n x e h below is line = record {
  done = λ told. tt;
  ends = λ told. line_ends xs _ _ i x (state_of t) (state_of u) _ _ n e (h.reached told)
      (h.before told) below is (unmoved l t u line.same line.options) (line.fails (h.counted.stays.told told));
  put = fault_next x.line _ _ _ e h.warned line.put;
  counted = counted_later w v z (Err e) h.counted line.counted;
}
