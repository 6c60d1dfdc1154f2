-- A whole script, from the answers of its reading and of its statements.
use Rattle.std.proofs.Common.{◌≡◌, ◌⊎◌, ℕ, List, Option, Some, Result, Ok, Err, OnOk, IfErr, refl, sym, subst, inl, inr}
use Rattle.dt_base.specs.declared.fault.Fault.{Fault}
use Rattle.dt_script.specs.Answers.{FailsAs}
use Rattle.dt_script.specs.declared.bytes.ParseFail.{ParseFail}
use Rattle.dt_tree.specs.declared.fault.ScriptFault.{ScriptFault}
use Rattle.dt_tree.specs.declared.tree.Script.{Script}
use Rattle.dt_tree.specs.declared.tree.Stmt.{Stmt}
use Rattle.dt_world.specs.Told.{AppendedPart}
use Rattle.run_model.specs.Messages.{printed_fault}
use Rattle.run_model.specs.Reading.{IsReadAs, IsRefused}
use Rattle.session_model.proofs.Parts.{none_part, parted_in_lines, told_all}
use Rattle.session_model.specs.Evaluation.{plain, stopped, IsEnd, reads, refuses, in_statement, in_refusal}
use Rattle.session_model.specs.Evaluation.{script_fault, line_of}
use Rattle.session_model.specs.Session.{SessionState}
use Rattle.session_model.specs.World.{World, Parted, world, fault_pieces}
use Rattle.dt_session.specs.Answers.{ReadsAs, EndCause, EndsAs, StmtsCause, StmtsEnd, IsStopped}
use Rattle.dt_session.specs.Execs.{AreStmts, IsCounted, IsScriptRun}
use Rattle.dt_session.specs.Outside.{Outside, SinkSeen, outside, world_of}
use Rattle.dt_session.specs.Refusals.{EndsWith, IsNoMemory, RefusalEnd, Untold}
use Rattle.dt_session.specs.Session.{SessionSeen, state_of}
use Rattle.dt_session.proofs.Lines.{refusal_tells}
use Rattle.dt_session.proofs.Refusals.{refused_with}
use Rattle.dt_session.specs.declared.fail.ExecFail.{ExecFail}
use Rattle.dt_session.specs.declared.fail.ExecFail.TheVariants.{Stop, ReadFault, WriteFault, NoMemory}
use Rattle.dt_session.specs.declared.fail.RunFail.{RunFail}

-- all statements of a script that is read were done
script_done : (bytes : List ℕ) (t : Script) (xs : List Stmt) (s now : SessionState) (w v : World)
    (r : Result (Unit {0}) RunFail) → IsReadAs bytes t → xs ≡ t.stmts → OnOk r (IsEnd (plain xs s w 0) now v)
    → OnOk r (ReadsAs bytes s w (λ e. IsEnd e now v))
script_done bytes t xs s now w v (Ok x) h e d =
    (plain t.stmts s w 0, reads t h, subst (λ ys. IsEnd (plain ys s w 0) now v) e d)
script_done bytes t xs s now w v (Err x) h e d = tt

cause_ends : (bytes : List ℕ) (t : Script) (s now : SessionState) (w v : World) (r : RunFail) (cause : ExecFail)
    → IsReadAs bytes t → StmtsCause t.stmts s w now v r cause → EndCause bytes s w now v r cause
cause_ends bytes t s now w v r (Stop f) h e = (plain t.stmts s w 0, reads t h, e)
cause_ends bytes t s now w v r ReadFault h c = (t, h, c)
cause_ends bytes t s now w v r WriteFault h c = in_statement t h c
cause_ends bytes t s now w v r (NoMemory x) h c = inl (in_statement t h c)

-- the statements of a script that is read ended early
script_ends : (bytes : List ℕ) (t : Script) (xs : List Stmt) (s now : SessionState) (w v : World)
    (r : Result (Unit {0}) RunFail) → IsReadAs bytes t → xs ≡ t.stmts → IfErr r (StmtsEnd xs s w now v)
    → IfErr r (EndsAs bytes s w now v)
script_ends bytes t xs s now w v (Ok x) h e d = tt
script_ends bytes t xs s now w v (Err x) h e d =
    cause_ends bytes t s now w v x x.cause h (subst (λ ys. StmtsCause ys s w now v x x.cause) e d)

-- a first part of the fault's line was put
line_part : (line : ℕ) (f : Fault) (w : World) (v : Option (List ℕ)) → AppendedPart w.err v (printed_fault line f)
    → Parted w (fault_pieces line f) (world w.files w.out v)
line_part line f w v p = parted_in_lines w.files w.out w.err v (printed_fault line f) p

refused_cause : (bytes : List ℕ) (s : SessionState) (w : World) (f : ScriptFault) (v : Option (List ℕ)) (r : RunFail)
    (cause : ExecFail) → IsRefused bytes f → r.line ≡ line_of f → r.done ≡ 0
    → IsStopped (line_of f) (script_fault f) w.err v cause → EndCause bytes s w s (world w.files w.out v) r cause
refused_cause bytes s w f v r (Stop g) h l d p = (
  stopped (line_of f) (script_fault f) s w 0,
  refuses f h,
  (λ i. record {
    state = s;
    world = sym (told_all (line_of f) (script_fault f) w w v refl p.1) i;
    done = sym d i;
    fault = Some (sym l i, sym p.0 i);
  }),
)
refused_cause bytes s w f v r ReadFault h l d p = absurd p
refused_cause bytes s w f v r WriteFault h l d p =
    in_refusal f h d l refl (line_part (line_of f) (script_fault f) w v p)
refused_cause bytes s w f v r (NoMemory x) h l d p =
    inl (in_refusal f h d l refl (line_part (line_of f) (script_fault f) w v
    (none_part w.err v (printed_fault (line_of f) (script_fault f)) p)))

memory_cause : (bytes : List ℕ) (s : SessionState) (w : World) (v : Option (List ℕ)) (r : RunFail) (cause : ExecFail)
    → IsNoMemory cause → r.line ≡ 0 → r.done ≡ 0 → v ≡ w.err → EndCause bytes s w s (world w.files w.out v) r cause
memory_cause bytes s w v r (Stop g) m l d e = absurd m
memory_cause bytes s w v r ReadFault m l d e = absurd m
memory_cause bytes s w v r WriteFault m l d e = absurd m
memory_cause bytes s w v r (NoMemory x) m l d e = inr (d, l, refl, (λ i. world w.files w.out (e i)))

refusal_ends : (bytes : List ℕ) (s : SessionState) (w : World) (v : Option (List ℕ)) (r : RunFail)
    → ((f : ScriptFault) × IsRefused bytes f × EndsWith f w.err v r) ⊎ Untold w.err v r
    → EndsAs bytes s w s (world w.files w.out v) r
refusal_ends bytes s w v r (inl (f, refused, h)) = refused_cause bytes s w f v r r.cause refused h.0 h.1 h.2
refusal_ends bytes s w v r (inr h) = memory_cause bytes s w v r r.cause h.0 h.1 h.2 h.3

-- a script whose reading is refused
refused_ends : (bytes : List ℕ) (s : SessionState) (w : World) (e : ParseFail) (v : Option (List ℕ)) (r : RunFail)
    → FailsAs bytes e → RefusalEnd e w.err v r → EndsAs bytes s w s (world w.files w.out v) r
refused_ends bytes s w e v r h k = refusal_ends bytes s w v r (refused_with bytes e w.err v r h k)

-- the bytes are a script, whose statements were run
pub script_read : (bytes : List ℕ) (x : Script) (xs : List Stmt) (s t : SessionSeen) (w v : Outside)
    (r : Result (Unit {0}) RunFail) → IsReadAs bytes x → xs ≡ x.stmts → AreStmts xs s t w v r
    → IsScriptRun bytes s t w v r
script_read bytes x xs s t w v r read is h = record {
  done = λ told. script_done bytes x xs _ _ _ _ r read is (h.done told);
  ends = λ told. script_ends bytes x xs _ _ _ _ r read is (h.ends told);
  put = h.put;
  counted = h.counted;
}

-- the reading was refused, and the line of its fault put
pub script_refused : (bytes : List ℕ) (s : SessionSeen) (w : Outside) (e : ParseFail) (n : SinkSeen) (r : RunFail)
    → FailsAs bytes e → RefusalEnd e w.err.bytes n.bytes r → IsCounted w (outside w.files w.out n) (Err r.cause)
    → IsScriptRun bytes s s w (outside w.files w.out n) (Err r)
script_refused bytes s w e n r fails ends counted = record {
  done = λ told. tt;
  ends = λ told. refused_ends bytes (state_of s) (world_of w) e n.bytes r fails ends;
  put = refusal_tells e w.err.bytes n.bytes r ends;
  counted = counted;
}
