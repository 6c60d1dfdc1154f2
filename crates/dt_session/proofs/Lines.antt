-- The lines on the other output, from those of one statement after another.
use Rattle.std.proofs.Common.{◌≡◌, ◌∙◌, ℕ, List, [], ◌∷◌, ◌++◌, Option, None, Some, refl, ap, sym, inl, inr}
use Rattle.std.proofs.lemmas.List.{flat_map_more}
use Rattle.dt_base.specs.declared.fault.Fault.{Fault}
use Rattle.dt_base.specs.declared.warns.Warns.{Warns}
use Rattle.dt_script.specs.declared.bytes.ParseFail.{ParseFail}
use Rattle.dt_world.specs.Told.{appended}
use Rattle.run_model.specs.Messages.{printed_fault, printed_warns}
use Rattle.session_model.proofs.Parts.{appended_nothing}
use Rattle.session_model.specs.Evaluation.{line_of, script_fault}
use Rattle.dt_session.specs.Answers.{IsStopped}
use Rattle.dt_session.specs.Lines.{warned_lines, WarnedAt, Warned, FaultPut, EndsInFault, TellsFault}
use Rattle.dt_session.specs.Refusals.{IsNoMemory, RefusalEnd}
use Rattle.dt_session.specs.declared.fail.ExecFail.{ExecFail}
use Rattle.dt_session.specs.declared.fail.ExecFail.TheVariants.{Stop, ReadFault, WriteFault, NoMemory}
use Rattle.dt_session.specs.declared.fail.RunFail.{RunFail}

-- nothing was put
pub warned_none : (b : Option (List ℕ)) → Warned b b
warned_none b = record { sets = []; lines = sym (appended_nothing b) }

lines_more : (b : Option (List ℕ)) (ws : List (ℕ × Warns)) (w : ℕ × Warns)
    → appended (appended b (warned_lines ws)) (printed_warns w.0 w.1) ≡ appended b (warned_lines (ws ++ w ∷ []))
lines_more None ws w = refl
lines_more (Some old) ws w = ap Some (flat_map_more (λ (x : ℕ × Warns). printed_warns x.0 x.1) old ws w)

-- one more statement was done
pub warned_next : (line : ℕ) (b v n : Option (List ℕ)) → Warned b v → WarnedAt line v n → Warned b n
warned_next line b v n h k = record {
  sets = h.sets ++ (line, k.warns) ∷ [];
  lines = k.lines ∙ ap (λ a. appended a (printed_warns line k.warns)) h.lines ∙ lines_more b h.sets (line, k.warns);
}

-- nothing but the line of a fault was put
pub fault_alone : (line : ℕ) (f : Fault) (b v : Option (List ℕ)) → v ≡ appended b (printed_fault line f)
    → EndsInFault b v line f
fault_alone line f b v h =
    record { sets = []; lines = h ∙ ap (λ a. appended a (printed_fault line f)) (sym (appended_nothing b)) }

-- the next statement was refused
pub fault_next : (line : ℕ) (b v n : Option (List ℕ)) (e : ExecFail) → Warned b v → FaultPut line v n e
    → TellsFault line b n e
fault_next line b v n (Stop f) h k =
    record { sets = h.sets; lines = k ∙ ap (λ a. appended a (printed_fault line f)) h.lines }
fault_next line b v n ReadFault h k = tt
fault_next line b v n WriteFault h k = tt
fault_next line b v n (NoMemory x) h k = tt

-- the line of the fault was put, behind what stayed
pub stopped_put : (line : ℕ) (f : Fault) (b v n : Option (List ℕ)) (e : ExecFail) → v ≡ b → IsStopped line f v n e
    → FaultPut line b n e
stopped_put line f b v n (Stop g) same h = h.1 ∙ (λ i. appended (same i) (printed_fault line (sym h.0 i)))
stopped_put line f b v n ReadFault same h = tt
stopped_put line f b v n WriteFault same h = tt
stopped_put line f b v n (NoMemory x) same h = tt

-- want of memory is no fault
no_fault : (line : ℕ) (b v : Option (List ℕ)) (e : ExecFail) → IsNoMemory e → TellsFault line b v e
no_fault line b v (Stop f) h = absurd h
no_fault line b v ReadFault h = tt
no_fault line b v WriteFault h = tt
no_fault line b v (NoMemory x) h = tt

-- a script whose reading is refused tells its fault, and no warning
pub refusal_tells : (e : ParseFail) (b v : Option (List ℕ)) (r : RunFail) → RefusalEnd e b v r
    → TellsFault r.line b v r.cause
refusal_tells e b v r (inl (f, is, h)) =
    rw (h.0) (fault_next (line_of f) b b v r.cause (warned_none b)
    (stopped_put (line_of f) (script_fault f) b b v r.cause refl h.2))
refusal_tells e b v r (inr h) = no_fault r.line b v r.cause h.0
