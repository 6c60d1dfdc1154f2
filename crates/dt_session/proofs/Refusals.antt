-- The fault of a script's reading, from how the refusal of the reading is told.
use Rattle.std.proofs.Common.{◌≡◌, ◌⊎◌, ◌∙◌, ℕ, List, Option, Result, Ok, Err, IfOk, refl, sym, ap, subst, inl, inr}
use Rattle.std.specs.declared.alloc.AllocError.{AllocError}
use Rattle.dt_base.specs.declared.fault.Fault.{Fault}
use Rattle.dt_script.specs.Answers.{FailsAs, IsOnlyFault, fail_of}
use Rattle.dt_script.specs.declared.bytes.ParseFail.{ParseFail}
use Rattle.dt_script.specs.declared.bytes.ParseFail.TheVariants as fail
use Rattle.dt_tree.specs.declared.fault.ScriptFault.{ScriptFault}
use Rattle.dt_tree.specs.declared.fault.ScriptFault.TheVariants as fault
use Rattle.run_model.specs.Reading.{IsRefused}
use Rattle.session_model.specs.Evaluation.{line_of, script_fault}
use Rattle.dt_session.specs.Answers.{IsStopped}
use Rattle.dt_session.specs.Refusals.{EndsWith, IsRefusalOf, RefusalEnd, Untold}
use Rattle.dt_session.specs.declared.fail.ExecFail.{ExecFail}
use Rattle.dt_session.specs.declared.fail.RunFail.{RunFail}
use Rattle.dt_session.specs.declared.refusal.Refusal.{Refusal}

-- what tells this fault tells its refusal
pub told_by : (e : ParseFail) (f : ScriptFault) (o : Result Refusal AllocError) → e ≡ fail_of f
    → IfOk o (λ x. x ≡ record { line = line_of f; fault = script_fault f }) → IfOk o (IsRefusalOf e)
told_by e f (Ok x) is h = (f, is, h)
told_by e f (Err x) is h = tt

-- the run ends with the fault whose line was put, or was to be
pub told_end : (e : ParseFail) (line : ℕ) (f : Fault) (b v : Option (List ℕ)) (cause : ExecFail)
    → IsRefusalOf e (record { line = line; fault = f }) → IsStopped line f b v cause
    → RefusalEnd e b v (record { line = line; done = 0; cause = cause })
told_end e line f b v cause h p =
    inl (
      h.0,
      h.1,
      (
        ap (λ (x : Refusal). x.line) h.2,
        refl,
        subst
            (λ (x : Refusal). IsStopped x.line x.fault b v cause) h.2 p,
      ),
    )

-- a fault that is told so, if it is one of the reading
abbrev fault_of : ParseFail → ScriptFault
fault_of fail.NotUtf8 = fault.NotUtf8
fault_of (fail.Syntax l b) = fault.Syntax (record { line = l; byte = b })
fault_of (fail.Number l) = fault.Number (record { line = l; byte = 0 })
fault_of (fail.TooDeep l) = fault.TooDeep (record { line = l; byte = 0 })
fault_of (fail.NoMemory e) = fault.NotUtf8

same_line : (f : ScriptFault) → line_of (fault_of (fail_of f)) ≡ line_of f
same_line fault.NotUtf8 = refl
same_line (fault.Syntax at) = refl
same_line (fault.Number at) = refl
same_line (fault.TooDeep at) = refl

same_fault : (f : ScriptFault) → script_fault (fault_of (fail_of f)) ≡ script_fault f
same_fault fault.NotUtf8 = refl
same_fault (fault.Syntax at) = refl
same_fault (fault.Number at) = refl
same_fault (fault.TooDeep at) = refl

-- faults that are told alike have one line and one fault
told_alike : (f g : ScriptFault) (b v : Option (List ℕ)) (r : RunFail) → fail_of f ≡ fail_of g → EndsWith f b v r
    → EndsWith g b v r
told_alike f g b v r e h =
    let line : line_of f ≡ line_of g = sym (same_line f) ∙ ap (λ x. line_of (fault_of x)) e ∙ same_line g in
    let told : script_fault f ≡ script_fault g =
    sym (same_fault f) ∙ ap (λ x. script_fault (fault_of x)) e ∙ same_fault g in (
      h.0 ∙ line,
      h.1,
      subst (λ x. IsStopped (line_of g) x b v r.cause) told
          (subst (λ n. IsStopped n (script_fault f) b v r.cause) line h.2),
    )

only_fault : (bytes : List ℕ) (e : ParseFail) (f : ScriptFault) → e ≡ fail_of f → FailsAs bytes e → IsOnlyFault bytes e
only_fault bytes fail.NotUtf8 f is h = h
only_fault bytes (fail.Syntax l b) f is h = h
only_fault bytes (fail.Number l) f is h = h
only_fault bytes (fail.TooDeep l) f is h = h
only_fault bytes (fail.NoMemory e) fault.NotUtf8 is h = cc
only_fault bytes (fail.NoMemory e) (fault.Syntax at) is h = cc
only_fault bytes (fail.NoMemory e) (fault.Number at) is h = cc
only_fault bytes (fail.NoMemory e) (fault.TooDeep at) is h = cc

-- the bytes have the fault that was told
pub refused_with : (bytes : List ℕ) (e : ParseFail) (b v : Option (List ℕ)) (r : RunFail) → FailsAs bytes e
    → RefusalEnd e b v r → ((f : ScriptFault) × IsRefused bytes f × EndsWith f b v r) ⊎ Untold b v r
refused_with bytes e b v r h (inl (f, is, ends)) =
    let only : IsOnlyFault bytes e = only_fault bytes e f is h in
    inl (only.fault, only.refused, told_alike f only.fault b v r (sym is ∙ only.told) ends)
refused_with bytes e b v r h (inr none) = inr none
