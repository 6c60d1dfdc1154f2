-- A run, by what the reading of its script answered.
use Rattle.std.proofs.Common.{◌≡◌, ◌≤◌, ℕ, List, Option, Some, None, Result, Ok, Err, IsSome, nat_lt, length}
use Rattle.std.proofs.Common.{Bool, inr, refl, sym, subst, le-ltb, lt-ltb, true, false}
use Rattle.std.specs.FinMap as finite
use Rattle.dt_base.specs.declared.fault.Fault.{Fault}
use Rattle.dt_world.specs.Told.{FileMap, IsFile, IsAbsent, IsLonger}
use Rattle.run_model.specs.Messages.{printed_fault}
use Rattle.session_model.specs.World.{World, world}
use Rattle.dt_run.specs.Run.{AskedAnswers, AskedCut, AskedEnds, AskedBefore, FileAnswers, FileBefore, FileCut, FileEnds}
use Rattle.dt_run.specs.Run.{ScriptAnswers, Told, script_bytes, usage_line}
use Rattle.dt_run.specs.Steps.{PutAs, absent, too_long}
use Rattle.dt_run.specs.Words.{Asked}
use Rattle.dt_run.specs.declared.status.Status.{Status}
use Rattle.dt_run.specs.declared.status.Status.TheVariants.{Done, Stopped, Usage, ReadFault, WriteFault, NoMemory}
use Rattle.dt_run.proofs.Ends.{put_answers}

-- what becomes of the script becomes of what is asked for
of_script : (m : FileMap) (a : Asked) (w v : World) (s : Status)
    → FileAnswers a.is_check (script_bytes m a.script) w v s → AskedAnswers m (Some a) w v s
of_script m a w v Done h = h
of_script m a w v Stopped h = h
of_script m a w v Usage h = h
of_script m a w v ReadFault h = inr h
of_script m a w v WriteFault h = h
of_script m a w v NoMemory h = h

by_bytes : (m : FileMap) (a : Asked) (o : Result (List ℕ) Fault) (w v : World) (s : Status)
    → script_bytes m a.script ≡ o → FileAnswers a.is_check o w v s → AskedAnswers m (Some a) w v s
by_bytes m a o w v s is h =
    of_script m a w v s (subst (λ (r : Result (List ℕ) Fault). FileAnswers a.is_check r w v s) (sym is) h)

read_bytes : (m : FileMap) (q bytes : List ℕ) → finite.get m q ≡ Some bytes → length bytes ≤ 1048576
    → script_bytes m q ≡ Ok bytes
read_bytes m q bytes is le =
    let short : nat_lt 1048576 (length bytes) ≡ false = le-ltb 1048576 (length bytes) le in rw (is, short) refl

of_bytes : (check : Bool) (bytes : List ℕ) (w v : World) (s : Status) → ScriptAnswers check bytes w v s
    → FileAnswers check (Ok bytes) w v s
of_bytes check bytes w v Done h = h
of_bytes check bytes w v Stopped h = h
of_bytes check bytes w v Usage h = h
of_bytes check bytes w v ReadFault h = h
of_bytes check bytes w v WriteFault h = h
of_bytes check bytes w v NoMemory h = h

-- the script was read
pub file_read : (held : Option FileMap) (a : Asked) (bytes : List ℕ) (w v : World) (s : Status)
    → IsFile held a.script bytes → length bytes ≤ 1048576
    → (IsSome held → ScriptAnswers a.is_check bytes w v s) → Told held (λ m. AskedAnswers m (Some a) w v s)
file_read None a bytes w v s is le h = tt
file_read (Some m) a bytes w v s is le h =
    by_bytes m a (Ok bytes) w v s (read_bytes m a.script bytes is le) (of_bytes a.is_check bytes w v s (h refl))

told : (m : FileMap) (a : Asked) (f : Fault) (o e n : Option (List ℕ)) (rose : Type 0) (s : Status)
    → script_bytes m a.script ≡ Err f → PutAs Stopped e n (printed_fault 0 f) rose s
    → AskedAnswers m (Some a) (world (Some m) o e) (world (Some m) o n) s
told m a f o e n rose s is h =
    by_bytes m a (Err f) (world (Some m) o e) (world (Some m) o n) s is
    (put_answers (Some m) o e n (printed_fault 0 f) Stopped rose
    (FileEnds a.is_check (Err f) (world (Some m) o e)) (FileCut a.is_check (Err f) (world (Some m) o e))
    (FileBefore a.is_check (Err f) (world (Some m) o e)) s (λ k. (refl, k)) (λ k. k) h)

-- there is no such script
pub file_absent : (held : Option FileMap) (a : Asked) (o e n : Option (List ℕ)) (count rose : Type 0) (s : Status)
    → IsAbsent held a.script count → PutAs Stopped e n (printed_fault 0 (absent a.script)) rose s
    → Told held (λ m. AskedAnswers m (Some a) (world held o e) (world held o n) s)
file_absent None a o e n count rose s is h = tt
file_absent (Some m) a o e n count rose s is h =
    let none : finite.get m a.script ≡ None = is in told m a (absent a.script) o e n rose s (rw none refl) h

-- it is too long
pub file_long : (held : Option FileMap) (a : Asked) (o e n : Option (List ℕ)) (count rose : Type 0) (s : Status)
    → IsLonger held a.script 1048576 count → PutAs Stopped e n (printed_fault 0 (too_long a.script)) rose s
    → Told held (λ m. AskedAnswers m (Some a) (world held o e) (world held o n) s)
file_long None a o e n count rose s is h = tt
file_long (Some m) a o e n count rose s is h =
    let found : finite.get m a.script ≡ Some is.0 = is.1 in
    let long : nat_lt 1048576 (length is.0) ≡ true = lt-ltb 1048576 (length is.0) is.2 in
    told m a (too_long a.script) o e n rose s (rw (found, long) refl) h

-- the words ask for nothing
pub usage_told : (held : Option FileMap) (asked : Option Asked) (o e n : Option (List ℕ)) (rose : Type 0) (s : Status)
    → None ≡ asked → PutAs Usage e n usage_line rose s
    → Told held (λ m. AskedAnswers m asked (world held o e) (world held o n) s)
usage_told None asked o e n rose s is h = tt
usage_told (Some m) asked o e n rose s is h =
    subst (λ (a : Option Asked). AskedAnswers m a (world (Some m) o e) (world (Some m) o n) s) is
    (put_answers (Some m) o e n usage_line Usage rose (AskedEnds m None (world (Some m) o e))
    (AskedCut m None (world (Some m) o e)) (AskedBefore m None (world (Some m) o e)) s (λ k. (refl, k)) (λ k. k) h)
