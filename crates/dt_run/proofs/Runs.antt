-- A run, from its parts: what stood outside before, and what stands now.
use Rattle.std.specs.Prelude.{⊤}
use Rattle.std.proofs.Common.{◌≡◌, ◌≤◌, ℕ, Bool, List, Option, None, Some, Ok, Err, length, true, false}
use Rattle.std.proofs.Common.{arith, refl, subst, sym}
use Rattle.dt_session.specs.Execs.{IsScriptRun}
use Rattle.dt_session.specs.Outside.{Outside, SinkSeen, outside}
use Rattle.dt_session.specs.Session.{SessionSeen, state_of}
use Rattle.dt_session.specs.declared.fail.ExecFail.{ExecFail}
use Rattle.dt_session.specs.declared.fail.ExecFail.TheVariants as exec
use Rattle.dt_session.specs.declared.fail.RunFail.{RunFail}
use Rattle.dt_world.specs.Causes.{Rose}
use Rattle.dt_world.specs.Told.{FileMap, IsAbsent, IsFile, IsLonger}
use Rattle.run_model.specs.Messages.{printed_fault}
use Rattle.session_model.specs.Session.{empty_session}
use Rattle.session_model.specs.World.{World, world}
use Rattle.file_value.specs.Reads.{FilesSeen}
use Rattle.dt_run.specs.Ending.{IsAskedEnd, IsRun, IsScriptEnd}
use Rattle.dt_run.specs.Run.{AskedAnswers, NeedsScript, Told, usage_line}
use Rattle.dt_run.specs.Steps.{CheckedAs, CountsOwn, PutAs, absent, status_for, too_long}
use Rattle.dt_run.specs.Words.{Asked, LacksScript, all_asked, with_name}
use Rattle.dt_run.specs.declared.status.Status.{Status}
use Rattle.dt_run.specs.declared.status.Status.TheVariants.{Done, Stopped, Usage, ReadFault, WriteFault, NoMemory}
use Rattle.dt_run.proofs.Counts.{blamed_done, blamed_early, blamed_on_err, checked_failed, checked_unread}
use Rattle.dt_run.proofs.Counts.{put_failed, put_unread}
use Rattle.dt_run.proofs.Ends.{checked_answers, ended_early, none_unread, none_wanting, ran}
use Rattle.dt_run.proofs.Files.{file_absent, file_long, file_read, usage_told}
use Rattle.dt_run.proofs.Stops.{absent_stops, checked_stops, long_stops}

-- ---- Whether a script was asked for

early_words : (e : ExecFail) → NeedsScript (status_for e) true
early_words (exec.Stop f) = refl
early_words exec.ReadFault = refl
early_words exec.WriteFault = tt
early_words (exec.NoMemory x) = tt

checked_words : (bytes : List ℕ) (old now : Option (List ℕ)) (rose : Type 0) (s : Status)
    → CheckedAs bytes old now rose s → NeedsScript s true
checked_words bytes old now rose Done h = refl
checked_words bytes old now rose Stopped h = refl
checked_words bytes old now rose Usage h = absurd h
checked_words bytes old now rose ReadFault h = absurd h
checked_words bytes old now rose WriteFault h = tt
checked_words bytes old now rose NoMemory h = tt

stopped_words : (old now : Option (List ℕ)) (piece : List ℕ) (rose : Type 0) (s : Status)
    → PutAs Stopped old now piece rose s → NeedsScript s true
stopped_words old now piece rose Done h = refl
stopped_words old now piece rose Stopped h = refl
stopped_words old now piece rose Usage h = let other : Stopped ≡ Usage = h.0 in cc
stopped_words old now piece rose ReadFault h = absurd h
stopped_words old now piece rose WriteFault h = tt
stopped_words old now piece rose NoMemory h = tt

pub no_usage : {P : Type 0} (s : Status) → NeedsScript s true → s ≡ Usage → P
no_usage Done h is = cc
no_usage Stopped h is = cc
no_usage Usage h is = let other : true ≡ false = h in cc
no_usage ReadFault h is = cc
no_usage WriteFault h is = cc
no_usage NoMemory h is = cc

usage_words : (old now : Option (List ℕ)) (piece : List ℕ) (rose : Type 0) (s : Status)
    → PutAs Usage old now piece rose s → NeedsScript s false
usage_words old now piece rose Done h = let other : Usage ≡ Done = h.0 in cc
usage_words old now piece rose Stopped h = let other : Usage ≡ Stopped = h.0 in cc
usage_words old now piece rose Usage h = refl
usage_words old now piece rose ReadFault h = absurd h
usage_words old now piece rose WriteFault h = tt
usage_words old now piece rose NoMemory h = tt

usage_stops : {P : Type 0} (old now : Option (List ℕ)) (piece : List ℕ) (rose : Type 0) (s : Status)
    → PutAs Usage old now piece rose s → s ≡ Stopped → P
usage_stops old now piece rose Done h is = cc
usage_stops old now piece rose Stopped h is = let other : Usage ≡ Stopped = h.0 in cc
usage_stops old now piece rose Usage h is = cc
usage_stops old now piece rose ReadFault h is = absurd h
usage_stops old now piece rose WriteFault h is = cc
usage_stops old now piece rose NoMemory h is = cc

-- ---- A script whose bytes are there

pub script_done : (bytes : List ℕ) (s t : SessionSeen) (w v : Outside) → state_of s ≡ empty_session
    → IsScriptRun bytes s t w v (Ok tt) → IsScriptEnd false bytes w v Done
script_done bytes s t w v new h = record {
  ends = λ told. ran bytes _ _ _ _ new (h.done told);
  words = refl;
  blamed = blamed_done w v h.counted;
  reads = h.counted.none_fell.read_faults;
}

pub script_early : (bytes : List ℕ) (s t : SessionSeen) (w v : Outside) (r : RunFail) → state_of s ≡ empty_session
    → IsScriptRun bytes s t w v (Err r) → IsScriptEnd false bytes w v (status_for r.cause)
script_early bytes s t w v r new h = record {
  ends = λ told. ended_early bytes _ _ _ _ r new (h.ends told);
  words = early_words r.cause;
  blamed = blamed_early w v r.line r.cause h.counted h.put;
  reads = h.counted.none_fell.read_faults;
}

pub script_checked : (bytes : List ℕ) (w : Outside) (n : SinkSeen) (s : Status)
    → CheckedAs bytes w.err.bytes n.bytes (Rose w.err.faults n.faults) s
    → CountsOwn ⊤ (n.faults ≡ w.err.faults) s → IsScriptEnd true bytes w (outside w.files w.out n) s
script_checked bytes w n s h quiet = record {
  ends = λ told. checked_answers bytes _ _ _ _ _ s h;
  words = checked_words bytes _ _ _ s h;
  blamed =
      blamed_on_err w (outside w.files w.out n) s refl refl refl (checked_unread bytes _ _ _ s h)
      (checked_failed bytes _ _ _ s h) quiet (checked_stops bytes _ _ _ _ _ _ s h);
  reads = omega arith;
}

-- the bytes are these
pub script_as : (check : Bool) (given bytes : List ℕ) (w v : Outside) (s : Status) → given ≡ bytes
    → IsScriptEnd check given w v s → IsScriptEnd check bytes w v s
script_as check given bytes w v s is h = subst (λ (x : List ℕ). IsScriptEnd check x w v s) is h

-- ---- What the words ask for

-- the script of this name was run or read, or told as one that is not there
abbrev EndsAsked : Option FileMap → Asked → World → World → Status → Type 0
EndsAsked held a w v s = Told held (λ m. AskedAnswers m (Some a) w v s)

-- the script was read, and no count changed by that
pub asked_read : (a : Asked) (bytes : List ℕ) (o n : FilesSeen) (out err : SinkSeen) (v : Outside) (s : Status)
    → n.held ≡ o.held → n.write_faults ≡ o.write_faults
    → (n.read_faults ≡ o.read_faults) × (n.misses ≡ o.misses) × (n.longs ≡ o.longs)
    → IsFile o.held a.script bytes → length bytes ≤ 1048576
    → IsScriptEnd a.is_check bytes (outside n out err) v s → IsAskedEnd (Some a) (outside o out err) v s
asked_read a bytes o n out err v s held writes quiet is short h =
    let same : n ≡ o =
    λ i. record {
      held = held i;
      read_faults = quiet.0 i;
      misses = quiet.1 i;
      longs = quiet.2 i;
      write_faults = writes i;
    } in
    let k : IsScriptEnd a.is_check bytes (outside o out err) v s =
    subst (λ (f : FilesSeen). IsScriptEnd a.is_check bytes (outside f out err) v s) same h in
    record {
      ends = file_read o.held a bytes _ _ s is short k.ends;
      words = k.words;
      blamed = k.blamed;
    }

-- a read changes no file
on_held : (o n : FilesSeen) (a : Asked) (out err new : SinkSeen) (s : Status) → n.held ≡ o.held
    → EndsAsked o.held a (world o.held out.bytes err.bytes) (world o.held out.bytes new.bytes) s
    → EndsAsked o.held a (world o.held out.bytes err.bytes) (world n.held out.bytes new.bytes) s
on_held o n a out err new s held h =
    subst (λ f. EndsAsked o.held a (world o.held out.bytes err.bytes) (world f out.bytes new.bytes) s) (sym held) h

-- there is no such script
pub asked_absent : (a : Asked) (o n : FilesSeen) (out err new : SinkSeen) (s : Status) → n.held ≡ o.held
    → n.write_faults ≡ o.write_faults → n.read_faults ≡ o.read_faults
    → IsAbsent o.held a.script (Rose o.misses n.misses)
    → PutAs Stopped err.bytes new.bytes (printed_fault 0 (absent a.script)) (Rose err.faults new.faults) s
    → CountsOwn ⊤ (new.faults ≡ err.faults) s
    → IsAskedEnd (Some a) (outside o out err) (outside n out new) s
asked_absent a o n out err new s held writes reads is put quiet = record {
  ends = on_held o n a out err new s held (file_absent o.held a out.bytes err.bytes new.bytes _ _ s is put);
  words = stopped_words _ _ _ _ s put;
  blamed =
      blamed_on_err (outside o out err) (outside n out new) s reads writes refl (put_unread _ _ _ _ _ s put)
      (put_failed _ _ _ _ _ s put) quiet (absent_stops o.held a.script _ _ _ _ _ s is put);
}

-- it is too long
pub asked_long : (a : Asked) (o n : FilesSeen) (out err new : SinkSeen) (s : Status) → n.held ≡ o.held
    → n.write_faults ≡ o.write_faults → n.read_faults ≡ o.read_faults
    → IsLonger o.held a.script 1048576 (Rose o.longs n.longs)
    → PutAs Stopped err.bytes new.bytes (printed_fault 0 (too_long a.script)) (Rose err.faults new.faults) s
    → CountsOwn ⊤ (new.faults ≡ err.faults) s
    → IsAskedEnd (Some a) (outside o out err) (outside n out new) s
asked_long a o n out err new s held writes reads is put quiet = record {
  ends = on_held o n a out err new s held (file_long o.held a out.bytes err.bytes new.bytes _ _ s is put);
  words = stopped_words _ _ _ _ s put;
  blamed =
      blamed_on_err (outside o out err) (outside n out new) s reads writes refl (put_unread _ _ _ _ _ s put)
      (put_failed _ _ _ _ _ s put) quiet (long_stops o.held a.script _ _ _ _ _ s is put);
}

-- nothing was put, since the read failed
pub asked_unread : (a : Asked) (o n : FilesSeen) (out err : SinkSeen) → n.held ≡ o.held
    → n.write_faults ≡ o.write_faults → Rose o.read_faults n.read_faults
    → IsAskedEnd (Some a) (outside o out err) (outside n out err) ReadFault
asked_unread a o n out err held writes rose = record {
  ends = none_unread o.held a _ _ (λ i. record { files = held i; out = out.bytes; err = err.bytes });
  words = refl;
  blamed = record { read = λ is. rose; write = λ is. cc; quiet = (refl, refl, writes); stopped = λ is. cc };
}

-- or memory was wanting
pub asked_wanting : (a : Option Asked) (o n : FilesSeen) (out err : SinkSeen) → n.held ≡ o.held
    → n.write_faults ≡ o.write_faults → n.read_faults ≡ o.read_faults
    → IsAskedEnd a (outside o out err) (outside n out err) NoMemory
asked_wanting a o n out err held writes reads = record {
  ends = none_wanting o.held a _ _ (λ i. record { files = held i; out = out.bytes; err = err.bytes });
  words = tt;
  blamed = record { read = λ is. cc; write = λ is. cc; quiet = (reads, (refl, refl, writes)); stopped = λ is. cc };
}

-- the words ask for nothing, and the usage is told
pub asked_usage : (a : Option Asked) (w : Outside) (n : SinkSeen) (s : Status) → None ≡ a
    → PutAs Usage w.err.bytes n.bytes usage_line (Rose w.err.faults n.faults) s
    → CountsOwn ⊤ (n.faults ≡ w.err.faults) s → IsAskedEnd a w (outside w.files w.out n) s
asked_usage a w n s none put quiet = record {
  ends = usage_told w.files.held a w.out.bytes w.err.bytes n.bytes _ s none put;
  words = rw (← none) (usage_words _ _ _ _ s put);
  blamed =
      blamed_on_err w (outside w.files w.out n) s refl refl refl (put_unread _ _ _ _ _ s put)
      (put_failed _ _ _ _ _ s put) quiet (usage_stops _ _ _ _ s put);
}

-- what the words ask for is this
pub asked_as : (a b : Option Asked) (w v : Outside) (s : Status) → a ≡ b → IsAskedEnd a w v s → IsAskedEnd b w v s
asked_as a b w v s is h = subst (λ (x : Option Asked). IsAskedEnd x w v s) is h

-- ---- The whole run

pub run_told : (words all : List (List ℕ)) (w v : Outside) (s : Status) → all ≡ with_name words
    → IsAskedEnd (all_asked all) w v s → (s ≡ Usage → LacksScript all) → IsRun words w v s
run_told words all w v s is h usage =
    let k : IsAskedEnd (all_asked (with_name words)) w v s = subst (λ a. IsAskedEnd (all_asked a) w v s) is h in
    record {
      headline = k.ends;
      words = k.words;
      usage = λ u. subst LacksScript is (usage u);
      blamed = k.blamed;
    }

pub run_wanting : (words : List (List ℕ)) (w : Outside) → IsRun words w w NoMemory
run_wanting words w =
    let k = asked_wanting (all_asked (with_name words)) w.files w.files w.out w.err refl refl refl in
    record { headline = k.ends; words = k.words; usage = λ u. cc; blamed = k.blamed }
