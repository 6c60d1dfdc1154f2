-- Of the counts of what failed, only the one that is answered may have risen.
use Rattle.std.specs.Prelude.{⊤}
use Rattle.std.proofs.Common.{◌≡◌, ◌≢◌, ◌≤◌, ◌∙◌, ℕ, List, Option, None, Some, Result, Ok, Err, OnOk, IfErr, IsErrOf}
use Rattle.std.proofs.Common.{false, IsSome, IsNone, alloc_error, ap, arith, inl, inr, refl, sym, subst}
use Rattle.dt_base.specs.declared.fault.Code.{Code}
use Rattle.dt_base.specs.declared.fault.Code.TheVariants.{E15, E16}
use Rattle.dt_world.specs.Causes.{Rose}
use Rattle.dt_world.specs.Told.{FileMap}
use Rattle.dt_world.specs.declared.traits.WriteFail.{WriteFail}
use Rattle.dt_world.specs.declared.traits.WriteFail.TheVariants as write
use Rattle.session_model.proofs.Parts.{rose_later}
use Rattle.session_model.specs.World.{World, Pieces, Parted, FiledPart, filed, in_text, in_file, in_lines}
use Rattle.file_value.specs.Answers.{cause_of}
use Rattle.file_value.specs.Reads.{FilesSeen, NoReadFailed, OnlyReads}
use Rattle.file_value.specs.declared.fail.ValueFail.{ValueFail}
use Rattle.file_value.specs.declared.fail.ValueFail.TheVariants as value
use Rattle.eval_fail.specs.Answers.{is_of_file}
use Rattle.dt_session.specs.Answers.{Blames, CountsOwn, IsOwn}
use Rattle.dt_session.specs.Execs.{Ended, IsCounted}
use Rattle.dt_session.specs.Fails.{of_value, of_write}
use Rattle.dt_session.specs.Outside.{Outside, SinkSeen, NoneFell, WriteRose, outside, world_of}
use Rattle.dt_session.specs.Puts.{IsSent}
use Rattle.dt_session.specs.declared.fail.ExecFail.{ExecFail}
use Rattle.dt_session.specs.declared.fail.ExecFail.TheVariants.{Stop, ReadFault, WriteFault, NoMemory}

-- ---- Answers, by what is so of them

pub on_ok_as : {A E P Q : Type 0} (r : Result A E) → (P → Q) → OnOk r P → OnOk r Q
on_ok_as (Ok x) f h = f h
on_ok_as (Err x) f h = tt

pub if_err_as : {A E : Type 0} {P Q : E → Type 0} (r : Result A E) → ((e : E) → P e → Q e) → IfErr r P → IfErr r Q
if_err_as (Ok x) f h = tt
if_err_as (Err x) f h = f x h

-- by what is so of the counts that stand
pub own_as : {R S W X : Type 0} (e : ExecFail) → (R → S) → (W → X) → CountsOwn R W e → CountsOwn S X e
own_as (Stop f) r w h = (r h.0, w h.1)
own_as ReadFault r w h = w h
own_as WriteFault r w h = r h
own_as (NoMemory x) r w h = (r h.0, w h.1)

-- ---- One part behind another

-- a count that did not fall twice did not fall
pub later : (a b c : ℕ) → a ≤ b → b ≤ c → a ≤ c
later a b c p q = omega arith

pub none_fell_later : (u w v : Outside) → NoneFell u w → NoneFell w v → NoneFell u v
none_fell_later u w v h k = record {
  out = later _ _ _ h.out k.out;
  err = later _ _ _ h.err k.err;
  write_faults = later _ _ _ h.write_faults k.write_faults;
  read_faults = later _ _ _ h.read_faults k.read_faults;
  misses = later _ _ _ h.misses k.misses;
  longs = later _ _ _ h.longs k.longs;
}

-- what a later statement or call blames on a file
pub cause_later : (code : Code) (m0 m1 m2 l0 l1 l2 : ℕ) → m0 ≤ m1 → l0 ≤ l1
    → cause_of code (Rose m1 m2) (Rose l1 l2) → cause_of code (Rose m0 m2) (Rose l0 l2)
cause_later E15 m0 m1 m2 l0 l1 l2 p q r = rose_later m0 m1 m2 p r
cause_later E16 m0 m1 m2 l0 l1 l2 p q r = rose_later l0 l1 l2 q r
cause_later _ m0 m1 m2 l0 l1 l2 p q r = tt

blames_later : (h h1 : Option FileMap) (m0 m1 m2 l0 l1 l2 : ℕ) (e : ExecFail) → (IsNone h → IsNone h1)
    → m0 ≤ m1 → l0 ≤ l1 → Blames h1 (Rose m1 m2) (Rose l1 l2) e → Blames h (Rose m0 m2) (Rose l0 l2) e
blames_later h h1 m0 m1 m2 l0 l1 l2 (Stop f) u p q b = λ n. cause_later f.code m0 m1 m2 l0 l1 l2 p q (b (u n))
blames_later h h1 m0 m1 m2 l0 l1 l2 ReadFault u p q b = tt
blames_later h h1 m0 m1 m2 l0 l1 l2 WriteFault u p q b = tt
blames_later h h1 m0 m1 m2 l0 l1 l2 (NoMemory x) u p q b = tt

pub write_later : (u w v : Outside) → NoneFell u w → WriteRose w v → WriteRose u v
write_later u w v h (inl out) = inl (rose_later _ _ _ h.out out)
write_later u w v h (inr (inl err)) = inr (inl (rose_later _ _ _ h.err err))
write_later u w v h (inr (inr files)) = inr (inr (rose_later _ _ _ h.write_faults files))

-- a part that was done, and then another
pub counted_later : (u w v : Outside) (r : Ended) → IsCounted u w (Ok tt) → IsCounted w v r → IsCounted u v r
counted_later u w v r h k =
    let quiet = h.ok_quiet in
    record {
      stays = record {
        told = λ t. k.stays.told (h.stays.told t);
        untold = λ t. k.stays.untold (h.stays.untold t);
      };
      none_fell = none_fell_later u w v h.none_fell k.none_fell;
      ok_quiet = on_ok_as r (λ q. (q.0 ∙ quiet.0, (q.1.0 ∙ quiet.1.0, q.1.1 ∙ quiet.1.1, q.1.2 ∙ quiet.1.2)))
          k.ok_quiet;
      quiet =
          if_err_as r (λ e q. own_as e (λ x. x ∙ quiet.0)
          (λ x. (x.0 ∙ quiet.1.0, x.1 ∙ quiet.1.1, x.2 ∙ quiet.1.2)) q) k.quiet;
      read = λ is. rose_later _ _ _ h.none_fell.read_faults (k.read is);
      write = λ is. write_later u w v h.none_fell (k.write is);
      cause =
          if_err_as r (λ e b. blames_later u.files.held w.files.held _ _ _ _ _ _ e h.stays.untold
          h.none_fell.misses h.none_fell.longs b) k.cause;
    }

none_fell : (w : Outside) → NoneFell w w
none_fell w = record {
  out = omega arith;
  err = omega arith;
  write_faults = omega arith;
  read_faults = omega arith;
  misses = omega arith;
  longs = omega arith;
}

-- nothing was counted
pub counted_none : (w : Outside) → IsCounted w w (Ok tt)
counted_none w = record {
  stays = record { told = λ t. t; untold = λ t. t };
  none_fell = none_fell w;
  ok_quiet = (refl, (refl, refl, refl));
  quiet = tt;
  read = λ is. cc;
  write = λ is. cc;
  cause = tt;
}

-- ---- A call that only reads files

same_told : (old now : Option FileMap) → now ≡ old → IsSome old → IsSome now
same_told old now same h = subst IsSome (sym same) h

same_untold : (old now : Option FileMap) → now ≡ old → IsNone old → IsNone now
same_untold old now same h = subst IsNone (sym same) h

reads_none_fell : {F B : Type 0} (see : F → FilesSeen) (o n : F) (r : Result B ValueFail) (out err : SinkSeen)
    → OnlyReads see o n r → NoneFell (outside (see o) out err) (outside (see n) out err)
reads_none_fell see o n r out err h = record {
  out = omega arith;
  err = omega arith;
  write_faults = omega (arith, h.write_faults);
  read_faults = h.read_faults;
  misses = h.misses;
  longs = h.longs;
}

-- its value was given
pub counted_read : {F B : Type 0} (see : F → FilesSeen) (o n : F) (b : B) (out err : SinkSeen)
    → OnlyReads see o n (Ok b) → IsCounted (outside (see o) out err) (outside (see n) out err) (Ok tt)
counted_read see o n b out err h = record {
  stays = record { told = same_told _ _ h.held; untold = same_untold _ _ h.held };
  none_fell = reads_none_fell see o n (Ok b) out err h;
  ok_quiet = (h.quiet tt, (refl, refl, h.write_faults));
  quiet = tt;
  read = λ is. cc;
  write = λ is. cc;
  cause = tt;
}

own_of_value : (B : Type 0) {R W : Type 0} (e : ValueFail) → (NoReadFailed {B = B} (Err e) → R) → W
    → CountsOwn R W (of_value e)
own_of_value B (value.Stop f) r w = (r tt, w)
own_of_value B value.ReadFault r w = w
own_of_value B (value.NoMemory x) r w = (r tt, w)

value_read : (B : Type 0) (e : ValueFail) → IsErrOf {T = Unit {0}} (Err (of_value e)) ReadFault
    → IsErrOf {T = B} (Err e) value.ReadFault
value_read B (value.Stop f) is = cc
value_read B value.ReadFault is = refl
value_read B (value.NoMemory x) is = cc

value_write : (P : Type 0) (e : ValueFail) → IsErrOf {T = Unit {0}} (Err (of_value e)) WriteFault → P
value_write P (value.Stop f) is = cc
value_write P value.ReadFault is = cc
value_write P (value.NoMemory x) is = cc

value_blames : {F B : Type 0} (see : F → FilesSeen) (o n : F) (e : ValueFail) → OnlyReads {B = B} see o n (Err e)
    → Blames (see o).held (Rose (see o).misses (see n).misses) (Rose (see o).longs (see n).longs) (of_value e)
value_blames see o n (value.Stop f) h = h.cause
value_blames see o n value.ReadFault h = tt
value_blames see o n (value.NoMemory x) h = tt

-- it was not
pub counted_unread : {F : Type 0} (B : Type 0) (see : F → FilesSeen) (o n : F) (e : ValueFail) (out err : SinkSeen)
    → OnlyReads {B = B} see o n (Err e)
    → IsCounted (outside (see o) out err) (outside (see n) out err) (Err (of_value e))
counted_unread B see o n e out err h = record {
  stays = record { told = same_told _ _ h.held; untold = same_untold _ _ h.held };
  none_fell = reads_none_fell see o n (Err e) out err h;
  ok_quiet = tt;
  quiet = own_of_value B e h.quiet (refl, refl, h.write_faults);
  read = λ is. h.failed (value_read B e is);
  write = value_write _ e;
  cause = value_blames see o n e h;
}

-- ---- What was sent

filed_told : (old : Option FileMap) (file : Option (List ℕ × List ℕ)) → IsSome old → IsSome (filed old file)
filed_told None file h = cc
filed_told (Some m) None h = refl
filed_told (Some m) (Some x) h = refl

filed_untold : (old : Option FileMap) (file : Option (List ℕ × List ℕ)) → IsNone old → IsNone (filed old file)
filed_untold None None h = refl
filed_untold None (Some x) h = refl
filed_untold (Some m) file h = cc

part_told : (old now : Option FileMap) (file : Option (List ℕ × List ℕ)) → FiledPart old now file
    → IsSome old → IsSome now
part_told old now None same h = same_told old now same h
part_told old now (Some x) (inl same) h = same_told old now same h
part_told old now (Some x) (inr (n, part)) h = same_told _ now part (filed_told old (Some (x.0, _)) h)

part_untold : (old now : Option FileMap) (file : Option (List ℕ × List ℕ)) → FiledPart old now file
    → IsNone old → IsNone now
part_untold old now None same h = same_untold old now same h
part_untold old now (Some x) (inl same) h = same_untold old now same h
part_untold old now (Some x) (inr (n, part)) h = same_untold _ now part (filed_untold old (Some (x.0, _)) h)

parted_told : (w v : World) (p : Pieces) → Parted w p v → IsSome w.files → IsSome v.files
parted_told w v p (in_text o f e) h = same_told w.files v.files f h
parted_told w v p (in_file o f e) h = part_told w.files v.files p.file f h
parted_told w v p (in_lines o f e) h = same_told _ v.files f (filed_told w.files p.file h)

parted_untold : (w v : World) (p : Pieces) → Parted w p v → IsNone w.files → IsNone v.files
parted_untold w v p (in_text o f e) h = same_untold w.files v.files f h
parted_untold w v p (in_file o f e) h = part_untold w.files v.files p.file f h
parted_untold w v p (in_lines o f e) h = same_untold _ v.files f (filed_untold w.files p.file h)

-- all was
pub counted_sent : (w v : Outside) (p : Pieces) → IsSent w v p (Ok tt) → IsCounted w v (Ok tt)
counted_sent w v p h =
    let files = ap (λ (u : World). u.files) h.ok in
    record {
      stays = record {
        told = λ t. same_told _ _ files (filed_told w.files.held p.file t);
        untold = λ t. same_untold _ _ files (filed_untold w.files.held p.file t);
      };
      none_fell = h.none_fell;
      ok_quiet = (h.read_faults, h.ok_quiet);
      quiet = tt;
      read = λ is. cc;
      write = λ is. cc;
      cause = tt;
    }

own_of_write : {R W : Type 0} (e : WriteFail) → R
    → (IsErrOf {T = Unit {0}} (Err e) (write.NoMemory alloc_error) → W) → CountsOwn R W (of_write e)
own_of_write write.Failed r w = r
own_of_write (write.NoMemory x) r w = (r, w refl)

write_read : (P : Type 0) (e : WriteFail) → IsErrOf {T = Unit {0}} (Err (of_write e)) ReadFault → P
write_read P write.Failed is = cc
write_read P (write.NoMemory x) is = cc

write_failed : (e : WriteFail) → IsErrOf {T = Unit {0}} (Err (of_write e)) WriteFault
    → IsErrOf {T = Unit {0}} (Err e) write.Failed
write_failed write.Failed is = refl
write_failed (write.NoMemory x) is = cc

write_blames : (held : Option FileMap) (miss long : Type 0) (e : WriteFail) → Blames held miss long (of_write e)
write_blames held miss long write.Failed = tt
write_blames held miss long (write.NoMemory x) = tt

-- not all was
pub counted_unsent : (w v : Outside) (p : Pieces) (e : WriteFail) → IsSent w v p (Err e)
    → IsCounted w v (Err (of_write e))
counted_unsent w v p e h = record {
  stays = record {
    told = parted_told (world_of w) (world_of v) p h.part;
    untold = parted_untold (world_of w) (world_of v) p h.part;
  };
  none_fell = h.none_fell;
  ok_quiet = tt;
  quiet = own_of_write e h.read_faults h.no_memory_quiet;
  read = write_read _ e;
  write = λ is. h.failed (write_failed e is);
  cause = write_blames _ _ _ e;
}

-- ---- A refusal of the reading, which is told on the other output alone

other_cause : (code : Code) (miss long : Type 0) → is_of_file code ≡ false → cause_of code miss long
other_cause E15 miss long h = cc
other_cause E16 miss long h = cc
other_cause _ miss long h = tt

pub error_of : (a b : ExecFail) → IsErrOf {T = Unit {0}} (Err a) b → a ≡ b
error_of a b is = cc

own_blames : (held : Option FileMap) (miss long : Type 0) (e : ExecFail) → IsOwn e → Blames held miss long e
own_blames held miss long (Stop f) own = λ n. other_cause f.code miss long own
own_blames held miss long ReadFault own = tt
own_blames held miss long WriteFault own = tt
own_blames held miss long (NoMemory x) own = tt

pub counted_refusal : (w : Outside) (n : SinkSeen) (e : ExecFail) → IsOwn e → e ≢ ReadFault
    → (e ≡ WriteFault → Rose w.err.faults n.faults) → CountsOwn ⊤ (n.faults ≡ w.err.faults) e
    → w.err.faults ≤ n.faults → IsCounted w (outside w.files w.out n) (Err e)
counted_refusal w n e own unread failed quiet faults = record {
  stays = record { told = λ t. t; untold = λ t. t };
  none_fell = record {
    out = omega arith;
    err = faults;
    write_faults = omega arith;
    read_faults = omega arith;
    misses = omega arith;
    longs = omega arith;
  };
  ok_quiet = tt;
  quiet = own_as e (λ x. refl) (λ x. (refl, x, refl)) quiet;
  read = λ is. absurd (unread (error_of e _ is));
  write = λ is. inr (inl (failed (error_of e _ is)));
  cause = own_blames _ _ _ e own;
}
