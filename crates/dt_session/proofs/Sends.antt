-- What was sent, from the put of the text, the write of the file and the put of the lines.
use Rattle.std.proofs.Common.{◌≡◌, ◌∙◌, ℕ, List, [], Ok, Err, ap, arith, inl, inr}
use Rattle.std.proofs.Common.{refl, subst, sym}
use Rattle.dt_world.specs.Told.{appended, AppendedPart}
use Rattle.dt_world.specs.declared.traits.WriteFail.{WriteFail}
use Rattle.file_value.specs.Reads.{FilesSeen}
use Rattle.session_model.proofs.Parts.{appended_nothing}
use Rattle.session_model.specs.World.{Pieces, in_file, in_lines, in_text}
use Rattle.dt_session.specs.Outside.{Outside, SinkSeen, outside}
use Rattle.dt_session.specs.Puts.{IsFiled, IsPut, IsSent, Sent}
use Rattle.dt_session.proofs.Counts.{if_err_as, on_ok_as}

-- nothing is put of an empty piece
pub put_none : (s : SinkSeen) (piece : List ℕ) → piece ≡ [] → IsPut s s piece (Ok tt)
put_none s piece is = record {
  ok = sym (appended_nothing s.bytes) ∙ ap (appended s.bytes) (sym is);
  part = tt;
  failed = λ failed. cc;
  no_memory = λ none. refl;
  ok_quiet = refl;
  no_memory_quiet = λ none. refl;
  faults = omega arith;
}

-- the put of the text failed
pub sent_text : (w : Outside) (n : SinkSeen) (p : Pieces) (text : List ℕ) (e : WriteFail) → text ≡ p.text
    → IsPut w.out n text (Err e) → IsSent w (outside w.files n w.err) p (Err e)
sent_text w n p text e is h = record {
  ok = tt;
  part = in_text (subst (AppendedPart w.out.bytes n.bytes) is h.part) refl refl;
  failed = λ failed. inl (h.failed failed);
  ok_quiet = tt;
  no_memory_quiet = λ none. (h.no_memory_quiet none, refl, refl);
  lines = tt;
  none_fell = record {
    out = h.faults;
    err = omega arith;
    write_faults = omega arith;
    read_faults = omega arith;
    misses = omega arith;
    longs = omega arith;
  };
  read_faults = refl;
  misses = refl;
  longs = refl;
}

-- the write of the file failed
pub sent_file : (w : Outside) (n : SinkSeen) (m : FilesSeen) (p : Pieces) (e : WriteFail)
    → IsPut w.out n p.text (Ok tt) → IsFiled w.files m p.file (Err e) → IsSent w (outside m n w.err) p (Err e)
sent_file w n m p e text file = record {
  ok = tt;
  part = in_file text.ok file.part refl;
  failed = λ failed. inr (inr (file.failed failed));
  ok_quiet = tt;
  no_memory_quiet = λ none. (text.ok_quiet, refl, file.no_memory_quiet none);
  lines = tt;
  none_fell = record {
    out = text.faults;
    err = omega arith;
    write_faults = file.write_faults;
    read_faults = omega (arith, file.read_faults);
    misses = omega (arith, file.misses);
    longs = omega (arith, file.longs);
  };
  read_faults = file.read_faults;
  misses = file.misses;
  longs = file.longs;
}

-- the lines were put, or not
pub sent_lines : (w : Outside) (n k : SinkSeen) (m : FilesSeen) (p : Pieces) (r : Sent)
    → IsPut w.out n p.text (Ok tt) → IsFiled w.files m p.file (Ok tt) → IsPut w.err k p.lines r
    → IsSent w (outside m n k) p r
sent_lines w n k m p r text file lines = record {
  ok = on_ok_as r (λ put. λ i. record { files = file.ok i; out = text.ok i; err = put i }) lines.ok;
  part = if_err_as r (λ e part. in_lines text.ok file.ok part) lines.part;
  failed = λ failed. inr (inl (lines.failed failed));
  ok_quiet = on_ok_as r (λ quiet. (text.ok_quiet, quiet, file.ok_quiet)) lines.ok_quiet;
  no_memory_quiet = λ none. (text.ok_quiet, lines.no_memory_quiet none, file.ok_quiet);
  lines = lines.ok;
  none_fell = record {
    out = text.faults;
    err = lines.faults;
    write_faults = file.write_faults;
    read_faults = omega (arith, file.read_faults);
    misses = omega (arith, file.misses);
    longs = omega (arith, file.longs);
  };
  read_faults = file.read_faults;
  misses = file.misses;
  longs = file.longs;
}
