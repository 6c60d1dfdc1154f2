-- What stands outside after a part of what a statement sends: nothing of it, all of it, or all up to
-- one piece.
use Rattle.std.proofs.Common.{◌≡◌, ℕ, List, [], Option, Some, None, length, refl, sym, ap, ◌∙◌, inl, ◌≤◌, arith, Err}
use Rattle.std.proofs.Math.Seq.{take-length}
use Rattle.std.proofs.lemmas.List.{append-nil}
use Rattle.dt_base.specs.declared.fault.Fault.{Fault}
use Rattle.dt_world.specs.Causes.{Rose}
use Rattle.dt_world.specs.Told.{FileMap, appended, AppendedPart}
use Rattle.run_model.specs.Messages.{printed_fault}
use Rattle.session_model.specs.Evaluation.{Step, sends}
use Rattle.session_model.specs.World.{World, Pieces, world, filed, after, FiledPart, Parted, in_text, in_file}
use Rattle.session_model.specs.World.{in_lines, fault_pieces}

-- nothing was put
pub appended_nothing : (old : Option (List ℕ)) → appended old [] ≡ old
appended_nothing None = refl
appended_nothing (Some xs) = ap Some (append-nil xs)

pub none_part : (old now : Option (List ℕ)) (piece : List ℕ) → now ≡ old → AppendedPart old now piece
none_part old now piece e = (0, e ∙ sym (appended_nothing old))

pub whole_part : (old now : Option (List ℕ)) (piece : List ℕ) → now ≡ appended old piece → AppendedPart old now piece
whole_part old now piece e = (length piece, e ∙ ap (appended old) (sym (take-length piece)))

pub none_filed : (held now : Option FileMap) (file : Option (List ℕ × List ℕ)) → now ≡ held → FiledPart held now file
none_filed held now None e = e
none_filed held now (Some file) e = inl e

-- nothing was put
pub parted_none : (w now : World) (e : Pieces) → now ≡ w → Parted w e now
parted_none w now e h = in_text (none_part w.out now.out e.text (ap (λ v. v.out) h)) (ap (λ v. v.files) h)
    (ap (λ v. v.err) h)

-- all was put
pub parted_whole : (w now : World) (e : Pieces) → now ≡ after w e → Parted w e now
parted_whole w now e h = in_lines (ap (λ v. v.out) h) (ap (λ v. v.files) h)
    (whole_part w.err now.err e.lines (ap (λ v. v.err) h))

-- the file's write failed, after the text was put
pub parted_at_file : (f f1 : Option FileMap) (o o1 e : Option (List ℕ)) (effect : Pieces) → o1
    ≡ appended o effect.text → FiledPart f f1 effect.file → Parted (world f o e) effect (world f1 o1 e)
parted_at_file f f1 o o1 e effect p q = in_file p q refl

-- the put of the lines failed, after the text and the file
pub parted_at_lines : (f f1 : Option FileMap) (o o1 e e1 : Option (List ℕ)) (effect : Pieces) → o1
    ≡ appended o effect.text → f1 ≡ filed f effect.file → AppendedPart e e1 effect.lines
    → Parted (world f o e) effect (world f1 o1 e1)
parted_at_lines f f1 o o1 e e1 effect p q r = in_lines p q r

-- a first part of lines alone was put
pub parted_in_lines : (f : Option FileMap) (o e e1 : Option (List ℕ)) (lines : List ℕ) → AppendedPart e e1 lines
    → Parted (world f o e) (record { text = []; file = None; lines = lines }) (world f o e1)
parted_in_lines f o e e1 lines p = in_lines (sym (appended_nothing o)) refl p

-- the line of a fault was put, behind a world that stayed
pub told_all : (n : ℕ) (f : Fault) (w v : World) (e : Option (List ℕ)) → v ≡ w → e
    ≡ appended v.err (printed_fault n f) → world v.files v.out e ≡ after w (fault_pieces n f)
told_all n f w v e h p = (λ i. record {
  files = (h i).files;
  out = (ap (λ u. u.out) h ∙ sym (appended_nothing w.out))
      i;
  err = (p ∙ ap (λ u. appended u.err (printed_fault n f)) h) i;
})

-- a first part of the line of a fault was put
pub told_part : (line : ℕ) (o : Step) (f : Fault) (w v : World) (e : Option (List ℕ)) → o ≡ Err f → v ≡ w
    → AppendedPart v.err e (printed_fault line f) → Parted w (sends line o) (world v.files v.out e)
told_part line o f w v e is h p = rw (is, h) (parted_in_lines w.files w.out w.err e (printed_fault line f)
    (rw (← ap (λ u. u.err) h) p))

-- a count that rose later rose
pub rose_later : (a b c : ℕ) → a ≤ b → Rose b c → Rose a c
rose_later a b c h r = omega arith
