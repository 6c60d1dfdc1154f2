-- A frame in which one column has become another.
use Rattle.std.proofs.Common.{◌≡◌, ◌<◌, ℕ, List, length, set, get_or, slice_get, Some, arith, ◌∙◌, sym, ap, subst}
use Rattle.std.proofs.lemmas.List.{get_or_default}
use Rattle.std.proofs.lemmas.Option.{slice_get-get_or}
use Rattle.std.proofs.Math.ListN.{length-set}
use Rattle.std.proofs.lemmas.List.Elements.{All-set, All-get_or}
use Rattle.dt_base.specs.Cell.{IsOfType}
use Rattle.dt_base.specs.declared.cell.Cell.{Cell}
use Rattle.dt_model.specs.Vector.{IsVector}
use Rattle.na_vector.specs.Column.{Seen, IsColumn}
use Rattle.na_vector.specs.Frame.{HasLength, IsFrame}

-- a column of the frame's length in another's place
pub IsFrame-set : (columns : List Seen) (rows c : ℕ) (with : Seen) → IsFrame columns rows → HasLength rows with
    → IsColumn with → IsFrame (set columns c with) rows
IsFrame-set columns rows c with h long vector = record {
  one_length = All-set (HasLength rows) columns c with long h.one_length;
  vectors = All-set IsColumn columns c with vector h.vectors;
  none = λ e. h.none (omega (arith, length-set {A = Seen}));
  short = h.short;
}

-- a cell of a column's type at a place of it
pub IsVector-set : (old new : Seen) (p : ℕ) (v : Cell) → IsVector old.vector → IsOfType old.vector.kind v
    → new.vector.kind ≡ old.vector.kind → new.vector.cells ≡ set old.vector.cells p v → IsVector new.vector
IsVector-set old new p v h typed kind cells = rw (kind, cells) (record {
  typed = All-set (IsOfType old.vector.kind) old.vector.cells p v typed h.typed;
  short = (let s = h.short in omega (arith, length-set {A = Cell}));
})

-- a cell written in a column of a frame leaves a frame
pub IsFrame-put : (columns : List Seen) (rows c p : ℕ) (old new d : Seen) (v : Cell) → IsFrame columns rows
    → c < length columns → old ≡ get_or columns c old → IsOfType (get_or columns c d).vector.kind v
    → new.vector.kind ≡ old.vector.kind → new.vector.cells ≡ set old.vector.cells p v → IsFrame (set columns c new) rows
IsFrame-put columns rows c p old new d v h lt at typed kind cells =
    let same : get_or columns c d ≡ old = get_or_default columns c d old lt ∙ sym at in
    let long : HasLength rows old = subst (HasLength rows) (sym at)
    (All-get_or (HasLength rows) columns c old lt h.one_length) in
    let vector : IsColumn old = subst IsColumn (sym at) (All-get_or IsColumn columns c old lt h.vectors) in
    IsFrame-set columns rows c new h
    (ap length cells ∙ (length-set _ p v ∙ long))
    (IsVector-set old new p v vector (subst (λ (x : Seen). IsOfType x.vector.kind v) same typed) kind cells)

-- the column that stood at a place
pub gone_at : (columns : List Seen) (c : ℕ) (was gone : Seen) → c < length columns → was ≡ get_or columns c was
    → gone ≡ was → slice_get columns c ≡ Some gone
gone_at columns c was gone lt at e = slice_get-get_or columns c was lt ∙ ap Some (sym at ∙ sym e)
