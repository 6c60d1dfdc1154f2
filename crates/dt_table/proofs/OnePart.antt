-- What a part makes of a frame.
use Rattle.std.proofs.Common.{◌≡◌, ◌+◌, ◌<◌, ◌≤◌, ◌==◌, ℕ, false, All, List, [], ◌∷◌, ◌++◌, length, get_or, set, take}
use Rattle.std.proofs.Common.{Some, arith, refl, sym, ap, ◌∙◌, subst, inl, inr}
use Rattle.std.proofs.lemmas.Bool.{cases_Bool, eqb-false, eqb-true}
use Rattle.std.proofs.lemmas.List.{get_or-map, get_or-set_other, length-map, map-append, map-set, set-get_or, take_more}
use Rattle.std.proofs.lemmas.List.Elements.{All-get_or, All-push, All-same, All-weaker}
use Rattle.dt_base.specs.declared.cell.Cell.{Cell}
use Rattle.dt_model.specs.Vector.{Vector}
use Rattle.na_vector.specs.Column.{Seen}
use Rattle.na_vector.specs.Frame.{FrameSeen, column_at, vectors_of}
use Rattle.dt_table.specs.declared.change.Part.{Part}
use Rattle.dt_table.specs.declared.change.Part.TheVariants as part
use Rattle.dt_table.specs.Change.{PartSeen, Replace, Write, Add, Delete, FitsPart, HasRoom, changed, is_delete}
use Rattle.dt_table.specs.Change.{part_seen, parts_seen}
use Rattle.dt_table.specs.Table.{TableSeen, put_in_order}
use Rattle.dt_table.specs.Parts.{IsColumnOf, IsPut, IsRoomier, left, part_in, vector_at}

-- a column's vector is that at its place
pub vector_of_column : (columns : List Seen) (c : ℕ) → c < length columns → vector_at (vectors_of columns) c
    ≡ (column_at columns c).vector
vector_of_column columns c lt = get_or-map (λ (x : Seen). x.vector) columns c _ _ lt

-- a column elsewhere is as it was
pub other_column : (columns : List Seen) (d : ℕ) (x : Seen) (c : ℕ) → (d == c) ≡ false → column_at (set columns d x) c
    ≡ column_at columns c
other_column columns d x c e = get_or-set_other columns d c x _ (λ (same : c ≡ d). eqb-false d c e (sym same))

pub IsPut-replace : (f g : FrameSeen) (c : ℕ) (with : Seen) → g.columns ≡ set f.columns c with → g.rows ≡ f.rows
    → f.spare ≤ g.spare → IsPut (Replace c with.vector) f g
IsPut-replace f g c with e r s = record {
  vectors = ap vectors_of e ∙ map-set (λ (x : Seen). x.vector) f.columns c with;
  rows = r;
  others = λ d not lt. ap (λ (l : List Seen). column_at l d) e ∙ other_column f.columns c with d not;
  spare = omega arith;
}

pub IsPut-write : (f g : FrameSeen) (c : ℕ) (at : List ℕ) (cells : List Cell) → c < length f.columns
    → (column_at g.columns c).vector.kind ≡ (column_at f.columns c).vector.kind → (column_at g.columns c).vector.cells
    ≡ put_in_order at cells (column_at f.columns c).vector.cells → g.columns ≡ set f.columns c (column_at g.columns c)
    → g.rows ≡ f.rows → f.spare ≤ g.spare → IsPut (Write c at cells) f g
IsPut-write f g c at cells lt kind put e r s =
    let old : Vector = (column_at f.columns c).vector in
    let one : (column_at g.columns c).vector ≡ changed (Some (Write c at cells)) old = rw (← kind, ← put) refl in
    record {
      vectors = ap vectors_of e ∙ (map-set (λ (x : Seen). x.vector) f.columns c (column_at g.columns c)
          ∙ ap (set (vectors_of f.columns) c) (one ∙ ap (changed (Some (Write c at cells)))
          (sym (vector_of_column f.columns c lt))));
      rows = r;
      others = λ d not in_range. ap (λ (l : List Seen). column_at l d) e
          ∙ other_column f.columns c (column_at g.columns c) d not;
      spare = omega arith;
    }

-- what is left of a part that is no deletion
left_not : (w : ℕ) (p : PartSeen) → is_delete (Some p) ≡ false → left w p ≡ Delete w
left_not w (Replace c with) e = refl
left_not w (Write c at cells) e = refl
left_not w (Add name with) e = refl
left_not w (Delete c) e = cc

-- a part that is no deletion has become one of column w
pub left_other : (parts : List Part) (k w : ℕ) (p dest : Part) → k < length parts → p ≡ get_or parts k p
    → is_delete (Some (part_seen p)) ≡ false → dest ≡ part.Delete w → parts_seen (set parts k dest)
    ≡ set (parts_seen parts) k (left w (part_in (parts_seen parts) k))
left_other parts k w p dest lt at e f =
    let there : part_in (parts_seen parts) k ≡ part_seen p = get_or-map part_seen parts k p _ lt
    ∙ ap part_seen (sym at) in
    map-set part_seen parts k dest ∙ ap (set (parts_seen parts) k)
    (ap part_seen f ∙ sym (ap (left w) there ∙ left_not w (part_seen p) e))

-- a column with more room
pub IsRoomier-set : (f g : FrameSeen) (c : ℕ) → c < length f.columns → (column_at g.columns c).vector
    ≡ (column_at f.columns c).vector → (column_at f.columns c).spare ≤ (column_at g.columns c).spare → g.columns
    ≡ set f.columns c (column_at g.columns c) → g.rows ≡ f.rows → f.spare ≤ g.spare → IsRoomier f g
IsRoomier-set f g c lt same more e r s =
    let k : Seen = column_at g.columns c in
    record {
      vectors = ap vectors_of e ∙ (map-set (λ (x : Seen). x.vector) f.columns c k
          ∙ (ap (set (vectors_of f.columns) c) (same ∙ sym (vector_of_column f.columns c lt))
          ∙ set-get_or (vectors_of f.columns) c _));
      rows = r;
      more = λ d. elim (cases_Bool (c == d)) [
        | inl hit ↦ (let one : c ≡ d = eqb-true c d hit in subst
            (λ (n : ℕ). (column_at f.columns n).spare ≤ (column_at g.columns n).spare) one more)
        | inr miss ↦ (let other : column_at g.columns d ≡ column_at f.columns d = ap
            (λ (l : List Seen). column_at l d) e ∙ other_column f.columns c k d miss in
            let equal : (column_at g.columns d).spare ≡ (column_at f.columns d).spare = ap (λ (x : Seen). x.spare)
            other in omega arith)
      ];
      spare = s;
    }

pub IsRoomier-refl : (f : FrameSeen) → IsRoomier f f
IsRoomier-refl f = record { vectors = refl; rows = refl; more = λ d. omega arith; spare = omega arith }

pub IsRoomier-trans : (f g h : FrameSeen) → IsRoomier f g → IsRoomier g h → IsRoomier f h
IsRoomier-trans f g h a b = record {
  vectors = b.vectors ∙ a.vectors;
  rows = b.rows ∙ a.rows;
  more = λ d. (let x = a.more d in let y = b.more d in omega arith);
  spare = (let x = a.spare in let y = b.spare in omega arith);
}

-- what has room keeps it
room_kept : (f g : FrameSeen) (p : PartSeen) → IsRoomier f g → HasRoom f.columns p → HasRoom g.columns p
room_kept f g (Replace c with) h r = tt
room_kept f g (Write c at cells) h r = (let more = h.more c in omega arith)
room_kept f g (Add name with) h r = tt
room_kept f g (Delete c) h r = tt

pub rooms_kept : (f g : FrameSeen) (ps : List PartSeen) → IsRoomier f g → All (HasRoom f.columns) ps
    → All (HasRoom g.columns) ps
rooms_kept f g ps h = All-weaker (HasRoom f.columns) (HasRoom g.columns) (λ p r. room_kept f g p h r) ps

-- a frame with more room has as many columns
pub roomier_length : (f g : FrameSeen) → IsRoomier f g → length g.columns ≡ length f.columns
roomier_length f g h = sym (length-map g.columns (λ (x : Seen). x.vector))
    ∙ (ap length h.vectors ∙ length-map f.columns (λ (x : Seen). x.vector))

-- ---- One of a list of parts

pub part_read : (P : PartSeen → Type 0) (parts : List Part) (k : ℕ) (x : Part) → k < length parts → x
    ≡ get_or parts k x → All P (parts_seen parts) → P (part_seen x)
part_read P parts k x lt at h =
    let within : k < length (parts_seen parts) = rw (length-map parts part_seen) lt in
    let there : get_or (parts_seen parts) k (part_seen x) ≡ part_seen x = get_or-map part_seen parts k x (part_seen x)
    lt ∙ ap part_seen (sym at) in
    subst P there (All-get_or P (parts_seen parts) k (part_seen x) within h)

pub parts_push : (P : PartSeen → Type 0) (parts : List Part) (k : ℕ) (x : Part) → k < length parts → x
    ≡ get_or parts k x → All P (parts_seen (take k parts)) → P (part_seen x) → All P (parts_seen (take (k + 1) parts))
parts_push P parts k x lt at h px =
    let next : parts_seen (take (k + 1) parts) ≡ parts_seen (take k parts) ++ part_seen x ∷ [] = ap parts_seen
    (take_more parts k x lt ∙ ap (λ (p : Part). take k parts ++ p ∷ []) (sym at))
    ∙ map-append part_seen (take k parts) (x ∷ []) in
    All-same P (parts_seen (take (k + 1) parts)) (parts_seen (take k parts) ++ part_seen x ∷ []) next
    (All-push P (parts_seen (take k parts)) (part_seen x) h px)

-- the columns that parts write cells in are a table's
pub columns_of : (t : TableSeen) (ps : List PartSeen) → length t.names ≡ length t.frame.columns → All (FitsPart t) ps
    → All (IsColumnOf (length t.frame.columns)) ps
columns_of t ps e h = All-weaker (FitsPart t) (IsColumnOf (length t.frame.columns)) (λ p f. one p f) ps h
  where
    one : (p : PartSeen) → FitsPart t p → IsColumnOf (length t.frame.columns) p
    one (Replace c with) f = tt
    one (Write c at cells) f = subst (λ (n : ℕ). c < n) e f.0
    one (Add name with) f = tt
    one (Delete c) f = tt
