-- That a new table is one, and a copy.
use Rattle.std.proofs.Common.{◌≡◌, ◌*◌, ◌≤◌, ◌==◌, ℕ, List, [], length, get_or, All, None, arith, refl, ap, sym, ◌∙◌}
use Rattle.std.proofs.Common.{◌<◌, subst}
use Rattle.std.proofs.Math.ListN.{get_or-map}
use Rattle.std.proofs.lemmas.List.{length-map}
use Rattle.std.proofs.lemmas.Map.Keys.{IsDistinct-from_apart}
use Rattle.dt_model.specs.Table.{first_repeated}
use Rattle.na_vector.specs.Frame.{FrameSeen, IsFrame, vectors_of}
use Rattle.dt_model.specs.Vector.{Vector, IsVector}
use Rattle.na_vector.specs.Column.{Seen}
use Rattle.dt_table.specs.Parts.{IsRoomier}
use Rattle.dt_table.specs.Table.{TableSeen, IndexSeen, IsTable, IsColumnList, IsFilled, IsNames}
use Rattle.dt_table.proofs.Names.{IsDistinct-from_none}
use Rattle.dt_table.proofs.OnePart.{roomier_length}
use Rattle.dt_table.proofs.Truth.{no_key_true}

-- the empty list of columns
pub no_columns : (width : ℕ) (cols : List ℕ) → cols ≡ [] → IsColumnList width cols
no_columns width cols e = rw e (record {
  in_range = λ k d lt. absurd (omega arith);
  distinct = IsDistinct-from_apart (λ (a b : ℕ). a == b) [] (λ i j d lt hi. absurd (omega arith));
})

-- without a key and indices only the names, the cells and the slots are to be seen to
pub IsTable-new : (names : List (List ℕ)) (f : FrameSeen) (key : List ℕ) (indices : List IndexSeen)
    (slots spare index_room : ℕ)
    → IsFrame f.columns f.rows → length names ≡ length f.columns → All IsFilled names → first_repeated names ≡ None
    → f.rows * length f.columns ≤ 67108864 → length f.columns ≤ slots → key ≡ [] → indices ≡ []
    → IsTable (record {
      names = names;
      frame = f;
      key = key;
      indices = indices;
      slots = slots;
      spare = spare;
      index_room = index_room;
    })
IsTable-new names f key indices slots spare index_room frame named filled once cells room k i = record {
  frame = frame;
  named = named;
  names = record { filled = filled; distinct = IsDistinct-from_none names once };
  cells = cells;
  width = omega arith;
  key = no_columns (length names) key k;
  true_key = no_key_true f.rows (vectors_of f.columns) key k;
  indices = rw i (λ n d lt. absurd (omega arith));
}

-- a copy of a table's parts is a table
pub IsTable-copy : (t : TableSeen) (names : List (List ℕ)) (f : FrameSeen) (key : List ℕ) (indices : List IndexSeen)
    (slots spare index_room : ℕ) → IsTable t → IsFrame f.columns f.rows → names ≡ t.names → vectors_of f.columns
    ≡ vectors_of t.frame.columns → f.rows ≡ t.frame.rows → key ≡ t.key → indices ≡ t.indices
    → length f.columns ≤ slots → IsTable (record {
      names = names;
      frame = f;
      key = key;
      indices = indices;
      slots =
          slots;
      spare = spare;
      index_room = index_room;
    })
IsTable-copy t names f key indices slots spare index_room h frame n v r k i room =
    let width : length f.columns ≡ length t.frame.columns = sym (length-map f.columns (λ (c : Seen). c.vector))
    ∙ (ap length v ∙ length-map t.frame.columns (λ (c : Seen). c.vector)) in
    record {
      frame = frame;
      named = rw (n, width) h.named;
      names = rw n h.names;
      cells = rw (r, width) h.cells;
      width = (let named : length names ≡ length f.columns = rw (n, width) h.named in omega arith);
      key = rw (k, n) h.key;
      true_key = rw (r, v, k) h.true_key;
      indices = rw (i, n, r, v) h.indices;
    }

-- other names in a table's columns
pub IsTable-renamed : (t : TableSeen) (names : List (List ℕ)) (spare index_room : ℕ) → IsTable t
    → length names ≡ length t.names → IsNames names → IsTable (record {
      names = names;
      frame = t.frame;
      key = t.key;
      indices = t.indices;
      slots =
          t.slots;
      spare = spare;
      index_room = index_room;
    })
IsTable-renamed t names spare index_room h e n = record {
  frame = h.frame;
  named = e ∙ h.named;
  names = n;
  cells = h.cells;
  width = rw e h.width;
  key = rw e h.key;
  true_key = h.true_key;
  indices = rw e h.indices;
}

-- a frame with more room
IsFrame-roomier : (f g : FrameSeen) → IsFrame f.columns f.rows → IsRoomier f g → IsFrame g.columns g.rows
IsFrame-roomier f g h r =
    let long : length g.columns ≡ length f.columns = roomier_length f g r in
    let same : (k : ℕ) (d : Seen) → (get_or g.columns k d).vector ≡ (get_or f.columns k d).vector =
    λ k d. sym (get_or-map (λ (x : Seen). x.vector) g.columns k d)
    ∙ (ap (λ (l : List Vector). get_or l k d.vector) r.vectors
    ∙ get_or-map (λ (x : Seen). x.vector) f.columns k d) in
    record {
      one_length = λ k d lt. (let was : length (get_or f.columns k d).vector.cells
          ≡ f.rows = h.one_length k d (subst (λ (n : ℕ). k < n) long lt) in rw (same k d, r.rows) was);
      vectors = λ k d lt. (let was : IsVector (get_or f.columns k d).vector = h.vectors k d
          (subst (λ (n : ℕ). k < n) long lt) in rw (same k d) was);
      none = λ e. r.rows ∙ h.none (sym long ∙ e);
      short = rw r.rows h.short;
    }

pub IsTable-roomier : (t : TableSeen) (names : List (List ℕ)) (g : FrameSeen) (spare index_room : ℕ) → IsTable t
    → names ≡ t.names → IsRoomier t.frame g → IsTable (record {
      names = names;
      frame = g;
      key = t.key;
      indices = t.indices;
      slots = t.slots;
      spare = spare;
      index_room = index_room;
    })
IsTable-roomier t names g spare index_room h n r =
    let long : length g.columns ≡ length t.frame.columns = roomier_length t.frame g r in
    IsTable-copy t names g t.key t.indices t.slots spare index_room h (IsFrame-roomier t.frame g h.frame r)
    n r.vectors r.rows
    refl refl (let w = h.width in let e = h.named in omega arith)

pub same_width : (f g : List Seen) → vectors_of g ≡ vectors_of f → length g ≡ length f
same_width f g v = sym (length-map g (λ (c : Seen). c.vector)) ∙ (ap length v ∙ length-map f (λ (c : Seen). c.vector))
