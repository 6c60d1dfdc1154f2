-- A table whose change is applied is a table.
use Rattle.std.proofs.Common.{◌≡◌, ◌<◌, ◌≤◌, ℕ, false, List, [], ◌∷◌, All, length, arith, refl, sym, ap, ◌∙◌, subst}
use Rattle.std.proofs.Common.{length-append}
use Rattle.std.specs.List.{AllByRecursion}
use Rattle.std.proofs.Math.Nat.{mul-le-mul_right}
use Rattle.std.proofs.lemmas.Bool.Decides.{nat_tests}
use Rattle.std.proofs.lemmas.List.{length-map}
use Rattle.std.proofs.lemmas.List.Elements.{All-from_recursion, All-weaker, recursion_from_All}
use Rattle.na_vector.specs.Column.{Seen}
use Rattle.na_vector.specs.Frame.{IsFrame, column_at, rows_with, vectors_of}
use Rattle.dt_table.specs.Change.{ChangeSeen, FitsPart, FitsTable, HasRoom, IsApplied, PartSeen, Replace, Write, Add}
use Rattle.dt_table.specs.Change.{Delete, RoomFor, added_names, cols_of, is_named, kept, names_changed, stays_before}
use Rattle.dt_model.specs.Vector.{Vector}
use Rattle.dt_table.specs.Parts.{FitsNow, vector_at}
use Rattle.dt_table.specs.Plain.{plain, plain_changed}
use Rattle.dt_table.specs.Table.{HasSame, IndexSeen, IsTable, TableSeen}
use Rattle.dt_table.proofs.OnePart.{vector_of_column}
use Rattle.dt_table.proofs.Tables.{same_width}
use Rattle.dt_table.proofs.Changing.{made_length}
use Rattle.dt_table.proofs.Moving.{free_stays, kept_counts, kept_names, key_columns, place_less}
use Rattle.dt_table.proofs.Truth.{indices_stay_true, key_stays_true}

-- ---- What a fitting change asks of the columns

cols_fit : (t : TableSeen) (ps : List PartSeen) → AllByRecursion (FitsPart t) ps
    → AllByRecursion (λ c. c < length t.names) (cols_of ps)
cols_fit t [] h = tt
cols_fit t (Replace c with ∷ ps) h = (h.0.0, cols_fit t ps h.1)
cols_fit t (Write c at cells ∷ ps) h = (h.0.0, cols_fit t ps h.1)
cols_fit t (Add name with ∷ ps) h = cols_fit t ps h.1
cols_fit t (Delete c ∷ ps) h = (h.0, cols_fit t ps h.1)

pub cols_within : (t : TableSeen) (ch : ChangeSeen) → FitsTable t ch → All (λ c. c < length t.names) (cols_of ch.parts)
cols_within t ch h = All-from_recursion (λ c. c < length t.names) (cols_of ch.parts)
    (cols_fit t ch.parts (recursion_from_All (FitsPart t) ch.parts h.parts))

fit_now : (t : TableSeen) (ps : List PartSeen) → length t.names ≡ length t.frame.columns
    → AllByRecursion (FitsPart t) ps → AllByRecursion (HasRoom t.frame.columns) ps → AllByRecursion (FitsNow t.frame) ps
fit_now t [] e h r = tt
fit_now t (Replace c with ∷ ps) e h r = ((subst (λ (n : ℕ). c < n) e h.0.0, h.0.1), fit_now t ps e h.1 r.1)
fit_now t (Write c at cells ∷ ps) e h r = ((subst (λ (n : ℕ). c < n) e h.0.0, h.0.1, r.0), fit_now t ps e h.1 r.1)
fit_now t (Add name with ∷ ps) e h r = (h.0, fit_now t ps e h.1 r.1)
fit_now t (Delete c ∷ ps) e h r = (subst (λ (n : ℕ). c < n) e h.0, fit_now t ps e h.1 r.1)

pub fits_now : (t : TableSeen) (ch : ChangeSeen) → IsTable t → FitsTable t ch → RoomFor t ch
    → All (FitsNow t.frame) ch.parts
fits_now t ch table h r = All-from_recursion (FitsNow t.frame) ch.parts
    (fit_now t ch.parts table.named (recursion_from_All (FitsPart t) ch.parts h.parts)
    (recursion_from_All (HasRoom t.frame.columns) ch.parts r.texts))

-- ---- The table

rows_no_more : (n r : ℕ) → rows_with n r ≤ r
rows_no_more n r = grind (arith, nat_tests)

rows_all : (n r : ℕ) → 0 < n → rows_with n r ≡ r
rows_all n r some = grind (arith, nat_tests)

-- a table that keeps a column keeps its rows
rows_kept : (t : TableSeen) (ch : ChangeSeen) (u : TableSeen) → IsApplied t ch u → (c : ℕ) → c < length t.names
    → is_named ch.parts c ≡ false → u.frame.rows ≡ t.frame.rows
rows_kept t ch u h c lt free =
    let ps : List PartSeen = ch.parts in
    let less : stays_before ps c < stays_before ps (length t.names) = place_less ps c (length t.names)
    (free_stays ps c free) lt in
    let count : length (kept ps 0 t.names) ≡ stays_before ps (length t.names) = kept_counts ps t.names in
    h.rows ∙ rows_all (length (names_changed ps t.names)) t.frame.rows
    (omega (arith, length-append (kept ps 0 t.names) (added_names ps)))

pub IsTable-changed : (t : TableSeen) (ch : ChangeSeen) (u : TableSeen) → IsTable t → FitsTable t ch
    → IsFrame u.frame.columns u.frame.rows → IsApplied t ch u → IsTable u
IsTable-changed t ch u table fits frame h =
    let ps : List PartSeen = ch.parts in
    let each : length u.frame.columns ≡ length (names_changed ps t.names) = made_length ps t.names t.frame.columns
    u.frame.columns table.named h.vectors in
    let named : length u.names ≡ length (names_changed ps t.names) = ap length h.names in
    let rows : u.frame.rows ≤ t.frame.rows = rw h.rows (rows_no_more (length (names_changed ps t.names)) t.frame.rows)
    in
    let vs : List Vector = vectors_of t.frame.columns in
    let wide_vs : length vs ≡ length t.frame.columns = length-map t.frame.columns (λ (x : Seen). x.vector) in
    let wide : length (kept ps 0 t.names) ≤ length u.names = omega
    (arith, length-append (kept ps 0 t.names) (added_names ps)) in
    record {
      frame = frame;
      named = named ∙ sym each;
      names = rw h.names (kept_names ps t.names (added_names ps) fits.names);
      cells = (let limit = fits.cells in rw each (omega (
        arith,
        mul-le-mul_right (length (names_changed ps t.names))
            rows,
      )));
      width = (let room = fits.width in let slots = h.slots in omega arith);
      key = rw h.key (key_columns ps t.names (length u.names) t.key wide table.key);
      true_key = rw (h.vectors, h.key) (key_stays_true ps vs t.key u.frame.rows t.frame.rows rows
          (rw (wide_vs, ← table.named) table.key.in_range) table.true_key);
      indices = rw (h.vectors, h.indices) (indices_stay_true ps t.names vs (length u.names) u.frame.rows t.frame.rows
          t.indices (wide_vs ∙ sym table.named) wide (rows_kept t ch u h) table.indices);
    }

-- its plain reading
pub plain_applied : (t : TableSeen) (ch : ChangeSeen) (u : TableSeen) → IsApplied t ch u → plain u ≡ plain_changed t ch
plain_applied t ch u h = rw (h.names, h.vectors, h.rows, h.key, h.indices, h.slots) refl

-- ---- A change fits a table that differs in spare numbers alone

part_fits_same : (t u : TableSeen) → HasSame t u → length t.names ≡ length t.frame.columns → (p : PartSeen)
    → FitsPart t p → FitsPart u p
part_fits_same t u s e (Replace c with) h = (
  subst (λ (l : List (List ℕ)). c < length l) (sym s.names) h.0,
  h.1
      ∙ sym s.rows,
)
part_fits_same t u s e (Write c at cells) h =
    let here : c < length t.frame.columns = subst (λ (n : ℕ). c < n) e h.0 in
    let there : c < length u.frame.columns = subst (λ (n : ℕ). c < n)
    (sym (same_width t.frame.columns u.frame.columns s.vectors)) here in
    let same : (column_at u.frame.columns c).vector ≡ (column_at t.frame.columns c).vector = sym
    (vector_of_column u.frame.columns c there) ∙ (ap (λ (l : List Vector). vector_at l c) s.vectors
    ∙ vector_of_column t.frame.columns c here) in
    (subst (λ (l : List (List ℕ)). c < length l) (sym s.names) h.0, rw (same, s.rows) h.1)
part_fits_same t u s e (Add name with) h = h ∙ sym s.rows
part_fits_same t u s e (Delete c) h = subst (λ (l : List (List ℕ)). c < length l) (sym s.names) h

pub FitsTable-same : (t u : TableSeen) (ch kept : ChangeSeen) → IsTable t → HasSame t u → kept.parts ≡ ch.parts
    → FitsTable t ch → FitsTable u kept
FitsTable-same t u ch kept table s e h = record {
  parts = rw e (All-weaker (FitsPart t) (FitsPart u) (λ p f. part_fits_same t u s table.named p f) ch.parts h.parts);
  once = rw e h.once;
  names = rw (e, s.names) h.names;
  width = rw (e, s.names, s.slots) h.width;
  cells = rw (e, s.names, s.rows) h.cells;
}

-- ---- Nor does it look at the indices

part_fits_indexed : (t : TableSeen) (xs : List IndexSeen) (n : ℕ) (p : PartSeen) → FitsPart t p
    → FitsPart (record t { indices = xs; index_room = n }) p
part_fits_indexed t xs n (Replace c with) h = h
part_fits_indexed t xs n (Write c at cells) h = h
part_fits_indexed t xs n (Add name with) h = h
part_fits_indexed t xs n (Delete c) h = h

pub FitsTable-indexed : (t : TableSeen) (xs : List IndexSeen) (n : ℕ) (ch : ChangeSeen) → FitsTable t ch
    → FitsTable (record t { indices = xs; index_room = n }) ch
FitsTable-indexed t xs n ch h = record {
  parts = All-weaker (FitsPart t) (FitsPart (record t { indices = xs; index_room = n })) (part_fits_indexed t xs n)
      ch.parts h.parts;
  once = h.once;
  names = h.names;
  width = h.width;
  cells = h.cells;
}

pub HasSame-trans : (t u v : TableSeen) → HasSame t u → HasSame u v → HasSame t v
HasSame-trans t u v a b = record {
  names = b.names ∙ a.names;
  vectors = b.vectors ∙ a.vectors;
  rows = b.rows ∙ a.rows;
  key = b.key ∙ a.key;
  indices = b.indices ∙ a.indices;
  slots = b.slots ∙ a.slots;
}
