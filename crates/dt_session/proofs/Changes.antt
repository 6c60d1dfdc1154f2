-- Changes of a heap of which spare room alone has become more: they fit it, and are the same there.
use Rattle.std.proofs.Common.{◌≡◌, ◌∙◌, ◌<◌, ◌≤◌, ◌++◌, ◌*◌, ℕ, zero, suc, List, [], ◌∷◌, All, None, Option, Some}
use Rattle.std.proofs.Common.{ap, length, map, refl, slice_index_or, subst, sym}
use Rattle.std.proofs.lemmas.List.Elements.{All-weaker}
use Rattle.dt_base.specs.Cell.{IsOfType}
use Rattle.dt_base.specs.declared.cell.ColType.TheVariants as ty
use Rattle.dt_base.specs.declared.limits.TheConstants.{MAX_CELLS}
use Rattle.dt_model.specs.State.{State}
use Rattle.dt_model.specs.Table.{heads_of, names_at, rows_of}
use Rattle.dt_table.specs.Change.{Add, ChangeSeen, Delete, FitsPart, FitsTable, PartSeen, Replace, Write}
use Rattle.dt_table.specs.Change.{added_names, indices_changed, key_changed, names_changed, vectors_changed}
use Rattle.dt_table.specs.Plain.{plain, plain_changed, plain_keyed, plain_unindexed}
use Rattle.dt_table.specs.Table.{HasSame, IndexSeen, IsColumnList, IsNames, TableSeen, renamed}
use Rattle.na_vector.specs.Column.{Seen}
use Rattle.na_vector.specs.Frame.{column_at, rows_with, vectors_of}
use Rattle.session_model.specs.Effect.{tabled}
use Rattle.stmt_change.specs.Altered.{FitsKey, keyed_by, without_indices, without_key}
use Rattle.stmt_change.specs.Effects.{FitsIn, FitsNameIn, FitsRename, FitsTableIn, plain_change, plain_table}
use Rattle.stmt_change.specs.Effects.{with_names}
use Rattle.stmt_change.specs.Places.{table_at, table_in}
use Rattle.stmt_change.specs.declared.change.Change.{Change}
use Rattle.stmt_change.specs.declared.change.NameChange.{NameChange}
use Rattle.stmt_change.specs.declared.change.NameChange.TheVariants as name
use Rattle.stmt_change.specs.declared.change.TableChange.{TableChange}
use Rattle.stmt_change.specs.declared.change.TableChange.TheVariants as table
use Rattle.table_heap.specs.Altered.{FitsAltered, FitsAt, FitsIndex, FitsParts, indexed, table_altered, table_with}
use Rattle.table_heap.specs.Changes.{KeyedAt, plain_rekeyed, plain_renamed, SameHeaps}
use Rattle.table_heap.specs.Changes.{ChangesAt, HoldsSame, RenamesAt, SamePlace, SamePlaces, StaysLive}
use Rattle.table_heap.specs.declared.bound.Id.{Id}
use Rattle.table_heap.specs.declared.bound.Numbered.{Numbered}
use Rattle.table_heap.specs.Seen.{HasNumber, HeapSeen, IsAt, IsTableAt, Slots, slot_at}
use Rattle.table_heap.specs.State.{state_of}

-- ---- A table

vector_at : (xs : List Seen) (c : ℕ)
    → (column_at xs c).vector ≡ slice_index_or (vectors_of xs) c (record { kind = ty.Lgl; cells = [] })
vector_at [] c = refl
vector_at (x ∷ xs) zero = refl
vector_at (x ∷ xs) (suc c) = vector_at xs c

same_vector : (xs ys : List Seen) (c : ℕ) → vectors_of ys ≡ vectors_of xs
    → (column_at ys c).vector ≡ (column_at xs c).vector
same_vector xs ys c same =
    vector_at ys c ∙ ap (λ vs. slice_index_or vs c (record { kind = ty.Lgl; cells = [] })) same ∙ sym (vector_at xs c)

within : (t u : TableSeen) (c : ℕ) → HasSame t u → c < length t.names → c < length u.names
within t u c s h = subst (λ (names : List (List ℕ)). c < length names) (sym s.names) h

fits_part : (t u : TableSeen) → HasSame t u → (p : PartSeen) → FitsPart t p → FitsPart u p
fits_part t u s (Replace c with) h = (within t u c s h.0, h.1 ∙ sym s.rows)
fits_part t u s (Write c at cells) h = (
  within t u c s h.0,
  record {
    in_range = subst (λ (n : ℕ). All (λ row. row < n) at) (sym s.rows) h.1.in_range;
    each = h.1.each;
    typed = subst (λ v. All (IsOfType v.kind) cells) (sym (same_vector t.frame.columns u.frame.columns c s.vectors))
        h.1.typed;
  },
)
fits_part t u s (Add name with) h = h ∙ sym s.rows
fits_part t u s (Delete c) h = within t u c s h

fits_table : (t u : TableSeen) (ch : ChangeSeen) → HasSame t u → FitsTable t ch → FitsTable u ch
fits_table t u ch s h = record {
  parts = All-weaker (FitsPart t) (FitsPart u) (fits_part t u s) ch.parts h.parts;
  once = h.once;
  names = subst (λ (names : List (List ℕ)). IsNames (names ++ added_names ch.parts)) (sym s.names) h.names;
  width =
      subst (λ (names : List (List ℕ)). length (names_changed ch.parts names) ≤ u.slots) (sym s.names)
      (subst (λ (n : ℕ). length (names_changed ch.parts t.names) ≤ n) (sym s.slots) h.width);
  cells =
      subst (λ (names : List (List ℕ)). u.frame.rows * length (names_changed ch.parts names) ≤ MAX_CELLS) (sym s.names)
      (subst (λ (n : ℕ). n * length (names_changed ch.parts t.names) ≤ MAX_CELLS) (sym s.rows) h.cells);
}

fits_rename : (t u : TableSeen) (cols : List ℕ) (names : List (List ℕ)) → HasSame t u → FitsRename t cols names
    → FitsRename u cols names
fits_rename t u cols names s h = record {
  columns = subst (λ (all : List (List ℕ)). IsColumnList (length all) cols) (sym s.names) h.columns;
  each = h.each;
  all = subst (λ (all : List (List ℕ)). IsNames (renamed cols names all)) (sym s.names) h.all;
}

fits_parts : (t u : TableSeen) (ch : Option ChangeSeen) → HasSame t u → FitsParts t ch → FitsParts u ch
fits_parts t u None s h = tt
fits_parts t u (Some ch) s h = fits_table t u ch s h

fits_index : (t u : TableSeen) (x : Option IndexSeen) → HasSame t u → FitsIndex t x → FitsIndex u x
fits_index t u None s h = tt
fits_index t u (Some x) s h = record {
  index = rw (s.names, s.rows, s.vectors) h.index;
  once = rw s.indices h.once;
}

fits_altered : (t u : TableSeen) (x : Option IndexSeen) (ch : Option ChangeSeen) → HasSame t u → FitsAltered t x ch
    → FitsAltered u x ch
fits_altered t u x ch s h =
    record { index = fits_index t u x s h.index; parts = fits_parts t u ch s h.parts }

fits_key : (t u : TableSeen) (key : List ℕ) → HasSame t u → FitsKey t key → FitsKey u key
fits_key t u key s h = record {
  columns = rw s.names h.columns;
  true_key = rw (s.rows, s.vectors) h.true_key;
}

-- the same index behind those of both
indexed_same : (t u : TableSeen) (x : Option IndexSeen) → HasSame t u → HasSame (indexed t x) (indexed u x)
indexed_same t u None s = s
indexed_same t u (Some x) s = record {
  names = s.names;
  vectors = s.vectors;
  rows = s.rows;
  key = s.key;
  indices = ap (λ xs. xs ++ x ∷ []) s.indices;
  slots = s.slots;
}

plain_same : (t u : TableSeen) → HasSame t u → plain u ≡ plain t
plain_same t u s = λ i. record {
  columns = heads_of (s.names i) (s.vectors i);
  rows = rows_of (s.rows i) (s.vectors i);
  key = names_at (s.names i) (s.key i);
  indices = map (λ x. names_at (s.names i) x.cols) (s.indices i);
  slots = s.slots i;
}

keyed_same : (t u : TableSeen) (key : List ℕ) → HasSame t u → HasSame (keyed_by key t) (keyed_by key u)
keyed_same t u key s = record {
  names = s.names;
  vectors = s.vectors;
  rows = s.rows;
  key = refl;
  indices = refl;
  slots = s.slots;
}

unkeyed_same : (t u : TableSeen) → HasSame t u → HasSame (without_key t) (without_key u)
unkeyed_same t u s = record {
  names = s.names;
  vectors = s.vectors;
  rows = s.rows;
  key = refl;
  indices = s.indices;
  slots = s.slots;
}

unindexed_same : (t u : TableSeen) → HasSame t u → HasSame (without_indices t) (without_indices u)
unindexed_same t u s = record {
  names = s.names;
  vectors = s.vectors;
  rows = s.rows;
  key = s.key;
  indices = refl;
  slots = s.slots;
}

changed_same : (t u : TableSeen) (ch : ChangeSeen) → HasSame t u → plain_changed u ch ≡ plain_changed t ch
changed_same t u ch s = λ i. record {
  columns = heads_of (names_changed ch.parts (s.names i)) (vectors_changed ch.parts (s.vectors i));
  rows =
      rows_of (rows_with (length (names_changed ch.parts (s.names i))) (s.rows i))
      (vectors_changed ch.parts (s.vectors i));
  key = names_at (names_changed ch.parts (s.names i)) (key_changed ch.parts (s.key i));
  indices =
      map (λ x. names_at (names_changed ch.parts (s.names i)) x.cols) (indices_changed ch.parts (s.indices i));
  slots = s.slots i;
}

parts_same : (t u : TableSeen) (ch : Option ChangeSeen) → HasSame t u → table_with u ch ≡ table_with t ch
parts_same t u None s = plain_same t u s
parts_same t u (Some ch) s = changed_same t u ch s

altered_same : (t u : TableSeen) (x : Option IndexSeen) (ch : Option ChangeSeen) → HasSame t u
    → table_altered u x ch ≡ table_altered t x ch
altered_same t u x ch s = parts_same (indexed t x) (indexed u x) ch (indexed_same t u x s)

renamed_same : (t u : TableSeen) (cols : List ℕ) (names : List (List ℕ)) → HasSame t u
    → plain (with_names cols names u) ≡ plain (with_names cols names t)
renamed_same t u cols names s = λ i. record {
  columns = heads_of (renamed cols names (s.names i)) (s.vectors i);
  rows = rows_of (s.rows i) (s.vectors i);
  key = names_at (renamed cols names (s.names i)) (s.key i);
  indices = map (λ x. names_at (renamed cols names (s.names i)) x.cols) (s.indices i);
  slots = s.slots i;
}

-- ---- The table of an Id

-- each place is the same
place_of : (a b : Slots) → SamePlaces a b → (k : ℕ) → SamePlace (slot_at a k) (slot_at b k)
place_of [] [] h k = tt
place_of [] (y ∷ ys) h k = absurd h
place_of (x ∷ xs) [] h k = absurd h
place_of (x ∷ xs) (y ∷ ys) h zero = h.0
place_of (x ∷ xs) (y ∷ ys) h (suc k) = place_of xs ys h.1 k

in_place : (n : ℕ) (o p : Option Numbered) → SamePlace o p → HasNumber n o → HasSame (table_in o) (table_in p)
in_place n None p s h = absurd h
in_place n (Some x) None s h = absurd s
in_place n (Some x) (Some y) s h = s.table

same_table : (h k : HeapSeen) (id : Id) → HoldsSame h k → IsAt h id → HasSame (table_at h id) (table_at k id)
same_table h k id same at = in_place id.number _ _ (place_of h.held.slots k.held.slots same.places id.slot) at

own_table : (n : ℕ) (o : Option Numbered) → HasNumber n o → o ≡ Some (record { number = n; table = table_in o })
own_table n None h = absurd h
own_table n (Some x) h = λ i. Some (record { number = h i; table = x.table })

pub at_own : (h : HeapSeen) (id : Id) → IsAt h id → IsTableAt h id (table_at h id)
at_own h id at = own_table id.number (slot_at h.held.slots id.slot) at

-- the change of the Id's table, as the heap asks for it
pub parts_fit : (h : HeapSeen) (id : Id) (x : Option IndexSeen) (ch : Option ChangeSeen)
    → IsAt h id × FitsAltered (table_at h id) x ch → FitsAt h id x ch
parts_fit h id x ch fits = record { table = table_at h id; place = at_own h id fits.0; fits = fits.1 }

pub key_fits : (h : HeapSeen) (id : Id) (key : List ℕ) → IsAt h id × FitsKey (table_at h id) key → KeyedAt h id key
key_fits h id key fits = record {
  table = table_at h id;
  place = at_own h id fits.0;
  cols = fits.1.columns;
  true_key = fits.1.true_key;
}

pub rename_fits : (h : HeapSeen) (id : Id) (cols : List ℕ) (names : List (List ℕ))
    → IsAt h id × FitsRename (table_at h id) cols names → RenamesAt h id cols names
rename_fits h id cols names fits = record {
  table = table_at h id;
  place = at_own h id fits.0;
  cols = fits.1.columns;
  each = fits.1.each;
  names = fits.1.all;
}

-- ---- A change

fits_table_in : SameHeaps → (h k : HeapSeen) (c : TableChange) → HoldsSame h k → FitsTableIn h c → FitsTableIn k c
fits_table_in l h k table.Nothing same fits = tt
fits_table_in l h k (table.Altered a) same fits =
    (l.live h k same a.id fits.0, fits_altered _ _ a.index a.parts (same_table h k a.id same fits.0) fits.1)
fits_table_in l h k (table.Rename id cols names) same fits =
    (l.live h k same id fits.0, fits_rename _ _ cols.items names.items (same_table h k id same fits.0) fits.1)
fits_table_in l h k (table.Reordered id t) same fits = l.live h k same id fits
fits_table_in l h k (table.Keyed id key) same fits =
    (l.live h k same id fits.0, fits_key _ _ key.items (same_table h k id same fits.0) fits.1)
fits_table_in l h k (table.Unkeyed id) same fits = l.live h k same id fits
fits_table_in l h k (table.Unindexed id) same fits = l.live h k same id fits

pub fits_name_in : (h k : HeapSeen) (c : NameChange) → StaysLive h k → FitsNameIn h c → FitsNameIn k c
fits_name_in h k name.Nothing live fits = tt
fits_name_in h k (name.BindNew q t) live fits = tt
fits_name_in h k (name.BindVector q column) live fits = tt
fits_name_in h k (name.Alias q id) live fits = live id fits
fits_name_in h k (name.Remove q) live fits = tt

pub fits_same : SameHeaps → (h k : HeapSeen) (c : Change) → HoldsSame h k → FitsIn h c → FitsIn k c
fits_same l h k c same fits = record {
  table = fits_table_in l h k c.table same fits.table;
  name = fits_name_in h k c.name (l.live h k same) fits.name;
}

table_same : (h k : HeapSeen) (c : TableChange) → HoldsSame h k → FitsTableIn h c → plain_table k c ≡ plain_table h c
table_same h k table.Nothing same fits = refl
table_same h k (table.Altered a) same fits =
    ap (λ t. Some (a.id.number, t)) (altered_same _ _ a.index a.parts (same_table h k a.id same fits.0))
table_same h k (table.Reordered id t) same fits = refl
table_same h k (table.Keyed id key) same fits =
    ap (λ t. Some (id.number, t)) (plain_same _ _ (keyed_same _ _ key.items (same_table h k id same fits.0)))
table_same h k (table.Unkeyed id) same fits =
    ap (λ t. Some (id.number, t)) (plain_same _ _ (unkeyed_same _ _ (same_table h k id same fits)))
table_same h k (table.Unindexed id) same fits =
    ap (λ t. Some (id.number, t)) (plain_same _ _ (unindexed_same _ _ (same_table h k id same fits)))
table_same h k (table.Rename id cols names) same fits =
    ap (λ t. Some (id.number, t)) (renamed_same _ _ cols.items names.items (same_table h k id same fits.0))

pub change_same : (h k : HeapSeen) (c : Change) → HoldsSame h k → FitsIn h c → plain_change k c ≡ plain_change h c
change_same h k c same fits =
    ap (λ t. record { table = t; name = (plain_change h c).name; options = c.options })
    (table_same h k c.table same fits.table)

-- what is held is equal
pub held_same : SameHeaps → (h k : HeapSeen) → k.held ≡ h.held → HoldsSame h k
held_same l h k same = record {
  bounds = ap (λ x. x.bounds) same;
  places = subst (λ x. SamePlaces h.held.slots x.slots) (sym same) (l.itself h).places;
  next = ap (λ x. x.next) same;
}

-- ---- The change of a table, made

pub parts_made : (h : HeapSeen) (now : State) (id : Id) (x : Option IndexSeen) (ch : Option ChangeSeen) → IsAt h id
    → ChangesAt h id (λ t. table_altered t x ch) now
    → now ≡ tabled (state_of h) (Some (id.number, table_altered (table_at h id) x ch))
parts_made h now id x ch at changes = changes (table_at h id) (at_own h id at)

pub key_set : (h : HeapSeen) (now : State) (id : Id) (key : List ℕ) → IsAt h id
    → ChangesAt h id (plain_rekeyed key) now
    → now ≡ tabled (state_of h) (Some (id.number, plain (keyed_by key (table_at h id))))
key_set h now id key at changes = changes (table_at h id) (at_own h id at)

pub key_dropped : (h : HeapSeen) (now : State) (id : Id) → IsAt h id → ChangesAt h id (plain_keyed []) now
    → now ≡ tabled (state_of h) (Some (id.number, plain (without_key (table_at h id))))
key_dropped h now id at changes = changes (table_at h id) (at_own h id at)

pub indices_dropped : (h : HeapSeen) (now : State) (id : Id) → IsAt h id → ChangesAt h id plain_unindexed now
    → now ≡ tabled (state_of h) (Some (id.number, plain (without_indices (table_at h id))))
indices_dropped h now id at changes = changes (table_at h id) (at_own h id at)

pub names_given : (h : HeapSeen) (now : State) (id : Id) (cols : List ℕ) (names : List (List ℕ)) → IsAt h id
    → ChangesAt h id (plain_renamed cols names) now
    → now ≡ tabled (state_of h) (Some (id.number, plain (with_names cols names (table_at h id))))
names_given h now id cols names at changes = changes (table_at h id) (at_own h id at)
