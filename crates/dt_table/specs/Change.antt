-- What contracts see of a change of a table, and what it makes of one.
--   PartSeen, ChangeSeen  a part and a change, as plain lists; columns are counted from 0
--   part_seen p           what contracts see of a part
--   is_of c p             the part names column c
--   part_at c parts       the part that names column c
--   is_named, goes        whether some part names column c; whether it deletes it
--   changed o v           what a column's part makes of it
--   kept parts c xs       of what stands at the columns from c on, that of the columns that stay
--   added_names, added_vectors    the new columns, in order
--   part_names names parts   the columns that parts name or add, in the order of the parts
--   stays_before parts c  how many columns before c stay: the place of a column that stays
--   names_changed ..      the names, vectors, key and indices of the changed table
--   FitsTable t ch        the change may be made
--   IsApplied t ch u      u is the table t, changed
--   RoomFor t ch          the table's spare numbers suffice for the change
--   written_cells parts   how many cells are written
--   cells_in parts        how many cells the columns of the change have
use Rattle.std.specs.Prelude.{◌≡◌, ◌+◌, ◌*◌, ◌<◌, ◌≤◌, ◌==◌, not, ℕ, zero, suc, Bool, true, false, if◌then◌else◌}
use Rattle.std.specs.Prelude.{List, [], ◌∷◌, ◌++◌, length, map, All, Option, None, Some}
use Rattle.std.specs.List.{IsDistinct, filter, list_any}
use Rattle.dt_base.specs.declared.cell.Cell.{Cell}
use Rattle.dt_base.specs.declared.limits.TheConstants.{MAX_CELLS}
use Rattle.dt_base.specs.Cell.{IsOfType}
use Rattle.dt_model.specs.Table.{name_at}
use Rattle.dt_model.specs.Vector.{Vector}
use Rattle.na_vector.specs.Column.{Seen}
use Rattle.na_vector.specs.Frame.{column_at, rows_with, vectors_of}
use Rattle.na_vector.specs.Words.{text_count}
use Rattle.dt_table.specs.declared.change.Part.{Part}
use Rattle.dt_table.specs.declared.change.Part.TheVariants as part
use Rattle.dt_table.specs.Table.{IndexSeen, IsNames, TableSeen, put_in_order}

-- another column in a column's place; cells at some rows of a column; a new column; a column that goes
pub data PartSeen : Type 0 where
  Replace : ℕ → Vector → PartSeen
  Write : ℕ → List ℕ → List Cell → PartSeen
  Add : List ℕ → Vector → PartSeen
  Delete : ℕ → PartSeen

-- its parts. Each names a column by its place in the old table.
pub record ChangeSeen : Type 0 where
  pub parts : List PartSeen

abbrev pub part_seen : Part → PartSeen
part_seen (part.Replace c with) = Replace c with.vector
part_seen (part.Write c at cells) = Write c at.items cells.items
part_seen (part.Add name with) = Add name with.vector
part_seen (part.Delete c) = Delete c

abbrev pub parts_seen : List Part → List PartSeen
parts_seen = map part_seen

-- ---- Parts and columns

abbrev pub is_of : ℕ → PartSeen → Bool
is_of c (Replace d with) = d == c
is_of c (Write d at cells) = d == c
is_of c (Add name with) = false
is_of c (Delete d) = d == c

abbrev pub part_at : ℕ → List PartSeen → Option PartSeen
part_at c [] = None
part_at c (p ∷ parts) = if is_of c p then Some p else part_at c parts

-- some part names the column
abbrev pub is_named : List PartSeen → ℕ → Bool
is_named parts c = list_any (is_of c) parts

abbrev pub is_delete : Option PartSeen → Bool
is_delete (Some (Delete c)) = true
is_delete _ = false

abbrev pub goes : List PartSeen → ℕ → Bool
goes parts c = is_delete (part_at c parts)

-- ---- The columns

abbrev pub changed : Option PartSeen → Vector → Vector
changed (Some (Replace c with)) v = with
changed (Some (Write c at cells)) v = record { kind = v.kind; cells = put_in_order at cells v.cells }
changed _ v = v

-- each column from place c on as its part makes it
abbrev pub changed_from : List PartSeen → ℕ → List Vector → List Vector
changed_from parts c [] = []
changed_from parts c (v ∷ vectors) = changed (part_at c parts) v ∷ changed_from parts (c + 1) vectors

-- without what stands at columns that go
abbrev pub kept : {X : Type 0} → List PartSeen → ℕ → List X → List X
kept parts c [] = []
kept parts c (x ∷ xs) = if goes parts c then kept parts (c + 1) xs else x ∷ kept parts (c + 1) xs

abbrev pub added_names : List PartSeen → List (List ℕ)
added_names [] = []
added_names (Add name with ∷ parts) = name ∷ added_names parts
added_names (_ ∷ parts) = added_names parts

abbrev pub added_vectors : List PartSeen → List Vector
added_vectors [] = []
added_vectors (Add name with ∷ parts) = with ∷ added_vectors parts
added_vectors (_ ∷ parts) = added_vectors parts

-- the column that a part names or adds
abbrev pub part_name : List (List ℕ) → PartSeen → List ℕ
part_name names (Replace c with) = name_at names c
part_name names (Write c at cells) = name_at names c
part_name names (Add name with) = name
part_name names (Delete c) = name_at names c

abbrev pub part_names : List (List ℕ) → List PartSeen → List (List ℕ)
part_names names parts = map (part_name names) parts

-- the columns that stay, in order, and then the new ones
abbrev pub names_changed : List PartSeen → List (List ℕ) → List (List ℕ)
names_changed parts names = kept parts 0 names ++ added_names parts

abbrev pub vectors_changed : List PartSeen → List Vector → List Vector
vectors_changed parts vectors = kept parts 0 (changed_from parts 0 vectors) ++ added_vectors parts

-- ---- Key and indices

-- how many of the columns before c stay: so a column that stays has this place
abbrev pub stays_before : List PartSeen → ℕ → ℕ
stays_before parts zero = 0
stays_before parts (suc c) = if goes parts c then stays_before parts c else suc (stays_before parts c)

-- the key up to its first column that a part names
abbrev pub cut : List PartSeen → List ℕ → List ℕ
cut parts [] = []
cut parts (c ∷ key) = if is_named parts c then [] else c ∷ cut parts key

abbrev pub key_changed : List PartSeen → List ℕ → List ℕ
key_changed parts key = map (stays_before parts) (cut parts key)

-- no part names a column of the index
abbrev pub is_left : List PartSeen → IndexSeen → Bool
is_left parts x = not (list_any (is_named parts) x.cols)

abbrev pub moved : List PartSeen → IndexSeen → IndexSeen
moved parts x = record { cols = map (stays_before parts) x.cols; order = x.order }

abbrev pub indices_changed : List PartSeen → List IndexSeen → List IndexSeen
indices_changed parts xs = map (moved parts) (filter (is_left parts) xs)

-- ---- The change of a table

-- the columns that parts name, in their order
abbrev pub cols_of : List PartSeen → List ℕ
cols_of [] = []
cols_of (Replace c with ∷ parts) = c ∷ cols_of parts
cols_of (Write c at cells ∷ parts) = c ∷ cols_of parts
cols_of (Add name with ∷ parts) = cols_of parts
cols_of (Delete c ∷ parts) = c ∷ cols_of parts

-- rows in range, a cell for each, NA or of the column's type
pub record FitsColumn (rows : ℕ) (v : Vector) (at : List ℕ) (cells : List Cell) : Type 0 where
  pub in_range : All (λ row. row < rows) at
  pub each : length at ≡ length cells
  pub typed : All (IsOfType v.kind) cells

abbrev pub FitsPart : TableSeen → PartSeen → Type 0
FitsPart t (Replace c with) = (c < length t.names) × (length with.cells ≡ t.frame.rows)
FitsPart t (Write c at cells) = (c < length t.names) × FitsColumn t.frame.rows (column_at t.frame.columns c).vector at
    cells
FitsPart t (Add name with) = length with.cells ≡ t.frame.rows
FitsPart t (Delete c) = c < length t.names

-- Columns are in range, and no two parts name one. Columns have the table's length. New names are
-- distinct, not empty and no column's yet. There are no more columns than slots, and cells within the
-- limit.
pub record FitsTable (t : TableSeen) (ch : ChangeSeen) : Type 0 where
  pub parts : All (FitsPart t) ch.parts
  pub once : IsDistinct (λ (a b : ℕ). a == b) (cols_of ch.parts)
  pub names : IsNames (t.names ++ added_names ch.parts)
  pub width : length (names_changed ch.parts t.names) ≤ t.slots
  pub cells : t.frame.rows * length (names_changed ch.parts t.names) ≤ MAX_CELLS

-- the table changed: all but spare numbers
pub record IsApplied (t : TableSeen) (ch : ChangeSeen) (u : TableSeen) : Type 0 where
  pub names : u.names ≡ names_changed ch.parts t.names
  pub vectors : vectors_of u.frame.columns ≡ vectors_changed ch.parts (vectors_of t.frame.columns)
  pub rows : u.frame.rows ≡ rows_with (length (names_changed ch.parts t.names)) t.frame.rows
  pub key : u.key ≡ key_changed ch.parts t.key
  pub indices : u.indices ≡ indices_changed ch.parts t.indices
  pub slots : u.slots ≡ t.slots

-- ---- Memory and touches

-- how many cells are texts
abbrev pub texts_in : List Cell → ℕ
texts_in [] = 0
texts_in (cell ∷ cells) = text_count cell + texts_in cells

-- the column takes the texts that are written in it
abbrev pub HasRoom : List Seen → PartSeen → Type 0
HasRoom columns (Write c at cells) = texts_in cells ≤ (column_at columns c).spare
HasRoom columns _ = Unit {0}

-- there is room for the new columns and their names, and in each column for the texts
pub record RoomFor (t : TableSeen) (ch : ChangeSeen) : Type 0 where
  pub names : length (added_names ch.parts) ≤ t.spare
  pub columns : length (added_names ch.parts) ≤ t.frame.spare
  pub texts : All (HasRoom t.frame.columns) ch.parts

-- how many cells are written
abbrev pub written_cells : List PartSeen → ℕ
written_cells [] = 0
written_cells (Write c at cells ∷ parts) = length at + written_cells parts
written_cells (_ ∷ parts) = written_cells parts

-- how many cells the columns of the change have, which its copy touches
abbrev pub cells_in : List PartSeen → ℕ
cells_in [] = 0
cells_in (Replace c with ∷ parts) = length with.cells + cells_in parts
cells_in (Add name with ∷ parts) = length with.cells + cells_in parts
cells_in (_ ∷ parts) = cells_in parts
