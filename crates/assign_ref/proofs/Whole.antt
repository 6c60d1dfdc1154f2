-- A table whose change is that of the targets is the assigned one.
use Rattle.std.proofs.Common.{◌≡◌, ◌+◌, ◌<◌, ◌++◌, ℕ, List, [], ◌∷◌, length, map, All, refl, sym, ap, ◌∙◌, arith}
use Rattle.std.proofs.Common.{length-append}
use Rattle.std.specs.List.{AllByRecursion, range_with_len}
use Rattle.std.proofs.lemmas.List.{append_assoc}
use Rattle.std.proofs.lemmas.Simd.{map-map}
use Rattle.std.proofs.lemmas.List.Elements.{All-head, All-tail, recursion_from_All}
use Rattle.std.proofs.lemmas.List.FromFn.{fill_by_all}
use Rattle.dt_base.specs.declared.cell.Cell.{Cell}
use Rattle.dt_base.specs.declared.cell.Cell.TheVariants as is
use Rattle.dt_model.specs.Table.{PlainTable, column_of, heads_of, names_at, row_at, rows_of}
use Rattle.dt_model.specs.Vector.{Vector, cell_at}
use Rattle.na_vector.specs.Column.{Seen}
use Rattle.na_vector.specs.Frame.{HasLength, rows_with, vectors_of}
use Rattle.dt_table.specs.Change.{PartSeen, added_names, added_vectors, changed_from, kept, names_changed}
use Rattle.dt_table.specs.Change.{vectors_changed}
use Rattle.dt_table.specs.Plain.{plain, plain_changed}
use Rattle.dt_table.specs.Table.{IndexSeen, IsIndex, IsTable, TableSeen}
use Rattle.dt_table.proofs.Changing.{added_length, changed_length, kept_length}
use Rattle.dt_table.proofs.Plain.{plain_names, plain_rows, vectors_count}
use Rattle.assign_model.specs.Assign.{names_in, table_after, vectors_after, vectors_from, vectors_in, rows_left}
use Rattle.assign_model.specs.Keys.{cut_key, kept_indices}
use Rattle.assign_model.specs.Targets.{Rows, Target, names_after, names_of}
use Rattle.assign_ref.specs.Planned.{parts_of}
use Rattle.assign_ref.proofs.Columns.{indices_found, key_found, names_found, vectors_found}

-- ---- The columns of the plain reading

-- a row's cell at the place of a column is the column's cell in that row
row_cell : (done rest : List Vector) (v : Vector) (r : ℕ) → cell_at (row_at (done ++ v ∷ rest) r) (length done)
    ≡ cell_at v.cells r
row_cell [] rest v r = refl
row_cell (x ∷ done) rest v r = row_cell done rest v r

-- a column of n cells, read one by one
cells_read : (v : Vector) (n : ℕ) → length v.cells ≡ n → map (cell_at v.cells) (range_with_len 0 n) ≡ v.cells
cells_read v n h = sym (fill_by_all (cell_at v.cells) v.cells n is.Na h (λ k l. refl))

-- the column of a list of rows is the column that the rows were read from
column_read : (done rest : List Vector) (v : Vector) (n : ℕ) → length v.cells ≡ n
    → column_of (length done) (rows_of n (done ++ v ∷ rest)) ≡ v.cells
column_read done rest v n h =
    map-map (λ row. cell_at row (length done)) (row_at (done ++ v ∷ rest)) (range_with_len 0 n)
    ∙ ((λ j. map (λ r. row_cell done rest v r j) (range_with_len 0 n))
    ∙ cells_read v n h)

vector_read : (v : Vector) (cells : List Cell) → cells ≡ v.cells → record { kind = v.kind; cells = cells } ≡ v
vector_read v cells e = λ j. record { kind = v.kind; cells = e j }

-- the columns that are read behind others are these columns
vectors_read : (names : List (List ℕ)) (done : List Vector) (columns : List Seen) (n : ℕ) → length names
    ≡ length columns → All (HasLength n) columns → vectors_from (length done) (heads_of names (vectors_of columns))
    (rows_of n (done ++ vectors_of columns)) ≡ vectors_of columns
vectors_read [] done [] n h a = refl
vectors_read [] done (c ∷ columns) n h a = absurd (omega (arith, h))
vectors_read (name ∷ names) done [] n h a = absurd (omega (arith, h))
vectors_read (name ∷ names) done (c ∷ columns) n h a =
    let rest : List Vector = vectors_of columns in
    let here : column_of (length done) (rows_of n (done ++ c.vector ∷ rest)) ≡ c.vector.cells =
    column_read done rest c.vector n (All-head (HasLength n) c columns a) in
    let behind : vectors_from (length done + 1) (heads_of names rest) (rows_of n (done ++ c.vector ∷ rest)) ≡ rest =
    (λ j. vectors_from (sym (length-append done (c.vector ∷ [])) j) (heads_of names rest)
    (rows_of n (sym (append_assoc done (c.vector ∷ []) rest) j)))
    ∙ vectors_read names (done ++ c.vector ∷ []) columns n (omega (arith, h)) (All-tail (HasLength n) c columns a) in
    λ j. vector_read c.vector (column_of (length done) (rows_of n (done ++ c.vector ∷ rest))) here j ∷ behind j

pub plain_vectors : (t : TableSeen) → IsTable t → vectors_in (plain t) ≡ vectors_of t.frame.columns
plain_vectors t h = vectors_read t.names [] t.frame.columns t.frame.rows h.named h.frame.one_length

-- ---- The assigned table

-- as many names as columns
pub changed_lengths : (ps : List PartSeen) (names : List (List ℕ)) (vs : List Vector) → length names ≡ length vs
    → length (names_changed ps names) ≡ length (vectors_changed ps vs)
changed_lengths ps names vs each =
    let a : length (names_changed ps names) ≡ length (kept ps 0 names) + length (added_names ps) = length-append
    (kept ps 0 names) (added_names ps) in
    let b : length (vectors_changed ps vs) ≡ length (kept ps 0 (changed_from ps 0 vs)) + length (added_vectors ps) =
    length-append (kept ps 0 (changed_from ps 0 vs)) (added_vectors ps) in
    let c : length (kept ps 0 names) ≡ length (kept ps 0 (changed_from ps 0 vs)) = kept_length ps 0 names
    (changed_from ps 0 vs) (each ∙ sym (changed_length ps 0 vs)) in
    let d : length (added_names ps) ≡ length (added_vectors ps) = added_length ps in
    omega arith

-- the assigned table from the parts of the old one
abbrev after : (names : List (List ℕ)) (n : ℕ) (vs : List Vector) (key : List (List ℕ))
    (indices : List (List (List ℕ))) (slots : ℕ) → Rows → List Target → PlainTable
after names n vs key indices slots rows targets = record {
  columns = heads_of (names_after names targets) (vectors_after n rows targets names vs);
  rows = rows_of (rows_left (length (vectors_after n rows targets names vs)) n) (vectors_after n rows targets names vs);
  key = cut_key (names_of targets) key;
  indices = kept_indices (names_of targets) indices;
  slots = slots;
}

after_plain : (t : TableSeen) (rows : Rows) (targets : List Target) → IsTable t → table_after (plain t) rows targets
    ≡ after t.names t.frame.rows (vectors_of t.frame.columns) (names_at t.names t.key)
    (map (λ x. names_at t.names x.cols) t.indices) t.slots rows targets
after_plain t rows targets h =
    let names : names_in (plain t) ≡ t.names = plain_names t h in
    let vectors : vectors_in (plain t) ≡ vectors_of t.frame.columns = plain_vectors t h in
    let n : length (plain t).rows ≡ t.frame.rows = plain_rows t in
    λ j. after (names j) (n j) (vectors j) (names_at t.names t.key) (map (λ x. names_at t.names x.cols) t.indices)
    t.slots rows targets

columns_ranged : (width n : ℕ) (vs : List Vector) (xs : List IndexSeen) → AllByRecursion (IsIndex width n vs) xs →
    AllByRecursion (λ x. AllByRecursion (λ c. c < width) x.cols) xs
columns_ranged width n vs [] h = tt
columns_ranged width n vs (x ∷ xs) h = (
  (let one : IsIndex width n vs x = h.0 in recursion_from_All (λ c. c < width) x.cols one.cols.in_range),
  columns_ranged width n vs xs h.1,
)

-- the change of all targets makes the assigned table
pub plain_is_assigned : (t : TableSeen) (rows : Rows) (targets : List Target) → IsTable t
    → plain_changed t (record { parts = parts_of t.frame.rows rows t.names (vectors_of t.frame.columns) targets })
    ≡ table_after (plain t) rows targets
plain_is_assigned t rows targets h =
    let n = t.frame.rows in
    let vs = vectors_of t.frame.columns in
    let ps = parts_of n rows t.names vs targets in
    let each : length t.names ≡ length vs = h.named ∙ sym (vectors_count t.frame.columns) in
    let names : names_changed ps t.names ≡ names_after t.names targets = names_found n rows t.names vs
    h.names.distinct targets in
    let vectors : vectors_changed ps vs ≡ vectors_after n rows targets t.names vs = vectors_found n rows t.names vs
    h.names.distinct targets each in
    let wide : length (names_changed ps t.names) ≡ length (vectors_after n rows targets t.names vs) = changed_lengths
    ps t.names vs each ∙ ap length vectors in
    let key : names_at (names_changed ps t.names) _ ≡ cut_key (names_of targets) (names_at t.names t.key) = key_found
    n rows t.names vs h.names.distinct targets t.key (recursion_from_All (λ c. c < length t.names) t.key
    h.key.in_range) in
    let indices = indices_found n rows t.names vs h.names.distinct targets t.indices
    (columns_ranged (length t.names) n vs t.indices (recursion_from_All (IsIndex (length t.names) n vs) t.indices
    h.indices)) in
    (λ j. record {
      columns = heads_of (names j) (vectors j);
      rows = rows_of (rows_with (wide j) n) (vectors j);
      key = key j;
      indices = indices j;
      slots = t.slots;
    }) ∙ sym (after_plain t rows targets h)
