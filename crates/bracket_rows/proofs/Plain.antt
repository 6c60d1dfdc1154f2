-- A table beside its plain reading: its columns with their names, and chosen rows.
use Rattle.std.proofs.Common.{◌≡◌, ◌+◌, ◌++◌, ℕ, List, [], ◌∷◌, length, map, All, refl, sym, ap, ◌∙◌, arith}
use Rattle.std.specs.List.{range_with_len}
use Rattle.std.proofs.lemmas.List.{append_assoc, length-append}
use Rattle.std.proofs.lemmas.Simd.{map-map}
use Rattle.std.proofs.lemmas.List.Elements.{All-head, All-tail}
use Rattle.std.proofs.lemmas.List.FromFn.{fill_by_all}
use Rattle.dt_base.specs.declared.cell.Cell.{Cell}
use Rattle.dt_base.specs.declared.cell.Cell.TheVariants as is
use Rattle.dt_model.specs.Table.{column_of, heads_of, row_at, rows_of}
use Rattle.dt_model.specs.Vector.{Vector, cell_at}
use Rattle.dt_table.proofs.Plain.{plain_names, plain_rows}
use Rattle.dt_table.specs.Plain.{plain}
use Rattle.dt_table.specs.Table.{TableSeen, IsTable}
use Rattle.expr_scope.specs.Scope.{columns_of}
use Rattle.row_model.specs.Rows.{Places, all_rows}
use Rattle.expr_model.specs.Surroundings.{Vars, columns_in, in_rows, vectors_from}
use Rattle.na_vector.specs.Column.{Seen}
use Rattle.na_vector.specs.Frame.{HasLength, vectors_of}
use Rattle.session_model.specs.Found.{whole_rows}

-- a row's cell at the place of a column is the column's cell in that row
row_cell : (done rest : List Vector) (v : Vector) (r : ℕ) → cell_at (row_at (done ++ v ∷ rest) r) (length done)
    ≡ cell_at v.cells r
row_cell [] rest v r = refl
row_cell (x ∷ done) rest v r = row_cell done rest v r

-- a column of n cells, read one by one
cells_read : (v : Vector) (n : ℕ) → length v.cells ≡ n → map (cell_at v.cells) (range_with_len 0 n) ≡ v.cells
cells_read v n h = sym (fill_by_all (cell_at v.cells) v.cells n is.Na h (λ k l. refl))

-- the column of a list of rows is the column that the rows were read from
column_read : (done rest : List Vector) (v : Vector) (n : ℕ) → length v.cells ≡ n
    → column_of (length done) (rows_of n (done ++ v ∷ rest)) ≡ v.cells
column_read done rest v n h =
    map-map (λ row. cell_at row (length done)) (row_at (done ++ v ∷ rest)) (range_with_len 0 n)
    ∙ ((λ j. map (λ r. row_cell done rest v r j) (range_with_len 0 n))
    ∙ cells_read v n h)

vector_read : (v : Vector) (cells : List Cell) → cells ≡ v.cells → record { kind = v.kind; cells = cells } ≡ v
vector_read v cells e = λ j. record { kind = v.kind; cells = e j }

-- the columns that are read behind others are these columns
pub vectors_read : (names : List (List ℕ)) (done : List Vector) (columns : List Seen) (n : ℕ) → length names
    ≡ length columns → All (HasLength n) columns → vectors_from (length done) (heads_of names (vectors_of columns))
    (rows_of n (done ++ vectors_of columns)) ≡ vectors_of columns
vectors_read [] done [] n h a = refl
vectors_read [] done (c ∷ columns) n h a = absurd (omega (arith, h))
vectors_read (name ∷ names) done [] n h a = absurd (omega (arith, h))
vectors_read (name ∷ names) done (c ∷ columns) n h a =
    let rest : List Vector = vectors_of columns in
    let here : column_of (length done) (rows_of n (done ++ c.vector ∷ rest)) ≡ c.vector.cells =
    column_read done rest c.vector n (All-head (HasLength n) c columns a) in
    let behind : vectors_from (length done + 1) (heads_of names rest) (rows_of n (done ++ c.vector ∷ rest)) ≡ rest =
    (λ j. vectors_from (sym (length-append done (c.vector ∷ [])) j) (heads_of names rest)
    (rows_of n (sym (append_assoc done (c.vector ∷ []) rest) j)))
    ∙ vectors_read names (done ++ c.vector ∷ []) columns n (omega (arith, h)) (All-tail (HasLength n) c columns a) in
    λ j. vector_read c.vector (column_of (length done) (rows_of n (done ++ c.vector ∷ rest))) here j ∷ behind j

-- ---- What a table's plain reading has

pub plain_vectors : (t : TableSeen) → IsTable t → (columns_in (plain t)).vectors ≡ vectors_of t.frame.columns
plain_vectors t h = vectors_read t.names [] t.frame.columns t.frame.rows h.named h.frame.one_length

-- the columns of the plain reading are the frame's own, under the table's names
pub columns_read : (t : TableSeen) → IsTable t → columns_in (plain t) ≡ columns_of t.names t.frame
columns_read t h = λ j. record { names = plain_names t h j; vectors = plain_vectors t h j }

-- what an expression meets over all rows of a table
pub whole_env : (t : TableSeen) (vars : Vars) (places : Places) → IsTable t → places ≡ all_rows t.frame.rows
    → in_rows (columns_of t.names t.frame) places vars ≡ whole_rows (plain t) vars
whole_env t vars places h p = λ j. in_rows (sym (columns_read t h) j) ((p ∙ ap all_rows (sym (plain_rows t))) j) vars
