-- Rows and names that are written one after the other.
use Rattle.std.proofs.Common.{◌≡◌, ◌<◌, ◌+◌, ◌-◌, ◌++◌, ◌==◌, ℕ, zero, suc, List, [], ◌∷◌, Some, map, length, drop}
use Rattle.std.proofs.Common.{get_or, cond, slice_get, Result, Ok, Err, is_ok, OnOk, false, refl, sym, ap, ◌∙◌}
use Rattle.std.proofs.Common.{append_assoc, arith, add-one, drop-cons}
use Rattle.std.specs.List.{concat, range_with_len}
use Rattle.std.proofs.lemmas.List.{length-map}
use Rattle.csv.specs.Writing.{default_writer, row_text}
use Rattle.dt_base.specs.declared.cell.Cell.{Cell}
use Rattle.dt_model.specs.Table.{heads_of, row_at}
use Rattle.dt_model.specs.Vector.{Vector, cell_at}
use Rattle.dt_table.specs.Plain.{plain}
use Rattle.dt_table.specs.Table.{TableSeen}
use Rattle.na_vector.specs.Column.{Seen}
use Rattle.na_vector.specs.Frame.{vectors_of}
use Rattle.run_model.specs.Csv.{written_csv}
use Rattle.run_model.specs.CsvCells.{cell_text}

-- the list from a place on begins with the element there
drop_at : {X : Type 0} (xs : List X) (c : ℕ) (x : X) → slice_get xs c ≡ Some x → drop c xs ≡ x ∷ drop (suc c) xs
drop_at [] c x e = cc
drop_at (y ∷ ys) zero x e = let same : y ≡ x = cc in rw same refl
drop_at (y ∷ ys) (suc c) x e = drop_at ys c x e

-- the next cell of a row
pub row_next : (fields grown : List (List ℕ)) (columns : List Seen) (c r : ℕ) (col : Seen) (x : Cell)
    (all : List (List ℕ))
    → slice_get columns c ≡ Some col → grown ≡ fields ++ cell_text x ∷ [] → x ≡ cell_at col.vector.cells r
    → fields ++ map cell_text (row_at (vectors_of (drop c columns)) r) ≡ all
    → grown ++ map cell_text (row_at (vectors_of (drop (c + 1) columns)) r) ≡ all
row_next fields grown columns c r col x all at joined value whole =
    let split : fields ++ (cell_text (cell_at col.vector.cells r)
    ∷ map cell_text (row_at (vectors_of (drop (suc c) columns)) r)) ≡ all =
    rw (drop_at columns c col at) at whole in
    rw (add-one, joined, append_assoc, value) split

-- the next name
pub name_next : (fields grown names : List (List ℕ)) (i : ℕ) (name : List ℕ) → i < length names
    → grown ≡ fields ++ name ∷ [] → name ≡ get_or names i []
    → fields ++ drop i names ≡ names → grown ++ drop (i + 1) names ≡ names
name_next fields grown names i name within joined at whole =
    let split : fields ++ (get_or names i [] ∷ drop (suc i) names) ≡ names = rw (drop-cons names i []) at whole in
    rw (add-one, joined, append_assoc, at) split

-- the next row
range_next : (r n : ℕ) → r < n → range_with_len r (n - r) ≡ r ∷ range_with_len (r + 1) (n - (r + 1))
range_next r n lt = let e : n - r ≡ suc (n - (r + 1)) = omega arith in rw e refl

abbrev pub rows_text : List Vector → List ℕ → List ℕ
rows_text columns rs = concat (map (row_text default_writer) (map (map cell_text) (map (row_at columns) rs)))

pub rows_next : (columns : List Vector) (done more : List ℕ) (r n : ℕ) (all : List ℕ) → r < n
    → more ≡ done ++ row_text default_writer (map cell_text (row_at columns r))
    → done ++ rows_text columns (range_with_len r (n - r)) ≡ all
    → more ++ rows_text columns (range_with_len (r + 1) (n - (r + 1))) ≡ all
rows_next columns done more r n all lt joined whole =
    let split : done ++ (row_text default_writer (map cell_text (row_at columns r))
    ++ rows_text columns (range_with_len (r + 1) (n - (r + 1)))) ≡ all =
    rw (range_next r n lt) at whole in
    rw (joined, append_assoc) split

-- ---- the whole table

-- the names of the heads are the names
heads_names : (names : List (List ℕ)) (vs : List Vector) → length names ≡ length vs
    → map (λ h. h.name) (heads_of names vs) ≡ names
heads_names [] vs e = refl
heads_names (n ∷ names) [] e = absurd (omega arith)
heads_names (n ∷ names) (v ∷ vs) e = ap (λ rest. n ∷ rest) (heads_names names vs (omega arith))

heads_length : (names : List (List ℕ)) (vs : List Vector) → length names ≡ length vs
    → length (heads_of names vs) ≡ length names
heads_length [] vs e = refl
heads_length (n ∷ names) [] e = absurd (omega arith)
heads_length (n ∷ names) (v ∷ vs) e = ap suc (heads_length names vs (omega arith))

-- the names, and then the rows
pub whole_text : (t : TableSeen) → length t.names ≡ length t.frame.columns → (length t.names == 0) ≡ false
    → written_csv (plain t) ≡ row_text default_writer t.names
    ++ rows_text (vectors_of t.frame.columns) (range_with_len 0 t.frame.rows)
whole_text t named some =
    let wide : length t.names ≡ length (vectors_of t.frame.columns) = named
    ∙ sym (length-map t.frame.columns (λ c. c.vector)) in
    let heads = heads_length t.names (vectors_of t.frame.columns) wide in
    let names = heads_names t.names (vectors_of t.frame.columns) wide in
    rw (heads, some, names) refl

-- bytes that join a vector where memory suffices
pub joined_text : {E : Type 0} (r : Result (Unit {0}) E) (new old other text : List ℕ)
    → new ≡ cond (is_ok r) (old ++ other) old → other ≡ text
    → OnOk r (new ≡ old ++ text)
joined_text (Ok u) new old other text e same = rw (e, same) refl
joined_text (Err x) new old other text e same = tt

-- what three parts wrote, the first of them nothing
pub parts_text : (w0 w1 w2 names rows whole : List ℕ) → w0 ≡ [] → w1 ≡ w0 ++ names → w2 ≡ w1 ++ rows
    → whole ≡ names ++ rows → w2 ≡ whole
parts_text w0 w1 w2 names rows whole none first second e = second ∙ rw (first, none, e) refl
