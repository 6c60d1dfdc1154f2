-- Columns that join a frame one by one.
use Rattle.std.proofs.Common.{◌≡◌, ◌<◌, ◌++◌, ℕ, suc, List, [], ◌∷◌, All, map, length, refl, append_assoc, arith}
use Rattle.std.proofs.lemmas.List.{map-append}
use Rattle.csv_edge.specs.Columns.{first_length}
use Rattle.csv_edge.specs.Filling.{filled_vector}
use Rattle.csv_edge.specs.declared.filling.Filling.{Filling}
use Rattle.na_vector.specs.Column.{Seen}
use Rattle.na_vector.specs.Frame.{vectors_of}
use Rattle.dt_model.specs.Vector.{Vector}

-- the next column of those that are left joins the frame
pub columns_next : (before after : List Seen) (col : Seen) (x : Filling) (left rest : List Filling) (all : List Vector)
    → after ≡ before ++ col ∷ [] → col.vector ≡ filled_vector x → left ≡ x ∷ rest
    → vectors_of before ++ map filled_vector left ≡ all → vectors_of after ++ map filled_vector rest ≡ all
columns_next before after col x left rest all joined made taken whole =
    let whole' : vectors_of before ++ (filled_vector x ∷ map filled_vector rest) ≡ all = rw taken at whole in
    rw (joined, map-append (λ (c : Seen). c.vector) before (col ∷ []), append_assoc, made) whole'

-- those that are left still have this length
pub length_rest : (x : Filling) (left rest : List Filling) (n : ℕ) → left ≡ x ∷ rest
    → All (λ column. length (filled_vector column).cells ≡ n) left
    → All (λ column. length (filled_vector column).cells ≡ n) rest
length_rest x left rest n taken long k d h =
    let long' : All (λ column. length (filled_vector column).cells ≡ n) (x ∷ rest) = rw taken at long in
    long' (suc k) d (omega arith)

pub length_first : (x : Filling) (left rest : List Filling) (n : ℕ) → left ≡ x ∷ rest
    → All (λ column. length (filled_vector column).cells ≡ n) left → length (filled_vector x).cells ≡ n
length_first x left rest n taken long =
    let long' : All (λ column. length (filled_vector column).cells ≡ n) (x ∷ rest) = rw taken at long in
    long' 0 x (omega arith)

-- a column has the cells of its words
pub column_cells : (col : Seen) (x : Filling) → col.vector ≡ filled_vector x
    → length col.vector.cells ≡ length (filled_vector x).cells
column_cells col x made = rw made refl

-- a frame of all columns has their length, and none of no column
pub rows_all : (items : List Filling) (columns : List Seen) (rows : ℕ) → vectors_of columns ≡ map filled_vector items
    → (length columns ≡ 0 → rows ≡ 0) → (0 < length columns → rows ≡ first_length items) → rows ≡ first_length items
rows_all [] [] rows same none some = none refl
rows_all [] (c ∷ columns) rows same none some = cc
rows_all (x ∷ items) [] rows same none some = cc
rows_all (x ∷ items) (c ∷ columns) rows same none some = some (omega arith)
