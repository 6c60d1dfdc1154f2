-- A table's text from the pieces that the code puts.
use Rattle.std.proofs.Common.{◌≡◌, ◌∙◌, ℕ, zero, suc, ◌+◌, ◌-◌, ◌<◌, ◌≤◌, List, [], ◌∷◌, ◌++◌, length, replicate, refl}
use Rattle.std.proofs.Common.{sym, ap, arith, append_assoc}
use Rattle.std.specs.Prelude.{map, slice_get, slice_index, slice_index_or, codes, decimal}
use Rattle.std.specs.List.{flat_map, range_with_len, join_with_byte}
use Rattle.std.proofs.lemmas.List.FromFn.{get_or-map-range_with_len, length-map-range_with_len}
use Rattle.std.proofs.lemmas.List.{append-nil}
use Rattle.std.proofs.lemmas.List.Folds.{flat_map-map}
use Rattle.std.proofs.lemmas.Bool.Decides.{nat_tests}
use Rattle.dt_base.specs.declared.cell.Cell.{Cell}
use Rattle.dt_model.specs.Vector.{cell_at}
use Rattle.dt_model.specs.Table.{ColumnHead, row_at, rows_of}
use Rattle.na_vector.specs.Column.{Seen}
use Rattle.run_model.specs.Printed.{aligned, name_text, cell_text, head_at, label, label_width, column_width}
use Rattle.run_model.specs.Printed.{header_line, row_line, lines_text, elided, filled_table_text, printed_table}
use Rattle.dt_print.specs.Framed.{frame_heads, vectors_of}
use Rattle.dt_print.specs.Lines.{part, first_count, last_start, text_at, frame_cell, names_part, cells_part, frame_line}
use Rattle.dt_print.specs.Lines.{dashes, empty_text}
use Rattle.dt_print.proofs.Spans.{lines_text-elided, lines_text-map}

-- two functions that agree on a range give the same text there
pub flat_map-range_same : (f g : ℕ → List ℕ) (a n m : ℕ) → ((c : ℕ) → c < m → f c ≡ g c) → a + n ≤ m
    → flat_map f (range_with_len a n) ≡ flat_map g (range_with_len a n)
flat_map-range_same f g a zero m e h = refl
flat_map-range_same f g a (suc n) m e h =
    λ i. e a (omega arith) i ++ flat_map-range_same f g (a + 1) n m e (omega arith) i

pub length-frame_heads : (names : List (List ℕ)) (columns : List Seen) → length names ≡ length columns
    → length (frame_heads names columns) ≡ length columns
length-frame_heads [] [] e = refl
length-frame_heads [] (v ∷ columns) e = absurd (omega arith)
length-frame_heads (n ∷ names) [] e = absurd (omega arith)
length-frame_heads (n ∷ names) (v ∷ columns) e = ap suc (length-frame_heads names columns (omega arith))

-- the name of a column
pub name-head_at : (names : List (List ℕ)) (columns : List Seen) (c : ℕ) → length names ≡ length columns
    → (head_at (frame_heads names columns) c).name ≡ slice_index_or names c []
name-head_at [] [] c e = refl
name-head_at [] (v ∷ columns) c e = absurd (omega arith)
name-head_at (n ∷ names) [] c e = absurd (omega arith)
name-head_at (n ∷ names) (v ∷ columns) zero e = refl
name-head_at (n ∷ names) (v ∷ columns) (suc c) e = name-head_at names columns c (omega arith)

-- the text of a row's cell in a column
pub cell_text-frame : (names : List (List ℕ)) (columns : List Seen) (p c : ℕ) → length names ≡ length columns
    → c < length columns
    → cell_text (head_at (frame_heads names columns) c).kind (cell_at (row_at (vectors_of columns) p) c)
    ≡ text_at (slice_get columns c) p
cell_text-frame [] [] p c e h = absurd (omega arith)
cell_text-frame [] (v ∷ columns) p c e h = absurd (omega arith)
cell_text-frame (n ∷ names) [] p c e h = absurd (omega arith)
cell_text-frame (n ∷ names) (v ∷ columns) p zero e h = refl
cell_text-frame (n ∷ names) (v ∷ columns) p (suc c) e h = cell_text-frame names columns p c (omega arith) (omega arith)

-- a row of the frame's rows
pub row-rows_of : (columns : List Seen) (n p : ℕ) → p < n
    → slice_index_or (rows_of n (vectors_of columns)) p [] ≡ row_at (vectors_of columns) p
row-rows_of columns n p h = get_or-map-range_with_len (row_at (vectors_of columns)) 0 n p p [] h (omega arith)

-- what is shown first and last lies within the rows
first_within : (n : ℕ) → 0 + first_count n ≤ n
first_within n = grind (arith, nat_tests)

last_within : (n : ℕ) → last_start n + (n - last_start n) ≤ n
last_within n = grind (arith, nat_tests)

-- names, with a comma before all but the first
joined : (c : ℕ) (x : List ℕ) (xs : List (List ℕ)) → join_with_byte c (x ∷ xs) ≡ x ++ flat_map (λ y. c ∷ y) xs
joined c x [] = sym (append-nil x)
joined c x (y ∷ ys) = ap (λ r. x ++ c ∷ r) (joined c y ys)

pub joined_names : (start first_put all_put first : List ℕ) (others names : List (List ℕ)) → names ≡ first ∷ others
    → first_put ≡ start ++ name_text first → all_put ≡ first_put ++ flat_map (λ n. 44 ∷ name_text n) others
    → all_put ≡ start ++ join_with_byte 44 (map name_text names)
joined_names start first_put all_put first others names e f h =
    h ∙ (λ i. f i ++ sym (flat_map-map (λ (y : List ℕ). 44 ∷ y) name_text others) i)
    ∙ append_assoc start (name_text first) (flat_map (λ y. 44 ∷ y) (map name_text others))
    ∙ (λ i. start ++ sym (joined 44 (name_text first) (map name_text others)) i)
    ∙ (λ i. start ++ join_with_byte 44 (map name_text (sym e i)))

-- a table without rows, put piece by piece
pub empty_put : (names : List (List ℕ)) (count : ℕ) (t0 t1 t2 t3 t4 : List ℕ)
    → t0 ≡ codes "Empty data.table (0 rows and " → count ≡ length names → t1 ≡ t0 ++ decimal count
    → t2 ≡ t1 ++ codes " cols): " → t3 ≡ t2 ++ join_with_byte 44 (map name_text names) → t4 ≡ t3 ++ codes "\n"
    → t4 ≡ empty_text names
unfolding empty_text
empty_put names count t0 t1 t2 t3 t4 e0 is_count e1 e2 e3 e4 =
    e4 ∙ (λ i. (e3 ∙ (λ j. (e2 ∙ (λ k. (e1 ∙ (λ l. e0 l ++ decimal (is_count l))) k ++ codes " cols): ")) j
    ++ join_with_byte 44 (map name_text names))) i ++ codes "\n")

names-frame_heads : (names : List (List ℕ)) (columns : List Seen) → length names ≡ length columns
    → map (λ h. name_text h.name) (frame_heads names columns) ≡ map name_text names
names-frame_heads [] [] e = refl
names-frame_heads [] (v ∷ columns) e = absurd (omega arith)
names-frame_heads (n ∷ names) [] e = absurd (omega arith)
names-frame_heads (n ∷ names) (v ∷ columns) e =
    ap (λ r. name_text n ∷ r) (names-frame_heads names columns (omega arith))

pub printed-empty : (names : List (List ℕ)) (columns : List Seen) → length names ≡ length columns → 0 < length columns
    → printed_table (frame_heads names columns) [] ≡ empty_text names
unfolding empty_text
printed-empty [] [] e h = absurd (omega arith)
printed-empty [] (v ∷ columns) e h = absurd (omega arith)
printed-empty (n ∷ names) [] e h = absurd (omega arith)
printed-empty (n ∷ names) (v ∷ columns) e h =
    λ i. codes "Empty data.table (0 rows and " ++ decimal ((length-frame_heads (n ∷ names) (v ∷ columns) e ∙ sym e) i)
    ++ codes " cols): "
    ++ join_with_byte 44 (names-frame_heads (n ∷ names) (v ∷ columns) e i) ++ codes "\n"

pub printed-filled : (names : List (List ℕ)) (columns : List Seen) (n : ℕ) → length names ≡ length columns
    → 0 < length columns → 0 < n
    → printed_table (frame_heads names columns) (rows_of n (vectors_of columns))
    ≡ filled_table_text (frame_heads names columns) (rows_of n (vectors_of columns))
printed-filled [] [] n e h k = absurd (omega arith)
printed-filled [] (v ∷ columns) n e h k = absurd (omega arith)
printed-filled (m ∷ names) [] n e h k = absurd (omega arith)
printed-filled (m ∷ names) (v ∷ columns) zero e h k = absurd (omega arith)
printed-filled (m ∷ names) (v ∷ columns) (suc n) e h k = refl

module _ (names : List (List ℕ)) (columns : List Seen) (n : ℕ) (widths : List ℕ) (label_is : ℕ)
    (same : length names ≡ length columns)
    (is_label : label_is ≡ label_width n)
    (is_widths : widths ≡ map (column_width (frame_heads names columns) (rows_of n (vectors_of columns)))
    (range_with_len 0 (length columns)))
  where
    heads : List ColumnHead
    heads = frame_heads names columns

    rows : List (List Cell)
    rows = rows_of n (vectors_of columns)

    width_is : (c : ℕ) → c < length columns → column_width (frame_heads names columns) (rows_of n (vectors_of columns))
        c ≡ slice_index widths c
    width_is c h =
        sym (ap (λ ws. slice_index ws c) is_widths
        ∙ get_or-map-range_with_len (column_width (frame_heads names columns) (rows_of n (vectors_of columns))) 0
        (length columns) c c 0 h (omega arith))

    rows_count : length (rows_of n (vectors_of columns)) ≡ n
    rows_count = length-map-range_with_len (row_at (vectors_of columns)) 0 n

    -- the header
    pub header-frame : header_line (frame_heads names columns) (rows_of n (vectors_of columns)) ≡ replicate label_is 32
        ++ names_part widths names (length names)
    unfolding header_line names_part
    header-frame =
        rw (length-frame_heads names columns same, rows_count)
        (λ i. replicate (sym is_label i) 32 ++
        (flat_map-range_same
        (λ c. part (column_width (frame_heads names columns) (rows_of n (vectors_of columns)) c)
        (name_text (head_at (frame_heads names columns) c).name))
        (λ c. part (slice_index widths c) (name_text (slice_index_or names c [])))
        0 (length columns) (length columns)
        (λ c h j. part (width_is c h j) (name_text (name-head_at names columns c same j)))
        (omega arith)
        ∙ ap (λ m. flat_map (λ c. part (slice_index widths c) (name_text (slice_index_or names c [])))
        (range_with_len 0 m)) (sym same)) i)

    -- the line of a row
    pub row-frame : (p : ℕ) → p < n
        → row_line (frame_heads names columns) (rows_of n (vectors_of columns)) p ++ codes "\n"
        ≡ frame_line label_is widths columns p
    unfolding row_line frame_line cells_part frame_cell
    row-frame p below =
        rw (length-frame_heads names columns same, rows_count, row-rows_of columns n p below)
        (λ i. (aligned (sym is_label i) (label (p + 1)) ++
        flat_map-range_same
        (λ c. part (column_width (frame_heads names columns) (rows_of n (vectors_of columns)) c)
        (cell_text (head_at (frame_heads names columns) c).kind (cell_at (row_at (vectors_of columns) p) c)))
        (λ c. part (slice_index widths c) (text_at (slice_get columns c) p))
        0 (length columns) (length columns)
        (λ c h j. part (width_is c h j) (cell_text-frame names columns p c same h j))
        (omega arith) i) ++ codes "\n")

    -- a table with rows
    pub filled-frame : filled_table_text (frame_heads names columns) (rows_of n (vectors_of columns))
        ≡ (replicate label_is 32 ++ names_part widths names (length names) ++ codes "\n")
        ++ flat_map (frame_line label_is widths columns) (range_with_len 0 (first_count n))
        ++ dashes n
        ++ flat_map (frame_line label_is widths columns) (range_with_len (last_start n) (n - last_start n))
    unfolding filled_table_text
    filled-frame =
        let f : ℕ → List ℕ = row_line (frame_heads names columns) (rows_of n (vectors_of columns)) in
        let g : ℕ → List ℕ = frame_line label_is widths columns in
        let head : List ℕ = replicate label_is 32 ++ names_part widths names (length names) ++ codes "\n" in
        let first : List ℕ = flat_map g (range_with_len 0 (first_count n)) in
        let last : List ℕ = flat_map g (range_with_len (last_start n) (n - last_start n)) in
        ap (λ k. (header_line (frame_heads names columns) (rows_of n (vectors_of columns)) ++ codes "\n")
        ++ lines_text (elided (map f (range_with_len 0 k)))) rows_count
        ∙ (λ i. (header-frame i ++ codes "\n") ++ lines_text-elided f n i)
        ∙ (λ i. head ++ ((lines_text-map f (range_with_len 0 (first_count n))
        ∙ flat_map-range_same (λ p. f p ++ codes "\n") g 0 (first_count n) n row-frame (first_within n)) i
        ++ dashes n
        ++ (lines_text-map f (range_with_len (last_start n) (n - last_start n))
        ∙ flat_map-range_same (λ p. f p ++ codes "\n") g (last_start n) (n - last_start n) n row-frame
        (last_within n)) i))
        ∙ sym (append_assoc head (first ++ dashes n) last)
        ∙ ap (λ r. r ++ last) (sym (append_assoc head first (dashes n)))

    -- the pieces, one put after another
    pub filled_put : (first_end last_from : ℕ) (t0 t1 t2 t3 t4 : List ℕ) → t0 ≡ []
        → t1 ≡ t0 ++ (replicate label_is 32 ++ names_part widths names (length names) ++ codes "\n")
        → first_end ≡ first_count n → t2 ≡ t1 ++ flat_map (frame_line label_is widths columns)
        (range_with_len 0 (first_end - 0))
        → t3 ≡ t2 ++ dashes n
        → last_from ≡ last_start n → t4 ≡ t3 ++ flat_map (frame_line label_is widths columns)
        (range_with_len last_from (n - last_from))
        → t4 ≡ filled_table_text (frame_heads names columns) (rows_of n (vectors_of columns))
    filled_put first_end last_from t0 t1 t2 t3 t4 e0 e1 is_end e2 e3 is_from e4 =
        let g : ℕ → List ℕ = frame_line label_is widths columns in
        e4 ∙ (λ i. (e3 ∙ (λ j. (e2 ∙ (λ k. (e1 ∙ (λ l. e0 l
        ++ (replicate label_is 32 ++ names_part widths names (length names) ++ codes "\n"))) k
        ++ flat_map g (range_with_len 0 ((let e : first_end - 0 ≡ first_end = omega arith in e) k)))) j
        ++ dashes n)) i
        ++ flat_map g (range_with_len (is_from i) (n - is_from i)))
        ∙ (λ i. (replicate label_is 32 ++ names_part widths names (length names) ++ codes "\n")
        ++ flat_map g (range_with_len 0 (is_end i)) ++ dashes n
        ++ flat_map g (range_with_len (last_start n) (n - last_start n)))
        ∙ sym filled-frame

-- the same, where the number of rows is told by an equation
pub filled_from : (names : List (List ℕ)) (columns : List Seen) (n m : ℕ) (widths : List ℕ)
    (label_is first_end last_from : ℕ)
    (t0 t1 t2 t3 t4 : List ℕ)
    → length names ≡ length columns → m ≡ n → label_is ≡ label_width m
    → widths ≡ map (column_width (frame_heads names columns) (rows_of n (vectors_of columns)))
    (range_with_len 0 (length columns))
    → t0 ≡ []
    → t1 ≡ t0 ++ (replicate label_is 32 ++ names_part widths names (length names) ++ codes "\n")
    → first_end ≡ first_count m → t2 ≡ t1 ++ flat_map (frame_line label_is widths columns)
    (range_with_len 0 (first_end - 0))
    → t3 ≡ t2 ++ dashes m
    → last_from ≡ last_start m → t4 ≡ t3 ++ flat_map (frame_line label_is widths columns)
    (range_with_len last_from (m - last_from))
    → t4 ≡ filled_table_text (frame_heads names columns) (rows_of n (vectors_of columns))
filled_from names columns n m widths label_is first_end last_from t0 t1 t2 t3 t4 same is_m is_label is_widths e0 e1
    is_end e2 e3 is_from e4 =
    filled_put names columns n widths label_is same (is_label ∙ ap label_width is_m) is_widths first_end last_from t0 t1
    t2 t3 t4 e0 e1
    (is_end ∙ ap first_count is_m) e2 (e3 ∙ ap (λ k. t2 ++ dashes k) is_m) (is_from ∙ ap last_start is_m)
    (e4 ∙ ap (λ k. t3 ++ flat_map (frame_line label_is widths columns) (range_with_len last_from (k - last_from))) is_m)
