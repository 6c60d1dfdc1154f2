-- A frame's columns, and the heads and rows that they are seen as.
use Rattle.std.proofs.Common.{◌≡◌, ◌∙◌, ℕ, zero, suc, ◌+◌, ◌-◌, ◌<◌, max, List, [], ◌∷◌, ◌++◌, length, get_or, refl}
use Rattle.std.proofs.Common.{sym, ap, arith, Some}
use Rattle.std.specs.Prelude.{map, slice_get}
use Rattle.std.specs.List.{range_with_len}
use Rattle.std.proofs.lemmas.List.{map-append}
use Rattle.std.proofs.lemmas.List.FromFn.{fill_by_all, map-range_with_len_more}
use Rattle.dt_base.specs.declared.cell.Cell.{Cell}
use Rattle.dt_base.specs.declared.cell.Cell.TheVariants.{Na}
use Rattle.dt_model.specs.Vector.{Vector, cell_at}
use Rattle.dt_model.specs.Table.{row_at, rows_of, column_of}
use Rattle.na_vector.specs.Column.{Seen}
use Rattle.run_model.specs.Printed.{characters, greatest, name_text, cell_text, shown, head_at, column_width}
use Rattle.dt_print.specs.Framed.{frame_heads, vectors_of}
use Rattle.dt_print.specs.Lines.{first_count, last_start, cell_width_at, width_in}
use Rattle.dt_print.proofs.Spans.{shown-map, shown-range, greatest-append}

-- the head of a column is its name and its type
pub head_at-frame_heads : (names : List (List ℕ)) (columns : List Seen) (c : ℕ) (name : List ℕ) (column : Seen)
    → c < length names → name ≡ get_or names c name → slice_get columns c ≡ Some column
    → head_at (frame_heads names columns) c ≡ record { name = name; kind = column.vector.kind }
head_at-frame_heads [] columns c name column inside n k = absurd (omega arith)
head_at-frame_heads (m ∷ names) [] c name column inside n k = absurd (cc)
head_at-frame_heads (m ∷ names) (v ∷ columns) zero name column inside n k =
    let e : v ≡ column = cc in
    λ i. record { name = sym n i; kind = (e i).vector.kind }
head_at-frame_heads (m ∷ names) (v ∷ columns) (suc c) name column inside n k =
    head_at-frame_heads names columns c name column (omega arith) n k

-- a row's cell in a column is the column's cell
pub cell_at-row_at : (columns : List Seen) (p c : ℕ) (column : Seen) → slice_get columns c ≡ Some column
    → cell_at (row_at (vectors_of columns) p) c ≡ cell_at column.vector.cells p
cell_at-row_at [] p c column k = absurd (cc)
cell_at-row_at (v ∷ columns) p zero column k =
    let e : v ≡ column = cc in ap (λ (x : Seen). cell_at x.vector.cells p) e
cell_at-row_at (v ∷ columns) p (suc c) column k = cell_at-row_at columns p c column k

-- cells, place by place
pub cells-places : (cells : List Cell) → cells ≡ map (cell_at cells) (range_with_len 0 (length cells))
cells-places cells = fill_by_all (cell_at cells) cells (length cells) Na refl (λ k h. refl)

map-map : {X Y Z : Type 0} (f : Y → Z) (g : X → Y) (xs : List X) → map f (map g xs) ≡ map (λ x. f (g x)) xs
map-map f g [] = refl
map-map f g (x ∷ xs) = ap (λ r. f (g x) ∷ r) (map-map f g xs)

-- the rows' cells in a column are the column's cells
pub column_of-rows_of : (columns : List Seen) (n c : ℕ) (column : Seen) → slice_get columns c ≡ Some column
    → length column.vector.cells ≡ n → column_of c (rows_of n (vectors_of columns)) ≡ column.vector.cells
column_of-rows_of columns n c column k e =
    map-map (λ row. cell_at row c) (row_at (vectors_of columns)) (range_with_len 0 n)
    ∙ each (range_with_len 0 n)
    ∙ ap (λ m. map (cell_at column.vector.cells) (range_with_len 0 m)) (sym e)
    ∙ sym (cells-places column.vector.cells)
  where
    each : (ps : List ℕ) → map (λ p. cell_at (row_at (vectors_of columns) p) c) ps
        ≡ map (cell_at column.vector.cells) ps
    each [] = refl
    each (p ∷ ps) = λ i. cell_at-row_at columns p c column k i ∷ each ps i

-- the greatest over the shown places is that of the first ones and of the last ones
pub greatest-shown : (f : ℕ → ℕ) (n : ℕ) → greatest (map f (shown (range_with_len 0 n)))
    ≡ max (greatest (map f (range_with_len 0 (first_count n - 0))))
    (greatest (map f (range_with_len (last_start n) (n - last_start n))))
greatest-shown f n =
    ap (λ ps. greatest (map f ps)) (shown-range n)
    ∙ ap greatest (map-append f (range_with_len 0 (first_count n)) (range_with_len (last_start n) (n - last_start n)))
    ∙ greatest-append (map f (range_with_len 0 (first_count n)))
    (map f (range_with_len (last_start n) (n - last_start n)))
    ∙ ap (λ k. max (greatest (map f (range_with_len 0 k)))
    (greatest (map f (range_with_len (last_start n) (n - last_start n)))))
    (let e : first_count n ≡ first_count n - 0 = omega arith in e)

-- a column is as wide as its name, its first cells and its last ones
pub width_in-spans : (name : List ℕ) (v : Vector) → width_in name v
    ≡ max (characters (name_text name))
    (max (greatest (map (cell_width_at v) (range_with_len 0 (first_count (length v.cells) - 0))))
    (greatest (map (cell_width_at v) (range_with_len (last_start (length v.cells))
    (length v.cells - last_start (length v.cells))))))
unfolding width_in
width_in-spans name v =
    ap (max (characters (name_text name)))
    (ap (λ xs. greatest (map (λ x. characters (cell_text v.kind x)) (shown xs))) (cells-places v.cells)
    ∙ ap (λ xs. greatest (map (λ x. characters (cell_text v.kind x)) xs))
    (shown-map (cell_at v.cells) (range_with_len 0 (length v.cells)))
    ∙ ap greatest (map-map (λ x. characters (cell_text v.kind x)) (cell_at v.cells)
    (shown (range_with_len 0 (length v.cells))))
    ∙ greatest-shown (cell_width_at v) (length v.cells))

-- the widest of the first ones and the widest of the last ones is the widest of those shown
pub shown_widest : (f : ℕ → ℕ) (n first_end last_from first last result : ℕ)
    → first_end ≡ first_count n → last_from ≡ last_start n
    → first ≡ greatest (map f (range_with_len 0 (first_end - 0)))
    → last ≡ greatest (map f (range_with_len last_from (n - last_from)))
    → result ≡ max first last → result ≡ greatest (map f (shown (range_with_len 0 n)))
shown_widest f n first_end last_from first last result is_end is_from is_first is_last is_max =
    is_max
    ∙ (λ i. max (is_first i) (is_last i))
    ∙ (λ i. max (greatest (map f (range_with_len 0 (is_end i - 0))))
    (greatest (map f (range_with_len (is_from i) (n - is_from i)))))
    ∙ sym (greatest-shown f n)

-- a column's width from its name's, and from the widest of the first and of the last cells
pub shown_width : (name : List ℕ) (v : Vector) (n first_end last_from of_name first last of_cells result : ℕ)
    → n ≡ length v.cells → first_end ≡ first_count n → last_from ≡ last_start n
    → of_name ≡ characters (name_text name)
    → first ≡ greatest (map (cell_width_at v) (range_with_len 0 (first_end - 0)))
    → last ≡ greatest (map (cell_width_at v) (range_with_len last_from (n - last_from)))
    → of_cells ≡ max first last → result ≡ max of_name of_cells → result ≡ width_in name v
shown_width name v n first_end last_from of_name first last of_cells result is_n is_end is_from is_name is_first is_last
    is_cells is_max =
    is_max
    ∙ (λ i. max (is_name i)
    ((shown_widest (cell_width_at v) n first_end last_from first last of_cells is_end is_from is_first is_last is_cells
    ∙ greatest-shown (cell_width_at v) n) i))
    ∙ (λ i. max (characters (name_text name))
    (max (greatest (map (cell_width_at v) (range_with_len 0 (first_count (is_n i) - 0))))
    (greatest (map (cell_width_at v) (range_with_len (last_start (is_n i)) (is_n i - last_start (is_n i)))))))
    ∙ sym (width_in-spans name v)

-- the width of a frame's column
pub column_width-frame : (names : List (List ℕ)) (columns : List Seen) (n c : ℕ) (name : List ℕ) (column : Seen)
    → c < length names → name ≡ get_or names c name → slice_get columns c ≡ Some column
    → length column.vector.cells ≡ n
    → column_width (frame_heads names columns) (rows_of n (vectors_of columns)) c ≡ width_in name column.vector
unfolding width_in
column_width-frame names columns n c name column inside is_name is_column rows =
    rw (
      head_at-frame_heads names columns c name column inside is_name is_column,
      column_of-rows_of columns n c column is_column rows,
    ) refl

-- one column more
pub column_widths_more : (names : List (List ℕ)) (columns : List Seen) (n c : ℕ) (name : List ℕ) (column : Seen)
    (so_far after : List ℕ) (width : ℕ)
    → c < length names → name ≡ get_or names c name → slice_get columns c ≡ Some column
    → length column.vector.cells ≡ n
    → so_far ≡ map (column_width (frame_heads names columns) (rows_of n (vectors_of columns))) (range_with_len 0 c)
    → width ≡ width_in name column.vector → after ≡ so_far ++ width ∷ []
    → after ≡ map (column_width (frame_heads names columns) (rows_of n (vectors_of columns))) (range_with_len 0 (c + 1))
column_widths_more names columns n c name column so_far after width inside is_name is_column rows is_so_far
    is_width is_after =
    is_after
    ∙ (λ i. is_so_far i ++ (is_width ∙ sym (column_width-frame names columns n c name column inside is_name is_column
    rows)) i ∷ [])
    ∙ sym (map-range_with_len_more (column_width (frame_heads names columns) (rows_of n (vectors_of columns))) 0 c c
    (omega arith))
