-- The lines of a table, said of a frame's columns and of widths that are given.
--   first_count n, last_start n     how many rows are shown first, and where the last ones start
--   shown_count n                   how many rows are shown
--   label_width_at p, cell_width_at v p   the width of a label and of a cell
--   width_in name v                 the width of a column of this name and vector
--   frame_cell columns p c          the text of row p in column c
--   names_part, cells_part          what follows the label in the header and in a row
--   frame_line                      the line of a row, with its line feed
--   dashes n                        the line between the first rows and the last ones
--   empty_text names                a table without rows
use Rattle.std.specs.Prelude.{ℕ, ◌+◌, ◌-◌, nat_le, if◌then◌else◌, max, List, [], ◌∷◌, ◌++◌, map, length, slice_get}
use Rattle.std.specs.Prelude.{slice_index, slice_index_or, codes, decimal, Option, None, Some}
use Rattle.std.specs.List.{flat_map, range_with_len, join_with_byte}
use Rattle.dt_model.specs.Vector.{Vector, cell_at}
use Rattle.na_vector.specs.Column.{Seen}
use Rattle.run_model.specs.Printed.{characters, greatest, aligned, name_text, cell_text, shown, label}

-- how many rows are shown before the dashes: all, and of more than a hundred five
abbrev pub first_count : ℕ → ℕ
first_count n = if nat_le n 100 then n else 5

-- the place of the first row behind the dashes: none, and of more than a hundred the last but four
abbrev pub last_start : ℕ → ℕ
last_start n = if nat_le n 100 then n else n - 5

-- how many rows are shown
abbrev pub shown_count : ℕ → ℕ
shown_count n = first_count n + (n - last_start n)

-- the width of the label of the row at a place
abbrev pub label_width_at : ℕ → ℕ
label_width_at p = characters (label (p + 1))

-- the width of a vector's cell at a place
abbrev pub cell_width_at : Vector → ℕ → ℕ
cell_width_at v p = characters (cell_text v.kind (cell_at v.cells p))

-- the width of a column of this name and vector
unfoldable pub width_in : List ℕ → Vector → ℕ
width_in name v =
    max (characters (name_text name))
    (greatest (map (λ x. characters (cell_text v.kind x)) (shown v.cells)))

-- the text of a column's cell at a place
abbrev pub text_at : Option Seen → ℕ → List ℕ
text_at None p = []
text_at (Some v) p = cell_text v.vector.kind (cell_at v.vector.cells p)

-- the text of row p in column c
unfoldable pub frame_cell : List Seen → ℕ → ℕ → List ℕ
frame_cell columns p c = text_at (slice_get columns c) p

-- a blank and a text, aligned to the right
abbrev pub part : ℕ → List ℕ → List ℕ
part width text = 32 ∷ aligned width text

-- the names in the header
unfoldable pub names_part : List ℕ → List (List ℕ) → ℕ → List ℕ
names_part widths names m =
    flat_map (λ c. part (slice_index widths c) (name_text (slice_index_or names c []))) (range_with_len 0 m)

-- the cells in the line of row p
unfoldable pub cells_part : List ℕ → List Seen → ℕ → ℕ → List ℕ
cells_part widths columns p m =
    flat_map (λ c. part (slice_index widths c) (frame_cell columns p c)) (range_with_len 0 m)

-- the line of row p
unfoldable pub frame_line : ℕ → List ℕ → List Seen → ℕ → List ℕ
frame_line label_width widths columns p =
    aligned label_width (label (p + 1)) ++ cells_part widths columns p (length columns) ++ codes "\n"

-- of more than a hundred rows, the line of dashes
abbrev pub dashes : ℕ → List ℕ
dashes n = if nat_le n 100 then [] else codes "---\n"

-- a table without rows, of these names
unfoldable pub empty_text : List (List ℕ) → List ℕ
empty_text names =
    codes "Empty data.table (0 rows and " ++ decimal (length names) ++ codes " cols): "
    ++ join_with_byte 44 (map name_text names) ++ codes "\n"
