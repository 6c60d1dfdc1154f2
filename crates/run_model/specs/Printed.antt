-- Printed text: cells, tables and vectors, as lists of bytes.
--   characters t              how many characters a text has
--   greatest ns               the greatest of some numbers, and 0 of none
--   aligned w t               a text with blanks before it, w characters wide
--   table_byte b, name_text t how a text stands in a table
--   cell_text kind c          how a cell of a column of this type stands in a table
--   shown xs                  of more than a hundred, the first five and the last five
--   head_at heads c           the name and the type of the column at a place
--   label r                   the label of row r, rows counted from 1
--   column_width heads rows c, label_width n    the widths
--   header_line, row_line     the lines of a table, without their line feed
--   elided ls                 of more than a hundred lines, the first five, `---` and the last five
--   empty_table_text heads    a table without rows
--   printed_table heads rows  a table
--   element c                 a cell of a vector
--   printed_vector kind cells a vector
--   null_text                 NULL
use Rattle.std.specs.Prelude.{ℕ, ◌+◌, ◌-◌, ◌==◌, nat_lt, nat_le, ◌||◌, Bool, true, false, if◌then◌else◌, max, List, []}
use Rattle.std.specs.Prelude.{◌∷◌, ◌++◌, map, length, take, drop, replicate, slice_index_or, codes, decimal, count_by}
use Rattle.std.specs.Fmt.{signed_decimal}
use Rattle.std.specs.List.{flat_map, range_with_len, join_with_byte}
use Rattle.dt_base.specs.declared.cell.Cell.{Cell}
use Rattle.dt_base.specs.declared.cell.Cell.TheVariants.{Na, Lgl, Int, Text}
use Rattle.dt_base.specs.declared.cell.ColType.{ColType}
use Rattle.dt_base.specs.declared.cell.ColType.TheVariants as ty
use Rattle.dt_model.specs.Spelling.{truth_text}
use Rattle.dt_model.specs.Vector.{cell_at}
use Rattle.dt_model.specs.Table.{ColumnHead, column_of}

-- whether a byte of a text in UTF-8 is the first of its character
abbrev pub begins_character : ℕ → Bool
begins_character b = nat_lt b 128 || nat_le 192 b

-- how many characters a text has: the bytes that begin one
abbrev pub characters : List ℕ → ℕ
characters t = count_by begins_character t

-- the greatest of some numbers, and 0 of none
abbrev pub greatest : List ℕ → ℕ
greatest [] = 0
greatest (n ∷ ns) = max n (greatest ns)

-- a text with blanks before it, so that it is this many characters wide; a longer one as it is
abbrev pub aligned : ℕ → List ℕ → List ℕ
aligned w t = replicate (w - characters t) 32 ++ t

-- A byte of a text in a table: a line feed, a carriage return and a tab stand as \n, \r and \t,
-- and every other byte as it is.
abbrev pub table_byte : ℕ → List ℕ
table_byte b =
    if b == 10 then codes "\\n" else (
    if b == 13 then codes "\\r" else (
    if b == 9 then codes "\\t" else b ∷ []))

-- a text in a table, and so the name of a column
abbrev pub name_text : List ℕ → List ℕ
name_text t = flat_map table_byte t

-- NA stands as <NA> in a column of texts, and as NA in the others
abbrev pub na_text : ColType → List ℕ
na_text ty.Lgl = codes "NA"
na_text ty.Int = codes "NA"
na_text ty.Chr = codes "<NA>"

-- a cell of a column of this type in a table
abbrev pub cell_text : ColType → Cell → List ℕ
cell_text kind Na = na_text kind
cell_text kind (Lgl b) = truth_text b
cell_text kind (Int n) = signed_decimal n
cell_text kind (Text t) = name_text t

-- what is shown of a list: all, and of more than a hundred the first five and the last five
abbrev pub shown : {X : Type 0} → List X → List X
shown xs = if nat_le (length xs) 100 then xs else take 5 xs ++ drop (length xs - 5) xs

-- the name and the type of the column at a place; past the end an empty name, which no column has
abbrev pub head_at : List ColumnHead → ℕ → ColumnHead
head_at heads c = slice_index_or heads c (record { name = []; kind = ty.Lgl })

-- the label of a row: its number, counted from 1, and a colon
abbrev pub label : ℕ → List ℕ
label r = decimal r ++ codes ":"

-- the labels are as wide as the widest that is shown; places count from 0
abbrev pub label_width : ℕ → ℕ
label_width n = greatest (map (λ p. characters (label (p + 1))) (shown (range_with_len 0 n)))

-- a column is as wide as the widest of its name and its shown cells
abbrev pub column_width : List ColumnHead → List (List Cell) → ℕ → ℕ
column_width heads rows c =
    max (characters (name_text (head_at heads c).name))
    (greatest (map (λ x. characters (cell_text (head_at heads c).kind x)) (shown (column_of c rows))))

-- A line of a table: what stands in place of the label, and for each column a blank and its text,
-- aligned to the right.
abbrev pub line_of : (ℕ → ℕ) → ℕ → List ℕ → (ℕ → List ℕ) → List ℕ
line_of width m first text = first ++ flat_map (λ c. 32 ∷ aligned (width c) (text c)) (range_with_len 0 m)

-- the header: blanks in place of the label, and the names
unfoldable pub header_line : List ColumnHead → List (List Cell) → List ℕ
header_line heads rows =
    line_of (column_width heads rows) (length heads)
    (replicate (label_width (length rows)) 32)
    (λ c. name_text (head_at heads c).name)

-- the line of the row at place p: its label, aligned to the right, and the texts of its cells
unfoldable pub row_line : List ColumnHead → List (List Cell) → ℕ → List ℕ
row_line heads rows p =
    line_of (column_width heads rows) (length heads)
    (aligned (label_width (length rows)) (label (p + 1)))
    (λ c. cell_text (head_at heads c).kind (cell_at (slice_index_or rows p []) c))

-- of more than a hundred lines the first five, a line of three dashes, and the last five
abbrev pub elided : List (List ℕ) → List (List ℕ)
elided ls = if nat_le (length ls) 100 then ls else take 5 ls ++ (codes "---" ∷ drop (length ls - 5) ls)

-- lines, each with a line feed
abbrev pub lines_text : List (List ℕ) → List ℕ
lines_text ls = flat_map (λ l. l ++ codes "\n") ls

-- a table without columns
abbrev pub null_table_text : List ℕ
null_table_text = codes "Null data.table (0 rows and 0 cols)\n"

-- a table without rows: how many columns, and their names
abbrev pub empty_table_text : List ColumnHead → List ℕ
empty_table_text heads =
    codes "Empty data.table (0 rows and " ++ decimal (length heads) ++ codes " cols): "
    ++ join_with_byte 44 (map (λ h. name_text h.name) heads) ++ codes "\n"

-- a table with columns and rows: the header, and the lines of its rows
unfoldable pub filled_table_text : List ColumnHead → List (List Cell) → List ℕ
filled_table_text heads rows =
    lines_text (header_line heads rows
    ∷ elided (map (row_line heads rows) (range_with_len 0 (length rows))))

-- a table
abbrev pub printed_table : List ColumnHead → List (List Cell) → List ℕ
printed_table [] _ = null_table_text
printed_table (h ∷ heads) [] = empty_table_text (h ∷ heads)
printed_table (h ∷ heads) (r ∷ rows) = filled_table_text (h ∷ heads) (r ∷ rows)

-- A byte of a text in a vector: as in a table, and the quote and the backslash with a backslash
-- before them.
abbrev pub vector_byte : ℕ → List ℕ
vector_byte b =
    if b == 34 then codes "\\\"" else (
    if b == 92 then codes "\\\\" else table_byte b)

-- a cell of a vector: a text in quotes, NA as NA, all else as in a table
abbrev pub element : Cell → List ℕ
element Na = codes "NA"
element (Lgl b) = truth_text b
element (Int n) = signed_decimal n
element (Text t) = codes "\"" ++ flat_map vector_byte t ++ codes "\""

-- a vector without elements tells its type
abbrev pub empty_vector_text : ColType → List ℕ
empty_vector_text ty.Lgl = codes "logical(0)\n"
empty_vector_text ty.Int = codes "integer(0)\n"
empty_vector_text ty.Chr = codes "character(0)\n"

-- a vector: on one line, each element after a blank
abbrev pub printed_vector : ColType → List Cell → List ℕ
printed_vector kind [] = empty_vector_text kind
printed_vector kind (c ∷ cells) = codes "[1]" ++ flat_map (λ x. 32 ∷ element x) (c ∷ cells) ++ codes "\n"

-- NULL
abbrev pub null_text : List ℕ
null_text = codes "NULL\n"
