-- The definitions of printed tables and vectors at worked examples.
use Rattle.std.proofs.Common.{◌≡◌, refl, ℕ, pos, negsuc, List, [], ◌∷◌, ◌++◌, map, true, false}
use Rattle.std.specs.Prelude.{codes}
use Rattle.std.specs.Fmt.{digits}
use Rattle.std.specs.List.{range_with_len}
use Rattle.dt_base.specs.declared.cell.Cell.{Cell}
use Rattle.dt_base.specs.declared.cell.Cell.TheVariants as is
use Rattle.dt_base.specs.declared.cell.ColType.{ColType}
use Rattle.dt_base.specs.declared.cell.ColType.TheVariants as ty
use Rattle.dt_model.specs.Table.{ColumnHead}
use Rattle.run_model.specs.Printed.{printed_table, filled_table_text, header_line, row_line, printed_vector}

abbrev int : ℕ → Cell
int n = is.Int (pos n)

abbrev head : List ℕ → ColType → ColumnHead
head name kind = record { name = name; kind = kind }

-- numbers, an NA in each column, and a column that is wider than its name
numbers :
    printed_table (head (codes "a") ty.Int ∷ head (codes "b") ty.Int ∷ [])
    ((int 1 ∷ int 2 ∷ []) ∷ (is.Na ∷ int 30 ∷ []) ∷ (is.Int (negsuc 4) ∷ is.Na ∷ []) ∷ [])
    ≡ codes "    a  b\n1:  1  2\n2: NA 30\n3: -5 NA\n"
unfolding digits filled_table_text header_line row_line
numbers = refl

-- an NA among texts is longer than one among numbers, and a name may be wider than its cells
texts :
    printed_table (head (codes "s") ty.Int ∷ head (codes "w") ty.Chr ∷ head (codes "i.s") ty.Int ∷ [])
    ((int 5 ∷ is.Text (codes "p") ∷ int 1 ∷ []) ∷ (is.Na ∷ is.Na ∷ int 20 ∷ []) ∷ [])
    ≡ codes "    s    w i.s\n1:  5    p   1\n2: NA <NA>  20\n"
unfolding digits filled_table_text header_line row_line
texts = refl

-- logicals, an empty text, and a name and a text with control characters
controls :
    printed_table (head (codes "ok") ty.Lgl ∷ head (codes "a\tb") ty.Chr ∷ [])
    ((is.Lgl true ∷ is.Text (codes "x\ny\rz") ∷ []) ∷ (is.Lgl false ∷ is.Text [] ∷ []) ∷ [])
    ≡ codes "      ok    a\\tb\n1:  TRUE x\\ny\\rz\n2: FALSE        \n"
unfolding digits filled_table_text header_line row_line
controls = refl

-- A width counts characters: é is two bytes and one character.
two_bytes :
    printed_table (head (codes "a") ty.Chr ∷ [])
    ((is.Text (195 ∷ 169 ∷ []) ∷ []) ∷ (is.Text (codes "xy") ∷ []) ∷ [])
    ≡ codes "    a\n1:  " ++ (195 ∷ 169 ∷ []) ++ codes "\n2: xy\n"
unfolding digits filled_table_text header_line row_line
two_bytes = refl

-- ten rows have labels of two widths
ten_rows :
    printed_table (head (codes "a") ty.Int ∷ []) (map (λ n. int n ∷ []) (range_with_len 1 10))
    ≡ codes "     a\n 1:  1\n 2:  2\n 3:  3\n 4:  4\n 5:  5\n 6:  6\n 7:  7\n 8:  8\n 9:  9\n10: 10\n"
unfolding digits filled_table_text header_line row_line
ten_rows = refl

-- of more than a hundred rows the first five and the last five
many_rows :
    printed_table (head (codes "a") ty.Int ∷ []) (map (λ n. int n ∷ []) (range_with_len 1 101))
    ≡ codes "       a\n  1:   1\n  2:   2\n  3:   3\n  4:   4\n  5:   5\n---\n"
    ++ codes " 97:  97\n 98:  98\n 99:  99\n100: 100\n101: 101\n"
unfolding digits filled_table_text header_line row_line
many_rows = refl

-- a table without rows, and one without columns
no_rows : printed_table (head (codes "a") ty.Int ∷ head (codes "v") ty.Int ∷ []) []
    ≡ codes "Empty data.table (0 rows and 2 cols): a,v\n"
unfolding digits
no_rows = refl

one_column : printed_table (head (codes "a") ty.Int ∷ []) []
    ≡ codes "Empty data.table (0 rows and 1 cols): a\n"
unfolding digits
one_column = refl

no_columns : printed_table [] [] ≡ codes "Null data.table (0 rows and 0 cols)\n"
no_columns = refl

-- vectors
integers : printed_vector ty.Int (int 1 ∷ is.Na ∷ int 0 ∷ []) ≡ codes "[1] 1 NA 0\n"
unfolding digits
integers = refl

greatest_integer : printed_vector ty.Int (int 9223372036854775807 ∷ []) ≡ codes "[1] 9223372036854775807\n"
unfolding digits
greatest_integer = refl

least_integer : printed_vector ty.Int (is.Int (negsuc 9223372036854775806) ∷ []) ≡ codes "[1] -9223372036854775807\n"
unfolding digits
least_integer = refl

quoted_texts : printed_vector ty.Chr (is.Text (codes "1") ∷ is.Na ∷ is.Text [] ∷ is.Text (codes "z") ∷ [])
    ≡ codes "[1] \"1\" NA \"\" \"z\"\n"
quoted_texts = refl

escaped_texts : printed_vector ty.Chr (is.Text (codes "a\"b") ∷ is.Text (codes "c\\d\n\r\t") ∷ [])
    ≡ codes "[1] \"a\\\"b\" \"c\\\\d\\n\\r\\t\"\n"
escaped_texts = refl

logicals : printed_vector ty.Lgl (is.Lgl true ∷ is.Na ∷ is.Lgl false ∷ []) ≡ codes "[1] TRUE NA FALSE\n"
logicals = refl

no_logicals : printed_vector ty.Lgl [] ≡ codes "logical(0)\n"
no_logicals = refl

no_integers : printed_vector ty.Int [] ≡ codes "integer(0)\n"
no_integers = refl

no_texts : printed_vector ty.Chr [] ≡ codes "character(0)\n"
no_texts = refl
