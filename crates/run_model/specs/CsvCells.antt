-- The fields of one column of a CSV file: its type and its cells.
--   is_missing f          the field tells no type: it is empty, or NA
--   suits t f             the field may stand in a column of type t
--   fields_type fs        the type of a column with these fields
--   field_cell t f        the cell of a field in a column of type t
--   fields_vector fs      the column with these fields
--   cell_text c           the text of a cell in a file
use Rattle.std.specs.Prelude.{ℕ, Bool, true, ◌||◌, List, [], Option, map, is_some, if◌then◌else◌, codes}
use Rattle.std.specs.List.{list_all}
use Rattle.std.specs.Option.{option_map_or}
use Rattle.std.specs.Str.{bytes_eq}
use Rattle.std.specs.Fmt.{signed_decimal}
use Rattle.dt_base.specs.declared.cell.Cell.{Cell}
use Rattle.dt_base.specs.declared.cell.Cell.TheVariants as cell
use Rattle.dt_base.specs.declared.cell.ColType.{ColType}
use Rattle.dt_base.specs.declared.cell.ColType.TheVariants as ty
use Rattle.dt_model.specs.Spelling.{field_truth, integer_of, truth_text}
use Rattle.dt_model.specs.Vector.{Vector}

-- the field tells no type: it is empty, or it is NA
abbrev pub is_missing : List ℕ → Bool
is_missing f = bytes_eq f [] || bytes_eq f (codes "NA")

-- A logical column holds empty fields, NA and truth words; an integer column holds empty fields, NA
-- and integers; a column of texts holds anything.
abbrev pub suits : ColType → List ℕ → Bool
suits ty.Lgl f = is_missing f || is_some (field_truth f)
suits ty.Int f = is_missing f || is_some (integer_of f)
suits ty.Chr f = true

-- the lowest type that suits every field of the column
abbrev pub fields_type : List (List ℕ) → ColType
fields_type fs =
    if list_all (suits ty.Lgl) fs then ty.Lgl else (if list_all (suits ty.Int) fs then ty.Int else ty.Chr)

-- NA is NA in each column. An empty field is NA in a logical or integer column, and the empty text
-- in a column of texts.
abbrev pub field_cell : ColType → List ℕ → Cell
field_cell ty.Lgl f = option_map_or cell.Lgl (field_truth f) cell.Na
field_cell ty.Int f = option_map_or cell.Int (integer_of f) cell.Na
field_cell ty.Chr f = if bytes_eq f (codes "NA") then cell.Na else cell.Text f

-- the type looks at all fields, and each field is a cell of that type
abbrev pub fields_vector : List (List ℕ) → Vector
fields_vector fs = record { kind = fields_type fs; cells = map (field_cell (fields_type fs)) fs }

-- in a file NA is an empty field, and a text stands as it is
abbrev pub cell_text : Cell → List ℕ
cell_text cell.Na = []
cell_text (cell.Lgl b) = truth_text b
cell_text (cell.Int n) = signed_decimal n
cell_text (cell.Text t) = t
