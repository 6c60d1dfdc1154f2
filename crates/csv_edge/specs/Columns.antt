-- Columns, as they are gathered.
--   below bytes            the records below the header of a file
--   first_length columns   how many cells the first column has; of no column 0
--   Gathered columns rows  each column holds the fields that records have at its place
--   AllGain again before after rows   after are the columns before behind the fields of these records
use Rattle.std.specs.Prelude.{◌<◌, ℕ, Bool, List, [], ◌∷◌, drop, length, slice_index_or}
use Rattle.csv.specs.Reading.{records, default_config, strip_bom}
use Rattle.csv_edge.specs.Filling.{Holds, Gains, filled_vector}
use Rattle.csv_edge.specs.declared.filling.Filling.{Filling}
use Rattle.run_model.specs.Csv.{Record, fields_at}

-- the records behind the first
abbrev pub below : List ℕ → List Record
below bytes = drop 1 (records default_config (strip_bom bytes))

-- how many cells the first column has
abbrev pub first_length : List Filling → ℕ
first_length [] = 0
first_length (column ∷ rest) = length (filled_vector column).cells

-- each column holds the fields that the records have at its place, places counted from 0
abbrev pub Gathered : List Filling → List Record → Type 0
Gathered columns rows = (c : ℕ) (d : Filling) → c < length columns
    → Holds (slice_index_or columns c d) (fields_at c rows) (fields_at c rows)

-- each column gains the fields that the records have at its place; where they are read again, the texts of these
abbrev pub AllGain : Bool → List Filling → List Filling → List Record → Type 0
AllGain again before after rows =
    (c : ℕ) (d : Filling) → c < length before
    → Gains again (slice_index_or before c d) (slice_index_or after c d) (fields_at c rows)
