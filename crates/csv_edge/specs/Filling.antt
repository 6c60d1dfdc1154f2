-- A column while its file is read.
--   Holds column typed texts         the column's type is that of the fields typed, and its words are theirs;
--                                    one that was told late has the texts of the fields texts
--   goes_on column f                 the field leaves the column's type as it is
--   Gains again before after fields  after is the column before behind these fields; where the records are
--                                    read again, they tell no type, but give texts
--   filled_vector column             the vector of the column's words
use Rattle.std.specs.Prelude.{◌≡◌, ◌++◌, ℕ, Bool, true, false, List, [], All, length, map, replicate, if◌then◌else◌}
use Rattle.std.specs.List.{list_all}
use Rattle.csv_edge.specs.declared.filling.Filling.{Filling}
use Rattle.csv_edge.specs.declared.filling.Filling.TheVariants.{Missing, Lgl, Int, Chr, Late}
use Rattle.dt_base.specs.declared.cell.ColType.TheVariants as ty
use Rattle.dt_model.specs.Vector.{Vector}
use Rattle.na_vector.specs.Words.{int_cell, lgl_cell, text_cell, IsLglWord, int_vector, lgl_vector, text_vector}
use Rattle.run_model.specs.CsvCells.{is_missing, suits, field_cell}

-- The column's type is the lowest that suits the fields typed, and it has their words. Of a column of
-- texts that was told late they tell the type alone, and it has the texts of other fields.
abbrev pub Holds : Filling → List (List ℕ) → List (List ℕ) → Type 0
Holds (Missing count) typed texts = (list_all is_missing typed ≡ true) × (count ≡ length typed)
Holds (Lgl words) typed texts =
    (list_all (suits ty.Lgl) typed ≡ true) × (list_all (suits ty.Int) typed ≡ false)
    × (map lgl_cell words.items ≡ map (field_cell ty.Lgl) typed) × All IsLglWord words.items
Holds (Int words) typed texts =
    (list_all (suits ty.Lgl) typed ≡ false) × (list_all (suits ty.Int) typed ≡ true)
    × (map int_cell words.items ≡ map (field_cell ty.Int) typed)
Holds (Chr words) typed texts =
    (list_all (suits ty.Lgl) typed ≡ false) × (list_all (suits ty.Int) typed ≡ false)
    × (map text_cell words.items ≡ map (field_cell ty.Chr) typed)
Holds (Late words) typed texts =
    (list_all (suits ty.Lgl) typed ≡ false) × (list_all (suits ty.Int) typed ≡ false)
    × (map text_cell words.items ≡ map (field_cell ty.Chr) texts)

-- the field leaves the column's type as it is
abbrev pub goes_on : Filling → List ℕ → Bool
goes_on (Missing _) f = is_missing f
goes_on (Lgl _) f = suits ty.Lgl f
goes_on (Int _) f = suits ty.Int f
goes_on (Chr _) f = true
goes_on (Late _) f = true

-- What the column held before these fields, it holds with them behind. In the first reading they
-- join the fields that tell the type, and there are no texts; in the second those that give texts.
pub record Gains (again : Bool) (before after : Filling) (fields : List (List ℕ)) : Type 0 where
  pub holds : (typed texts : List (List ℕ)) → (again ≡ false → texts ≡ []) → Holds before typed texts
      → Holds after (typed ++ (if again then [] else fields)) (texts ++ (if again then fields else []))

-- the vector of the column's words
abbrev pub filled_vector : Filling → Vector
filled_vector (Missing count) = lgl_vector (replicate count 2)
filled_vector (Lgl words) = lgl_vector words.items
filled_vector (Int words) = int_vector words.items
filled_vector (Chr words) = text_vector words.items
filled_vector (Late words) = text_vector words.items

-- the words of a column of logicals are words of logicals
abbrev pub IsSound : Filling → Type 0
IsSound (Missing _) = Unit {0}
IsSound (Lgl words) = All IsLglWord words.items
IsSound (Int _) = Unit {0}
IsSound (Chr _) = Unit {0}
IsSound (Late _) = Unit {0}
