-- Values for rows.
--   HasLength k v     the value has one cell, or k
--   AreRows n rows    the chosen rows are in range
--   brought_warns ..  the warnings of a value for a column
--   FitsValue ..      the value of a target that has no fault
--   part_warns ..     the warnings of a target
--   part_allowance .., allowance ..   how many cells are touched for a target, and for all, at most
--   place_of_value one k, value_places one k   the place of the value for the k-th row, and for k rows
use Rattle.std.specs.Prelude.{◌≡◌, ◌⊎◌, ◌+◌, ◌*◌, ℕ, Bool, true, if◌then◌else◌, ◌<◌, All, List, [], ◌∷◌, Option, None}
use Rattle.std.specs.Prelude.{Some, length, map}
use Rattle.std.specs.List.{range_with_len}
use Rattle.dt_base.specs.declared.cell.ColType.{ColType}
use Rattle.dt_base.specs.declared.warns.Warns.{Warns}
use Rattle.dt_base.specs.Warns.{both_warns, no_warns}
use Rattle.dt_model.specs.Coercion.{coercion_warns}
use Rattle.dt_model.specs.Vector.{Vector}
use Rattle.assign_model.specs.Assign.{is_brought}
use Rattle.assign_model.specs.Targets.{Rows, Target, is_name, rows_assigned}
use Rattle.dt_model.specs.Table.{place_of}
use Rattle.assign_ref.specs.Planned.{vector_at}

abbrev pub HasLength : ℕ → Vector → Type 0
HasLength k v = (length v.cells ≡ 1) ⊎ (length v.cells ≡ k)

-- the place of the value for the k-th row: its only cell, or the k-th
abbrev pub place_of_value : Bool → ℕ → ℕ
place_of_value one k = if one then 0 else k

-- the places of the values for k rows
abbrev pub value_places : Bool → ℕ → List (Option ℕ)
value_places one k = map (λ i. Some (place_of_value one i)) (range_with_len 0 k)

-- the chosen rows are in range
abbrev pub AreRows : ℕ → Rows → Type 0
AreRows n None = Unit {0}
AreRows n (Some rows) = All (λ row. row < n) rows

-- the warnings of a value for a column of this type
abbrev pub brought_warns : Rows → Vector → ColType → Warns
brought_warns rows x kind = if is_brought rows x then coercion_warns kind x else no_warns

-- a value that deletes is for a column that is there; another has one cell, or one for each row
abbrev pub FitsValue : List (List ℕ) → ℕ → Rows → List ℕ → Option Vector → Type 0
FitsValue names n rows name None = is_name names name ≡ true
FitsValue names n rows name (Some x) = HasLength (rows_assigned n rows) x

-- the warnings of a target
abbrev pub place_warns : Rows → Vector → List Vector → Option ℕ → Warns
place_warns rows x vectors None = no_warns
place_warns rows x vectors (Some c) = brought_warns rows x (vector_at vectors c).kind

abbrev pub part_warns : Rows → List (List ℕ) → List Vector → List ℕ → Option Vector → Warns
part_warns rows names vectors name None = no_warns
part_warns rows names vectors name (Some x) = place_warns rows x vectors (place_of name names)

abbrev pub FitsTarget : List (List ℕ) → ℕ → Rows → Target → Type 0
FitsTarget names n rows t = FitsValue names n rows t.name t.value

-- the warnings of all targets
abbrev pub parts_warns : Rows → List (List ℕ) → List Vector → List Target → Warns
parts_warns rows names vectors [] = no_warns
parts_warns rows names vectors (t ∷ rest) = both_warns (part_warns rows names vectors t.name t.value)
    (parts_warns rows names vectors rest)

-- How many cells are touched for a target, at most: of a column that is there two for each row that is
-- assigned and one more, of a new one its cells, of a deletion none.
abbrev pub place_allowance : ℕ → Rows → Option ℕ → ℕ
place_allowance n rows (Some c) = 2 * rows_assigned n rows + 1
place_allowance n rows None = n

abbrev pub part_allowance : ℕ → Rows → List (List ℕ) → List ℕ → Option Vector → ℕ
part_allowance n rows names name None = 0
part_allowance n rows names name (Some x) = place_allowance n rows (place_of name names)

-- for all targets
abbrev pub allowance : ℕ → Rows → List (List ℕ) → List Target → ℕ
allowance n rows names [] = 0
allowance n rows names (t ∷ rest) = part_allowance n rows names t.name t.value + allowance n rows names rest
