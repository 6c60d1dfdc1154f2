-- The parts of a change as they are made, one after another.
--   vector_at vectors c   the vector at a place, counted from 0
--   part_in parts k      the part at a place, counted from 0
--   put_one p vectors     what a part makes of the columns, before any column goes
--   put_all parts vectors what all make of them
--   left w p              what is left of a part that is made: a deletion, or one of column w, which
--                         is none
--   goes_before c p       the part deletes a column before c
--   FitsNow f p           the part may be made of this frame, which has the room
--   IsPut p old new       the frame before and after a part
--   IsColumnOf width p    the part writes cells in one of so many columns, if in any
--   IsRoomier old new     a frame before and after room was made in it
--   columns_left_from, columns_left parts w xs   what stands at the first w places without what goes, and all behind
use Rattle.std.specs.Prelude.{◌≡◌, ◌+◌, ◌<◌, ◌≤◌, nat_lt, ℕ, Bool, false, List, [], ◌∷◌, ◌++◌, length, take, drop}
use Rattle.std.specs.Prelude.{Some, slice_index_or, slice_set}
use Rattle.dt_base.specs.declared.cell.ColType.TheVariants as ty
use Rattle.dt_model.specs.Vector.{Vector}
use Rattle.na_vector.specs.Frame.{FrameSeen, column_at, vectors_of}
use Rattle.dt_table.specs.Change.{FitsColumn, PartSeen, Replace, Write, Add, Delete, added_names, changed, is_of}
use Rattle.dt_table.specs.Change.{kept, texts_in}

abbrev pub vector_at : List Vector → ℕ → Vector
vector_at vectors c = slice_index_or vectors c (record { kind = ty.Lgl; cells = [] })

abbrev pub part_in : List PartSeen → ℕ → PartSeen
part_in parts k = slice_index_or parts k (Delete 0)

abbrev pub put_one : PartSeen → List Vector → List Vector
put_one (Replace c with) vectors = slice_set vectors c with
put_one (Write c at cells) vectors = slice_set vectors c (changed (Some (Write c at cells)) (vector_at vectors c))
put_one (Add name with) vectors = vectors ++ with ∷ []
put_one (Delete c) vectors = vectors

abbrev pub put_all : List PartSeen → List Vector → List Vector
put_all [] vectors = vectors
put_all (p ∷ parts) vectors = put_all parts (put_one p vectors)

abbrev pub left : ℕ → PartSeen → PartSeen
left w (Delete c) = Delete c
left w _ = Delete w

abbrev pub goes_before : ℕ → PartSeen → Bool
goes_before c (Delete d) = nat_lt d c
goes_before c _ = false

abbrev pub FitsNow : FrameSeen → PartSeen → Type 0
FitsNow f (Replace c with) = (c < length f.columns) × (length with.cells ≡ f.rows)
FitsNow f (Write c at cells) = (c < length f.columns) × FitsColumn f.rows (column_at f.columns c).vector at cells
    × (texts_in cells ≤ (column_at f.columns c).spare)
FitsNow f (Add name with) = length with.cells ≡ f.rows
FitsNow f (Delete c) = c < length f.columns

-- The vectors are those that the part makes. Every column that it does not name is as it was, spare
-- and all, and the frame's spare number fell by no more than the number of new columns.
pub record IsPut (p : PartSeen) (old new : FrameSeen) : Type 0 where
  pub vectors : vectors_of new.columns ≡ put_one p (vectors_of old.columns)
  pub rows : new.rows ≡ old.rows
  pub others : (c : ℕ) → is_of c p ≡ false → c < length old.columns → column_at new.columns c ≡ column_at old.columns c
  pub spare : old.spare ≤ new.spare + length (added_names (p ∷ []))

-- the same, where the first c places are not looked at yet
abbrev pub columns_left_from : {X : Type 0} → List PartSeen → ℕ → ℕ → List X → List X
columns_left_from parts c w xs = take c xs ++ (kept parts c (drop c (take w xs)) ++ drop w xs)

abbrev pub columns_left : {X : Type 0} → List PartSeen → ℕ → List X → List X
columns_left parts w xs = kept parts 0 (take w xs) ++ drop w xs

-- the column that the part writes cells in is in range
abbrev pub IsColumnOf : ℕ → PartSeen → Type 0
IsColumnOf width (Write c at cells) = c < width
IsColumnOf width _ = Unit {0}

-- no spare number fell, and all else is as it was
pub record IsRoomier (old new : FrameSeen) : Type 0 where
  pub vectors : vectors_of new.columns ≡ vectors_of old.columns
  pub rows : new.rows ≡ old.rows
  pub more : (c : ℕ) → (column_at old.columns c).spare ≤ (column_at new.columns c).spare
  pub spare : old.spare ≤ new.spare
