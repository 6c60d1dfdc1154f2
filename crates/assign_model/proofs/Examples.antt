-- Examples of the definitions, each computed.
use Rattle.std.proofs.Common.{◌≡◌, ℕ, List, [], ◌∷◌, None, Some, Ok, Err, pos, true, refl, codes}
use Rattle.dt_base.specs.Warns.{no_warns}
use Rattle.dt_base.specs.declared.cell.Cell.{Cell}
use Rattle.dt_base.specs.declared.cell.Cell.TheVariants.{Na, Lgl, Int, Text}
use Rattle.dt_base.specs.declared.cell.ColType.TheVariants as ty
use Rattle.dt_base.specs.declared.warns.Warns.{Warns}
use Rattle.dt_model.specs.Table.{PlainTable, table_of}
use Rattle.dt_model.specs.Vector.{Vector}
use Rattle.assign_model.specs.Assign.{assigned, table_after}
use Rattle.assign_model.specs.Keys.{cut_key, kept_indices}
use Rattle.assign_model.specs.Targets.{Target, Duplicate, Unknown, Delete, Length, Slots, Cells, assign_fault}

-- ---- A table of three rows: a has 2, 1 and 2, b has x, y and x, v has 5, 6 and 7

abbrev a : List ℕ
a = codes "a"

abbrev b : List ℕ
b = codes "b"

abbrev v : List ℕ
v = codes "v"

abbrev ints : List Cell → Vector
ints cells = record { kind = ty.Int; cells = cells }

abbrev texts : List Cell → Vector
texts cells = record { kind = ty.Chr; cells = cells }

abbrev lgls : List Cell → Vector
lgls cells = record { kind = ty.Lgl; cells = cells }

abbrev one : ℕ → Vector
one n = ints (Int (pos n) ∷ [])

abbrev three : ℕ → ℕ → ℕ → Vector
three x y z = ints (Int (pos x) ∷ Int (pos y) ∷ Int (pos z) ∷ [])

abbrev old_a : Vector
old_a = three 2 1 2

abbrev old_b : Vector
old_b = texts (Text (codes "x") ∷ Text (codes "y") ∷ Text (codes "x") ∷ [])

abbrev old_v : Vector
old_v = three 5 6 7

abbrev d : PlainTable
d = table_of (a ∷ b ∷ v ∷ []) 3 (old_a ∷ old_b ∷ old_v ∷ [])

-- the table whose column a is this one
abbrev with_a : Vector → PlainTable
with_a x = table_of (a ∷ b ∷ v ∷ []) 3 (x ∷ old_b ∷ old_v ∷ [])

abbrev gets : List ℕ → Vector → Target
gets name x = record { name = name; value = Some x }

abbrev goes : List ℕ → Target
goes name = record { name = name; value = None }

abbrev w01 : Warns
w01 = record no_warns { w01 = true }

abbrev w02 : Warns
w02 = record no_warns { w02 = true }

-- ---- Faults, target by target

twice : assigned d None (gets a (one 1) ∷ gets a (one 1) ∷ []) ≡ Err (Duplicate 1)
twice = refl

-- the unknown name stands before the repeated one
unknown_first : assigned d None (gets a (one 1) ∷ goes (codes "zz") ∷ gets a (one 1) ∷ []) ≡ Err (Unknown 1)
unknown_first = refl

twice_first : assigned d None (gets a (one 1) ∷ gets a (one 1) ∷ goes (codes "zz") ∷ []) ≡ Err (Duplicate 1)
twice_first = refl

length_first : assigned d None (gets a (one 1) ∷ gets v (ints (Int (pos 1) ∷ Int (pos 2) ∷ [])) ∷ gets a (one 1) ∷ [])
    ≡ Err (Length 1 2 3)
length_first = refl

unknown : assigned d None (goes (codes "zz") ∷ []) ≡ Err (Unknown 0)
unknown = refl

-- an unknown column is told before the rows
unknown_in_rows : assigned d (Some (0 ∷ [])) (goes (codes "zz") ∷ []) ≡ Err (Unknown 0)
unknown_in_rows = refl

rows_stay : assigned d (Some (0 ∷ [])) (goes a ∷ []) ≡ Err (Delete 0)
rows_stay = refl

no_row_stays : assigned d (Some []) (goes a ∷ []) ≡ Err (Delete 0)
no_row_stays = refl

-- two cells for three chosen rows
wrong_length : assigned d (Some (0 ∷ 1 ∷ 0 ∷ [])) (gets a (ints (Na ∷ Na ∷ [])) ∷ []) ≡ Err (Length 0 2 3)
wrong_length = refl

-- no column may be added where there are no more slots, but one may be for one that goes
no_slot : assign_fault (a ∷ []) 3 1 None (gets b (one 1) ∷ []) ≡ Some Slots
no_slot = refl

slot_free : assign_fault (a ∷ []) 3 1 None (gets b (one 1) ∷ goes a ∷ []) ≡ None
slot_free = refl

too_many_cells : assign_fault (a ∷ b ∷ v ∷ codes "w" ∷ []) 16777216 9 None (gets (codes "z") (one 1) ∷ []) ≡ Some Cells
too_many_cells = refl

-- ---- Chosen rows

no_row : assigned d (Some []) (gets a (one 1) ∷ []) ≡ Ok (record { table = d; warns = no_warns })
no_row = refl

second : assigned d (Some (1 ∷ [])) (gets a (one 9) ∷ []) ≡ Ok
    (record { table = with_a (three 2 9 2); warns = no_warns })
second = refl

-- where a row is named twice the later value stays
later_stays : assigned d (Some (0 ∷ 0 ∷ [])) (gets a (ints (Int (pos 8) ∷ Int (pos 9) ∷ [])) ∷ [])
    ≡ Ok (record { table = with_a (three 9 1 2); warns = no_warns })
later_stays = refl

-- the value that does not stay warns too
later_warns : assigned d (Some (0 ∷ 0 ∷ [])) (gets a (texts (Text (codes "q") ∷ Text (codes "9") ∷ [])) ∷ [])
    ≡ Ok (record { table = with_a (three 9 1 2); warns = w02 })
later_warns = refl

-- so does one for no row
warns_of_none : assigned d (Some []) (gets a (texts (Text (codes "q") ∷ [])) ∷ [])
    ≡ Ok (record { table = d; warns = w02 })
warns_of_none = refl

-- a new column is NA on rows that are not chosen
begun_empty : assigned d (Some []) (gets (codes "n") (one 1) ∷ [])
    ≡ Ok (record {
      table = record (table_of (a ∷ b ∷ v ∷ codes "n" ∷ []) 3
          (old_a ∷ old_b ∷ old_v ∷ ints (Na ∷ Na ∷ Na ∷ []) ∷ [])) { slots = 1027 };
      warns = no_warns;
    })
begun_empty = refl

begun_in_rows : assigned d (Some (2 ∷ 0 ∷ [])) (gets (codes "n") (ints (Int (pos 7) ∷ Int (pos 8) ∷ [])) ∷ [])
    ≡ Ok (record {
      table = record (table_of (a ∷ b ∷ v ∷ codes "n" ∷ []) 3
          (old_a ∷ old_b ∷ old_v ∷ ints (Int (pos 8) ∷ Na ∷ Int (pos 7) ∷ []) ∷ [])) { slots = 1027 };
      warns = no_warns;
    })
begun_in_rows = refl

-- all rows named one by one: the values are brought to the type of the column
each_row : assigned d (Some (0 ∷ 1 ∷ 2 ∷ [])) (gets a (texts
    (Text (codes "7") ∷ Text (codes "8") ∷ Text (codes "9") ∷ [])) ∷ [])
    ≡ Ok (record { table = with_a (three 7 8 9); warns = no_warns })
each_row = refl

-- ---- All rows

-- one cell is brought to the type of the column
one_cell : assigned d None (gets a (texts (Text (codes "7") ∷ [])) ∷ [])
    ≡ Ok (record { table = with_a (three 7 7 7); warns = no_warns })
one_cell = refl

-- a cell for each row takes the column's place, and its type
other_type : assigned d None (gets a (texts (Text (codes "7") ∷ Text (codes "8") ∷ Text (codes "q") ∷ [])) ∷ [])
    ≡ Ok (record {
      table = with_a (texts (Text (codes "7") ∷ Text (codes "8") ∷ Text (codes "q") ∷ []));
      warns =
          no_warns;
    })
other_type = refl

-- in a table of one row a value has length 1
one_row : assigned (table_of (a ∷ []) 1 (one 1 ∷ [])) None (gets a (texts (Text (codes "q") ∷ [])) ∷ [])
    ≡ Ok (record { table = table_of (a ∷ []) 1 (ints (Na ∷ []) ∷ []); warns = w02 })
one_row = refl

to_truth : assigned (table_of (a ∷ []) 1 (lgls (Lgl true ∷ []) ∷ [])) None (gets a (one 5) ∷ [])
    ≡ Ok (record { table = table_of (a ∷ []) 1 (lgls (Lgl true ∷ []) ∷ []); warns = w01 })
to_truth = refl

-- ---- Columns that go

-- a table whose last column goes has no rows
last_goes : assigned (table_of (a ∷ []) 1 (one 1 ∷ [])) None (goes a ∷ [])
    ≡ Ok (record { table = record (table_of [] 0 []) { slots = 1025 }; warns = no_warns })
last_goes = refl

-- one column goes, and one comes, of as many rows
goes_and_comes : assigned (table_of (a ∷ []) 3 (old_a ∷ [])) None (goes a ∷ gets b (one 4) ∷ [])
    ≡ Ok (record { table = table_of (b ∷ []) 3 (three 4 4 4 ∷ []); warns = no_warns })
goes_and_comes = refl

-- new columns stand last, in the order of the targets
order_of_targets : (table_after d None (gets (codes "z") (one 1) ∷ goes b ∷ gets (codes "y") (one 1) ∷ [])).columns
    ≡ record { name = a; kind = ty.Int } ∷ record { name = v; kind = ty.Int } ∷ record
    { name = codes "z"; kind = ty.Int } ∷ record { name = codes "y"; kind = ty.Int } ∷ []
order_of_targets = refl

-- a table without columns gets columns without rows
no_rows_yet : assigned (table_of [] 0 []) None (gets a (one 1) ∷ [])
    ≡ Ok (record { table = record (table_of (a ∷ []) 0 (ints [] ∷ [])) { slots = 1024 }; warns = no_warns })
no_rows_yet = refl

-- ---- Keys and indices

first_of_key : cut_key (b ∷ []) (a ∷ b ∷ v ∷ []) ≡ a ∷ []
first_of_key = refl

whole_key : cut_key (codes "w" ∷ []) (a ∷ b ∷ []) ≡ a ∷ b ∷ []
whole_key = refl

no_key : cut_key (v ∷ a ∷ []) (a ∷ b ∷ v ∷ []) ≡ []
no_key = refl

one_index : kept_indices (a ∷ []) ((a ∷ []) ∷ (b ∷ v ∷ []) ∷ (v ∷ a ∷ []) ∷ []) ≡ (b ∷ v ∷ []) ∷ []
one_index = refl

-- also where no row is chosen
key_of_none : (table_after (record d { key = b ∷ a ∷ [] }) (Some []) (gets a (one 1) ∷ [])).key ≡ b ∷ []
key_of_none = refl
