-- What is assigned, and the first fault of it.
--   Rows                  which rows are assigned: all, or these in order
--   Target                a column's name, and the value that it gets, or none where it goes
--   AssignFault           why nothing is assigned
--   rows_assigned n rows  how many rows of n are assigned
--   is_name names q       q is one of the names
--   names_of targets      the targets' names
--   target_of q targets   the first target of the name q
--   deletes, adds         whether a target deletes a column, or adds one
--   names_after names targets   the names of the columns once all is assigned
--   target_fault ..       the first fault of one target
--   assign_fault ..       the first fault of all
use Rattle.std.specs.Prelude.{ℕ, ◌+◌, ◌*◌, ◌==◌, ◌&&◌, ◌||◌, not, nat_lt, Bool, false, if◌then◌else◌, List, [], ◌∷◌}
use Rattle.std.specs.Prelude.{◌++◌, length, map, find, Option, None, Some, is_some, is_none}
use Rattle.std.specs.List.{filter, list_any}
use Rattle.std.specs.Str.{bytes_eq}
use Rattle.dt_base.specs.declared.limits.TheConstants.{MAX_CELLS}
use Rattle.dt_model.specs.Table.{is_repeated}
use Rattle.dt_model.specs.Vector.{Vector}

-- all rows, or these in order, counted from 0; a row may stand twice
abbrev pub Rows : Type 0
Rows = Option (List ℕ)

-- a column's name, and the value that it gets; none deletes the column
pub record Target : Type 0 where
  pub name : List ℕ
  pub value : Option Vector

-- Why nothing is assigned: the name of the target at this place stands before it too; it deletes what
-- is no column; it deletes, and rows are chosen; its value has this length, in place of 1 or of that
-- one; there would be more columns than slots; there would be too many cells. Targets are counted
-- from 0.
pub data AssignFault : Type 0 where
  Duplicate : ℕ → AssignFault
  Unknown : ℕ → AssignFault
  Delete : ℕ → AssignFault
  Length : ℕ → ℕ → ℕ → AssignFault
  Slots : AssignFault
  Cells : AssignFault

-- how many rows are assigned
abbrev pub rows_assigned : ℕ → Rows → ℕ
rows_assigned n None = n
rows_assigned n (Some rows) = length rows

abbrev pub is_name : List (List ℕ) → List ℕ → Bool
is_name names name = list_any (bytes_eq name) names

abbrev pub names_of : List Target → List (List ℕ)
names_of targets = map (λ t. t.name) targets

abbrev pub target_of : List ℕ → List Target → Option Target
target_of name targets = find (λ t. bytes_eq name t.name) targets

-- ---- The columns once all is assigned

-- the target, where there is one, has no value
abbrev pub deletes : Option Target → Bool
deletes None = false
deletes (Some t) = is_none t.value

-- it has a value, for a column that is not there yet
abbrev pub adds : List (List ℕ) → Target → Bool
adds names t = is_some t.value && not (is_name names t.name)

-- a column stays unless a target deletes it
abbrev pub stays : List Target → List ℕ → Bool
stays targets name = not (deletes (target_of name targets))

-- the columns that stay, in order, and then new ones in the order of the targets
abbrev pub names_after : List (List ℕ) → List Target → List (List ℕ)
names_after names targets = filter (stays targets) names ++ names_of (filter (adds names) targets)

-- ---- Faults

-- a value has length 1, or a cell for each row that is assigned
abbrev pub has_length : ℕ → Rows → Vector → Bool
has_length n rows v = length v.cells == 1 || length v.cells == rows_assigned n rows

abbrev pub value_fault : List (List ℕ) → ℕ → Rows → ℕ → List ℕ → Option Vector → Option AssignFault
value_fault names n rows k name None =
    if not (is_name names name) then Some (Unknown k) else (if is_some rows then Some (Delete k) else None)
value_fault names n rows k name (Some v) =
    if has_length n rows v then None else Some (Length k (length v.cells) (rows_assigned n rows))

-- the first fault of the target at place k of all
abbrev pub target_fault : List (List ℕ) → ℕ → Rows → List Target → ℕ → Target → Option AssignFault
target_fault names n rows all k t =
    if is_repeated (names_of all) k then Some (Duplicate k) else value_fault names n rows k t.name t.value

-- the fault that was found, or else that of the rest
abbrev pub fault_or : Option AssignFault → Option AssignFault → Option AssignFault
fault_or (Some f) rest = Some f
fault_or None rest = rest

-- the first fault of the targets from place k on
abbrev pub targets_fault : List (List ℕ) → ℕ → Rows → List Target → ℕ → List Target → Option AssignFault
targets_fault names n rows all k [] = None
targets_fault names n rows all k (t ∷ rest) =
    fault_or (target_fault names n rows all k t) (targets_fault names n rows all (k + 1) rest)

-- the limits on the columns and the cells that there will be
abbrev pub limit_fault : ℕ → ℕ → ℕ → Option AssignFault
limit_fault n slots width =
    if nat_lt slots width then Some Slots else (if nat_lt MAX_CELLS (n * width) then Some Cells else None)

-- The first fault: of each target in order, and then of all together. The table has these names, n
-- rows, and this many slots.
abbrev pub assign_fault : List (List ℕ) → ℕ → ℕ → Rows → List Target → Option AssignFault
assign_fault names n slots rows targets =
    fault_or (targets_fault names n rows targets 0 targets) (limit_fault n slots (length (names_after names targets)))
