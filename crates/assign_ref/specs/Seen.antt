-- What contracts see of targets, rows and faults.
--   rows_seen rows      the rows that are chosen
--   target_seen t       the target, as the definitions have it
--   targets_seen ts     all targets
--   target_in ts k      the target at a place, counted from 0
--   IsFault slots e o   e is the fault o, or want of memory
use Rattle.std.specs.Prelude.{◌≡◌, ℕ, List, map, Option, None, Some, option_map, slice_index_or, []}
use Rattle.std.specs.Borrow.{Bor}
use Rattle.na_vector.specs.Column.{Seen}
use Rattle.assign_model.specs.Targets.{AssignFault, Rows}
use Rattle.assign_model.specs.Targets as model
use Rattle.assign_ref.specs.declared.fail.ChangeFail.{ChangeFail}
use Rattle.assign_ref.specs.declared.fail.ChangeFail.TheVariants.{Duplicate, Unknown, Delete, Length, Slots}
use Rattle.assign_ref.specs.declared.fail.ChangeFail.TheVariants.{TooManyCells, NoMemory}
use Rattle.assign_ref.specs.declared.target.Target.{Target}

abbrev pub rows_seen : Option (Bor (List ℕ)) → Rows
rows_seen rows = option_map (λ r. r.now) rows

abbrev pub target_seen : Target → model.Target
target_seen t = record { name = t.name; value = option_map (λ (c : Seen). c.vector) t.value }

abbrev pub targets_seen : List Target → List model.Target
targets_seen = map target_seen

-- the answer is this fault, where the table has so many slots; want of memory may come in its place
abbrev pub IsFault : ℕ → ChangeFail → Option AssignFault → Type 0
IsFault slots (Duplicate k) o = o ≡ Some (model.Duplicate k)
IsFault slots (Unknown k) o = o ≡ Some (model.Unknown k)
IsFault slots (Delete k) o = o ≡ Some (model.Delete k)
IsFault slots (Length k got want) o = o ≡ Some (model.Length k got want)
IsFault slots (Slots s) o = (o ≡ Some model.Slots) × (s ≡ slots)
IsFault slots TooManyCells o = o ≡ Some model.Cells
IsFault slots (NoMemory e) o = Unit {0}

-- the target at a place
abbrev pub target_in : List model.Target → ℕ → model.Target
target_in targets k = slice_index_or targets k (record { name = []; value = None })
