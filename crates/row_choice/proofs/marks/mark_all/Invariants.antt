use Rattle.std.proofs.Common.{◌≡◌, ◌<◌, ◌||◌, ℕ, false, length, map, drop}
use Rattle.std.specs.Prelude.{slice_index_or}
use Rattle.std.specs.List.{list_any}
use Rattle.row_model.specs.Rows.{leaves_out}
use Rattle.na_vector.specs.Words.{int_cell}
use Rattle.row_choice.proofs.marks.mark_all.Given as goal

-- a row is left out where it is marked, or a word of the rest leaves it out
abbrev pub invariant-loop-word : goal.invariant-loop-word
invariant-loop-word l = (p : ℕ) → p < length l.marks →
    list_any (leaves_out p) (map int_cell l.words)
    ≡ (slice_index_or l.marks p false || list_any (leaves_out p) (map int_cell (drop l.word-index l.words)))
