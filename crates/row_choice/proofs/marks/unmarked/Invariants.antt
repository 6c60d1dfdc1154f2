use Rattle.std.proofs.Common.{◌≡◌, false, not}
use Rattle.std.specs.Prelude.{slice_index_or}
use Rattle.row_model.specs.Rows.{rows_where}
use Rattle.row_choice.proofs.marks.unmarked.Given as goal

-- the rows so far without a mark
abbrev pub invariant-loop-p : goal.invariant-loop-p
invariant-loop-p l = l.out.items ≡ rows_where (λ p. not (slice_index_or l.marks p false)) l.p
