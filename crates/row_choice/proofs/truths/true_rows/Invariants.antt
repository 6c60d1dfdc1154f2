use Rattle.std.proofs.Common.{◌≡◌, map}
use Rattle.dt_model.specs.Vector.{cell_at}
use Rattle.row_model.specs.Rows.{is_true, rows_where}
use Rattle.na_vector.specs.Words.{lgl_cell}
use Rattle.row_choice.proofs.truths.true_rows.Given as goal

-- the rows so far whose word is TRUE
abbrev pub invariant-loop-p : goal.invariant-loop-p
invariant-loop-p l = l.out.items ≡ rows_where (λ p. is_true (cell_at (map lgl_cell l.words) p)) l.p
