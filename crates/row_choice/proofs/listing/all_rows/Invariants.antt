use Rattle.std.proofs.Common.{◌≡◌}
use Rattle.row_model.specs.Rows.{all_rows}
use Rattle.row_choice.proofs.listing.all_rows.Given as goal

-- the rows so far
abbrev pub invariant-loop-p : goal.invariant-loop-p
invariant-loop-p l = l.out.items ≡ all_rows l.p
