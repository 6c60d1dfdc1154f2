use Rattle.std.proofs.Common.{ℕ, Bool, false, not, slice_index_or, arith}
use Rattle.std.proofs.lemmas.Grind.{common_steps}
use Rattle.row_choice.proofs.Ranges.{where_more}
use Rattle.row_choice.proofs.marks.unmarked.Goals as goal

-- one more row
pub loop-p-preserved : goal.loop-p-preserved
loop-p-preserved c =
    let test : ℕ → Bool = λ p. not (slice_index_or c.args.marks.now p false) in
    where_more test c.loop-p.p (test c.loop-p.p) c.loop-p.out.items c.push_if.new.out.items
    c.loop-p.invariant (grind (arith, common_steps)) c.in_ok-push_if.ensures
