use Rattle.std.proofs.Common.{◌++◌}
use Rattle.run_model.specs.Misplaced.{target_flags, outer, flags}
use Rattle.run_model.specs.TreeView.{tree_of, stmts_of}
use Rattle.dt_misplaced.proofs.Parts.{both_parts, one_more}
use Rattle.dt_misplaced.proofs.Chains.{stmts-push}
use Rattle.dt_misplaced.proofs.outer.walk_stmts.Goals as goal

pub loop-stmt-preserved : goal.loop-stmt-preserved
loop-stmt-preserved c =
    one_more (λ ss. flags (stmts_of ss)) (λ s. target_flags s.target ++ outer (tree_of s.expr)) stmts-push
    c.args.stmts.now c.loop-stmt.stmt-index c.stmt-item.result _ _ _ c.loop-stmt-test.true c.stmt-item.is
    c.loop-stmt.invariant
    (both_parts _ _ _ _ _ c.in_ok-walk_target.ensures c.in_ok-walk_outer.ensures)
