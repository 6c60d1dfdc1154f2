use Rattle.std.proofs.Common.{◌∷◌, ◌∙◌, sym, ap, ap₂, not}
use Rattle.run_model.specs.Misplaced.{inner_args, j_flags, are_pairs}
use Rattle.run_model.specs.TreeView.{item_of_second, args_of}
use Rattle.dt_misplaced.proofs.Parts.{two_parts, around_mark}
use Rattle.dt_misplaced.proofs.Chains.{free-Assign, free-AssignAll}
use Rattle.dt_misplaced.proofs.outer.walk_free_j.Goals as goal

pub returns-in_ok-push-in-Assign : goal.returns-in_ok-push-in-Assign
returns-in_ok-push-in-Assign c =
    around_mark _ _ _ _ _ _ _ _ _ c.in_ok-walk-in-Assign.ensures c.in_ok-push-in-Assign.ensures
    (ap (λ j. j_flags (item_of_second j)) c.in-Assign.is ∙ free-Assign c.in-Assign.left c.in-Assign.right)
    c.walk-in-Assign-2.ensures

pub returns-in_ok-push-in-AssignAll : goal.returns-in_ok-push-in-AssignAll
returns-in_ok-push-in-AssignAll c =
    two_parts _ _ _ _ _ _ _ c.in_ok-push-in-AssignAll.ensures
    (ap (λ j. j_flags (item_of_second j)) c.in-AssignAll.is ∙ free-AssignAll c.in-AssignAll.args
    ∙ ap₂ (λ a b. not (are_pairs (args_of a)) ∷ inner_args (args_of b)) (sym c.as_slice.ensures)
    (sym c.as_slice-in-AssignAll.ensures)
    ∙ ap (λ b. not b ∷ inner_args (args_of c.as_slice-in-AssignAll.result.now)) (sym c.are_pairs.ensures))
    c.walk_args.ensures
