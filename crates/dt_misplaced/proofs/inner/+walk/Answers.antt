use Rattle.std.proofs.Common.{◌∷◌, ◌++◌, sym, ◌∙◌, ap, ap₂, true, false}
use Rattle.run_model.specs.Misplaced.{name_flags, target_flags, names_flags, inner, inner_tails, inner_args, inner_item}
use Rattle.run_model.specs.Misplaced.{inner_brackets}
use Rattle.run_model.specs.TreeView.{tree_of, item_of_second, tails_of, args_of, brackets_of, first_of, second_of}
use Rattle.dt_tree.specs.declared.tree.Bracket.{out-Bracket}
use Rattle.dt_misplaced.proofs.Parts.{no_part, two_parts, both_parts, one_more, around_mark, bracket_parts}
use Rattle.dt_misplaced.proofs.Walk.{inner-Lit, inner-Null, inner-Infinite, inner-Chain, inner-Call, inner-Query}
use Rattle.dt_misplaced.proofs.Walk.{inner-Formula, inner-Assign, inner-AssignAll, tails-push, args-push, brackets-push}
use Rattle.dt_misplaced.proofs.inner.+walk.Goals as goal

pub walk-returns-in-Lit : goal.walk-returns-in-Lit
walk-returns-in-Lit t c = no_part _ _ (ap (λ e. inner (tree_of e)) c.in-Lit.is ∙ inner-Lit c.in-Lit.cell c.in-Lit.kind)

pub walk-returns-in-Null : goal.walk-returns-in-Null
walk-returns-in-Null t c = no_part _ _ (ap (λ e. inner (tree_of e)) c.in-Null.is ∙ inner-Null)

pub walk-returns-in-Infinite : goal.walk-returns-in-Infinite
walk-returns-in-Infinite t c = no_part _ _ (ap (λ e. inner (tree_of e)) c.in-Infinite.is ∙ inner-Infinite)

pub walk-returns-in_ok-walk-in-Chain : goal.walk-returns-in_ok-walk-in-Chain
walk-returns-in_ok-walk-in-Chain t c =
    two_parts _ _ _ _ _ _ _ c.in_ok-walk-in-Chain.ensures
    (ap (λ e. inner (tree_of e)) c.in-Chain.is ∙ inner-Chain c.in-Chain.first c.in-Chain.rest
    ∙ ap₂ (λ a b. inner (tree_of a) ++ inner_tails (tails_of b)) (sym c.get-in-Chain.ensures)
    (sym c.as_slice.ensures))
    c.walk_tails.ensures

pub walk-returns-in_ok-walk_name-in-Call : goal.walk-returns-in_ok-walk_name-in-Call
walk-returns-in_ok-walk_name-in-Call t c =
    two_parts _ _ _ _ _ _ _ c.in_ok-walk_name-in-Call.ensures
    (ap (λ e. inner (tree_of e)) c.in-Call.is ∙ inner-Call c.in-Call.name c.in-Call.args
    ∙ ap (λ b. name_flags c.in-Call.name true ++ inner_args (args_of b)) (sym c.as_slice-in-Call.ensures))
    c.walk_args.ensures

pub walk-returns-in_ok-walk_names-in-Formula : goal.walk-returns-in_ok-walk_names-in-Formula
walk-returns-in_ok-walk_names-in-Formula t c =
    two_parts _ _ _ _ _ _ _ c.in_ok-walk_names-in-Formula.ensures
    (ap (λ e. inner (tree_of e)) c.in-Formula.is ∙ inner-Formula c.in-Formula.left c.in-Formula.right
    ∙ ap₂ (λ a b. names_flags a ++ names_flags b) (sym c.as_slice-in-Formula.ensures)
    (sym c.as_slice-in-Formula-2.ensures))
    c.walk_names-in-Formula.ensures

pub walk-returns-in_ok-walk-in-Query : goal.walk-returns-in_ok-walk-in-Query
walk-returns-in_ok-walk-in-Query t c =
    two_parts _ _ _ _ _ _ _ c.in_ok-walk-in-Query.ensures
    (ap (λ e. inner (tree_of e)) c.in-Query.is ∙ inner-Query c.in-Query.head c.in-Query.brackets
    ∙ ap₂ (λ a b. inner (tree_of a) ++ inner_brackets (brackets_of b)) (sym c.get-in-Query.ensures)
    (sym c.as_slice-in-Query.ensures))
    c.walk_brackets.ensures

pub walk_tails-loop-tail-preserved : goal.walk_tails-loop-tail-preserved
walk_tails-loop-tail-preserved t c = one_more (λ ys. inner_tails (tails_of ys)) (λ y. inner (tree_of y.arg)) tails-push
    c.args.rest.now c.loop-tail.tail-index c.tail-item.result _ _ _ c.loop-tail-test.true c.tail-item.is
    c.loop-tail.invariant c.in_ok-walk.ensures

pub walk_args-loop-arg-preserved : goal.walk_args-loop-arg-preserved
walk_args-loop-arg-preserved t c =
    one_more (λ ys. inner_args (args_of ys)) (λ y. target_flags y.name ++ inner (tree_of y.value)) args-push
    c.args.args.now c.loop-arg.arg-index c.arg-item.result _ _ _ c.loop-arg-test.true c.arg-item.is
    c.loop-arg.invariant
    (both_parts _ _ _ _ _ c.in_ok-walk_target.ensures c.in_ok-walk.ensures)

pub walk_brackets-loop-bracket-preserved : goal.walk_brackets-loop-bracket-preserved
walk_brackets-loop-bracket-preserved t c =
    one_more (λ ys. inner_brackets (brackets_of ys))
    (λ y. let b = out-Bracket y in false ∷ (inner_item (first_of b.first)
    ++ (inner_item (second_of b.second) ++ (inner_item (first_of b.third) ++ inner_args (args_of b.args)))))
    brackets-push c.args.brackets.now c.loop-bracket.bracket-index c.bracket-item.result _ _ _
    c.loop-bracket-test.true c.bracket-item.is c.loop-bracket.invariant
    (bracket_parts _ _ _ _ _ _ _ _ _ _ _ c.in_ok-push.ensures c.in_ok-walk_first.ensures c.in_ok-walk_second.ensures
    c.in_ok-walk_first-2.ensures
    (c.in_ok-walk_args.ensures ∙ ap (λ z. c.walk_first-in-loop-bracket.new.flags.items ++ inner_args (args_of z))
    c.as_slice.ensures))

pub walk_j-returns-in_ok-push-in-Assign : goal.walk_j-returns-in_ok-push-in-Assign
walk_j-returns-in_ok-push-in-Assign t c =
    around_mark _ _ _ _ _ _ _ _ _ c.in_ok-walk-in-Assign.ensures c.in_ok-push-in-Assign.ensures
    (ap (λ j. inner_item (item_of_second j)) c.in-Assign.is ∙ inner-Assign c.in-Assign.left c.in-Assign.right)
    c.walk-in-Assign-2.ensures

pub walk_j-returns-in_ok-push-in-AssignAll : goal.walk_j-returns-in_ok-push-in-AssignAll
walk_j-returns-in_ok-push-in-AssignAll t c =
    two_parts _ _ _ _ _ _ _ c.in_ok-push-in-AssignAll.ensures
    (ap (λ j. inner_item (item_of_second j)) c.in-AssignAll.is ∙ inner-AssignAll c.in-AssignAll.args
    ∙ ap (λ b. true ∷ inner_args (args_of b)) (sym c.as_slice.ensures)) c.walk_args.ensures
