use Rattle.std.proofs.Common.{◌++◌, ◌∙◌, sym, ap, ap₂}
use Rattle.run_model.specs.Misplaced.{inner, outer, outer_brackets}
use Rattle.run_model.specs.TreeView.{tree_of, brackets_of}
use Rattle.dt_misplaced.proofs.Parts.{two_parts}
use Rattle.dt_misplaced.proofs.Chains.{outer-Query, outer_other}
use Rattle.dt_misplaced.proofs.outer.walk_outer.Goals as goal

pub returns-in_default : goal.returns-in_default
returns-in_default c = rw (outer_other c.args.expr.now c.in_default.not-Query) c.walk-in_default.ensures

pub returns-in_ok-walk-in-Query : goal.returns-in_ok-walk-in-Query
returns-in_ok-walk-in-Query c =
    two_parts _ _ _ _ _ _ _ c.in_ok-walk-in-Query.ensures
    (ap (λ e. outer (tree_of e)) c.in-Query.is ∙ outer-Query c.in-Query.head c.in-Query.brackets
    ∙ ap₂ (λ a b. inner (tree_of a) ++ outer_brackets (brackets_of b)) (sym c.get.ensures) (sym c.as_slice.ensures))
    c.walk_chain.ensures
