use Rattle.std.proofs.Common.{length, ◌==◌, ◌∙◌, ap, sym}
use Rattle.run_model.specs.TreeView.{first_of, args_of}
use Rattle.dt_tree.specs.declared.tree.Bracket.{out-Bracket}
use Rattle.dt_misplaced.proofs.Chains.{with_j, by_args}
use Rattle.dt_misplaced.proofs.outer.is_empty.Goals as goal

pub returns-then-is_some-2 : goal.returns-then-is_some-2
returns-then-is_some-2 c =
    let b = out-Bracket c.args.bracket.now in
    with_j (first_of b.first) b.second (first_of b.third) (args_of b.args) (sym c.if-is_some-2.ensures)

pub returns : goal.returns
returns c =
    let b = out-Bracket c.args.bracket.now in
    c.is_empty.ensures ∙ ap (λ xs. length xs == 0) c.as_slice.ensures
    ∙ by_args b.first b.second b.third b.args (sym c.if-is_some.ensures) (sym c.if-is_some-2.ensures)
    (sym c.if-is_some-3.ensures)
