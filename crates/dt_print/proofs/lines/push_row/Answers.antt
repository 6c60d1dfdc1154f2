use Rattle.std.proofs.Common.{◌∙◌, ◌+◌, ◌++◌, ap, length}
use Rattle.std.specs.Prelude.{codes}
use Rattle.run_model.specs.Printed.{aligned, label}
use Rattle.dt_print.specs.Lines.{frame_line, cells_part}
use Rattle.dt_print.proofs.Spans.{three_added}
use Rattle.dt_print.proofs.lines.push_row.Goals as goal

-- the label, the cells and the line feed
pub returns-clause-text : goal.returns-clause-text
unfolding frame_line
returns-clause-text g c =
    three_added _ _ _ _ _ _ _ c.in_ok-push_label.ensures c.in_ok-push_cells.ensures.text c.in_ok-push.ensures.items
    ∙ ap (λ widths. c.args.page.now.text.items
    ++ (aligned c.args.layout.now.label (label (c.args.place + 1))
    ++ cells_part widths c.args.frame.now.columns c.args.place (length c.args.frame.now.columns) ++ codes "\n"))
    c.deref.ensures.value
