use Rattle.std.proofs.Common.{◌∙◌, ap}
use Rattle.run_model.specs.Printed.{characters, name_text}
use Rattle.dt_print.proofs.Framing.{shown_width}
use Rattle.dt_print.proofs.widths.column_width.Goals as goal

-- the name, the first cells and the last ones
pub returns-clause-width : goal.returns-clause-width
returns-clause-width g c =
    shown_width c.args.name.now c.args.column.now.vector _ _ _ _ _ _ _ _ c.len-rows.ensures.count
    c.first_shown.ensures.count c.last_shown.ensures.place
    (c.in_ok-of_name.ensures.width ∙ ap (λ t. characters (name_text t)) c.as_str.ensures)
    c.in_ok-first.ensures.width c.in_ok-last.ensures.width c.max.ensures c.max-2.ensures
