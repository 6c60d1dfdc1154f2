use Rattle.std.proofs.Common.{◌∙◌, ◌++◌, ap}
use Rattle.run_model.specs.Printed.{name_text}
use Rattle.dt_print.proofs.Tables.{joined_names}
use Rattle.dt_print.proofs.table.push_joined.Goals as goal

-- the first name, and the others after commas
pub returns : goal.returns
returns c =
    joined_names _ _ _ c.in-Some.first.now c.in-Some.others.now c.args.names.now c.in-Some.ensures.cases.0
    (c.in_ok-push_name.ensures ∙ ap (λ n. c.args.out.now.items ++ name_text n) c.as_str.ensures)
    c.in_ok-push_others.ensures
