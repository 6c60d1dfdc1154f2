use Rattle.std.proofs.Common.{◌∙◌, sym}
use Rattle.dt_base.specs.Warns.{has_warn}
use Rattle.run_model.specs.Messages.{warn_line, all_warnings}
use Rattle.message_lines.proofs.Warned.{flat_map-filter}
use Rattle.message_lines.proofs.messages.warn_lines.Goals as goal

-- those of all warnings that are in the set
pub returns : goal.returns
returns c =
    let all = flat_map-filter (warn_line c.args.line) (has_warn c.args.warns) all_warnings in
    let added = rw c.new-out.ensures.items at c.in_ok-push_given.ensures in
    added ∙ sym all
