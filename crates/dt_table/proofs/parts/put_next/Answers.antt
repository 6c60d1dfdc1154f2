use Rattle.std.proofs.Common.{◌<◌, length, rules, ◌∙◌, sym}
use Rattle.dt_table.proofs.OnePart.{left_other}
use Rattle.dt_table.proofs.parts.put_next.Goals as goal

-- the part that was made is no deletion
pub returns-then-not-is_delete-clause-left : goal.returns-then-not-is_delete-clause-left
returns-then-not-is_delete-clause-left g c =
    let within : c.args.k < length c.args.parts.now.items = search rules in
    left_other c.args.parts.now.items c.args.k c.args.none c.index.result.now c.replace-part.new.dest within
    c.index.ensures (sym c.is_delete.ensures ∙ c.if-not-is_delete.true) c.replace-part.ensures.after
