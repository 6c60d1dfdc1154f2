use Rattle.std.proofs.Common.{◌∙◌}
use Rattle.assign_ref.proofs.Reading.{repeated_at}
use Rattle.assign_ref.proofs.faults.is_repeated.Goals as goal

-- the names before the place, and that at it
pub returns : goal.returns
returns c = c.is_named.ensures ∙ repeated_at c.args.targets.now c.args.k c.as_str.result.now c.index-targets-k.result
    c.requires c.as_str.ensures
