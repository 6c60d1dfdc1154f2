use Rattle.std.proofs.Common.{◌∙◌, None, Some, ap, map}
use Rattle.assign_model.specs.Targets.{names_of}
use Rattle.assign_sides.proofs.Paired.{each_named, named_all}
use Rattle.assign_sides.specs.Seen.{value_seen}
use Rattle.assign_sides.proofs.targets.targets_of.Goals as goal

-- the targets have the names
pub returns-in_ok-for_all-in-OneForAll-clause-names :
    goal.returns-in_ok-for_all-in-OneForAll-clause-names
returns-in_ok-for_all-in-OneForAll-clause-names g c =
    ap names_of c.in_ok-for_all-in-OneForAll.ensures
    ∙ named_all c.args.names.now (Some c.in-OneForAll.value.column.vector)

pub returns-in-OneForEach-clause-names : goal.returns-in-OneForEach-clause-names
returns-in-OneForEach-clause-names g c =
    each_named c.args.names.now (map value_seen c.in-OneForEach.values.items) c.each_target.result
    c.each_target.ensures.answer

pub returns-in_ok-deletions-in-NoValue-clause-names :
    goal.returns-in_ok-deletions-in-NoValue-clause-names
returns-in_ok-deletions-in-NoValue-clause-names g c =
    ap names_of c.in_ok-deletions-in-NoValue.ensures ∙ named_all c.args.names.now None
