use Rattle.std.proofs.Common.{◌∙◌}
use Rattle.csv.specs.Records.{fields_of}
use Rattle.header_names.proofs.FieldFacts.{field_within}
use Rattle.header_names.proofs.names.field_at.Goals as goal

pub returns : goal.returns
returns c =
    let e = c.in-Some.ensures.value ∙ field_within (fields_of c.args.header.now) c.args.i c.requires in cc

pub unreachable-requires : goal.unreachable-requires
unreachable-requires c =
    let e = c.in-None.ensures.value ∙ field_within (fields_of c.args.header.now) c.args.i c.requires in cc
