use Rattle.csv.specs.Records.{fields_of}
use Rattle.csv_edge.proofs.TextFacts.{texts_of}
use Rattle.csv_edge.proofs.check.texts.Goals as goal

pub returns : goal.returns
returns c =
    let made = c.from_byte_record in
    texts_of (fields_of c.args.raw) made.result c.ok.result c.ok.ensures.value made.ensures.same made.ensures.text
    made.ensures.refused
