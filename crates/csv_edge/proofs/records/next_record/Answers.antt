use Rattle.csv.specs.Records.{fields_of}
use Rattle.csv_edge.proofs.LeftFacts.{left_after}
use Rattle.csv_edge.proofs.records.next_record.Goals as goal
use Rattle.csv_edge.proofs.records.next_record.Goals.{in-Ok, in-Err}

-- what csv's read says of the records that are left
pub returns-clause-open : goal.returns-clause-open
returns-clause-open c = elim c.match-read_byte_record.branch [
  | in-Ok w ↦ rw w.result-is
      (left_after w.in-Ok.found c.args.reader.now c.read_byte_record.new.self
      (fields_of c.read_byte_record.new.row) c.requires
      (w.in-Ok.ensures.ready c.requires.plain) (w.in-Ok.ensures.reads c.requires.plain c.requires.ready)).0
  | in-Err w ↦ rw w.result-is tt
]

pub returns-clause-record : goal.returns-clause-record
returns-clause-record c = elim c.match-read_byte_record.branch [
  | in-Ok w ↦ rw w.result-is
      (left_after w.in-Ok.found c.args.reader.now c.read_byte_record.new.self
      (fields_of c.read_byte_record.new.row) c.requires
      (w.in-Ok.ensures.ready c.requires.plain) (w.in-Ok.ensures.reads c.requires.plain c.requires.ready)).1
  | in-Err w ↦ rw w.result-is tt
]
