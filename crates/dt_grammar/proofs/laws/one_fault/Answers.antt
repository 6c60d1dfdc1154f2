use Rattle.dt_grammar.proofs.OneAnswer.{fault_once, read_no_fault}
use Rattle.dt_grammar.proofs.laws.one_fault.Goals as goal

pub returns : goal.returns
returns c = record { once = fault_once; none = read_no_fault }
