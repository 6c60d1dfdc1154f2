use Rattle.session_model.specs.Meaning.{meaning}
use Rattle.table_argument.proofs.Given.{value_found, value_missing}
use Rattle.table_argument.proofs.arguments.value_at.Goals as goal

pub returns-in-Some : goal.returns-in-Some
returns-in-Some c =
    value_found c.args.args.now c.args.at c.in-Some.arg.now (meaning c.in-Some.arg.now.value)
    c.in-Some.ensures.lookup.3.0 c.in-Some.ensures.lookup.1 c.is_meant.ensures

pub returns-in-None : goal.returns-in-None
returns-in-None c = value_missing c.args.args.now c.args.at c.in-None.ensures.lookup.3
