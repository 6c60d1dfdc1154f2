use Rattle.std.proofs.Common.{◌∙◌, sym}
use Rattle.session_model.specs.Meaning.{meaning}
use Rattle.stmt_value.proofs.Arguments.{found, not_found, argument_missing}
use Rattle.stmt_value.proofs.values.argument.Goals as goal

pub returns-in-Some-get-clause-answer : goal.returns-in-Some-get-clause-answer
returns-in-Some-get-clause-answer c =
    found c.args.args.now _ c.in-Some.i c.in-Some-get.arg.now (meaning c.in-Some-get.arg.now.value) (sym c.place.ensures ∙ c.in-Some.is) c.in-Some-get.ensures.lookup.3.0 c.in-Some-get.ensures.lookup.1 c.is_meant.ensures

pub returns-in-None-get-clause-answer : goal.returns-in-None-get-clause-answer
returns-in-None-get-clause-answer c =
    argument_missing _ c.stop_unbuilt.result (not_found c.args.args.now _ c.in-Some.i (sym c.place.ensures ∙ c.in-Some.is) c.in-None-get.ensures.lookup.3) c.stop_unbuilt.ensures.fault
