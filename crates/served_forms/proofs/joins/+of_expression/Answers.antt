use Rattle.std.proofs.Common.{◌∙◌, ap, sym}
use Rattle.session_model.specs.Meaning.{meaning}
use Rattle.served_forms.specs.Joins.{joining_named, joining_of, turned_round}
use Rattle.served_forms.proofs.Joinings.{joins_Call, joins_Not}
use Rattle.served_forms.proofs.joins.+of_expression.Goals as goal

pub returns-in-Call : goal.returns-in-Call
returns-in-Call t c =
    c.of_call.ensures
    ∙ (ap joining_named c.as_str.ensures
    ∙ sym (joins_Call c.args.e.now c.in-Call.name c.in-Call.args c.in-Call.is))

pub returns-in-Not : goal.returns-in-Not
returns-in-Not t c =
    c.turned.ensures
    ∙ (ap turned_round (c.of_expression-in-Not.ensures ∙ ap (λ x. joining_of (meaning x).joins) c.get-in-Not.ensures)
    ∙ sym (joins_Not c.args.e.now c.in-Not.arg c.in-Not.is))
