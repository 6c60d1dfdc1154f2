-- The tokens are the script that is given, and no other; or they have their fault at the place told.
use Rattle.std.proofs.Common.{sym, ap, subst, ◌∙◌}
use Rattle.dt_tree.specs.declared.fault.ScriptFault.TheVariants.{Syntax}
use Rattle.run_model.specs.Reading.{in_grammar, fault_place}
use Rattle.run_model.specs.Tokens.{unmarked}
use Rattle.dt_script.specs.Answers.{FailsAs, fail_of}
use Rattle.dt_script.proofs.Answered.{only_reading, fails_as}
use Rattle.dt_script.proofs.bytes.script_of_tokens.Goals as goal

pub returns-in-Ok-Ok-clause-script : goal.returns-in-Ok-Ok-clause-script
returns-in-Ok-Ok-clause-script c = only_reading c.args.bytes.now c.args.tokens.now c.in-Ok-Ok.script c.requires.cut
    (rw c.in-Ok-Ok.field-0-is at c.in-Ok-Ok.ensures)

pub returns-in-Ok-Err-clause-fault : goal.returns-in-Ok-Err-clause-fault
returns-in-Ok-Err-clause-fault c =
    let place = fault_place (unmarked c.args.bytes.now) c.args.tokens.now c.in-Ok-Err.at in
    subst (FailsAs c.args.bytes.now)
    (sym (c.refused.ensures ∙ ap (λ p. fail_of (Syntax p)) c.place_of-place.ensures))
    (fails_as c.args.bytes.now (Syntax place)
    (in_grammar c.args.tokens.now c.in-Ok-Err.at c.requires.cut (rw c.in-Ok-Err.field-0-is at c.in-Ok-Err.ensures)))
