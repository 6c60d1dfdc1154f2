-- The words ask for a script, or for none, or memory was wanting before that was known.
use Rattle.std.proofs.Common.{◌∙◌, ap, option_map, refl, sym}
use Rattle.dt_run.specs.Given.{meant, texts}
use Rattle.dt_run.specs.Words.{all_asked}
use Rattle.dt_run.proofs.Runs.{asked_as, asked_usage, asked_wanting, no_usage}
use Rattle.dt_run.proofs.running.run_named.Goals as goal

pub returns-in-Ok-Some-clause-ends : goal.returns-in-Ok-Some-clause-ends
returns-in-Ok-Some-clause-ends g c =
    asked_as _ _ _ _ c.run_asked.result
    (ap (option_map meant) (sym c.in-Ok-Some.field-0-is) ∙ c.in-Ok-Some.ensures.asked)
    c.run_asked.ensures

pub returns-in-Ok-Some-clause-usage : goal.returns-in-Ok-Some-clause-usage
returns-in-Ok-Some-clause-usage g c = no_usage c.run_asked.result c.run_asked.ensures.words

pub returns-in-Ok-None-clause-ends : goal.returns-in-Ok-None-clause-ends
returns-in-Ok-None-clause-ends g c =
    asked_usage (all_asked (texts c.args.words.now)) _ _ c.tell_usage.result
    (ap (option_map meant) (sym c.in-Ok-None.field-0-is) ∙ c.in-Ok-None.ensures.asked) c.tell_usage.ensures.put
    c.tell_usage.ensures.quiet

pub returns-in-Err-clause-ends : goal.returns-in-Err-clause-ends
returns-in-Err-clause-ends g c = asked_wanting (all_asked (texts c.args.words.now)) _ _ _ _ refl refl refl
