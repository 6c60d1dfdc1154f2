-- What is asked for, by the two values that are read.
use Rattle.std.proofs.Common.{Some, None}
use Rattle.clap.specs.Words.{found_of}
use Rattle.dt_run.proofs.Askings.{by_values}
use Rattle.dt_run.proofs.words.asked_in.Goals as goal

pub returns-in-Some : goal.returns-in-Some
returns-in-Some c =
    by_values (found_of c.args.matches.now) (Some c.in-Some.script) c.get_str.result c.is_on-is_check.result
    c.in-Some.ensures c.get_str.ensures c.is_on-is_check.ensures

pub returns-in-None : goal.returns-in-None
returns-in-None c =
    by_values (found_of c.args.matches.now) None c.get_str.result c.is_on-is_check.result c.in-None.ensures
    c.get_str.ensures c.is_on-is_check.ensures
