use Rattle.std.proofs.Common.{Ok, ap, map, option_map, sym}
use Rattle.bracket_columns.specs.Answers.{new_seen}
use Rattle.session_model.specs.Calls.{given_of}
use Rattle.session_model.specs.Columns.{arguments_answer}
use Rattle.session_model.specs.Meaning.{arg_meaning}
use Rattle.stmt_change.specs.Altered.{plain_altered}
use Rattle.stmt_value.specs.Values.{plain_given, plain_value}
use Rattle.stmt_value.proofs.Refusals.{given_then, refused_then}
use Rattle.stmt_value.proofs.vectors.table_value.Goals as goal

pub returns-in_err-new-clause-given : goal.returns-in_err-new-clause-given
returns-in_err-new-clause-given g c =
    refused_then new_seen (plain_given c.args.setting.now.heap.now) _ _ given_of c.in_err-new.field-0.0 c.from_residual.result
    (ap (arguments_answer (map arg_meaning c.args.args.now)) c.outside-scope.ensures.env)
    c.in_err-new.ensures.answer c.from_residual.ensures.1

pub returns-clause-given : goal.returns-clause-given
returns-clause-given g c =
    given_then new_seen (plain_given c.args.setting.now.heap.now) _ _ given_of c.in_ok-new.new _
    (ap (arguments_answer (map arg_meaning c.args.args.now)) c.outside-scope.ensures.env)
    c.in_ok-new.ensures.answer
    (λ j. Ok (record {
      value = plain_value (sym c.plain.ensures.value j);
      warns = sym c.plain.ensures.warns j;
      alters = option_map (plain_altered c.args.setting.now.heap.now) (sym c.plain.ensures.altered j);
      shown = sym c.plain.ensures.shown j;
    }))
