use Rattle.std.proofs.Common.{refl, sym}
use Rattle.session_model.specs.AutoIndex.{first_indexed}
use Rattle.session_model.specs.Meaning.{bracket_meaning, meaning}
use Rattle.stmt_value.specs.Values.{plain_given, scene}
use Rattle.auto_index.proofs.Given.{answers_by, ok_to}
use Rattle.auto_index.proofs.statements.indexed.Goals as goal

pub returns-in-Some-clause-answer : goal.returns-in-Some-clause-answer
returns-in-Some-clause-answer g c = λ held.
    let h = c.args.setting.now.heap.now in
    let w = scene held c.args.setting.now in
    let given = plain_given h c.args.given in
    let new = (meaning c.args.e.now).indexed w given in
    let first = first_indexed w c.in-Some.id.number (bracket_meaning c.in-Some.bracket.now) given in
    answers_by (plain_given h) new c.first_indexed.result
    (ok_to (plain_given h) first new c.first_indexed.result (sym (c.in-Some.ensures.indexed w given refl))
    (c.first_indexed.ensures.given held)) c.first_indexed.ensures.memory
