use Rattle.std.proofs.Common.{◌∙◌, ◌+◌, [], ◌∷◌, ap, length, map, length-append}
use Rattle.std.proofs.lemmas.List.{map-append}
use Rattle.expr_scope.proofs.NextOne.{each_at}
use Rattle.expr_scope.specs.Scope.{env_of}
use Rattle.session_model.specs.Expression.{checked_value}
use Rattle.session_model.specs.Meaning.{arg_meaning}
use Rattle.session_model.specs.Meanings.{ArgMeaning}
use Rattle.valued.specs.Valued.{valued_of}
use Rattle.bracket_columns.proofs.lists.values_in_turn.Goals as goal

pub loop-a-preserved : goal.loop-a-preserved
loop-a-preserved g c = (
  each_at arg_meaning (λ (m : ArgMeaning). checked_value m.means (env_of g.V.Vars.bound c.args.s.now)) _
      (map valued_of c.loop-a.values.items) (map valued_of c.add.new.list.items)
      c.args.args.now c.loop-a.a-index c.a-item.result (valued_of c.in_ok-value.value) c.loop-a.invariant.0
      c.loop-a-test.true c.a-item.is c.in_ok-value.ensures.answer
      (ap (map valued_of) c.in_ok-add.ensures ∙ map-append valued_of c.loop-a.values.items (c.in_ok-value.value ∷ [])),
  ap length c.in_ok-add.ensures
      ∙ (length-append c.loop-a.values.items (c.in_ok-value.value ∷ []) ∙ ap (λ k. k + 1) c.loop-a.invariant.1),
)
