use Rattle.std.proofs.Common.{◌∙◌, ◌≤◌, arith, sym, subst, All, length}
use Rattle.std.proofs.lemmas.List.Elements.{All-more}
use Rattle.std.proofs.lemmas.List.{take_all}
use Rattle.dt_table.specs.Table.{IsFilled}
use Rattle.expr_scope.specs.Scope.{env_of}
use Rattle.bracket_columns.proofs.TextFacts.{known_next, count_next}
use Rattle.bracket_columns.proofs.texts.known_columns.Goals as goal

pub loop-name-preserved : goal.loop-name-preserved
loop-name-preserved g c = (
  known_next (env_of g.V.Vars.bound c.args.s.now) c.loop-name.frame.columns c.push_col.new.self.columns
      c.in_ok-column.column c.args.names.now c.loop-name.name-index c.name-item.result _ c.loop-name.invariant.0
      c.loop-name-test.true c.name-item.is c.in_ok-column.ensures.answer c.in_ok-push_col.ensures.ok,
  λ h. c.in_ok-push_col.ensures.rows ∙ (c.in_ok-column.ensures.rows ∙ sym c.requires.rows.count),
  count_next c.loop-name.frame.columns c.push_col.new.self.columns c.in_ok-column.column c.loop-name.name-index
      c.loop-name.invariant.2 c.in_ok-push_col.ensures.ok,
  All-more IsFilled c.args.names.now c.loop-name.name-index c.name-item.result c.loop-name-test.true
      c.loop-name.invariant.3 (subst IsFilled c.name-item.is c.in_ok-column.ensures.filled),
)

pub returns-clause-filled : goal.returns-clause-filled
returns-clause-filled g c =
    let past : length c.args.names.now ≤ c.loop-name.name-index = omega arith in
    subst (All IsFilled) (take_all c.loop-name.name-index c.args.names.now past) c.loop-name.invariant.3
