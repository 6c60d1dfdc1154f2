use Rattle.dt_misplaced.specs.Stages.{stage_of}
use Rattle.dt_misplaced.proofs.Chains.{chain_more, stage_more}
use Rattle.dt_misplaced.proofs.outer.walk_chain.Goals as goal

pub loop-bracket-preserved : goal.loop-bracket-preserved
loop-bracket-preserved c = (
  chain_more c.args.brackets.now c.loop-bracket.bracket-index c.bracket-item.result c.loop-bracket-test.true
      c.bracket-item.is _ _ _ (stage_of c.loop-bracket.stage) c.loop-bracket.invariant.1 c.loop-bracket.invariant.0
      c.in_ok-walk_bracket.ensures,
  stage_more c.args.brackets.now c.loop-bracket.bracket-index c.bracket-item.result c.loop-bracket-test.true
      c.bracket-item.is (stage_of c.loop-bracket.stage) _ c.loop-bracket.invariant.1 c.next_stage-stage.ensures,
)
