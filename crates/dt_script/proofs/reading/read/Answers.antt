use Rattle.std.proofs.Common.{arith, sym, ap, ◌∙◌, option_map}
use Rattle.run_model.specs.TreeView.{stmts_of}
use Rattle.dt_grammar.proofs.Loop.{fault_at_end, script_here}
use Rattle.script_frames.specs.Frames.{state_of, symbol_of}
use Rattle.dt_script.proofs.TokenLoop.{goes_on, stops}
use Rattle.dt_script.proofs.reading.read.Goals as goal

pub returns-in-None : goal.returns-in-None
returns-in-None c =
    stops c.args.tokens.now c.loop-at.at c.index-tokens-at.result (state_of c.loop-at.state)
    (symbol_of c.in_ok-next.next) c.loop-at-test.true c.index-tokens-at.is c.in_ok-next.ensures c.loop-at.invariant
    (sym (ap (option_map state_of) c.in-None.is) ∙ c.in_ok-reached.ensures)

pub loop-at-preserved : goal.loop-at-preserved
loop-at-preserved c =
    goes_on c.args.tokens.now c.loop-at.at c.index-tokens-at.result (state_of c.loop-at.state)
    (symbol_of c.in_ok-next.next) c.loop-at-test.true c.index-tokens-at.is c.in_ok-next.ensures
    c.loop-at.invariant _
    (sym (ap (option_map state_of) c.in-Some.is) ∙ c.in_ok-reached.ensures)

pub returns-in-Some-2 : goal.returns-in-Some-2
returns-in-Some-2 c = script_here c.args.tokens.now c.loop-at.at (state_of c.loop-at.state) (omega arith)
    c.loop-at.invariant _ (sym c.in_ok-done.ensures ∙ ap (option_map stmts_of) c.in-Some-2.is)

pub returns-in-None-2 : goal.returns-in-None-2
returns-in-None-2 c = fault_at_end c.args.tokens.now c.loop-at.at (state_of c.loop-at.state) (omega arith)
    c.loop-at.invariant (sym c.in_ok-done.ensures ∙ ap (option_map stmts_of) c.in-None-2.is)
