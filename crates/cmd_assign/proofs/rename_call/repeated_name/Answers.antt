use Rattle.std.proofs.Common.{arith, sym, below_more}
use Rattle.dt_table.proofs.Names.{seen_more, repeated_here, new_here, none_repeated}
use Rattle.cmd_assign.proofs.rename_call.repeated_name.Goals as goal

-- the name was in the set, and no name before it was
pub returns-then-not-branch : goal.returns-then-not-branch
returns-then-not-branch c =
    sym (repeated_here c.args.names.now c.loop-place.place c.as_str.result.now _ c.in_ok-insert.field-0 (omega arith)
    (rw c.as_str.ensures c.index-names-place.is) (c.loop-place.invariant.seen c.as_str.result)
    c.in_ok-insert.ensures.added c.if-not-branch.true c.loop-place.invariant.none)

-- the name is new, and in the set from now on
pub loop-place-preserved : goal.loop-place-preserved
loop-place-preserved c = record {
  seen = λ q. seen_more c.args.names.now c.loop-place.place c.as_str.result.now q.now _ _ (omega arith)
      (rw c.as_str.ensures c.index-names-place.is) (c.loop-place.invariant.seen q) (c.in_ok-insert.ensures.updates.0 q);
  none = below_more _ _ c.loop-place.invariant.none (new_here c.args.names.now c.loop-place.place c.as_str.result.now
      _ c.in_ok-insert.field-0 (omega arith) (rw c.as_str.ensures c.index-names-place.is)
      (c.loop-place.invariant.seen c.as_str.result) c.in_ok-insert.ensures.added c.if-not-branch.false);
}

-- no name was in the set before
pub returns : goal.returns
returns c = sym (none_repeated c.args.names.now c.loop-place.place (omega arith) c.loop-place.invariant.none)
