use Rattle.std.proofs.Common.{◌∙◌, sym, arith}
use Rattle.header_names.proofs.NameFacts.{least_found, not_all_old}
use Rattle.header_names.proofs.names.least_number.Goals as goal

-- this number is the least that makes the name new
pub returns-then-not-has-clause-least : goal.returns-then-not-has-clause-least
returns-then-not-has-clause-least c =
    sym (least_found c.args.names.now c.args.base.now c.loop-k.k (omega arith) (omega arith)
    (rw c.as_str.ensures at (rw c.in_ok-name.ensures at (sym c.has.ensures ∙ c.if-not-has.true))) c.loop-k.invariant)

-- one of so many numbers made the name new
pub unreachable-requires : goal.unreachable-requires
unreachable-requires c =
    not_all_old c.args.names.now c.args.base.now c.len-len.ensures.small
    (λ j low high. c.loop-k.invariant j low (omega arith))
