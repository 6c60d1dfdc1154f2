use Rattle.bracket_rows.proofs.WhatIsMet.{gathered_found}
use Rattle.bracket_rows.proofs.around.found_columns.Goals as goal

pub returns-in-Some-clause-vectors : goal.returns-in-Some-clause-vectors
returns-in-Some-clause-vectors g c =
    gathered_found c.args.x.now c.args.found.now c.in-Some.positions c.deref.result.now c.frame.result.now
    c.gather.result
    c.frame.ensures.table c.in-Some.is c.deref.ensures.value c.frame.ensures.frame c.gather.ensures.ok
