use Rattle.dt_query.proofs.FoundFacts.{key_stays}
use Rattle.dt_query.proofs.second.rows_answer.Goals as goal

-- the rows that a logical i leaves have the key
pub key_kept-requires-clause-true_key : goal.key_kept-requires-clause-true_key
key_kept-requires-clause-true_key g c =
    key_stays c.args.x.now c.in_ok-made.made c.args.found.now c.names.ensures.table c.requires.rows c.requires.order
    c.in_ok-made.ensures.columns
