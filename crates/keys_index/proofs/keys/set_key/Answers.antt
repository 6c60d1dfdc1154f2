use Rattle.keys_index.proofs.keys.set_key.Goals as goal

-- the list has the columns
pub returns-clause-ok : goal.returns-clause-ok
returns-clause-ok g c = rw (c.in_ok-key.ensures.items) at c.in_ok-set_owned_key.ensures.ok
