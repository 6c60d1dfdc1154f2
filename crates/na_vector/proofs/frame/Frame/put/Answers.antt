use Rattle.std.proofs.Common.{rules}
use Rattle.na_vector.proofs.Setting.{IsFrame-put}
use Rattle.na_vector.proofs.frame.Frame.put.Goals as goal

-- one cell of one column is another now
pub invariant_of-self : goal.invariant_of-self
invariant_of-self g c =
    IsFrame-put _ _ _ c.args.p c.index_mut.result.now _ _ c.args.v c.self.invariant (search rules)
    c.index_mut.ensures.value (rw (← c.self.view_is) at c.requires.typed) c.put.ensures.kind c.put.ensures.cells
