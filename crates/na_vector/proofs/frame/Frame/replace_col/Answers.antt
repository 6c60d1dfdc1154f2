use Rattle.std.proofs.Common.{◌≡◌, length, ◌∙◌, ap, rules}
use Rattle.na_vector.specs.Column.{Seen}
use Rattle.na_vector.proofs.Setting.{IsFrame-set, gone_at}
use Rattle.na_vector.proofs.frame.Frame.replace_col.Goals as goal

-- the new column has the frame's length
pub invariant_of-self : goal.invariant_of-self
invariant_of-self c =
    let long : length c.args.with.vector.cells ≡ c.self.inside.rows = search rules in
    IsFrame-set _ _ _ _ c.self.invariant
    (ap (λ (x : Seen). length x.vector.cells) c.replace.ensures.after ∙ long)
    (rw c.replace.ensures.after c.len.ensures.vector)

-- what stood there is given back
pub returns-clause-gone : goal.returns-clause-gone
returns-clause-gone c =
    rw (← c.self.view_is) (gone_at c.self.inside.columns.items c.args.c c.index_mut.result.now c.replace.result
    (search rules) c.index_mut.ensures.value c.replace.ensures.value)
