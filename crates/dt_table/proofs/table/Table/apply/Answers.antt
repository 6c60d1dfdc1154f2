use Rattle.std.proofs.Common.{◌∙◌, ap, refl}
use Rattle.dt_table.specs.Change.{indices_changed, key_changed, parts_seen}
use Rattle.dt_table.proofs.Applying.{IsTable-changed, cols_within}
use Rattle.dt_table.proofs.table.Table.apply.Goals as goal

-- the columns that parts name are the table's
pub change_columns-requires-clause-width : goal.change_columns-requires-clause-width
change_columns-requires-clause-width g c = cols_within _ _ (rw (← c.self.view_is, ← c.ch.view_is) at c.requires.fits)

-- each part of the table is as the change makes it
pub invariant_of-self : goal.invariant_of-self
invariant_of-self g c =
    IsTable-changed _ _ _ c.self.invariant (rw (← c.self.view_is, ← c.ch.view_is) at c.requires.fits)
    c.width.ensures.frame (record {
      names = c.change_columns.ensures.names;
      vectors = c.change_columns.ensures.vectors;
      rows = c.change_columns.ensures.rows;
      key = c.cut_key.ensures ∙ ap (λ ps. key_changed (parts_seen ps) c.self.inside.key.items) c.deref.ensures.value;
      indices = c.cut_indices.ensures ∙ ap (λ ps. indices_changed (parts_seen ps) c.self.inside.indices.items)
          c.deref-2.ensures.value;
      slots = refl;
    })
