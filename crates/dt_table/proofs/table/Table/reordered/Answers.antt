use Rattle.std.proofs.Common.{◌∙◌, refl}
use Rattle.dt_table.specs.contracts.table.Table.{the_view}
use Rattle.dt_table.proofs.Reordering.{IsTable-reordered, plain_turned}
use Rattle.dt_table.proofs.table.Table.reordered.Goals as goal

-- each part is as it stands in the new order
pub invariant_of-result : goal.invariant_of-result
invariant_of-result g c =
    IsTable-reordered _ _ c.args.order.now c.args.key.items c.self.invariant c.width.ensures.frame
    (rw (← c.self.view_is) at c.requires.rows) (rw (← c.self.view_is) at c.requires.key)
    (rw (← c.self.view_is) at c.requires.order) (record {
      names = c.in_ok-names.ensures ∙ c.deref.ensures.value;
      vectors = c.in_ok-frame.ensures.ok;
      rows = c.in_ok-frame.ensures.rows;
      key = refl;
      indices = c.new.ensures.items;
      slots = refl;
    })

pub returns-clause-plain : goal.returns-clause-plain
returns-clause-plain g c =
    rw (← c.self.view_is) (plain_turned (the_view c.self.inside) (the_view (record c.self.inside {
      names = c.in_ok-names.names;
      frame = c.in_ok-frame.frame;
      key = c.args.key;
      indices = c.new.result;
    })) c.args.order.now c.args.key.items
    (rw (← c.self.view_is) at c.requires.rows) (record {
      names = c.in_ok-names.ensures ∙ c.deref.ensures.value;
      vectors = c.in_ok-frame.ensures.ok;
      rows = c.in_ok-frame.ensures.rows;
      key = refl;
      indices = c.new.ensures.items;
      slots = refl;
    }))
