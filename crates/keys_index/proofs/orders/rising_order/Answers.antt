use Rattle.std.proofs.Common.{◌∙◌, ap}
use Rattle.na_vector.specs.Frame.{vectors_of}
use Rattle.order_model.specs.Order.{Sorting}
use Rattle.order_model.specs.Places.{ordering}
use Rattle.std.proofs.Common.{List}
use Rattle.keys_index.proofs.Ordering.{rises_sort, rises_within}
use Rattle.keys_index.proofs.orders.rising_order.Goals as goal

-- the columns are the same
pub order-requires : goal.order-requires
order-requires g c = rises_within _ c.args.cols.now c.deref.result.now (c.deref.ensures.value ∙ c.in_ok-by.ensures)
    c.requires

-- and each of them rises
pub returns-clause-ok : goal.returns-clause-ok
returns-clause-ok g c =
    c.in_ok-order.ensures.ok
    ∙ ap (λ (by : List Sorting). ordering by c.args.frame.now.rows)
    (rises_sort (vectors_of c.args.frame.now.columns) c.args.cols.now c.deref.result.now
    (c.deref.ensures.value ∙ c.in_ok-by.ensures))
