use Rattle.std.proofs.Common.{◌∙◌, ap}
use Rattle.std.specs.FinMap.{insert, get}
use Rattle.table_heap.specs.Names.{bounds_of}
use Rattle.table_heap.proofs.Bounds.{bounds-inserted, lookup-bounds}
use Rattle.table_heap.proofs.names.put_name.Goals as goal

pub returns-clause-names : goal.returns-clause-names
returns-clause-names c =
    bounds-inserted _ c.args.names.now c.insert.new.self c.args.to c.in-Ok.ensures.updates
    ∙ ap (λ n. insert (bounds_of c.args.names.now.entries) n c.args.to) c.into_string.ensures

pub returns-clause-old : goal.returns-clause-old
returns-clause-old c =
    c.in-Ok.ensures.old
    ∙ lookup-bounds c.args.names.now.entries _
    ∙ ap (get (bounds_of c.args.names.now.entries)) c.into_string.ensures
