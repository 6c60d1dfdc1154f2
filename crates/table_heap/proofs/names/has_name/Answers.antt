use Rattle.std.proofs.Common.{◌∙◌, ap, sym}
use Rattle.std.specs.List.{list_any}
use Rattle.std.specs.Map.{values_of}
use Rattle.dt_model.specs.State.{is_table}
use Rattle.table_heap.specs.State.{plain_bound}
use Rattle.table_heap.proofs.Bounds.{nothing}
use Rattle.table_heap.proofs.Plain.{scan_has_name}
use Rattle.table_heap.proofs.names.has_name.Goals as goal

-- a map without entries has no such value
pub returns-then-len-eq0 : goal.returns-then-len-eq0
returns-then-len-eq0 c =
    sym
    (scan_has_name c.args.number c.args.names.now.entries c.len.ensures.unique
    ∙ ap (λ es. list_any (λ v. is_table c.args.number (plain_bound v)) (values_of es))
    (nothing c.args.names.now.entries (sym c.len.ensures.len ∙ c.if-len-eq0.true)))
