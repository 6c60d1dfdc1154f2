use Rattle.std.proofs.Common.{◌∙◌, sym}
use Rattle.keys_index.proofs.Probing.{column_probed}
use Rattle.keys_index.proofs.probes.of_column.Goals as goal

pub returns-then-names_nothing-clause-probe : goal.returns-then-names_nothing-clause-probe
returns-then-names_nothing-clause-probe c =
    column_probed c.args.names.now c.args.name.now c.in_ok-col.col c.args.op c.args.right
    (sym c.in_ok-col.was ∙ c.place.ensures) (sym c.names_nothing.ensures ∙ c.if-names_nothing.true)
