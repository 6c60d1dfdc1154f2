use Rattle.std.proofs.Common.{◌∙◌, ap, subst, Some}
use Rattle.dt_table.specs.Table.{IsTable}
use Rattle.stmt_value.specs.Values.{plain_given, plain_value}
use Rattle.auto_index.proofs.Adding.{altered_added}
use Rattle.auto_index.proofs.Fitting.{fits_of}
use Rattle.auto_index.proofs.statements.add_index.Goals as goal

pub returns-in-Ok-clause-given : goal.returns-in-Ok-clause-given
returns-in-Ok-clause-given g c =
    let h = c.args.heap.now in
    let v = c.args.given in
    let is = subst IsTable c.table_of.ensures.table c.index_of.ensures.table in
    let added = altered_added h c.args.id c.in-Ok.index c.args.col v.altered is c.requires.free.within
    c.in-Ok.ensures.cols c.requires.given.none (fits_of h v.value v.altered c.requires.given.altered) c.requires.same c.requires.kept in
    ap (plain_given h) c.with_index.ensures
    ∙ (λ i. record { value = plain_value v.value; warns = v.warns; alters = Some (added i); shown = v.shown })
