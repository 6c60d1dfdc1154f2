use Rattle.std.proofs.Common.{rules, ◌≡◌, ◌∙◌, not, Option, ap, sym, subst, option_map}
use Rattle.auto_index.specs.Added.{FitsWith, keeps}
use Rattle.dt_model.specs.Table.{name_at}
use Rattle.dt_table.specs.Table.{IsTable}
use Rattle.stmt_change.proofs.Places.{at_place}
use Rattle.stmt_change.specs.Altered.{plain_altered}
use Rattle.stmt_change.specs.Places.{table_at}
use Rattle.stmt_change.specs.declared.change.Altered.{Altered}
use Rattle.auto_index.proofs.Adding.{keeps_here}
use Rattle.auto_index.proofs.altered.is_kept.Goals as goal

pub returns-then-eq-clause-kept : goal.returns-then-eq-clause-kept
returns-then-eq-clause-kept c =
    let h = c.args.heap.now in
    let same : c.in-Some.a.id ≡ c.args.id = search rules in
    let q = name_at (table_at h c.args.id).names c.args.col in
    let is : IsTable (table_at h c.args.id) = subst IsTable
    (sym (at_place h c.args.id c.table.result.now c.table.ensures.place)) c.names-names.ensures.table in
    let fits = subst (FitsWith h) c.in-Some.is c.requires.fits in
    ap not c.names_column.ensures
    ∙ (sym (keeps_here h c.args.id c.in-Some.a c.args.col is c.requires.within fits.1.parts same)
    ∙ ap (λ (o : Option Altered). keeps c.args.id.number q (option_map (plain_altered h) o)) (sym c.in-Some.is))
