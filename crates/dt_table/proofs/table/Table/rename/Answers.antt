use Rattle.std.proofs.Common.{◌≡◌, ◌-◌, ℕ, List, length, ◌∙◌, ap, refl, arith, vec_len, vec_capacity}
use Rattle.dt_table.specs.Table.{IsNames, renamed}
use Rattle.dt_table.proofs.Putting.{put_length}
use Rattle.dt_table.proofs.Tables.{IsTable-renamed}
use Rattle.dt_table.proofs.table.Table.rename.Goals as goal

-- the names alone are others
pub invariant_of-self : goal.invariant_of-self
invariant_of-self c =
    let names : c.rename_columns.new.all.items ≡ renamed c.args.cols.now c.args.names.items c.self.inside.names.items
    = c.rename_columns.ensures.names ∙ ap (λ (l : List (List ℕ)). renamed c.args.cols.now l
    c.self.inside.names.items) c.deref_mut.ensures.value in
    let asked : IsNames (renamed c.args.cols.now c.args.names.items c.self.inside.names.items) =
    (rw (← c.self.view_is) at c.requires.names) in
    IsTable-renamed _ c.rename_columns.new.all.items _ _ c.self.invariant
    (ap length names ∙ put_length c.args.cols.now c.args.names.items c.self.inside.names.items) (rw names asked)

pub returns : goal.returns
returns c =
    let names : c.rename_columns.new.all.items ≡ renamed c.args.cols.now c.args.names.items c.self.inside.names.items
    = c.rename_columns.ensures.names ∙ ap (λ (l : List (List ℕ)). renamed c.args.cols.now l
    c.self.inside.names.items) c.deref_mut.ensures.value in
    let long : length c.rename_columns.new.all.items ≡ length c.self.inside.names.items = ap length names
    ∙ put_length c.args.cols.now c.args.names.items c.self.inside.names.items in
    let spare : vec_capacity c.rename_columns.new.all - vec_len c.rename_columns.new.all
    ≡ vec_capacity c.self.inside.names - vec_len c.self.inside.names = omega
    (arith, c.rename_columns.ensures.capacity, c.rename_columns.new.all.ok.0, c.self.inside.names.ok.0) in
    rw (← c.self.view_is) (rw (names, spare) refl)
