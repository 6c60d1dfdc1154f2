use Rattle.std.proofs.Common.{◌≡◌, ℕ, List, ap, sym, ◌∙◌, is_some, true, false, None}
use Rattle.dt_model.specs.Table.{place_of}
use Rattle.assign_ref.proofs.Columns.{is_name_place}
use Rattle.assign_ref.proofs.change.delete_part.Goals as goal

-- a name of the table has a place
pub unreachable-requires : goal.unreachable-requires
unreachable-requires c =
    let none : place_of c.args.name.now c.args.t.now.names ≡ None = ap (λ (q : List ℕ). place_of q c.args.t.now.names)
    (sym c.as_str.ensures) ∙ (sym c.place.ensures ∙ c.in-None.is) in
    let some : is_some (place_of c.args.name.now c.args.t.now.names)
    ≡ true = sym (is_name_place c.args.name.now c.args.t.now.names) ∙ c.requires in
    let both : false ≡ true = sym (ap is_some none) ∙ some in
    cc
