use Rattle.std.proofs.Common.{◌≡◌, length, ap, sym, ◌∙◌}
use Rattle.std.proofs.lemmas.Bool.{eq-eqb}
use Rattle.dt_base.specs.declared.cell.ColType.{ColType}
use Rattle.dt_model.specs.Coercion.{coercion_warns}
use Rattle.assign_ref.proofs.change.replace_part.Goals as goal

-- one cell is brought to the column's type
pub returns-then-len-eq1-clause-warns : goal.returns-then-len-eq1-clause-warns
returns-then-len-eq1-clause-warns g c =
    let one : length c.args.value.vector.cells ≡ 1 = sym c.len.ensures.count ∙ c.if-len-eq1.true in
    rw (eq-eqb (length c.args.value.vector.cells) 1 one) (c.in_ok-brought.ensures.warns
    ∙ ap (λ (k : ColType). coercion_warns k c.args.value.vector) c.kind_of.ensures.vector)
