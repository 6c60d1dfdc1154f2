use Rattle.std.proofs.Common.{◌≡◌, All, length, ap, sym, ◌∙◌, subst}
use Rattle.dt_base.specs.Cell.{IsOfType}
use Rattle.dt_base.specs.declared.cell.ColType.{ColType}
use Rattle.dt_model.specs.Coercion.{coercion_warns}
use Rattle.dt_model.specs.Vector.{Vector}
use Rattle.na_vector.specs.Frame.{column_at}
use Rattle.assign_ref.proofs.change.write_part.Goals as goal

-- the cells are of the column's type
pub returns-clause-fits : goal.returns-clause-fits
returns-clause-fits g c =
    let kind : c.in_ok-brought.brought.vector.kind ≡ (column_at c.args.t.now.frame.columns c.args.col).vector.kind =
    ap (λ (v : Vector). v.kind) c.in_ok-brought.ensures.column ∙ c.kind_of.ensures.column in (
      c.requires.column,
      record {
        in_range = rw c.in_ok-at.ensures.items c.requires.rows;
        each = ap length c.in_ok-at.ensures.items ∙ sym c.in_ok-cells.ensures.count;
        typed = subst (λ (k : ColType). All (IsOfType k) c.in_ok-cells.cells.items) kind c.in_ok-cells.ensures.typed;
      },
    )

pub returns-clause-warns : goal.returns-clause-warns
returns-clause-warns g c = c.in_ok-brought.ensures.warns ∙ ap
    (λ (k : ColType). coercion_warns k c.args.value.now.vector) c.kind_of.ensures.vector
