-- Cells that have a place in an order.
--   has_rank t c     the cell is a number, or for texts a text
-- A word's cell is NA, or has a place: `ranked_lgl`, `ranked_int`, `ranked_text`.
use Rattle.std.specs.Prelude.{◌≡◌, ◌^◌, ◌-◌, ◌==◌, ℕ, ℤ, negsuc, Bool, true, false, not, cond, List, Option, None, Some}
use Rattle.std.specs.Prelude.{is_some, refl}
use Rattle.std.specs.Ordering.{int_eq}
use Rattle.dt_base.specs.declared.cell.Cell.{Cell}
use Rattle.dt_base.specs.declared.cell.Cell.TheVariants as is
use Rattle.dt_base.specs.declared.cell.ColType.{ColType}
use Rattle.dt_base.specs.declared.cell.ColType.TheVariants as ty
use Rattle.dt_model.specs.Coercion.{is_na}
use Rattle.dt_model.specs.Operations.{number, text}
use Rattle.na_vector.specs.Words.{int_cell, lgl_cell, text_cell}

-- a number, or in the order of texts what has a text
abbrev pub has_rank : ColType → Cell → Bool
has_rank ty.Chr c = is_some (text c)
has_rank _ c = is_some (number c)

pub ranked_lgl : (b : ℕ) → has_rank ty.Int (lgl_cell b) ≡ not (is_na (lgl_cell b))
ranked_lgl b =
    elim (b == 2) as (λ v. has_rank ty.Int (cond v is.Na (is.Lgl (b == 1)))
    ≡ not (is_na (cond v is.Na (is.Lgl (b == 1)))))
    [ true ↦ refl | false ↦ refl ]

pub ranked_int : (n : ℤ) → has_rank ty.Int (int_cell n) ≡ not (is_na (int_cell n))
ranked_int n =
    elim (int_eq n (negsuc (2 ^ 63 - 1))) as (λ v. has_rank ty.Int (cond v is.Na (is.Int n))
    ≡ not (is_na (cond v is.Na (is.Int n))))
    [ true ↦ refl | false ↦ refl ]

pub ranked_text : (t : Option (List ℕ)) → has_rank ty.Chr (text_cell t) ≡ not (is_na (text_cell t))
ranked_text None = refl
ranked_text (Some t) = refl
