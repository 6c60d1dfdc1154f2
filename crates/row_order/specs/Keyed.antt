-- Rows beside their words in the column that they are sorted by.
--   text_shown t         the cell that a text shows, or none
--   ShowsRows shown cells rows keyed   the rows, each with a word that shows its cell
use Rattle.std.specs.Prelude.{◌≡◌, ℕ, List, map, All, Option, None, Some}
use Rattle.std.specs.Borrow.{Bor}
use Rattle.dt_base.specs.declared.cell.Cell.{Cell}
use Rattle.dt_base.specs.declared.cell.Cell.TheVariants.{Na, Text}
use Rattle.dt_model.specs.Vector.{cell_at}
use Rattle.row_order.specs.declared.passes.Keyed.{Keyed}

-- the cell that a borrowed text shows
abbrev pub text_shown : Option (Bor (List ℕ)) → Cell
text_shown None = Na
text_shown (Some t) = Text t.now

-- these rows, each with a word that shows its cell
pub record ShowsRows {K : Type 0} (shown : K → Cell) (cells : List Cell) (rows : List ℕ) (keyed : List (Keyed K))
    : Type 0 where
  pub same : map (λ (k : Keyed K). k.row) keyed ≡ rows
  pub shows : All (λ (k : Keyed K). shown k.key ≡ cell_at cells k.row) keyed
