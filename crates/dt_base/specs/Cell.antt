-- Cells, and the type that a cell has.
--   seen c          the cell that a borrowed cell shows
--   IsOfType t c    the cell c may stand in a column of type t
use Rattle.std.specs.Prelude.{◌≡◌, negsuc, ◌^◌, ◌-◌}
use Rattle.dt_base.specs.declared.cell.Cell.{Cell}
use Rattle.dt_base.specs.declared.cell.Cell.TheVariants.{Na, Lgl, Int, Text}
use Rattle.dt_base.specs.declared.cell.CellRef.{CellRef}
use Rattle.dt_base.specs.declared.cell.CellRef.TheVariants as of
use Rattle.dt_base.specs.declared.cell.ColType.{ColType}
use Rattle.dt_base.specs.declared.cell.ColType.TheVariants as ty

-- the cell that a borrowed cell shows
abbrev pub seen : CellRef → Cell
seen of.Na = Na
seen (of.Lgl b) = Lgl b
seen (of.Int n) = Int n
seen (of.Text s) = Text s.now

-- the cell is NA or of this type, and no cell is -2^63
abbrev pub IsOfType : ColType → Cell → Type 0
IsOfType _ Na = Unit {0}
IsOfType ty.Lgl (Lgl _) = Unit {0}
IsOfType ty.Int (Int n) = n ≡ negsuc (2 ^ 63 - 1) → ⊥
IsOfType ty.Chr (Text _) = Unit {0}
IsOfType _ _ = ⊥
