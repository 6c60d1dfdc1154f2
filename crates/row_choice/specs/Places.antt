-- What an integer says of rows, as contracts see it.
--   place_cell p    the integer, or NA, that says so
use Rattle.std.specs.Prelude.{zero, suc, pos, negsuc}
use Rattle.dt_base.specs.declared.cell.Cell.{Cell}
use Rattle.dt_base.specs.declared.cell.Cell.TheVariants as is
use Rattle.row_choice.specs.declared.place.Place.{Place}
use Rattle.row_choice.specs.declared.place.Place.TheVariants.{Na, Zero, Row, Out}

-- rows are counted from 1 in a script: p + 1 is row p, and -(k + 1) is all but row k
abbrev pub place_cell : Place → Cell
place_cell Na = is.Na
place_cell Zero = is.Int (pos zero)
place_cell (Row p) = is.Int (pos (suc p))
place_cell (Out k) = is.Int (negsuc k)
