-- Words of columns, and what an operation on words is to give.
--   IsWord cell o w    the word w stands for what the outcome o gives; none where o is outside
use Rattle.std.specs.Prelude.{◌≡◌, Option, None, Some}
use Rattle.dt_base.specs.declared.cell.Cell.{Cell}
use Rattle.dt_model.specs.Operations.{Outcome, Outside, Gives}

-- a word for the cell that is given, and none where the number is outside
abbrev pub IsWord : {W : Type 0} → (W → Cell) → Outcome → Option W → Type 0
IsWord cell o None = o ≡ Outside
IsWord cell o (Some w) = o ≡ Gives (cell w)
