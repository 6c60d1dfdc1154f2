-- When a table is refused.
--   refusal names f    why a table of these names and this frame is refused, if it is
--   IsCause e r        e is that refusal, or want of memory
use Rattle.std.specs.Prelude.{◌≡◌, ℕ, List, length, Option, None, Some, option_map}
use Rattle.dt_model.specs.Table.{TableLimit, Rows, Cells, Columns, first_repeated, past_limit}
use Rattle.na_vector.specs.Frame.{FrameSeen}
use Rattle.dt_table.specs.declared.make.MakeFail.{MakeFail}
use Rattle.dt_table.specs.declared.make.MakeFail.TheVariants.{Duplicate, TooManyRows, TooManyCells, TooManyColumns}
use Rattle.dt_table.specs.declared.make.MakeFail.TheVariants.{NoMemory}

-- a table that passes a limit is refused
abbrev pub refusal_past : TableLimit → MakeFail
refusal_past Rows = TooManyRows
refusal_past Cells = TooManyCells
refusal_past Columns = TooManyColumns

abbrev pub limit_refusal : ℕ → ℕ → Option MakeFail
limit_refusal rows width = option_map refusal_past (past_limit rows width)

-- a repeated name comes first, with the least place that repeats one
abbrev pub name_refusal : Option ℕ → Option MakeFail → Option MakeFail
name_refusal (Some c) _ = Some (Duplicate c)
name_refusal None after = after

-- the first refusal of a table of these names and this frame
abbrev pub refusal : List (List ℕ) → FrameSeen → Option MakeFail
refusal names f = name_refusal (first_repeated names) (limit_refusal f.rows (length f.columns))

-- the answer is this refusal; want of memory may come in its place
abbrev pub IsCause : MakeFail → Option MakeFail → Type 0
IsCause (NoMemory _) r = Unit {0}
IsCause e r = r ≡ Some e
