use Rattle.std.proofs.Common.{◌≡◌, ◌<◌, ℕ, get_or, vec_len}
use Rattle.csv_edge.specs.declared.filling.Filling.{Filling}
use Rattle.csv_edge.specs.declared.filling.Filling.TheVariants.{Missing}
use Rattle.csv_edge.proofs.columns.empty_columns.Given as goal

abbrev pub invariant-loop : goal.invariant-loop
invariant-loop l = (vec_len l.columns ≡ l.counter)
    × ((k : ℕ) (d : Filling) → k < l.counter → get_or l.columns.items k d ≡ Missing 0)
