use Rattle.std.proofs.Common.{◌<◌, ℕ, List, true, get_or}
use Rattle.csv_edge.specs.Filling.{Gains}
use Rattle.csv_edge.specs.declared.filling.Filling.{Filling}
use Rattle.csv_edge.proofs.columns.has_late.Given as goal

-- no column before this place was told late
abbrev pub invariant-loop-c : goal.invariant-loop-c
invariant-loop-c l = (k : ℕ) (d : Filling) (fields : List (List ℕ)) → k < l.c
    → Gains true (get_or l.columns k d) (get_or l.columns k d) fields
