use Rattle.std.proofs.Common.{◌≡◌, ◌≤◌, ◌<◌, ◌-◌, ◌∷◌, ℕ, [], true, get_or, length, take}
use Rattle.std.specs.List.{list_all}
use Rattle.std.specs.Str.{is_utf8}
use Rattle.csv.specs.Records.{fields_of}
use Rattle.csv_edge.specs.Filling.{Gains}
use Rattle.csv_edge.specs.declared.filling.Filling.{Filling}
use Rattle.csv_edge.proofs.columns.push_row.Given as goal

-- the columns before this place have one field more, the others are as they were, and the fields so far are UTF-8
abbrev pub invariant-loop-field : goal.invariant-loop-field
invariant-loop-field l = record {
  within : l.c ≤ length (fields_of l.row);
  text : list_all is_utf8 (take l.c (fields_of l.row)) ≡ true;
  grown : (k : ℕ) (d : Filling) → k < l.c → Gains l.again (get_or l.fn.columns k d) (get_or l.columns k d)
      (get_or (fields_of l.row) k [] ∷ []);
  same : (k : ℕ) (d : Filling) → l.c ≤ k → get_or l.columns k d ≡ get_or l.fn.columns k d;
}

-- fewer fields are left each time
abbrev pub decreases-loop-field : goal.decreases-loop-field
decreases-loop-field l = length (fields_of l.row) - l.c
