use Rattle.std.proofs.Common.{◌≡◌, ◌==◌, ◌≤◌, ◌+◌, ◌-◌, ◌++◌, ℕ, All, length, map, take, drop, vec_len, vec_capacity}
use Rattle.std.specs.List.{IsDistinct}
use Rattle.na_vector.specs.Frame.{vectors_of}
use Rattle.dt_table.specs.Change.{added_names, cols_of, parts_seen, written_cells}
use Rattle.dt_table.specs.Parts.{FitsNow, left, put_all}
use Rattle.dt_table.proofs.parts.put_parts.Given as goal

-- what the parts from k on make of what is there is what all make of the old
abbrev pub invariant-loop-k : goal.invariant-loop-k
invariant-loop-k g l =
    let parts = parts_seen l.fn.parts.items in
    record {
      vectors : put_all (drop l.k parts) (vectors_of l.frame.columns) ≡ put_all parts (vectors_of l.fn.frame.columns);
      rows : l.frame.rows ≡ l.fn.frame.rows;
      names : l.names.items ++ added_names (drop l.k parts) ≡ l.fn.names.items ++ added_names parts;
      left : parts_seen l.parts.items ≡ map (left l.none) (take l.k parts) ++ drop l.k parts;
      fits : All (FitsNow l.frame) (drop l.k parts);
      once : IsDistinct (λ (a b : ℕ). a == b) (cols_of (drop l.k parts));
      columns : length (added_names (drop l.k parts)) ≤ l.frame.spare;
      room : length (added_names (drop l.k parts)) ≤ vec_capacity l.names - vec_len l.names;
      touches : l.steps + written_cells (drop l.k parts) ≡ l.fn.steps + written_cells parts;
    }
