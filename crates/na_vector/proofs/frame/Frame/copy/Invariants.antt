use Rattle.std.proofs.Common.{◌≡◌, ◌+◌, ◌*◌, length, take}
use Rattle.na_vector.specs.Frame.{vectors_of, rows_with}
use Rattle.na_vector.proofs.frame.Frame.copy.Given as goal

-- the first c columns are copied
abbrev pub invariant-loop-c : goal.invariant-loop-c
invariant-loop-c g l =
    record {
      columns : vectors_of l.frame.columns ≡ vectors_of (take l.c l.self.columns);
      rows : l.frame.rows ≡ rows_with l.c l.self.rows;
      width : length l.frame.columns ≡ l.c;
      touches : l.steps ≡ l.initial.steps + l.c * l.self.rows;
    }
