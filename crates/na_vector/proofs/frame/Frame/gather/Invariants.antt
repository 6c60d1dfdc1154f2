use Rattle.std.proofs.Common.{◌≡◌, ◌+◌, ◌*◌, length, map, take}
use Rattle.dt_model.specs.Vector.{gathered}
use Rattle.na_vector.specs.Frame.{vectors_of, rows_with}
use Rattle.na_vector.proofs.frame.Frame.gather.Given as goal

abbrev pub invariant-loop-c : goal.invariant-loop-c
invariant-loop-c g l =
    record {
      columns : vectors_of l.frame.columns ≡ map (λ v. gathered v l.rows) (vectors_of (take l.c l.self.columns));
      rows : l.frame.rows ≡ rows_with l.c (length l.rows);
      width : length l.frame.columns ≡ l.c;
      touches : l.steps ≡ l.initial.steps + l.c * length l.rows;
    }
