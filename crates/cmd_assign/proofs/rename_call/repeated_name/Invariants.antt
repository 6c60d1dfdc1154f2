use Rattle.std.proofs.Common.{◌≡◌, ◌<◌, ℕ, List, take, false, Bor}
use Rattle.std.specs.List.{list_any}
use Rattle.std.specs.Str.{bytes_eq}
use Rattle.dt_model.specs.Table.{is_repeated}
use Rattle.cmd_assign.proofs.rename_call.repeated_name.Given as goal

abbrev pub invariant-loop-place : goal.invariant-loop-place
invariant-loop-place l =
    record {
      seen : (q : Bor (List ℕ)) → list_any (λ k. bytes_eq q.now k.now) l.seen.keys
          ≡ list_any (bytes_eq q.now) (take l.place l.names);
      none : (k : ℕ) → k < l.place → is_repeated l.names k ≡ false;
    }
