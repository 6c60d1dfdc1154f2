use Rattle.std.proofs.Common.{◌≡◌, ◌+◌, ◌==◌, ℕ, drop}
use Rattle.std.specs.List.{IsDistinct}
use Rattle.dt_table.specs.Change.{cols_of, parts_seen, stays_before}
use Rattle.dt_table.proofs.apply.stays_before.Given as goal

-- what is still taken off is what the parts that are left delete
abbrev pub invariant-loop-part : goal.invariant-loop-part
invariant-loop-part l = record {
  place : l.place + stays_before (parts_seen (drop l.part-index l.parts)) l.c
      ≡ l.c + stays_before (parts_seen l.parts) l.c;
  once : IsDistinct (λ (a b : ℕ). a == b) (cols_of (parts_seen (drop l.part-index l.parts)));
}
