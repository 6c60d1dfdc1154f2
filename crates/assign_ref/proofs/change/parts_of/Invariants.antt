use Rattle.std.proofs.Common.{◌≡◌, ◌+◌, ◌≤◌, All, drop, take, length}
use Rattle.dt_base.specs.Warns.{both_warns}
use Rattle.na_vector.specs.Frame.{vectors_of}
use Rattle.dt_table.specs.Change.{FitsPart, parts_seen}
use Rattle.assign_ref.specs.Planned.{parts_of}
use Rattle.assign_ref.specs.Seen.{rows_seen, targets_seen}
use Rattle.assign_ref.specs.Values.{allowance, parts_warns}
use Rattle.assign_ref.proofs.change.parts_of.Given as goal

-- the parts of the first k targets
abbrev pub invariant-loop-k : goal.invariant-loop-k
invariant-loop-k g l = record {
  parts : parts_seen l.parts.items ≡ parts_of l.t.frame.rows (rows_seen l.rows) l.t.names
      (vectors_of l.t.frame.columns) (targets_seen (take l.k l.fn.targets));
  fits : All (FitsPart l.t) (parts_seen l.parts.items);
  warns : both_warns l.warns (parts_warns (rows_seen l.rows) l.t.names (vectors_of l.t.frame.columns)
      (targets_seen (drop l.k l.fn.targets))) ≡ parts_warns (rows_seen l.rows) l.t.names
      (vectors_of l.t.frame.columns) (targets_seen l.fn.targets);
  touches : l.steps + allowance l.t.frame.rows (rows_seen l.rows) l.t.names (targets_seen (drop l.k l.fn.targets)) ≤
      l.fn.steps + allowance l.t.frame.rows (rows_seen l.rows) l.t.names (targets_seen l.fn.targets);
  left : drop l.k l.targets ≡ drop l.k l.fn.targets;
  count : length l.targets ≡ length l.fn.targets;
}
