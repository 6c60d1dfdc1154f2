use Rattle.std.proofs.Common.{◌≡◌, drop, length}
use Rattle.dt_table.specs.Table.{renamed}
use Rattle.cmd_assign.proofs.rename_call.put_names.Given as goal

-- the names that are left make of all what they make of the old
abbrev pub invariant-loop-k : goal.invariant-loop-k
invariant-loop-k l = record {
  names : renamed (drop l.k l.cols) (drop l.k l.new) l.all.items ≡ renamed l.cols l.new l.initial.all.items;
  long : length l.all.items ≡ length l.initial.all.items;
}
