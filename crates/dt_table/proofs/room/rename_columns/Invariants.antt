use Rattle.std.proofs.Common.{◌≡◌, drop, length, vec_capacity}
use Rattle.dt_table.specs.Table.{renamed}
use Rattle.dt_table.proofs.room.rename_columns.Given as goal

-- the names that are left make of all what they make of the old
abbrev pub invariant-loop-k : goal.invariant-loop-k
invariant-loop-k l = record {
  names : renamed (drop l.k l.cols) (drop l.k l.fn.names) l.all.items ≡ renamed l.cols l.fn.names l.fn.all.items;
  left : drop l.k l.names ≡ drop l.k l.fn.names;
  count : length l.names ≡ length l.fn.names;
  long : length l.all.items ≡ length l.fn.all.items;
  capacity : vec_capacity l.all ≡ vec_capacity l.fn.all;
}
