use Rattle.std.proofs.Common.{◌≡◌, ◌+◌, ◌++◌, map, take, All, length}
use Rattle.na_words.proofs.convert.append.Given as goal

abbrev pub invariant-loop-x : goal.invariant-loop-x
invariant-loop-x g l = record {
  cells : map g.W.Word.cell l.out.items ≡ map g.W.Word.cell l.initial.out.items
      ++ map g.C.Change.table (map g.A.Word.cell (take l.x-index l.a));
  fine : All g.W.Word.fine l.out.items;
  count : length l.out.items ≡ length l.initial.out.items + l.x-index;
}
