use Rattle.std.proofs.Common.{◌≡◌, map, take, All, length}
use Rattle.na_vector.specs.Words.{lgl_cell, IsLglWord}
use Rattle.na_common.specs.Brought.{among}
use Rattle.na_common.proofs.membership.members.Given as goal

abbrev pub invariant-loop-x : goal.invariant-loop-x
invariant-loop-x g l = record {
  cells : map lgl_cell l.out.items ≡ map (among g.W.Word.kind (map g.W.Word.cell l.fn.words.items))
      (map g.A.Word.cell (take l.x-index l.a));
  fine : All IsLglWord l.out.items;
  count : length l.out.items ≡ l.x-index;
}
