use Rattle.std.proofs.Common.{◌∙◌, map, arith, All, subst, sym, ap}
use Rattle.std.specs.List.{list_any}
use Rattle.std.proofs.lemmas.List.Elements.{All-push}
use Rattle.std.proofs.lemmas.Grind.{common_steps}
use Rattle.dt_base.specs.declared.cell.Cell.TheVariants as is
use Rattle.dt_model.specs.Operations.{same_cell}
use Rattle.na_vector.specs.Words.{lgl_cell, IsLglWord}
use Rattle.na_common.specs.Brought.{among}
use Rattle.na_common.proofs.Members.{is_member-cells, word_for_word}
use Rattle.na_common.proofs.membership.members.Goals as goal

-- one more word: it is in the set where its cell is one of theirs
pub loop-x-preserved : goal.loop-x-preserved
loop-x-preserved g c = record {
  cells = word_for_word g.A.Word.cell (among g.W.Word.kind (map g.W.Word.cell c.args.words.items)) lgl_cell
      c.args.a.now c.loop-x.x-index c.x-item.result c.loop-x.out.items c.push.new.list.items c.flag.result
      (omega arith) c.x-item.is c.loop-x.invariant.cells
      (c.flag.ensures.word ∙ ap (λ b. is.Lgl b)
      (c.has-found.ensures ∙ c.in_ok-set.ensures c.in_ok-w.w
      ∙ is_member-cells g.W.PartialEq.eq g.W.Word.cell g.W.Word.fine g.met.W.Keyed.same c.in_ok-w.w
      c.in_ok-w.ensures.fine c.args.words.items c.requires
      ∙ ap (λ q. list_any (same_cell q) (map g.W.Word.cell c.args.words.items)) c.in_ok-w.ensures.word))
      c.in_ok-push.ensures;
  fine = subst (All IsLglWord) (sym c.in_ok-push.ensures)
      (All-push IsLglWord c.loop-x.out.items c.flag.result c.loop-x.invariant.fine c.flag.ensures.fine);
  count = grind (arith, common_steps);
}
