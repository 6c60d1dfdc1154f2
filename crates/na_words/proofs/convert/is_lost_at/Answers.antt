use Rattle.std.proofs.Common.{arith, ap, sym, ◌∙◌}
use Rattle.dt_model.specs.Coercion.{brought, becomes_na}
use Rattle.na_vector.specs.Words.{text_cell}
use Rattle.na_words.proofs.Lists.{as_long, paired, cell_at-map}
use Rattle.na_words.proofs.convert.is_lost_at.Goals as goal

pub offset_bounds-made-p : goal.offset_bounds-made-p
offset_bounds-made-p g c = omega (
  arith,
  as_long g.W.Word.cell text_cell (brought g.W.Word.kind) c.args.made.now c.args.a.now c.requires.made,
)

pub bounds-made-p : goal.bounds-made-p
bounds-made-p g c = omega (
  arith,
  as_long g.W.Word.cell text_cell (brought g.W.Word.kind) c.args.made.now c.args.a.now
      c.requires.made,
)

pub is_lost-requires : goal.is_lost-requires
is_lost-requires g c = paired g.W.Word.cell text_cell (brought g.W.Word.kind) c.args.made.now c.args.a.now c.args.p
    c.index-made-p.result c.index-a-p.result
    c.requires.made c.requires.place c.index-made-p.is c.index-a-p.is

pub returns : goal.returns
returns g c = c.is_lost.ensures ∙ ap (becomes_na g.W.Word.kind)
    (sym (cell_at-map text_cell c.args.a.now c.args.p c.index-a-p.result c.requires.place c.index-a-p.is))
