use Rattle.std.proofs.Common.{◌≡◌, ◌<◌, ℕ, length, map, subst, arith}
use Rattle.std.proofs.lemmas.List.{length-map}
use Rattle.vector_model.specs.Functions.{extreme_type}
use Rattle.vec_funcs.specs.Ranks.{has_rank}
use Rattle.vec_funcs.specs.Sides.{beats}
use Rattle.vec_funcs.proofs.Orders.{picks}
use Rattle.vec_funcs.proofs.Winner.{IsBest, typed_words, next_best, found}
use Rattle.vec_funcs.proofs.extremes.winner.Goals as goal

-- one more word
pub loop-p-preserved : goal.loop-p-preserved
loop-p-preserved g c =
    let t = extreme_type g.A.Word.kind in
    let cells = map g.A.Word.cell c.args.words.now in
    let typed = typed_words (has_rank t) g.A.Word.cell g.met.A.Ranked.ranked c.args.words.now in
    let inside : c.loop-p.p < length cells = omega (arith, length-map c.args.words.now g.A.Word.cell) in (
      c.after-best.ensures.within,
      next_best (has_rank t) (beats c.args.side t) (picks c.args.side t) cells typed
          c.loop-p.p c.loop-p.best c.after-best.result inside c.loop-p.invariant.1 c.after-best.ensures.after,
    )

-- no more words
pub returns-clause-winner : goal.returns-clause-winner
returns-clause-winner g c =
    let t = extreme_type g.A.Word.kind in
    let cells = map g.A.Word.cell c.args.words.now in
    let typed = typed_words (has_rank t) g.A.Word.cell g.met.A.Ranked.ranked c.args.words.now in
    let P : ℕ → Type 0 = λ n. IsBest (beats c.args.side t) cells n c.loop-p.best in
    let all : c.loop-p.p ≡ length cells = omega (arith, length-map c.args.words.now g.A.Word.cell) in
    found (has_rank t) (beats c.args.side t) (picks c.args.side t) cells typed c.loop-p.best
    (subst P all c.loop-p.invariant.1)
