use Rattle.std.proofs.Common.{◌≡◌, ◌∙◌, ℕ, Bool, length, map, arith, ap}
use Rattle.std.proofs.lemmas.Grind.{common_steps}
use Rattle.std.proofs.lemmas.List.{length-map}
use Rattle.dt_model.specs.Vector.{cell_at}
use Rattle.row_model.specs.Rows.{is_true, rows_where}
use Rattle.na_vector.specs.Words.{lgl_cell}
use Rattle.row_choice.proofs.Ranges.{where_more}
use Rattle.row_choice.proofs.truths.true_rows.Goals as goal

-- one more row
pub loop-p-preserved : goal.loop-p-preserved
loop-p-preserved c =
    let test : ℕ → Bool = λ p. is_true (cell_at (map lgl_cell c.args.words.now) p) in
    let here : c.is_true.result ≡ test c.loop-p.p = grind (arith, common_steps) in
    where_more test c.loop-p.p c.is_true.result c.loop-p.out.items c.push_if.new.out.items
    c.loop-p.invariant here c.in_ok-push_if.ensures

-- no more rows
pub returns : goal.returns
returns c =
    let test : ℕ → Bool = λ p. is_true (cell_at (map lgl_cell c.args.words.now) p) in
    let all : c.loop-p.p ≡ length (map lgl_cell c.args.words.now) =
    omega (arith, length-map c.args.words.now lgl_cell) in
    c.loop-p.invariant ∙ ap (rows_where test) all
