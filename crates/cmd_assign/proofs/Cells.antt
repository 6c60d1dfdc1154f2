-- Cells of a column, one after another.
use Rattle.std.proofs.Common.{◌≡◌, ◌<◌, ◌≤◌, ◌+◌, ◌++◌, ◌∙◌, ℕ, List, [], ◌∷◌, Result, Ok, Err, length, drop}
use Rattle.std.proofs.Common.{ap}
use Rattle.std.proofs.lemmas.List.{drop_all, drop_more}
use Rattle.dt_base.specs.declared.cell.Cell.{Cell}
use Rattle.dt_base.specs.declared.cell.Cell.TheVariants.{Na}
use Rattle.dt_base.specs.declared.fault.Fault.{Fault}
use Rattle.dt_model.specs.Vector.{cell_at}
use Rattle.session_model.proofs.InOrder.{each_done, each_next, each_refused, onto, onto_nothing}
use Rattle.session_model.specs.Expression.{each}

module _ {B : Type 0} (f : Cell → Result B Fault) (whole : Result (List B) Fault) (done : List B) (cells : List Cell)
    (k : ℕ) where
  -- what is left begins with the cell at this place
  next_cell : k < length cells → whole ≡ onto done (each f (drop k cells)) → whole
      ≡ onto done (each f (cell_at cells k ∷ drop (k + 1) cells))
  next_cell lt h = h ∙ ap (λ l. onto done (each f l)) (drop_more cells k Na lt)

  -- one more cell
  pub cell_next : (y : B) → whole ≡ onto done (each f (drop k cells)) → k < length cells → f (cell_at cells k) ≡ Ok y
      → whole ≡ onto (done ++ y ∷ []) (each f (drop (k + 1) cells))
  cell_next y h lt e = each_next f whole done (cell_at cells k) (drop (k + 1) cells) y (next_cell lt h) e

  -- the fault of the next cell is that of all
  pub cell_refused : (e : Fault) → whole ≡ onto done (each f (drop k cells)) → k < length cells
      → f (cell_at cells k) ≡ Err e → whole ≡ Err e
  cell_refused e h lt r = each_refused f whole done (cell_at cells k) (drop (k + 1) cells) e (next_cell lt h) r

  -- there is no further cell
  pub cells_done : whole ≡ onto done (each f (drop k cells)) → length cells ≤ k → whole ≡ Ok done
  cells_done h le = each_done f whole done (h ∙ ap (λ l. onto done (each f l)) (drop_all k cells le))

pub ruleset cells = (onto_nothing, cell_next, cell_refused, cells_done)
