use Rattle.std.proofs.Common.{length, ◌∙◌, ap, arith, length-append}
use Rattle.std.proofs.lemmas.Grind.{common_steps}
use Rattle.std.proofs.lemmas.List.Elements.{All-rest}
use Rattle.std.specs.Vec.Iter.{into_iter_items}
use Rattle.csv_edge.specs.Filling.{IsSound}
use Rattle.csv_edge.proofs.ColumnFacts.{columns_next, length_rest, length_first, column_cells, rows_all}
use Rattle.csv_edge.proofs.frame.frame_of.Goals as goal

-- one column more joins
pub loop-column-preserved : goal.loop-column-preserved
loop-column-preserved c =
    let was = c.loop-column.invariant in
    let x = c.in-Some.column in
    let left = into_iter_items c.loop-column.column-iterator in
    let rest = into_iter_items c.next.new.self in
    let taken = c.in-Some.ensures.steps.0 in
    let col = c.in_ok-column_of.field-0 in
    let joined = c.in_ok-push_col.ensures.ok in
    let longer = simp length-append at (ap length joined) in (
      tt,
      tt,
      columns_next c.loop-column.frame.columns c.push_col.new.self.columns col x left rest _ joined
          c.in_ok-column_of.ensures taken was.2,
      All-rest IsSound x rest left taken was.3,
      length_rest x left rest _ taken was.4,
      (λ _. c.in_ok-push_col.ensures.rows ∙ (column_cells col x c.in_ok-column_of.ensures
          ∙ length_first x left rest _ taken was.4)),
      (λ none. absurd (omega arith)),
    )

pub returns-clause-rows : goal.returns-clause-rows
returns-clause-rows c =
    let was = c.loop-column.invariant in
    rows_all c.args.columns.items c.loop-column.frame.columns c.loop-column.frame.rows
    (grind (arith, common_steps)) was.6 was.5
