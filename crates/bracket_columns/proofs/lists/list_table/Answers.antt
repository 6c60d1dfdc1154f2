use Rattle.std.proofs.Common.{◌∙◌, ap, map, sym}
use Rattle.row_model.specs.Lengths.{common_length}
use Rattle.valued.specs.Valued.{vector_in}
use Rattle.bracket_columns.proofs.Values.{table_of_values}
use Rattle.bracket_columns.proofs.lists.list_table.Goals as goal

pub returns-clause-answer : goal.returns-clause-answer
returns-clause-answer g c =
    table_of_values c.args.names.now c.args.values.items c.in_ok-n.n c.in_ok-frame.frame c.new_table.result
    (ap (λ vs. common_length (map vector_in vs)) (sym c.deref.ensures.value) ∙ c.in_ok-n.ensures.answer)
    c.in_ok-frame.ensures.vectors c.in_ok-frame.ensures.rows c.new_table.ensures.answer
