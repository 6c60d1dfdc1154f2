use Rattle.std.proofs.Common.{List, ℕ, Ok, ap, length, subst, sym, ◌∙◌}
use Rattle.std.specs.List.{range_with_len}
use Rattle.cmd_order.proofs.KeyFacts.{first_columns, names_all}
use Rattle.dt_model.specs.Table.{names_at}
use Rattle.dt_table.specs.Table.{IsColumnList}
use Rattle.cmd_order.proofs.keys.all_columns.Goals as goal

pub returns-in-Ok-clause-answer : goal.returns-in-Ok-clause-answer
returns-in-Ok-clause-answer c =
    ap Ok (names_all c.args.table.now.names ∙ ap (names_at c.args.table.now.names) (sym (c.in-Ok.ensures
    ∙ ap (λ (names : List (List ℕ)). range_with_len 0 (length names)) c.names.ensures.names)))

pub returns-in-Ok-clause-columns : goal.returns-in-Ok-clause-columns
returns-in-Ok-clause-columns c =
    subst (IsColumnList (length c.args.table.now.names)) (sym (c.in-Ok.ensures
    ∙ ap (λ (names : List (List ℕ)). range_with_len 0 (length names)) c.names.ensures.names))
    (first_columns (length c.args.table.now.names))
