use Rattle.std.proofs.Common.{ℕ, List, ap, ◌∙◌}
use Rattle.dt_model.specs.Table.{names_at}
use Rattle.dt_table.specs.Table.{IndexSeen}
use Rattle.session_model.specs.Indices.{joined}
use Rattle.table_report.proofs.Reading.{index_more}
use Rattle.table_report.proofs.orders.index_texts.Goals as goal

pub loop-k-preserved : goal.loop-k-preserved
loop-k-preserved c =
    index_more c.args.table.now.names c.args.table.now.indices c.loop-k.k c.index.result.now c.loop-k.texts.items
    c.add.new.texts.items c.in_ok-index_text.field-0 c.index.ensures c.loop-k.invariant
    (c.in_ok-index_text.ensures ∙ ap (λ (cols : List ℕ). joined (names_at c.args.table.now.names cols))
    (c.deref.ensures.value ∙ ap (λ (x : IndexSeen). x.cols) c.behind-table.view_is)) c.in_ok-add.ensures
