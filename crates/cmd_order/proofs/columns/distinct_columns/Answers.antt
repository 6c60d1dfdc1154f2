use Rattle.std.proofs.Common.{◌≡◌, ◌<◌, ◌+◌, All, false, length, subst, sym, ◌∙◌, ap}
use Rattle.std.proofs.lemmas.List.{length_push}
use Rattle.std.proofs.lemmas.List.Elements.{All-map, All-push}
use Rattle.cmd_order.proofs.Choosing.{walk_more}
use Rattle.cmd_order.specs.Columns.{AreColumns}
use Rattle.row_order.specs.declared.ordering.SortCol.{SortCol}
use Rattle.cmd_order.proofs.columns.distinct_columns.Goals as goal

pub loop-written-preserved : goal.loop-written-preserved
loop-written-preserved c =
    let within : SortCol → Type 0 = λ s. s.col < length c.args.table.now.names in
    let na_first : SortCol → Type 0 = λ s. s.na_last ≡ false in
    record {
      walk = walk_more c.args.word.now c.args.falls c.args.table.now.names c.loop-written.chosen c.choose.new.chosen
          c.args.forms.now c.loop-written.written-index c.written-item.result c.in_ok-column.column _
          c.loop-written-test.true c.written-item.is c.loop-written.invariant.walk c.in_ok-column.ensures.answer
          c.in_ok-choose.ensures.answer c.in_ok-choose.ensures.after;
      within = subst (All within) (sym c.in_ok-choose.ensures.after)
          (All-push within c.loop-written.chosen c.in_ok-column.column c.loop-written.invariant.within
          c.in_ok-column.ensures.place);
      na_first = subst (All na_first) (sym c.in_ok-choose.ensures.after)
          (All-push na_first c.loop-written.chosen c.in_ok-column.column c.loop-written.invariant.na_first
          c.in_ok-column.ensures.na_first);
      count = ap length c.in_ok-choose.ensures.after ∙ (length_push c.loop-written.chosen c.in_ok-column.column
          ∙ ap (λ n. n + 1) c.loop-written.invariant.count);
    }

pub returns-clause-columns : goal.returns-clause-columns
returns-clause-columns c =
    subst (AreColumns (length c.args.table.now.names)) (sym c.into_list.ensures.list) (record {
      places = record {
        in_range = All-map (λ p. p < length c.args.table.now.names) (λ (s : SortCol). s.col) c.loop-written.chosen
            c.loop-written.invariant.within;
        distinct = c.into_list.ensures.distinct;
      };
      na_first = c.loop-written.invariant.na_first;
    })
