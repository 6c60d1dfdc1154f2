use Rattle.std.proofs.Common.{◌∙◌, ap, sym, length}
use Rattle.run_model.specs.Printed.{column_width}
use Rattle.dt_print.specs.Framed.{frame_heads, frame_rows}
use Rattle.std.proofs.lemmas.List.FromFn.{length-map-range_with_len}
use Rattle.dt_print.proofs.Tables.{filled_from}
use Rattle.dt_print.proofs.table.filled_table.Goals as goal

-- as many widths as columns
pub push_header-requires : goal.push_header-requires
push_header-requires g c =
    ap length c.in_ok-column_widths.ensures.widths
    ∙ length-map-range_with_len (column_width (frame_heads c.args.names.now c.args.frame.now.columns)
    (frame_rows c.args.frame.now)) 0 (length c.args.frame.now.columns)
    ∙ sym c.requires

pub push_rows-requires-clause-widths : goal.push_rows-requires-clause-widths
push_rows-requires-clause-widths g c =
    ap length c.in_ok-column_widths.ensures.widths
    ∙ length-map-range_with_len (column_width (frame_heads c.args.names.now c.args.frame.now.columns)
    (frame_rows c.args.frame.now)) 0 (length c.args.frame.now.columns)

pub push_rows-requires-2-clause-widths : goal.push_rows-requires-2-clause-widths
push_rows-requires-2-clause-widths g c =
    ap length c.in_ok-column_widths.ensures.widths
    ∙ length-map-range_with_len (column_width (frame_heads c.args.names.now c.args.frame.now.columns)
    (frame_rows c.args.frame.now)) 0 (length c.args.frame.now.columns)

-- the header, the first rows, the dashes and the last rows
pub returns-clause-text : goal.returns-clause-text
returns-clause-text g c =
    filled_from c.args.names.now c.args.frame.now.columns c.args.frame.now.rows c.rows-rows.result _ _ _ _ _ _ _ _ _
    c.requires c.rows-rows.ensures.count
    c.in_ok-label_width.ensures.width c.in_ok-column_widths.ensures.widths
    (c.column_widths.ensures.same ∙ c.label_width.ensures.same ∙ c.new-page.ensures)
    c.in_ok-push_header.ensures c.first_shown.ensures.count c.in_ok-push_rows.ensures.text c.in_ok-push_dashes.ensures
    c.last_shown.ensures.place (c.into_text.ensures ∙ c.in_ok-push_rows-2.ensures.text)
