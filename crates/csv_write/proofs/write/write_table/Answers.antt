use Rattle.std.proofs.Common.{◌≡◌, ◌==◌, ◌++◌, false, length, ap, sym, ◌∙◌}
use Rattle.csv.specs.Writing.{default_writer, row_text}
use Rattle.csv_write.specs.Written.{written}
use Rattle.csv_write.proofs.WriteFacts.{rows_text, whole_text, parts_text, joined_text}
use Rattle.na_vector.specs.Frame.{FrameSeen, vectors_of}
use Rattle.std.specs.List.{range_with_len}
use Rattle.dt_table.specs.Plain.{plain}
use Rattle.run_model.specs.Csv.{written_csv}
use Rattle.csv_write.proofs.write.write_table.Goals as goal

-- what was written is the text of the table
pub returns-clause-text : goal.returns-clause-text
returns-clause-text g c =
    let some : (length c.args.t.now.names == 0) ≡ false =
    rw c.names.ensures.names at (sym c.is_empty.ensures ∙ c.if-is_empty.false) in
    let whole = whole_text c.args.t.now c.names.ensures.table.named some in
    let text : c.deref.result.now ≡ written_csv (plain c.args.t.now) =
    c.deref.ensures.value ∙ (c.in_ok-text.ensures
    ∙ parts_text (written c.new_writer-writer.result) (written c.write_names.new.writer)
    (written c.write_rows.new.writer)
    (row_text default_writer c.args.t.now.names)
    (rows_text (vectors_of c.args.t.now.frame.columns) (range_with_len 0 c.args.t.now.frame.rows))
    (written_csv (plain c.args.t.now))
    c.new_writer-writer.ensures.empty
    (c.in_ok-write_names.ensures.text ∙ ap (λ names. written c.new_writer-writer.result
    ++ row_text default_writer names) c.names-2.ensures.names)
    (c.in_ok-write_rows.ensures.text ∙ ap (λ (f : FrameSeen). written c.write_names.new.writer
    ++ rows_text (vectors_of f.columns) (range_with_len 0 f.rows)) c.frame.ensures.frame)
    whole) in
    joined_text c.extend_from_slice.result c.extend_from_slice.new.self.items c.args.out.now.items c.deref.result.now
    (written_csv (plain c.args.t.now))
    c.extend_from_slice.ensures.items text
