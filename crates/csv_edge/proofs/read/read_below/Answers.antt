use Rattle.std.proofs.Common.{◌≡◌, ◌<◌, None, length, ap, ◌∙◌, arith}
use Rattle.csv.specs.Records.{fields_of}
use Rattle.csv_edge.specs.Columns.{below}
use Rattle.csv_edge.proofs.Sizes.{rows_few}
use Rattle.csv_edge.proofs.TableFacts.{all_sound, one_length, first_length-rows, gathered-vectors, reads_as}
use Rattle.csv_edge.proofs.TableFacts.{frame_width}
use Rattle.run_model.specs.Csv.{rows_fault}
use Rattle.run_model.specs.CsvNames.{column_names, name_warns}
use Rattle.dt_table.specs.Table.{made}
use Rattle.csv_edge.proofs.read.read_below.Goals as goal

-- the columns have one length, that of the records
pub frame_of-requires-clause-one_length : goal.frame_of-requires-clause-one_length
frame_of-requires-clause-one_length c =
    let wide : length c.in_ok-columns.columns.items ≡ length (fields_of c.args.header) =
    c.in_ok-columns.ensures.count ∙ (c.len.ensures ∙ ap length c.in_ok-header.ensures.fields) in
    let some : 0 < length c.in_ok-columns.columns.items = omega (arith, wide, c.requires.some) in
    one_length c.in_ok-columns.columns.items (below c.args.bytes.now) c.in_ok-columns.ensures.fields some

-- and their words are words of their types
pub frame_of-requires-clause-sound : goal.frame_of-requires-clause-sound
frame_of-requires-clause-sound c = all_sound c.in_ok-columns.columns.items (below c.args.bytes.now)
    c.in_ok-columns.ensures.fields

-- which is within the limit on rows
pub frame_of-requires-clause-short : goal.frame_of-requires-clause-short
frame_of-requires-clause-short c =
    let wide : length c.in_ok-columns.columns.items ≡ length (fields_of c.args.header) =
    c.in_ok-columns.ensures.count ∙ (c.len.ensures ∙ ap length c.in_ok-header.ensures.fields) in
    let some : 0 < length c.in_ok-columns.columns.items = omega (arith, wide, c.requires.some) in
    let few = rows_few c.len.result 0 (below c.args.bytes.now) (omega arith) c.in_ok-columns.ensures.right in
    let rows = first_length-rows c.in_ok-columns.columns.items (below c.args.bytes.now)
    c.in_ok-columns.ensures.fields some in
    omega (arith, few, rows)

-- the frame has as many columns as the header has fields
pub named_table-requires-clause-width : goal.named_table-requires-clause-width
named_table-requires-clause-width c =
    frame_width c.in_ok-frame.frame.columns c.in_ok-columns.columns.items c.in_ok-frame.ensures.vectors
    ∙ (c.in_ok-columns.ensures.count ∙ c.len.ensures)

-- and no more cells than bytes
pub named_table-requires-clause-cells : goal.named_table-requires-clause-cells
named_table-requires-clause-cells c =
    let header : c.len.result ≡ length (fields_of c.args.header) = c.len.ensures
    ∙ ap length c.in_ok-header.ensures.fields in
    let wide : length c.in_ok-columns.columns.items ≡ length (fields_of c.args.header) =
    c.in_ok-columns.ensures.count ∙ header in
    let some : 0 < length c.in_ok-columns.columns.items = omega (arith, wide, c.requires.some) in
    let width = frame_width c.in_ok-frame.frame.columns c.in_ok-columns.columns.items
    c.in_ok-frame.ensures.vectors ∙ wide in
    let rows = c.in_ok-frame.ensures.rows ∙ first_length-rows c.in_ok-columns.columns.items (below c.args.bytes.now)
    c.in_ok-columns.ensures.fields some in
    let right : rows_fault (length (fields_of c.args.header)) 0 (below c.args.bytes.now) ≡ None =
    rw header at c.in_ok-columns.ensures.right in
    rw (rows, width) (c.requires.cells right)

-- the table is that of the definition
pub returns-clause-table : goal.returns-clause-table
returns-clause-table c =
    let same = c.in_ok-header.ensures.fields in
    let header : c.len.result ≡ length (fields_of c.args.header) = c.len.ensures ∙ ap length same in
    let wide : length c.in_ok-columns.columns.items ≡ length (fields_of c.args.header) =
    c.in_ok-columns.ensures.count ∙ header in
    let some : 0 < length c.in_ok-columns.columns.items = omega (arith, wide, c.requires.some) in
    let right : rows_fault (length (fields_of c.args.header)) 0 (below c.args.bytes.now) ≡ None =
    rw header at c.in_ok-columns.ensures.right in
    reads_as (fields_of c.args.header) (below c.args.bytes.now) c.in_ok-frame.frame c.in_ok-named_table.field-0.0.spare
    c.in_ok-named_table.field-0.0 c.in_ok-named_table.field-0.1
    c.in_ok-header.ensures.right right
    (c.in_ok-named_table.ensures.table ∙ ap (λ fields. made (column_names fields) c.in_ok-frame.frame
    c.in_ok-named_table.field-0.0.spare) same)
    (c.in_ok-named_table.ensures.warns ∙ ap name_warns same)
    (c.in_ok-frame.ensures.vectors ∙ gathered-vectors (fields_of c.args.header) c.in_ok-columns.columns.items
    (below c.args.bytes.now) wide c.in_ok-columns.ensures.fields)
    (c.in_ok-frame.ensures.rows ∙ first_length-rows c.in_ok-columns.columns.items (below c.args.bytes.now)
    c.in_ok-columns.ensures.fields some)
