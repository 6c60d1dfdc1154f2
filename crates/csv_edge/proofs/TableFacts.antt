-- The table of a file: its columns, and what the definition of reading says of it.
use Rattle.std.proofs.Common.{◌≡◌, ◌<◌, ◌≤◌, ◌+◌, ◌*◌, ◌++◌, ◌^◌, ℕ, suc, List, [], ◌∷◌, All, map, length, take, drop}
use Rattle.std.proofs.Common.{get_or, true, false, None, Ok, refl, sym, ap, ◌∙◌, arith}
use Rattle.std.specs.List.{range_with_len}
use Rattle.std.proofs.lemmas.Grind.{common_steps}
use Rattle.std.proofs.lemmas.List.{length-map}
use Rattle.std.proofs.lemmas.List.FromFn.{length-range_with_len}
use Rattle.std.proofs.Math.Seq.{take-append_seam}
use Rattle.csv_edge.specs.Columns.{first_length, Gathered}
use Rattle.csv_edge.specs.Filling.{Holds, Gains, IsSound, filled_vector}
use Rattle.csv_edge.specs.declared.filling.Filling.{Filling}
use Rattle.csv_edge.specs.declared.filling.Filling.TheVariants.{Missing}
use Rattle.csv_edge.proofs.FillingFacts.{filled_twice, holds_vector, holds_sound}
use Rattle.header_names.proofs.NamesFacts.{column_names-apart, names_after-length}
use Rattle.dt_base.specs.declared.warns.Warns.{Warns}
use Rattle.dt_table.specs.Make.{refusal, limit_refusal}
use Rattle.dt_table.specs.Plain.{plain}
use Rattle.dt_table.specs.Table.{TableSeen, made}
use Rattle.na_vector.specs.Column.{Seen}
use Rattle.na_vector.specs.Frame.{FrameSeen, vectors_of}
use Rattle.run_model.specs.Csv.{Record, header_fault, rows_fault, fields_at, records_columns, records_table}
use Rattle.run_model.specs.Csv.{read_records}
use Rattle.run_model.specs.CsvCells.{fields_vector}
use Rattle.run_model.specs.CsvNames.{column_names, name_warns}

-- ---- the columns that were gathered

-- a vector that was written through its slice
pub written_back : (new items : List Filling) (n : ℕ) → length new ≡ n → take n (new ++ drop (length new) items) ≡ new
written_back new items n e = rw (← e) (take-append_seam new (drop (length new) items))

-- columns that were empty, and gained the fields of the records in both readings
pub gathered : (empty once twice : List Filling) (rows : List Record) → length once ≡ length empty
    → length twice ≡ length once
    → ((c : ℕ) (d : Filling) → c < length empty → get_or empty c d ≡ Missing 0)
    → ((c : ℕ) (d : Filling) → c < length empty → Gains false (get_or empty c d) (get_or once c d) (fields_at c rows))
    → ((c : ℕ) (d : Filling) → c < length once → Gains true (get_or once c d) (get_or twice c d) (fields_at c rows))
    → Gathered twice rows
gathered empty once twice rows same again start first second c d h =
    let within : c < length empty = omega arith in
    filled_twice (get_or empty c d) (get_or once c d) (get_or twice c d) (fields_at c rows) (start c d within)
    (first c d within) (second c d (omega arith))

pub gathered-length : (columns : List Filling) (rows : List Record) → Gathered columns rows → (c : ℕ) (d : Filling)
    → c < length columns
    → length (filled_vector (get_or columns c d)).cells ≡ length rows
gathered-length columns rows g c d h = rw
    (holds_vector (get_or columns c d) (fields_at c rows) (g c d h), length-map, length-map) refl

pub first_length-rows : (columns : List Filling) (rows : List Record) → Gathered columns rows → 0 < length columns
    → first_length columns ≡ length rows
first_length-rows [] rows g some = absurd (omega arith)
first_length-rows (x ∷ xs) rows g some = gathered-length (x ∷ xs) rows g 0 x (omega arith)

pub one_length : (columns : List Filling) (rows : List Record) → Gathered columns rows → 0 < length columns
    → All (λ column. length (filled_vector column).cells ≡ first_length columns) columns
one_length columns rows g some c d h = gathered-length columns rows g c d h
    ∙ sym (first_length-rows columns rows g some)

pub all_sound : (columns : List Filling) (rows : List Record) → Gathered columns rows → All IsSound columns
all_sound columns rows g c d h = holds_sound (get_or columns c d) (fields_at c rows) (g c d h)

-- and is the vector of these fields
vectors_from : (columns : List Filling) (a : ℕ) (rows : List Record)
    → ((c : ℕ) (d : Filling) → c < length columns
    → Holds (get_or columns c d) (fields_at (a + c) rows) (fields_at (a + c) rows))
    → map filled_vector columns ≡ map (λ c. fields_vector (fields_at c rows)) (range_with_len a (length columns))
vectors_from [] a rows g = refl
vectors_from (x ∷ xs) a rows g =
    let here : a + 0 ≡ a = omega arith in
    let first : filled_vector x ≡ fields_vector (fields_at a rows) =
    holds_vector x (fields_at a rows) (rw here at (g 0 x (omega arith))) in
    let later = vectors_from xs (a + 1) rows
    (λ c d h. let next : a + suc c ≡ (a + 1) + c = omega arith in rw next at (g (suc c) d (omega arith))) in
    rw (first, later) refl

pub gathered-vectors : (header : Record) (columns : List Filling) (rows : List Record) → length columns ≡ length header
    → Gathered columns rows
    → map filled_vector columns ≡ records_columns header rows
gathered-vectors header columns rows same g =
    rw (← same) (vectors_from columns 0 rows
    (λ c d h. let zero_more : 0 + c ≡ c = omega arith in rw zero_more (g c d h)))

-- a frame of these columns is as wide
pub frame_width : (frame : List Seen) (columns : List Filling) → vectors_of frame ≡ map filled_vector columns
    → length frame ≡ length columns
frame_width frame columns same = sym (length-map frame (λ c. c.vector))
    ∙ (ap length same ∙ length-map columns filled_vector)

-- ---- the table

-- a table of a header's names is not refused
pub never_refused : (header : Record) (frame : FrameSeen) → length header < 2 ^ 63 → frame.rows ≤ 16777216
    → frame.rows * length frame.columns ≤ 67108864 → length frame.columns ≤ 4096
    → refusal (column_names header) frame ≡ None
never_refused header frame small rows cells width =
    rw (column_names-apart header small) (limits frame.rows (length frame.columns) rows cells width)
  where
    limits : (r w : ℕ) → r ≤ 16777216 → r * w ≤ 67108864 → w ≤ 4096 → limit_refusal r w ≡ None
    limits r w a b c = grind (arith, common_steps)

pub not_refused : (names : List (List ℕ)) (header : Record) (frame : FrameSeen) → names ≡ column_names header
    → length frame.columns ≡ length header
    → length header ≤ 4096 → frame.rows ≤ 16777216 → frame.rows * length frame.columns ≤ 67108864
    → refusal names frame ≡ None
not_refused names header frame named wide columns rows cells =
    rw named (never_refused header frame (omega arith) rows cells (omega arith))

-- a file has as many columns as its header has fields
as_wide : (header : Record) (rows : List Record) → length (records_columns header rows) ≡ length header
as_wide header rows = length-map _ _ ∙ length-range_with_len 0 (length header)

-- the table of a frame under these names reads as the definition says
pub table_is : (header : Record) (rows : List Record) (frame : FrameSeen) (spare : ℕ)
    → vectors_of frame.columns ≡ records_columns header rows
    → frame.rows ≡ length rows → plain (made (column_names header) frame spare) ≡ records_table header rows
table_is header rows frame spare columns count =
    let wide : length (column_names header) ≡ length (records_columns header rows) =
    names_after-length header [] ∙ omega arith ∙ sym (as_wide header rows) in
    rw (columns, count, wide) refl

-- what reading answers where nothing is at fault
pub reads_as : (header : Record) (rows : List Record) (frame : FrameSeen) (spare : ℕ) (t : TableSeen) (w : Warns)
    → header_fault header ≡ None → rows_fault (length header) 0 rows ≡ None
    → t ≡ made (column_names header) frame spare → w ≡ name_warns header
    → vectors_of frame.columns ≡ records_columns header rows → frame.rows ≡ length rows
    → read_records (header ∷ rows) ≡ Ok (plain t, w)
reads_as header rows frame spare t w first rest is_made warned columns count =
    rw (first, rest, is_made, warned, table_is header rows frame spare columns count) refl
