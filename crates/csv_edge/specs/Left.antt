-- What a reader of a text has left.
--   unread reader    the bytes that are not read
--   left reader      the records that are not read
--   IsOpen reader    the reader reads plain records with csv's defaults, and stands between two of them
use Rattle.std.specs.Prelude.{◌≡◌, ◌+◌, ℕ, false, List, [], length, Option, Some, IsSome, unwrap_or}
use Rattle.std.specs.Borrow.{Bor}
use Rattle.csv.specs.Machine.{ends_at_end}
use Rattle.csv.specs.Reading.{Ready, default_config, source_of, records_from, reader_config, reader_state, reader_trim}
use Rattle.csv.specs.declared.reader.Reader.{Reader}
use Rattle.csv.specs.declared.reader.Trim.TheVariants as trim
use Rattle.run_model.specs.Csv.{Record}

-- the bytes that are not read, if the reader has not failed
abbrev pub unread : Reader (Bor (List ℕ)) → Option (List ℕ)
unread reader = source_of (λ text. Some text.now) reader

-- the records that are not read
abbrev pub left : Reader (Bor (List ℕ)) → List Record
left reader =
    records_from default_config (length (unwrap_or (unread reader) []) + 1) (reader_state reader)
    (unwrap_or (unread reader) [])

-- the next read is of one record with csv's defaults, from a place between two records
pub record IsOpen (reader : Reader (Bor (List ℕ))) : Type 0 where
  pub plain : reader_trim reader ≡ trim.None
  pub ready : Ready reader
  pub config : reader_config reader ≡ default_config
  pub known : IsSome (unread reader)
  pub between : ends_at_end (reader_state reader) ≡ false
