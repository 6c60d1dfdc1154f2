-- What a writer over memory has written.
--   written w     the bytes that it has written
--   IsIdle w      it writes with csv's defaults, and stands between two records
use Rattle.std.specs.Prelude.{◌≡◌, ℕ, false, List, [], Some, IsSome, unwrap_or, Vec}
use Rattle.std.specs.Global.{Global}
use Rattle.csv.specs.Writing.{default_writer, writer_setup, fields_written, has_written, text_written}
use Rattle.csv.specs.declared.writer.Writer.{Writer}

-- the bytes that were written, those in the buffer too
abbrev pub written : Writer (Vec ℕ Global) → List ℕ
written w = unwrap_or (text_written (λ v. Some v.items) w) []

-- the next record begins here, and is written with csv's defaults
pub record IsIdle (w : Writer (Vec ℕ Global)) : Type 0 where
  pub known : IsSome (text_written (λ v. Some v.items) w)
  pub setup : writer_setup w ≡ default_writer
  pub fields : fields_written w ≡ 0
  pub blank : has_written w ≡ false
