-- What puts and writes do to what stands outside.
--   IsPut old now piece r      a put of this piece on a sink, which answers r
--   IsFiled old now file r     a write of this file, if there is one
--   IsSent w v p r             the text, the file and the lines of p, one after another
use Rattle.std.specs.Prelude.{◌≡◌, ◌≤◌, ℕ, List, Option, Result, OnOk, OnErr, IsErrOf, alloc_error}
use Rattle.dt_world.specs.Causes.{Rose}
use Rattle.dt_world.specs.Told.{appended, AppendedPart}
use Rattle.dt_world.specs.declared.traits.WriteFail.{WriteFail}
use Rattle.dt_world.specs.declared.traits.WriteFail.TheVariants.{Failed, NoMemory}
use Rattle.session_model.specs.World.{Pieces, FiledPart, Parted, after, filed}
use Rattle.file_value.specs.Reads.{FilesSeen}
use Rattle.dt_session.specs.Outside.{Outside, SinkSeen, world_of, ReadsStand, WriteRose, WritesStand, NoneFell}

-- done, or why not
abbrev pub Sent : Type 0
Sent = Result (Unit {0}) WriteFail

-- One piece is put at once; a first part of it where that fails, and nothing where memory is wanting.
pub record IsPut (old now : SinkSeen) (piece : List ℕ) (r : Sent) : Type 0 where
  pub ok : OnOk r (now.bytes ≡ appended old.bytes piece)
  pub part : OnErr r (AppendedPart old.bytes now.bytes piece)
  pub failed : IsErrOf r Failed → Rose old.faults now.faults
  pub no_memory : IsErrOf r (NoMemory alloc_error) → now.bytes ≡ old.bytes
  pub ok_quiet : OnOk r (now.faults ≡ old.faults)
  pub no_memory_quiet : IsErrOf r (NoMemory alloc_error) → now.faults ≡ old.faults
  pub faults : old.faults ≤ now.faults

-- The file was written; it is as before or has a first part of its bytes where that fails.
pub record IsFiled (old now : FilesSeen) (file : Option (List ℕ × List ℕ)) (r : Sent) : Type 0 where
  pub ok : OnOk r (now.held ≡ filed old.held file)
  pub part : OnErr r (FiledPart old.held now.held file)
  pub failed : IsErrOf r Failed → Rose old.write_faults now.write_faults
  pub ok_quiet : OnOk r (now.write_faults ≡ old.write_faults)
  pub no_memory_quiet : IsErrOf r (NoMemory alloc_error) → now.write_faults ≡ old.write_faults
  pub write_faults : old.write_faults ≤ now.write_faults
  pub read_faults : now.read_faults ≡ old.read_faults
  pub misses : now.misses ≡ old.misses
  pub longs : now.longs ≡ old.longs

-- The pieces were sent: all of them, or where one failed or memory was wanting a first part.
pub record IsSent (w v : Outside) (p : Pieces) (r : Sent) : Type 0 where
  pub ok : OnOk r (world_of v ≡ after (world_of w) p)
  pub part : OnErr r (Parted (world_of w) p (world_of v))
  -- a failure comes only where one was counted
  pub failed : IsErrOf r Failed → WriteRose w v
  -- and no other answer counts one
  pub ok_quiet : OnOk r (WritesStand w v)
  pub no_memory_quiet : IsErrOf r (NoMemory alloc_error) → WritesStand w v
  -- the lines were put, whether or not the files tell
  pub lines : OnOk r (v.err.bytes ≡ appended w.err.bytes p.lines)
  pub none_fell : NoneFell w v
  -- nothing was read
  pub read_faults : ReadsStand w v
  pub misses : v.files.misses ≡ w.files.misses
  pub longs : v.files.longs ≡ w.files.longs
