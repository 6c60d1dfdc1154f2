-- What stands outside of a session, as contracts see it before and after a call.
--   SinkSeen            what was put on a sink, where it tells it, and how many puts failed
--   sink_seen ..        the same of a sink of any kind
--   Outside             the files and the two outputs: what they tell, and their counts
--   outside f o e       the same, of its three parts
--   world_of w          what they hold, where they tell
--   Tells w             the files tell what they hold
--   ReadRose w v        a failed read was counted between w and v
--   WriteRose w v       a failed put or write was
--   MissRose w v        a read that found no file was
--   LongRose w v        a read that found one that is too long was
--   ReadsStand w v      the count of failed reads stands
--   WritesStand w v     the three counts of failed puts and writes stand
--   NoneFell w v        no count fell
--   StaysTold w v       the files tell what they hold as they did
use Rattle.std.specs.Prelude.{◌≡◌, ◌≤◌, ◌⊎◌, ℕ, List, Option, IsSome, IsNone}
use Rattle.dt_world.specs.Causes.{Rose}
use Rattle.session_model.specs.World.{World, world}
use Rattle.file_value.specs.Reads.{FilesSeen}

-- what was put, where it is told, and how many puts failed
pub record SinkSeen : Type 0 where
  pub bytes : Option (List ℕ)
  pub faults : ℕ

-- the same of a sink of any kind, by what its trait tells of it
abbrev pub sink_seen : {S : Type 0} → (S → Option (List ℕ)) → (S → ℕ) → S → SinkSeen
sink_seen bytes faults sink = record { bytes = bytes sink; faults = faults sink }

-- the files and the two outputs
pub record Outside : Type 0 where
  pub files : FilesSeen
  pub out : SinkSeen
  pub err : SinkSeen

abbrev pub outside : FilesSeen → SinkSeen → SinkSeen → Outside
outside files out err = record { files = files; out = out; err = err }

-- what they hold, where they tell
abbrev pub world_of : Outside → World
world_of w = world w.files.held w.out.bytes w.err.bytes

-- the files tell what they hold
abbrev pub Tells : Outside → Type 0
Tells w = IsSome w.files.held

-- ---- What was counted between one and the other

abbrev pub ReadRose : Outside → Outside → Type 0
ReadRose w v = Rose w.files.read_faults v.files.read_faults

abbrev pub WriteRose : Outside → Outside → Type 0
WriteRose w v =
    Rose w.out.faults v.out.faults ⊎ (Rose w.err.faults v.err.faults ⊎ Rose w.files.write_faults v.files.write_faults)

abbrev pub MissRose : Outside → Outside → Type 0
MissRose w v = Rose w.files.misses v.files.misses

abbrev pub LongRose : Outside → Outside → Type 0
LongRose w v = Rose w.files.longs v.files.longs

-- ---- What was not

-- no failed read was counted
abbrev pub ReadsStand : Outside → Outside → Type 0
ReadsStand w v = v.files.read_faults ≡ w.files.read_faults

-- no failed put or write was counted
abbrev pub WritesStand : Outside → Outside → Type 0
WritesStand w v =
    (v.out.faults ≡ w.out.faults) × (v.err.faults ≡ w.err.faults) × (v.files.write_faults ≡ w.files.write_faults)

-- no count is less than it was
pub record NoneFell (w v : Outside) : Type 0 where
  pub out : w.out.faults ≤ v.out.faults
  pub err : w.err.faults ≤ v.err.faults
  pub write_faults : w.files.write_faults ≤ v.files.write_faults
  pub read_faults : w.files.read_faults ≤ v.files.read_faults
  pub misses : w.files.misses ≤ v.files.misses
  pub longs : w.files.longs ≤ v.files.longs

-- the files tell what they hold exactly where they did
pub record StaysTold (w v : Outside) : Type 0 where
  pub told : IsSome w.files.held → IsSome v.files.held
  pub untold : IsNone w.files.held → IsNone v.files.held
