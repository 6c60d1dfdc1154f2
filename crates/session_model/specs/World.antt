-- What files and sinks hold before and after a statement, where they tell it.
--   World             the files, the output, the error output; none for one that tells nothing
--   Pieces            what goes outside: text, a file with its bytes, and lines
--   pieces_of n e     what an effect of the statement on line n sends outside
--   fault_pieces n f  what a fault on line n sends outside: its line
--   after w p         the world after all of it
--   Parted w p now    the world after a first part of it: of the text, then the file, then the lines
--   look files        the file of a name, where files are told
use Rattle.std.specs.Prelude.{◌≡◌, ℕ, List, [], Option, None, Some}
use Rattle.std.specs.FinMap as finite
use Rattle.dt_base.specs.declared.fault.Fault.{Fault}
use Rattle.dt_world.specs.Told.{FileMap, wrote, appended, AppendedPart, WrotePart}
use Rattle.run_model.specs.Messages.{printed_fault, printed_warns}
use Rattle.session_model.specs.Effect.{Effect}
use Rattle.session_model.specs.Value.{Look}

-- what the outside holds, where it tells
pub record World : Type 0 where
  pub files : Option FileMap
  pub out : Option (List ℕ)
  pub err : Option (List ℕ)

abbrev pub world : Option FileMap → Option (List ℕ) → Option (List ℕ) → World
world f o e = record { files = f; out = o; err = e }

-- the file of a name; where nothing is told there is none to name
abbrev pub look : Option FileMap → Look
look None name = None
look (Some m) name = finite.get m name

-- text for the output, a file with its bytes, and lines for the error output
pub record Pieces : Type 0 where
  pub text : List ℕ
  pub file : Option (List ℕ × List ℕ)
  pub lines : List ℕ

-- an effect's text and file, and the lines of its warnings
abbrev pub pieces_of : ℕ → Effect → Pieces
pieces_of line e = record { text = e.text; file = e.file; lines = printed_warns line e.warns }

-- a fault's line, and nothing else
abbrev pub fault_pieces : ℕ → Fault → Pieces
fault_pieces line f = record { text = []; file = None; lines = printed_fault line f }

-- the files after one was written, if one is
abbrev pub filed : Option FileMap → Option (List ℕ × List ℕ) → Option FileMap
filed held None = held
filed held (Some file) = wrote held file.0 file.1

-- the world after all of it
abbrev pub after : World → Pieces → World
after w p = record { files = filed w.files p.file; out = appended w.out p.text; err = appended w.err p.lines }

-- the one file is as before, or holds a first part of its bytes
abbrev pub FiledPart : Option FileMap → Option FileMap → Option (List ℕ × List ℕ) → Type 0
FiledPart held now None = now ≡ held
FiledPart held now (Some file) = WrotePart held now file.0 file.1

-- The world after a first part of it. The text goes first, then the file, then the lines: one that was
-- begun has all of those before it, and nothing of those behind it.
pub data Parted (w : World) (p : Pieces) (now : World) : Type 0 where
  in_text : AppendedPart w.out now.out p.text → now.files ≡ w.files → now.err ≡ w.err → Parted w p now
  in_file : now.out ≡ appended w.out p.text → FiledPart w.files now.files p.file → now.err ≡ w.err → Parted w p now
  in_lines : now.out ≡ appended w.out p.text → now.files ≡ filed w.files p.file → AppendedPart w.err now.err p.lines
      → Parted w p now
