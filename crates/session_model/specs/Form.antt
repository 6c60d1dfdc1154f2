-- What an expression is as written, where an argument wants a form and not a value.
--   literal_cell kind cell   the cell of a literal of this type
--   Form          a literal, the negative of an integer literal, `NULL`, `Inf` and `-Inf`, a bare name, `!` or
--                 `-` before a bare name, two bare names with an operator, a formula, or else
--   negative f    the integer that `-` before this form writes, if it is an integer literal
--   is_literal f  the form is a literal, with `-` before an integer allowed
--   flag_in f     the flag of a literal TRUE or FALSE
--   text_in f     the text of a text literal; NA is none
use Rattle.std.specs.Prelude.{ℤ, neg_ℤ, negsuc, ◌^◌, ◌-◌, Bool, true, false, cond, List, ℕ, Option, None, Some}
use Rattle.std.specs.Ordering.{int_eq}
use Rattle.dt_base.specs.declared.cell.Cell.{Cell}
use Rattle.dt_base.specs.declared.cell.Cell.TheVariants as is
use Rattle.dt_base.specs.declared.cell.ColType.{ColType}
use Rattle.dt_base.specs.declared.cell.ColType.TheVariants as ty
use Rattle.dt_base.specs.declared.operators.Op.{Op}

-- The cell of a literal. In a script each literal has a cell of its type. A tree that no script
-- spells may hold another, which counts as NA; so does -2^63, which no cell is.
abbrev pub literal_cell : ColType → Cell → Cell
literal_cell ty.Lgl (is.Lgl b) = is.Lgl b
literal_cell ty.Int (is.Int n) = cond (int_eq n (negsuc (2 ^ 63 - 1))) is.Na (is.Int n)
literal_cell ty.Chr (is.Text t) = is.Text t
literal_cell _ _ = is.Na

-- an expression as written
pub data Form : Type 0 where
  Literal : Cell → ColType → Form
  Negative : ℤ → Form
  NullWord : Form
  InfWord : Form
  BareName : List ℕ → Form
  NotName : List ℕ → Form
  MinusName : List ℕ → Form
  MinusInf : Form
  Compares : Op → List ℕ → List ℕ → Form
  Formula : List (List ℕ) → List (List ℕ) → Form
  Other : Form

-- what `-` before an integer literal writes
abbrev pub negative : Form → Option ℤ
negative (Literal (is.Int n) kind) = Some (neg_ℤ n)
negative _ = None

-- a literal, with `-` before an integer allowed
abbrev pub is_literal : Form → Bool
is_literal (Literal cell kind) = true
is_literal (Negative n) = true
is_literal NullWord = true
is_literal InfWord = true
is_literal _ = false

abbrev pub is_bare_name : Form → Bool
is_bare_name (BareName name) = true
is_bare_name _ = false

-- the text of a text literal; `NA_character_` has none
abbrev pub text_in : Form → Option (List ℕ)
text_in (Literal (is.Text t) kind) = Some t
text_in _ = None

-- TRUE or FALSE
abbrev pub flag_in : Form → Option Bool
flag_in (Literal (is.Lgl b) kind) = Some b
flag_in _ = None

-- the name of a bare name
abbrev pub name_in : Form → Option (List ℕ)
name_in (BareName name) = Some name
name_in _ = None
