-- Which tokens a script is, and what its first fault is.
--   Cut                   a piece of a text, with its place and its length
--   Cuts s i xs j         the pieces xs are the text s from byte i to byte j
--   deeper n t            how many brackets are open behind the token t, where n are before it
--   joins t               no line feed behind the token t is a token
--   after b p             what stands before the piece that follows the piece p
--   begin                 what stands before the first piece
--   shown at t            the token t as the grammar sees it: ";" is a break
--   ends_line b           a line feed is a token there
--   token_of b at p       the token that the piece p is, if it is one
--   tokens_of b xs        the tokens that the pieces xs are
--   Spells s ts           the text s is the tokens ts and layout
--   IsFirstFault s f      the text s has the fault f before any other of its tokens' faults
--   mark, unmarked s      the byte order mark, and s without one at its start
--   too_deep n ts         the first of the tokens ts with which more than 64 brackets are open
--   AreTokens s ts        the script s is the tokens ts
--   HasFault s f          the script s has the fault f as its first
use Rattle.std.specs.Prelude.{◌≡◌, ℕ, ◌+◌, ◌-◌, ◌<◌, Bool, false, List, [], ◌∷◌, ◌++◌, length, drop, if◌then◌else◌, not}
use Rattle.std.specs.Prelude.{◌&&◌, ◌==◌, Option, Some, None, IsUtf8, nat_eq, nat_lt}
use Rattle.std.specs.List.{starts_with}
use Rattle.dt_tree.specs.declared.token.Place.{Place}
use Rattle.dt_tree.specs.declared.token.Sign.TheVariants as sign
use Rattle.dt_tree.specs.declared.token.Token.{Token}
use Rattle.dt_tree.specs.declared.token.Token.TheVariants.{Sign, Break}
use Rattle.dt_tree.specs.declared.token.Placed.{Placed}
use Rattle.dt_tree.specs.declared.pieces.Piece.{Piece}
use Rattle.dt_tree.specs.declared.pieces.Piece.TheVariants.{Layout, Feed, Spelled}
use Rattle.dt_tree.specs.declared.pieces.First.{First}
use Rattle.dt_tree.specs.declared.pieces.First.TheVariants.{Found, Bad, PastLimit}
use Rattle.dt_tree.specs.declared.pieces.Before.{Before}
use Rattle.dt_tree.specs.declared.fault.ScriptFault.{ScriptFault}
use Rattle.dt_tree.specs.declared.fault.ScriptFault.TheVariants.{NotUtf8, Syntax, Number, TooDeep}
use Rattle.run_model.specs.Places.{place_at}
use Rattle.run_model.specs.Signs.{goes_on}
use Rattle.run_model.specs.First.{first}

-- a piece of a text, with its place and its number of bytes
pub record Cut : Type 0 where
  pub at : Place
  pub piece : Piece
  pub len : ℕ

-- Each piece is the first of what is left where the one before it ends.
abbrev pub Cuts : List ℕ → ℕ → List Cut → ℕ → Type 0
Cuts s i [] j = i ≡ j
Cuts s i (x ∷ xs) j = (x.at ≡ place_at s i) × (first (drop i s) ≡ Found x.piece x.len) × Cuts s (i + x.len) xs j

-- The number of open brackets rises at "(" and "[", and falls at ")" and "]", not below 0.
abbrev pub deeper : ℕ → Token → ℕ
deeper n (Sign sign.Open) = n + 1
deeper n (Sign sign.OpenSquare) = n + 1
deeper n (Sign sign.Shut) = n - 1
deeper n (Sign sign.ShutSquare) = n - 1
deeper n _ = n

-- The token is a symbol behind which a statement goes on.
abbrev pub joins : Token → Bool
joins (Sign x) = goes_on x
joins _ = false

-- Layout and line feeds change neither the brackets nor the last token that is no line feed.
abbrev pub after : Before → Piece → Before
after b (Spelled t) = record { depth = deeper b.depth t; joins = joins t }
after b _ = b

-- no bracket, and no token
abbrev pub begin : Before
begin = record { depth = 0; joins = false }

-- A ";" is a break whose next token may stand on the same line.
abbrev pub shown : Place → Token → Token
shown at (Sign sign.Semi) = Break at.line
shown at t = t

-- A line feed is a token where no bracket is open and the token before it does not go on.
abbrev pub ends_line : Before → Bool
ends_line b = (b.depth == 0) && not b.joins

-- Layout is no token. A line feed is a break to the next line, or no token.
abbrev pub token_of : Before → Place → Piece → List Placed
token_of b at Layout = []
token_of b at Feed = if ends_line b then record { at = at; token = Break (at.line + 1) } ∷ [] else []
token_of b at (Spelled t) = record { at = at; token = shown at t } ∷ []

-- the tokens among the pieces, in order
abbrev pub tokens_of : Before → List Cut → List Placed
tokens_of b [] = []
tokens_of b (x ∷ xs) = token_of b x.at x.piece ++ tokens_of (after b x.piece) xs

-- Some pieces are the whole text, and their tokens are these.
pub record Spells (s : List ℕ) (ts : List Placed) : Type 0 where
  pub pieces : List Cut
  pub cut : Cuts s 0 pieces (length s)
  pub tokens : tokens_of begin pieces ≡ ts

-- the fault where at byte i of the text no piece begins
abbrev pub fault_of : List ℕ → ℕ → First → Option ScriptFault
fault_of s i (Bad k) = Some (Syntax (place_at s (i + k)))
fault_of s i PastLimit = Some (Number (place_at s i))
fault_of s i (Found piece len) = None

-- Some pieces are the text up to a byte where none begins, and the fault is the one there.
pub record IsFirstFault (s : List ℕ) (f : ScriptFault) : Type 0 where
  pub pieces : List Cut
  pub at : ℕ
  pub cut : Cuts s 0 pieces at
  pub within : at < length s
  pub fault : fault_of s at (first (drop at s)) ≡ Some f

-- the three bytes of a byte order mark
abbrev pub mark : List ℕ
mark = 239 ∷ 187 ∷ 191 ∷ []

-- One mark at the start is dropped, before bytes and lines are counted.
abbrev pub unmarked : List ℕ → List ℕ
unmarked s = if starts_with nat_eq s mark then drop 3 s else s

-- the place of the first token with which more than 64 brackets are open
abbrev pub too_deep : ℕ → List Placed → Option Place
too_deep n [] = None
too_deep n (x ∷ xs) = if nat_lt 64 (deeper n x.token) then Some x.at else too_deep (deeper n x.token) xs

-- The script is UTF-8, spells these tokens, and nests no deeper than the limit.
pub record AreTokens (script : List ℕ) (ts : List Placed) : Type 0 where
  pub utf8 : IsUtf8 script
  pub spelled : Spells (unmarked script) ts
  pub flat : too_deep 0 ts ≡ None

-- A script that is not UTF-8 has no other fault. A fault of its tokens comes before brackets that
-- nest too deep.
abbrev pub HasFault : List ℕ → ScriptFault → Type 0
HasFault script NotUtf8 = ¬ IsUtf8 script
HasFault script (TooDeep at) = IsUtf8 script × (ts : List Placed) × Spells (unmarked script) ts
    × (too_deep 0 ts ≡ Some at)
HasFault script f = IsUtf8 script × IsFirstFault (unmarked script) f
