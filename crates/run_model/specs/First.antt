-- What a text begins with: a piece and its length, or a fault.
--   word_of w             the literal that the word w is, or the name
--   word_at s             the name or literal that s begins with
--   quoted_at s           the name between backquotes that s begins with
--   value_after n ds      the number that the decimal digits ds write behind the number n
--   spoils_number b       an integer may not stand right before the byte b
--   digits_len s          how many digits s begins with
--   number_len s          the same with the L behind them
--   number_at s           the integer that s begins with
--   text_len q e s        how many bytes of s stand before the quote q that ends a text
--   escape b              what a backslash and b stand for
--   meaning e s           what the bytes s between two quotes stand for, or where a fault is
--   text_at s             the text between quotes that s begins with
--   signed x              the piece of the symbol x, if there is one
--   start_of s            what the first byte of s begins
--   first_by k s          what s begins with, where its first byte begins k
--   first s               what s begins with
--   IsWithin n f          a piece has a byte or more and at most n, and a fault is among n bytes
use Rattle.std.specs.Prelude.{ℕ, ◌+◌, ◌-◌, ◌*◌, ◌^◌, ◌<◌, ◌≤◌, Bool, true, false, List, [], ◌∷◌, length, take, drop}
use Rattle.std.specs.Prelude.{cond, if◌then◌else◌, not, ◌&&◌, ◌||◌, ◌==◌, nat_lt, Option, Some, None, Result, Ok, Err}
use Rattle.std.specs.Prelude.{codes, pos, bytes_eq, option_map, slice_index}
use Rattle.std.specs.Char.{is_ascii_digit, is_ascii_alphabetic}
use Rattle.dt_tree.specs.declared.token.Token.{Token}
use Rattle.dt_tree.specs.declared.token.Token.TheVariants.{Name, Word, Int, Chr, Sign}
use Rattle.dt_tree.specs.declared.pieces.Piece.TheVariants.{Layout, Feed, Spelled}
use Rattle.dt_tree.specs.declared.pieces.First.{First}
use Rattle.dt_tree.specs.declared.pieces.First.TheVariants.{Found, Bad, PastLimit}
use Rattle.dt_tree.specs.declared.token.Literal.TheVariants as literal
use Rattle.dt_tree.specs.declared.pieces.Start.{Start}
use Rattle.dt_tree.specs.declared.pieces.Start.TheVariants as begins
use Rattle.dt_tree.specs.declared.pieces.Class.TheVariants as class
use Rattle.dt_tree.specs.declared.token.Sign.{Sign as AnySign}
use Rattle.run_model.specs.Bytes.{is_in, run, head_is}
use Rattle.run_model.specs.Signs.{sign_at, spelled}

-- Seven words are literals, and each other word is a name.
abbrev pub word_of : List ℕ → Token
word_of w =
    if bytes_eq w (codes "TRUE") then Word literal.True
    else (if bytes_eq w (codes "FALSE") then Word literal.False
    else (if bytes_eq w (codes "NA") then Word literal.Na
    else (if bytes_eq w (codes "NA_integer_") then Word literal.NaInt
    else (if bytes_eq w (codes "NA_character_") then Word literal.NaChr
    else (if bytes_eq w (codes "NULL") then Word literal.Null
    else (if bytes_eq w (codes "Inf") then Word literal.Infinite
    else Name w))))))

-- a word: its first byte, and those that it goes on with
abbrev pub word_at : List ℕ → First
word_at s = let n = 1 + run (is_in class.Name) (drop 1 s) in Found (Spelled (word_of (take n s))) n

-- A name between backquotes is not empty and has no line feed and no backquote. It is no literal,
-- whatever its bytes are. Where none is, the first backquote is a bad character.
abbrev pub quoted_at : List ℕ → First
quoted_at s =
    let n = 1 + run (is_in class.Quoted) (drop 1 s) in
    if (n == 1) || not (head_is (λ b. b == 96) (drop n s)) then Bad 0
    else Found (Spelled (Name (take (n - 1) (drop 1 s)))) (n + 1)

-- Each digit is worth its distance from "0", and ten times what stands before it is added.
abbrev pub value_after : ℕ → List ℕ → ℕ
value_after n [] = n
value_after n (d ∷ ds) = value_after (10 * n + (d - 48)) ds

-- a letter of ASCII, "." or "_"
abbrev pub spoils_number : ℕ → Bool
spoils_number b = is_ascii_alphabetic b || ((b == 46) || (b == 95))

-- the first digit, and those that follow it
abbrev pub digits_len : List ℕ → ℕ
digits_len s = 1 + run (is_in class.Digit) (drop 1 s)

-- the digits, and an "L" where one follows
abbrev pub number_len : List ℕ → ℕ
number_len s = let n = digits_len s in n + cond (head_is (λ b. b == 76) (drop n s)) 1 0

-- An integer is digits, with an "L" or without. What spoils it is looked at before its value, which
-- is below 2^63.
abbrev pub number_at : List ℕ → First
number_at s =
    let value = value_after 0 (take (digits_len s) s) in
    if head_is spoils_number (drop (number_len s) s) then Bad 0
    else (if nat_lt value (2 ^ 63) then Found (Spelled (Int (pos value))) (number_len s) else PastLimit)

-- one more, if there is a number
abbrev pub ahead : Option ℕ → Option ℕ
ahead = option_map (λ n. n + 1)

-- A text ends at the first quote that stands behind no backslash of an escape. The second argument
-- says that the bytes begin behind such a backslash.
abbrev pub text_len : ℕ → Bool → List ℕ → Option ℕ
text_len quote escaped [] = None
text_len quote escaped (b ∷ bs) =
    if not escaped && (b == quote) then Some 0
    else ahead (text_len quote (not escaped && (b == 92)) bs)

-- "n" stands for a line feed, "t" for a tab, "r" for a carriage return, and a backslash and the two
-- quotes for themselves.
abbrev pub escape : ℕ → Option ℕ
escape b =
    if b == 110 then Some 10
    else (if b == 116 then Some 9
    else (if b == 114 then Some 13
    else (if (b == 92) || ((b == 34) || (b == 39)) then Some b
    else None)))

-- an escape, and what the bytes behind it stand for
abbrev pub onto : Option ℕ → Result (List ℕ) ℕ → Result (List ℕ) ℕ
onto None rest = Err 0
onto (Some b) (Ok bs) = Ok (b ∷ bs)
onto (Some b) (Err n) = Err (n + 2)

-- a byte that stands for itself, and what the bytes behind it stand for
abbrev pub plain : ℕ → Result (List ℕ) ℕ → Result (List ℕ) ℕ
plain b (Ok bs) = Ok (b ∷ bs)
plain b (Err n) = Err (n + 1)

-- What bytes between quotes stand for, or how many stand before the backslash of the first bad
-- escape. The first argument says that the bytes begin behind a backslash.
abbrev pub meaning : Bool → List ℕ → Result (List ℕ) ℕ
meaning escaped [] = Ok []
meaning true (b ∷ bs) = onto (escape b) (meaning false bs)
meaning false (b ∷ bs) = if b == 92 then meaning true bs else plain b (meaning false bs)

-- the piece of a text with so many bytes between its quotes, or the fault at a bad escape
abbrev pub text_of : ℕ → Result (List ℕ) ℕ → First
text_of n (Ok bs) = Found (Spelled (Chr bs)) (n + 2)
text_of n (Err k) = Bad (k + 1)

-- A text without an end is a fault at its first byte, whatever escapes it has.
abbrev pub closed_text : List ℕ → Option ℕ → First
closed_text s None = Bad 0
closed_text s (Some n) = text_of n (meaning false (take n (drop 1 s)))

-- A text stands between two of the quotes that it begins with. `TextsAreBodies` gives its grammar.
abbrev pub text_at : List ℕ → First
text_at s = closed_text s (text_len (slice_index s 0) false (drop 1 s))

-- a symbol, or a bad character
abbrev pub signed : Option AnySign → First
signed None = Bad 0
signed (Some x) = Found (Spelled (Sign x)) (length (spelled x))

-- A letter of ASCII begins a word, and so does a "." before no digit. The rest is told by the byte
-- alone. What begins nothing else begins a symbol, if anything.
abbrev pub start_of : List ℕ → Start
start_of [] = begins.Sign
start_of (b ∷ bs) =
    if is_ascii_alphabetic b || ((b == 46) && not (head_is is_ascii_digit bs)) then begins.Word
    else (if is_ascii_digit b then begins.Number
    else (if (b == 34) || (b == 39) then begins.Text
    else (if b == 96 then begins.Quoted
    else (if b == 35 then begins.Comment
    else (if b == 10 then begins.Feed
    else (if is_in class.Blank b then begins.Blank
    else begins.Sign))))))

-- A comment goes on to the end of its line, and blanks as long as there are more. A line feed is
-- a piece of its own.
abbrev pub first_by : Start → List ℕ → First
first_by begins.Word s = word_at s
first_by begins.Number s = number_at s
first_by begins.Text s = text_at s
first_by begins.Quoted s = quoted_at s
first_by begins.Comment s = Found Layout (1 + run (is_in class.Line) (drop 1 s))
first_by begins.Feed s = Found Feed 1
first_by begins.Blank s = Found Layout (1 + run (is_in class.Blank) (drop 1 s))
first_by begins.Sign s = signed (sign_at s)

-- what a text begins with
abbrev pub first : List ℕ → First
first s = first_by (start_of s) s

-- The piece, or the place of the fault, lies in a text of n bytes.
abbrev pub IsWithin : ℕ → First → Type 0
IsWithin n (Found piece len) = (0 < len) × (len ≤ n)
IsWithin n (Bad offset) = offset < n
IsWithin n PastLimit = Unit {0}
