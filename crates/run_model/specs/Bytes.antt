-- Bytes by class, and how far a class goes.
--   is_in c b      the byte b is in the class c
--   run p s        how many bytes at the front of s pass the test p, up to the first that fails
--   head_is p s    s has a first byte, and it passes the test p
use Rattle.std.specs.Prelude.{ℕ, ◌+◌, Bool, List, [], ◌∷◌, cond, false, not, ◌&&◌, ◌||◌, ◌==◌}
use Rattle.std.specs.Char.{is_ascii_digit, is_ascii_alphanumeric}
use Rattle.dt_tree.specs.declared.pieces.Class.{Class}
use Rattle.dt_tree.specs.declared.pieces.Class.TheVariants as class

-- A name goes on with letters and digits of ASCII, "." and "_". Blanks are the space, the tab and
-- the carriage return. A comment goes on with all but a line feed, and a name between backquotes
-- with all but a line feed and a backquote.
abbrev pub is_in : Class → ℕ → Bool
is_in class.Name b = is_ascii_alphanumeric b || ((b == 46) || (b == 95))
is_in class.Digit b = is_ascii_digit b
is_in class.Blank b = (b == 32) || ((b == 9) || (b == 13))
is_in class.Line b = not (b == 10)
is_in class.Quoted b = not (b == 10) && not (b == 96)

-- how many bytes at the front pass the test
abbrev pub run : (ℕ → Bool) → List ℕ → ℕ
run p [] = 0
run p (b ∷ bs) = cond (p b) (run p bs + 1) 0

-- there is a first byte, and it passes the test
abbrev pub head_is : (ℕ → Bool) → List ℕ → Bool
head_is p [] = false
head_is p (b ∷ bs) = p b
