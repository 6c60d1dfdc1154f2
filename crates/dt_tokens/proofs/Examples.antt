-- Worked examples of the definitions: what texts begin with, places, and the tokens of a script.
use Rattle.std.proofs.Common.{◌≡◌, ℕ, [], ◌∷◌, refl, codes, pos, Some, None, arith}
use Rattle.dt_tree.specs.declared.token.Token.TheVariants.{Name, Word, Int, Chr, Sign}
use Rattle.dt_tree.specs.declared.pieces.Piece.TheVariants.{Spelled}
use Rattle.dt_tree.specs.declared.pieces.First.TheVariants.{Found, Bad, PastLimit}
use Rattle.dt_tree.specs.declared.token.Literal.TheVariants as literal
use Rattle.dt_tree.specs.declared.token.Sign.TheVariants as sign
use Rattle.dt_tree.specs.declared.pieces.Piece.TheVariants.{Layout, Feed}
use Rattle.dt_tree.specs.declared.pieces.Piece.{Piece}
use Rattle.dt_tree.specs.declared.token.Token.{Token}
use Rattle.dt_tree.specs.declared.token.Placed.{Placed}
use Rattle.dt_tree.specs.declared.fault.ScriptFault.TheVariants.{Syntax}
use Rattle.dt_tree.specs.declared.token.Token.TheVariants.{Break}
use Rattle.run_model.specs.First.{first}
use Rattle.run_model.specs.Places.{place_at}
use Rattle.run_model.specs.Tokens.{Cut, Spells, IsFirstFault, too_deep, unmarked}

abbrev piece : ℕ → ℕ → Piece → ℕ → Cut
piece line byte p len = record { at = record { line = line; byte = byte }; piece = p; len = len }

abbrev token : ℕ → ℕ → Token → Placed
token line byte t = record { at = record { line = line; byte = byte }; token = t }

name_first : first (codes "is.na(x)") ≡ Found (Spelled (Name (codes "is.na"))) 5
name_first = refl

literal_first : first (codes "NA_integer_ ") ≡ Found (Spelled (Word literal.NaInt)) 11
literal_first = refl

dot_digit : first (codes ".5") ≡ Bad 0
dot_digit = refl

spoiled_number : first (codes "99999999999999999999x") ≡ Bad 0
spoiled_number = refl

big_number : first (codes "9223372036854775808") ≡ PastLimit
big_number = refl

largest : first (codes "9223372036854775807L)") ≡ Found (Spelled (Int (pos 9223372036854775807))) 20
largest = refl

longest : first (codes "<=3") ≡ Found (Spelled (Sign sign.Le)) 2
longest = refl

percent : first (codes "%i") ≡ Bad 0
percent = refl

text : first (codes "'a\\n\"' b") ≡ Found (Spelled (Chr (97 ∷ 10 ∷ 34 ∷ []))) 6
text = refl

bad_escape : first (codes "'a\\q' b") ≡ Bad 2
bad_escape = refl

unclosed : first (codes "'a\\q b") ≡ Bad 0
unclosed = refl

-- a name between backquotes is no literal, and an empty one is a fault
quoted_name : first (codes "`TRUE` x") ≡ Found (Spelled (Name (codes "TRUE"))) 6
quoted_name = refl

empty_name : first (codes "`` x") ≡ Bad 0
empty_name = refl

-- behind the line feed stands line 2, and the tab is a byte of it
tab_place : place_at (97 ∷ 10 ∷ 9 ∷ 98 ∷ []) 3 ≡ record { line = 2; byte = 2 }
tab_place = refl

-- one byte order mark is dropped
one_mark : unmarked (239 ∷ 187 ∷ 191 ∷ 239 ∷ 187 ∷ 191 ∷ []) ≡ 239 ∷ 187 ∷ 191 ∷ []
one_mark = refl

-- "a<-" and "b" on the next line: the line feed behind the arrow is no token
goes_on_over_line : Spells (97 ∷ 60 ∷ 45 ∷ 10 ∷ 98 ∷ 10 ∷ [])
    (token 1 1 (Name (97 ∷ [])) ∷ token 1 2 (Sign sign.Arrow) ∷ token 2 1 (Name (98 ∷ [])) ∷ token 2 2 (Break 3) ∷ [])
goes_on_over_line = record {
  pieces =
      piece 1 1 (Spelled (Name (97 ∷ []))) 1 ∷
      piece 1 2 (Spelled (Sign sign.Arrow)) 2 ∷
      piece 1 4 Feed 1 ∷
      piece 2 1 (Spelled (Name (98 ∷ []))) 1 ∷
      piece 2 2 Feed 1 ∷ [];
  cut = (refl, refl, (refl, refl, (refl, refl, (refl, refl, (refl, refl, refl)))));
  tokens = refl;
}

-- "x <- 1.5": the form of the number is bad at its first byte
bad_form : IsFirstFault (codes "x <- 1.5") (Syntax (record { line = 1; byte = 6 }))
bad_form = record {
  pieces =
      piece 1 1 (Spelled (Name (codes "x"))) 1 ∷
      piece 1 2 Layout 1 ∷
      piece 1 3 (Spelled (Sign sign.Arrow)) 2 ∷
      piece 1 5 Layout 1 ∷ [];
  at = 5;
  cut = (refl, refl, (refl, refl, (refl, refl, (refl, refl, refl))));
  within = omega arith;
  fault = refl;
}

-- the 65th open bracket is one too many
deep : too_deep 64 (token 1 65 (Sign sign.Open) ∷ []) ≡ Some (record { line = 1; byte = 65 })
deep = refl

flat : too_deep 63 (token 1 64 (Sign sign.OpenSquare) ∷ []) ≡ None
flat = refl
