-- Places in a text: a line, and a byte in the line, both counted from 1.
--   start             the place of the first byte
--   moved p b         the place behind a byte b that stands at p
--   moved_over p s    the place behind the bytes s, of which the first stands at p
--   place_at s i      the place of byte i of the text s, counted from 0
use Rattle.std.specs.Prelude.{ℕ, ◌+◌, List, [], ◌∷◌, cond, ◌==◌, take}
use Rattle.dt_tree.specs.declared.token.Place.{Place}

-- Behind a line feed the next line begins. Behind each other byte, be it a tab, a carriage return
-- or a part of a longer character, stands the next byte of the line.
abbrev pub moved : Place → ℕ → Place
moved p b = cond (b == 10) (record { line = p.line + 1; byte = 1 }) (record { line = p.line; byte = p.byte + 1 })

-- the place behind these bytes
abbrev pub moved_over : Place → List ℕ → Place
moved_over p [] = p
moved_over p (b ∷ bs) = moved_over (moved p b) bs

-- line 1, byte 1
abbrev pub start : Place
start = record { line = 1; byte = 1 }

-- the place behind all bytes before this one
abbrev pub place_at : List ℕ → ℕ → Place
place_at s i = moved_over start (take i s)
