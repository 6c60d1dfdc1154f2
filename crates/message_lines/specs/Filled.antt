-- The words of a code, with what their marks stand for.
--   source_text n           what is not UTF-8: the script, or a record
--   filling what n m b      what the byte b stands for in a fault of this name and these numbers
--   filled what n m words   the words of a code, filled
use Rattle.std.specs.Prelude.{ℕ, ◌==◌, if◌then◌else◌, List, [], ◌∷◌, ◌++◌, codes, decimal}
use Rattle.std.specs.List.{flat_map}
use Rattle.run_model.specs.Messages.{group_text}

-- what is not UTF-8: a record of a file, counted from 1, or the script, which has number 0
abbrev pub source_text : ℕ → List ℕ
source_text n = if n == 0 then codes "the script" else codes "record " ++ decimal n

-- The marks: "$" stands for the name, "#" and "&" for the numbers, "@" for the place in a grouped
-- query, and "~" for what is not UTF-8. Any other byte stands for itself.
abbrev pub filling : List ℕ → ℕ → ℕ → ℕ → List ℕ
filling what n m byte =
    if byte == 36 then what
    else if byte == 35 then decimal n
    else if byte == 38 then decimal m
    else if byte == 64 then group_text n m
    else if byte == 126 then source_text n
    else byte ∷ []

-- the words of a code, each byte with what it stands for
abbrev pub filled : List ℕ → ℕ → ℕ → List ℕ → List ℕ
filled what n m words = flat_map (filling what n m) words
