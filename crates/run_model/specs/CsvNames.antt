-- The names that the header of a CSV file gives to the columns.
--   base_name p h         the name of header h at place p, counted from 1, before it is made new
--   is_among n names      the name is one of these
--   numbered n k          the name n with the number k behind it
--   least_new names n     the least k from 1 on that makes the name new among these
--   new_name names n      the name, with a number where it stands already
--   column_names hs       the names of all columns
--   name_warns hs         the warning where a name is not its header
use Rattle.std.specs.Prelude.{ℕ, ◌+◌, ◌++◌, Bool, not, List, [], ◌∷◌, length, find, unwrap_or, if◌then◌else◌, decimal}
use Rattle.std.specs.List.{list_any, range_with_len}
use Rattle.std.specs.Str.{bytes_eq}
use Rattle.std.specs.Cmp.Lexicographic.{pointwise}
use Rattle.dt_base.specs.declared.warns.Warns.{Warns}
use Rattle.dt_base.specs.declared.warns.Warn.TheVariants.{W06}
use Rattle.dt_base.specs.Warns.{no_warns, with_warn}

-- an empty header at place p is named V and the place
abbrev pub base_name : ℕ → List ℕ → List ℕ
base_name p [] = 86 ∷ decimal p
base_name p (b ∷ rest) = b ∷ rest

-- the name is one of these
abbrev pub is_among : List ℕ → List (List ℕ) → Bool
is_among n names = list_any (bytes_eq n) names

-- a name, a full stop and a number
abbrev pub numbered : List ℕ → ℕ → List ℕ
numbered n k = n ++ 46 ∷ decimal k

-- The least number from 1 on that makes the name new. Of so many names, one number up to their
-- count and one does, so the search always finds it.
abbrev pub least_new : List (List ℕ) → List ℕ → ℕ
least_new names n =
    unwrap_or (find (λ k. not (is_among (numbered n k) names)) (range_with_len 1 (length names + 1))) 0

-- a name that stands already gets the least number that makes it new
abbrev pub new_name : List (List ℕ) → List ℕ → List ℕ
new_name names n = if is_among n names then numbered n (least_new names n) else n

-- the names of the headers from left to right, behind those that stand already
abbrev pub names_after : List (List ℕ) → List (List ℕ) → List (List ℕ)
names_after names [] = names
names_after names (h ∷ hs) = names_after (names ++ new_name names (base_name (length names + 1) h) ∷ []) hs

-- the names of all columns
abbrev pub column_names : List (List ℕ) → List (List ℕ)
column_names hs = names_after [] hs

-- W06 where a name is not its header
abbrev pub name_warns : List (List ℕ) → Warns
name_warns hs = if pointwise bytes_eq (column_names hs) hs then no_warns else with_warn no_warns W06
