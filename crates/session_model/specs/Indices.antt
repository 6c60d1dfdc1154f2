-- The indices of a table, by the names of their columns.
--   has_index names t      the table has an index of these columns
--   with_index names t     an index of these columns stands behind the others
--   begins_with c t        the key, or an index, begins with this column
--   joined names           the names of an index as one text, with `__` between them
use Rattle.std.specs.Prelude.{ℕ, Bool, true, false, ◌&&◌, ◌||◌, List, [], ◌∷◌, ◌++◌, codes}
use Rattle.std.specs.List.{list_any}
use Rattle.std.specs.Str.{bytes_eq}
use Rattle.dt_model.specs.Table.{PlainTable}

-- the same names in the same order
abbrev pub same_names : List (List ℕ) → List (List ℕ) → Bool
same_names [] [] = true
same_names (a ∷ rest) (b ∷ more) = bytes_eq a b && same_names rest more
same_names _ _ = false

abbrev pub has_index : List (List ℕ) → PlainTable → Bool
has_index names t = list_any (same_names names) t.indices

abbrev pub with_index : List (List ℕ) → PlainTable → PlainTable
with_index names t = record t { indices = t.indices ++ names ∷ [] }

abbrev pub is_first : List ℕ → List (List ℕ) → Bool
is_first c [] = false
is_first c (name ∷ rest) = bytes_eq c name

abbrev pub begins_with : List ℕ → PlainTable → Bool
begins_with c t = is_first c t.key || list_any (is_first c) t.indices

-- each of these names with `__` before it
abbrev pub behind : List (List ℕ) → List ℕ
behind [] = []
behind (name ∷ rest) = codes "__" ++ (name ++ behind rest)

abbrev pub joined : List (List ℕ) → List ℕ
joined [] = []
joined (name ∷ rest) = name ++ behind rest
