-- How integers and truth values are spelled.
--   natural_of ds     the integer that digits alone spell, if they do and it is in the range
--   integer_of t      the integer that a text spells, if it does
--   truth_of t        the truth value that a text names when it is brought to a logical
--   field_truth t     the truth value that a field of a file names
--   truth_text b      TRUE or FALSE
-- The decimal text of an integer is std's `signed_decimal`.
use Rattle.std.specs.Prelude.{ℕ, ℤ, pos, neg_ℤ, ◌^◌, Bool, true, false, ◌&&◌, ◌==◌, nat_lt, List, [], ◌∷◌, length}
use Rattle.std.specs.Prelude.{Option, None, Some, option_map, if◌then◌else◌, codes}
use Rattle.std.specs.List.{list_any}
use Rattle.std.specs.Str.{all_ascii_digits, bytes_eq}
use Rattle.std.specs.Str.Parse.{digits_value}

-- there is a digit or more, and nothing else
abbrev pub is_numeral : List ℕ → Bool
is_numeral ds = nat_lt 0 (length ds) && all_ascii_digits ds

-- the number that decimal digits write, if they are a numeral and it is below 2^63
abbrev pub natural_of : List ℕ → Option ℕ
natural_of ds = if is_numeral ds && nat_lt (digits_value 10 ds) (2 ^ 63) then Some (digits_value 10 ds) else None

-- An integer is spelled by one or more decimal digits, with one sign or none before them. Leading
-- zeros are allowed, blanks are not. The range is -(2^63 - 1) to 2^63 - 1.
abbrev pub integer_of : List ℕ → Option ℤ
integer_of [] = None
integer_of (b ∷ rest) =
    if b == 45 then option_map (λ n. neg_ℤ (pos n)) (natural_of rest) else
    (if b == 43 then option_map pos (natural_of rest) else option_map pos (natural_of (b ∷ rest)))

-- the truth value that one of two lists of words names, if one has the text
abbrev pub named_in : List (List ℕ) → List (List ℕ) → List ℕ → Option Bool
named_in trues falses t =
    if list_any (bytes_eq t) trues then Some true else (if list_any (bytes_eq t) falses then Some false else None)

-- a text that is brought to a logical: eight words name a truth value
abbrev pub truth_of : List ℕ → Option Bool
truth_of = named_in
    (codes "T" ∷ codes "TRUE" ∷ codes "true" ∷ codes "True" ∷ [])
    (codes "F" ∷ codes "FALSE" ∷ codes "false" ∷ codes "False" ∷ [])

-- a field of a file: the same without the single letters
abbrev pub field_truth : List ℕ → Option Bool
field_truth = named_in
    (codes "TRUE" ∷ codes "true" ∷ codes "True" ∷ [])
    (codes "FALSE" ∷ codes "false" ∷ codes "False" ∷ [])

-- how a truth value is written
abbrev pub truth_text : Bool → List ℕ
truth_text true = codes "TRUE"
truth_text false = codes "FALSE"
