-- The parts name the columns of their targets.
use Rattle.std.proofs.Common.{◌≡◌, ℕ, List, [], ◌∷◌, length, map, All, None, Some, Option, true, false, is_some, refl, sym, ap}
use Rattle.std.proofs.Common.{◌∙◌}
use Rattle.std.specs.Str.{bytes_eq}
use Rattle.std.proofs.lemmas.List.Elements.{All-head, All-tail}
use Rattle.dt_model.specs.Table.{name_at, place_of}
use Rattle.dt_model.specs.Vector.{Vector}
use Rattle.dt_table.specs.Change.{part_name, part_names}
use Rattle.assign_model.specs.Targets.{Rows, Target, is_name, names_of}
use Rattle.assign_ref.specs.Planned.{delete_part, part_at_column, part_by, part_of, parts_of, value_part, vector_at}
use Rattle.assign_ref.specs.Values.{FitsTarget, FitsValue}
use Rattle.assign_ref.proofs.Columns.{is_name_place, place_some, same_name}

-- a column at the place of a name has that name
named : (names : List (List ℕ)) (q : List ℕ) (c : ℕ) → place_of q names ≡ Some c → name_at names c ≡ q
named names q c e = sym (same_name q (name_at names c) (place_some q names c e).1)

column_part : (n : ℕ) (rows : Rows) (names : List (List ℕ)) (c : ℕ) (x old : Vector)
    → part_name names (part_at_column n rows c x old) ≡ name_at names c
column_part n None names c x old = refl
column_part n (Some rows) names c x old = refl

value_named : (n : ℕ) (rows : Rows) (names : List (List ℕ)) (vectors : List Vector) (q : List ℕ) (x : Vector)
    (o : Option ℕ) → place_of q names ≡ o → part_name names (value_part n rows q x vectors o) ≡ q
value_named n rows names vectors q x None e = refl
value_named n rows names vectors q x (Some c) e =
    column_part n rows names c x (vector_at vectors c) ∙ named names q c e

delete_named : (names : List (List ℕ)) (q : List ℕ) (o : Option ℕ) → place_of q names ≡ o → is_name names q ≡ true
    → part_name names (delete_part (length names) o) ≡ q
delete_named names q None e h = (let miss : is_name names q ≡ false = is_name_place q names ∙ ap is_some e in cc)
delete_named names q (Some c) e h = named names q c e

part_named : (n : ℕ) (rows : Rows) (names : List (List ℕ)) (vectors : List Vector) (q : List ℕ) (v : Option Vector)
    → FitsValue names n rows q v → part_name names (part_by n rows names vectors q v) ≡ q
part_named n rows names vectors q None h = delete_named names q (place_of q names) refl h
part_named n rows names vectors q (Some x) h = value_named n rows names vectors q x (place_of q names) refl

pub parts_named : (n : ℕ) (rows : Rows) (names : List (List ℕ)) (vectors : List Vector) (ts : List Target)
    → All (FitsTarget names n rows) ts → part_names names (parts_of n rows names vectors ts) ≡ names_of ts
parts_named n rows names vectors [] h = refl
parts_named n rows names vectors (t ∷ ts) h =
    ap (λ q. q ∷ part_names names (parts_of n rows names vectors ts))
    (part_named n rows names vectors t.name t.value (All-head (FitsTarget names n rows) t ts h))
    ∙ ap (λ rest. t.name ∷ rest) (parts_named n rows names vectors ts (All-tail (FitsTarget names n rows) t ts h))
