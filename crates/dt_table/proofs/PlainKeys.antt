-- The key of a table is true of its plain reading.
use Rattle.std.proofs.Common.{◌≡◌, ◌<◌, ℕ, zero, suc, nat_lt, List, [], ◌∷◌, length, map, get_or, slice_get, None}
use Rattle.std.proofs.Common.{Some, arith, refl, sym, ap, ◌∙◌, subst}
use Rattle.std.specs.List.{AllByRecursion, IsDistinct, position_or_len, range_with_len}
use Rattle.std.specs.Str.{bytes_eq}
use Rattle.std.specs.Cmp.Lexicographic.{nat_list_eq_equiv}
use Rattle.std.proofs.lemmas.Bool.{cond-true}
use Rattle.std.proofs.lemmas.Bool.Decides.{nat_tests}
use Rattle.std.proofs.lemmas.List.Elements.{All-get_or, recursion_from_All}
use Rattle.std.proofs.lemmas.List.FromFn.{fill_by_all}
use Rattle.std.proofs.lemmas.List.Sums.{position_or_len_is}
use Rattle.std.proofs.lemmas.Map.Keys.{apart_from_distinct}
use Rattle.std.proofs.lemmas.Option.{slice_get-get_or}
use Rattle.std.proofs.lemmas.Simd.{map-map}
use Rattle.std.proofs.Math.ListN.{get_or-map}
use Rattle.dt_base.specs.declared.cell.Cell.TheVariants.{Na}
use Rattle.dt_base.specs.declared.cell.ColType.TheVariants as ty
use Rattle.dt_model.specs.Table.{column_of, name_at, names_at, place_of, row_at, rows_of}
use Rattle.dt_model.specs.Vector.{Vector, cell_at}
use Rattle.na_vector.specs.Column.{Seen}
use Rattle.na_vector.specs.Frame.{HasLength, vectors_of}
use Rattle.order_model.specs.Keys.{IsKeyTrue, cells_at, cells_named, key_of}
use Rattle.order_model.specs.Order.{ascending, cells_in, rising}
use Rattle.order_model.specs.Places.{IsTrueKey}
use Rattle.dt_table.specs.Plain.{plain}
use Rattle.dt_table.specs.Table.{IsTable, TableSeen}
use Rattle.dt_table.proofs.Plain.{plain_names, plain_rows, vectors_count}

-- ---- A column by its name

-- a name stands first at its own place, where no name stands twice
place_of_name : (names : List (List ℕ)) (c : ℕ) → IsDistinct bytes_eq names → c < length names
    → place_of (name_at names c) names ≡ Some c
place_of_name names c d lt =
    let p = bytes_eq (name_at names c) in
    let at : position_or_len p names ≡ c =
    position_or_len_is p names c [] (omega arith)
    (λ k below. nat_list_eq_equiv.symm (name_at names c) (get_or names k [])
    ∙ apart_from_distinct bytes_eq names k c [] d below lt)
    (λ below. nat_list_eq_equiv.refl (name_at names c)) in
    rw at (cond-true (nat_lt c (length names)) (Some c) None (grind (arith, nat_tests)))

-- ---- A column by its cells

row_place : (vs : List Vector) (c r : ℕ) (d : Vector) → c < length vs → cell_at (row_at vs r) c
    ≡ cell_at (get_or vs c d).cells r
row_place [] c r d lt = absurd (omega arith)
row_place (v ∷ vs) zero r d lt = refl
row_place (v ∷ vs) (suc c) r d lt = row_place vs c r d (omega arith)

cells_in_rows : (vs : List Vector) (c n : ℕ) (d : Vector) → c < length vs → length (get_or vs c d).cells ≡ n
    → column_of c (rows_of n vs) ≡ (get_or vs c d).cells
cells_in_rows vs c n d lt long =
    map-map (λ row. cell_at row c) (row_at vs) (range_with_len 0 n)
    ∙ ((λ i. map (λ r. row_place vs c r d lt i) (range_with_len 0 n))
    ∙ sym (fill_by_all (cell_at (get_or vs c d).cells) (get_or vs c d).cells n Na long (λ k l. refl)))

-- the cells of a column of the plain reading, by its name
pub cells_by_name : (t : TableSeen) (c : ℕ) (d : Seen) → IsTable t → c < length t.names
    → cells_named (plain t) (name_at t.names c) ≡ cells_in (slice_get (vectors_of t.frame.columns) c)
cells_by_name t c d h lt =
    let vs : List Vector = vectors_of t.frame.columns in
    let wide : length vs ≡ length t.frame.columns = vectors_count t.frame.columns in
    let named = h.named in
    let within : c < length vs = omega arith in
    let there : c < length t.frame.columns = omega arith in
    let col : Seen = get_or t.frame.columns c d in
    let at : get_or vs c d.vector ≡ col.vector = get_or-map (λ (x : Seen). x.vector) t.frame.columns c d in
    let one : HasLength t.frame.rows col = All-get_or (HasLength t.frame.rows) t.frame.columns c d there
    h.frame.one_length in
    let long : length (get_or vs c d.vector).cells ≡ t.frame.rows = ap (λ (v : Vector). length v.cells) at ∙ one in
    ap (λ (l : List (List ℕ)). cells_at (plain t) (place_of (name_at t.names c) l)) (plain_names t h)
    ∙ (ap (cells_at (plain t)) (place_of_name t.names c h.names.distinct lt)
    ∙ (cells_in_rows vs c t.frame.rows d.vector within long
    ∙ ap cells_in (sym (slice_get-get_or vs c d.vector within))))

-- ---- The key

pub key_by_names : (t : TableSeen) (cols : List ℕ) → IsTable t → AllByRecursion (λ c. c < length t.names) cols
    → key_of (cells_named (plain t)) (names_at t.names cols) ≡ rising (vectors_of t.frame.columns) cols
key_by_names t [] h range = refl
key_by_names t (c ∷ cols) h range =
    let here = cells_by_name t c (record { vector = record { kind = ty.Lgl; cells = [] }; spare = 0 }) h range.0 in
    let rest = key_by_names t cols h range.1 in
    λ i. ascending (here i) ∷ rest i

pub plain_key_true : (t : TableSeen) → IsTable t → IsKeyTrue (plain t)
plain_key_true t h =
    let same : key_of (cells_named (plain t)) (names_at t.names t.key) ≡ rising (vectors_of t.frame.columns) t.key =
    key_by_names t t.key h (recursion_from_All (λ c. c < length t.names) t.key h.key.in_range) in
    let here : IsTrueKey (rising (vectors_of t.frame.columns) t.key) t.frame.rows = h.true_key.rises in
    λ p lt. subst (λ by. IsTrueKey by t.frame.rows) (sym same) here p (rw (plain_rows t) at lt)
