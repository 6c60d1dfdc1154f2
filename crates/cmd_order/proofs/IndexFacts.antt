-- Indices by the places of their columns, and by their names; what `setindex` makes of a table.
use Rattle.std.proofs.Common.{◌≡◌, ◌<◌, ◌&&◌, ◌||◌, ◌∷◌, ◌∙◌, ◌↔◌, ℕ, Bool, true, false, List, [], Ok, All, length}
use Rattle.std.proofs.Common.{IsTrue}
use Rattle.std.proofs.Common.{◌+◌, Some, get_or, map, refl, ap, slice_get, sym, take, inl, inr}
use Rattle.std.proofs.lemmas.List.{get_or-map, length-map, map_more}
use Rattle.std.proofs.lemmas.List.Folds.{list_any-append, list_any_at}
use Rattle.std.proofs.lemmas.Option.{get_or_from_slice_get, slice_get_within}
use Rattle.std.specs.List.{AllByRecursion, IsDistinct, list_any}
use Rattle.std.specs.Str.{bytes_eq}
use Rattle.std.specs.Cmp.Lexicographic.{nat_list_eq_equiv}
use Rattle.std.proofs.lemmas.Bool.{cases_Bool}
use Rattle.std.proofs.lemmas.List.Elements.{recursion_from_All}
use Rattle.std.proofs.lemmas.Map.Views.{Contains-from_any, list_any-from_Contains}
use Rattle.std.proofs.lemmas.Slice.Eq.{bytes_eq-Decides}
use Rattle.cmd_order.proofs.Choosing.{same_place}
use Rattle.cmd_order.proofs.Steps.{then_done}
use Rattle.cmd_order.specs.Tables.{index_change, index_columns, table_effect, with_new_index}
use Rattle.dt_model.specs.Table.{PlainTable, names_at}
use Rattle.dt_table.specs.Plain.{plain}
use Rattle.dt_table.specs.Table.{HasIndex, IndexSeen, IsIndex, IsTable, TableSeen}
use Rattle.na_vector.specs.Frame.{vectors_of}
use Rattle.session_model.specs.Effect.{Effect}
use Rattle.session_model.specs.Form.{Form}
use Rattle.session_model.specs.Indices.{has_index, same_names}
use Rattle.dt_model.specs.State.{State}
use Rattle.session_model.specs.Meanings.{ArgMeaning}
use Rattle.session_model.specs.NamedTable.{table_named}
use Rattle.session_model.specs.Orders.{columns_written, index_added, index_effect, is_null_alone, set_index_effect}
use Rattle.vector_model.specs.Then.{then_do}

-- ---- By places and by names

-- where no name stands twice, columns have the same names just where they are the same
same_columns : (names : List (List ℕ)) (a b : List ℕ) → IsDistinct bytes_eq names
    → AllByRecursion (λ c. c < length names) a → AllByRecursion (λ c. c < length names) b
    → bytes_eq a b ≡ same_names (names_at names a) (names_at names b)
same_columns names [] [] once ha hb = refl
same_columns names [] (y ∷ b) once ha hb = refl
same_columns names (x ∷ a) [] once ha hb = refl
same_columns names (x ∷ a) (y ∷ b) once ha hb =
    let here = sym (same_place names x y once ha.0 hb.0) in
    let rest = same_columns names a b once ha.1 hb.1 in
    λ i. here i && rest i

any_index : (t : TableSeen) (cols : List ℕ) (xs : List IndexSeen) → IsDistinct bytes_eq t.names
    → AllByRecursion (λ c. c < length t.names) cols
    → AllByRecursion (IsIndex (length t.names) t.frame.rows (vectors_of t.frame.columns)) xs
    → list_any (bytes_eq cols) (map (λ (x : IndexSeen). x.cols) xs)
    ≡ list_any (same_names (names_at t.names cols)) (map (λ (x : IndexSeen). names_at t.names x.cols) xs)
any_index t cols [] once range h = refl
any_index t cols (x ∷ xs) once range h =
    let here = same_columns t.names cols x.cols once range
    (recursion_from_All (λ c. c < length t.names) x.cols h.0.cols.in_range) in
    let rest = any_index t cols xs once range h.1 in
    λ i. here i || rest i

pub has_index_named : (t : TableSeen) (cols : List ℕ) (r : Bool) → IsTable t → All (λ c. c < length t.names) cols
    → r ≡ list_any (bytes_eq cols) (map (λ (x : IndexSeen). x.cols) t.indices)
    → r ≡ has_index (names_at t.names cols) (plain t)
has_index_named t cols r h range e =
    e ∙ any_index t cols t.indices h.names.distinct
    (recursion_from_All (λ c. c < length t.names) cols range)
    (recursion_from_All (IsIndex (length t.names) t.frame.rows (vectors_of t.frame.columns)) t.indices h.indices)

pub has_index_placed : (t : TableSeen) (cols : List ℕ) (r : Bool)
    → r ≡ list_any (bytes_eq cols) (map (λ (x : IndexSeen). x.cols) t.indices)
    → IsTrue r ↔ HasIndex cols t.indices
has_index_placed t cols r e = (
  λ found. Contains-from_any (λ x y. (bytes_eq-Decides x y).0) cols (map (λ (x : IndexSeen). x.cols) t.indices)
      (sym e ∙ found),
  λ is. e ∙ list_any-from_Contains nat_list_eq_equiv cols (map (λ (x : IndexSeen). x.cols) t.indices) is,
)

-- ---- One index after another

at_index : (xs : List IndexSeen) (k : ℕ) (x : IndexSeen) → slice_get xs k ≡ Some x
    → get_or (map (λ (y : IndexSeen). y.cols) xs) k [] ≡ x.cols
at_index xs k x there =
    get_or-map (λ (y : IndexSeen). y.cols) xs k x [] (slice_get_within xs k x there)
    ∙ ap (λ (y : IndexSeen). y.cols) (get_or_from_slice_get xs k x x there)

pub over_here : (cols : List ℕ) (xs : List IndexSeen) (k : ℕ) (x : IndexSeen) → slice_get xs k ≡ Some x
    → bytes_eq cols x.cols ≡ true → true ≡ list_any (bytes_eq cols) (map (λ (y : IndexSeen). y.cols) xs)
over_here cols xs k x there same =
    sym (list_any_at (bytes_eq cols) (map (λ (y : IndexSeen). y.cols) xs) k []
    (rw length-map (slice_get_within xs k x there)) (ap (bytes_eq cols) (at_index xs k x there) ∙ same))

pub none_more : (cols : List ℕ) (xs : List IndexSeen) (k : ℕ) (x : IndexSeen) → slice_get xs k ≡ Some x
    → bytes_eq cols x.cols ≡ false → list_any (bytes_eq cols) (map (λ (y : IndexSeen). y.cols) (take k xs)) ≡ false
    → list_any (bytes_eq cols) (map (λ (y : IndexSeen). y.cols) (take (k + 1) xs)) ≡ false
none_more cols xs k x there other before =
    let f : IndexSeen → List ℕ = λ y. y.cols in
    let last : bytes_eq cols (get_or xs k x).cols ≡ false =
    ap (λ (y : IndexSeen). bytes_eq cols y.cols) (get_or_from_slice_get xs k x x there) ∙ other in
    rw (
      map_more f xs k x (slice_get_within xs k x there),
      list_any-append (bytes_eq cols) (map f (take k xs)) (f (get_or xs k x) ∷ []),
      before,
      last,
    ) refl

-- ---- `setindex`

pub index_change_by : (n : ℕ) (t : PlainTable) (forms : List Form) → is_null_alone forms ≡ false
    → index_change (n, t) forms ≡ then_do (index_columns t forms) (λ names. Ok (with_new_index (n, t) names))
index_change_by n t forms h = rw h refl

added_effect : (x : ℕ × PlainTable) (names : List (List ℕ)) → index_added x names
    ≡ table_effect (with_new_index x names)
added_effect x names =
    elim (cases_Bool (has_index names x.1)) [ inl e ↦ rw e refl | inr e ↦ rw e refl ]

pub index_effect_by : (x : ℕ × PlainTable) (forms : List Form)
    → index_effect x forms ≡ then_do (index_change x forms) (λ o. Ok (table_effect o))
index_effect_by x [] = refl
index_effect_by x (form ∷ rest) =
    elim (cases_Bool (is_null_alone (form ∷ rest))) [
      | inl e ↦ rw e refl
      | inr e ↦
          (let effects : (λ names. index_added x names) ≡ (λ names. table_effect (with_new_index x names)) =
          λ i names. added_effect x names i in
          rw e (ap (λ (f : List (List ℕ) → Effect). then_do (index_columns x.1 (form ∷ rest)) (λ names. Ok (f names)))
          effects
          ∙ sym (then_done (index_columns x.1 (form ∷ rest)) (λ names. with_new_index x names) table_effect)))
    ]

pub index_change_lent : (n : ℕ) (t u : TableSeen) (forms : List Form) → u ≡ t → is_null_alone forms ≡ false
    → index_change (n, plain t) forms
    ≡ then_do (index_columns (plain u) forms) (λ names. Ok (with_new_index (n, plain t) names))
index_change_lent n t u forms e h =
    index_change_by n (plain t) forms h
    ∙ ap (λ (x : TableSeen). then_do (index_columns (plain x) forms) (λ names. Ok (with_new_index (n, plain t) names)))
    (sym e)

pub set_index_by : (args : List ArgMeaning) (s : State) (n : ℕ) (t : PlainTable) (forms : List Form)
    → table_named args s ≡ Ok (n, t) → columns_written args ≡ forms
    → set_index_effect args s ≡ then_do (index_change (n, t) forms) (λ o. Ok (table_effect o))
set_index_by args s n t forms named written =
    ap (λ x. then_do x (λ y. index_effect y (columns_written args))) named
    ∙ (ap (index_effect (n, t)) written ∙ index_effect_by (n, t) forms)
