-- What `setkey` and `setorder` make of a table.
use Rattle.std.proofs.Common.{◌≡◌, ◌<◌, ◌+◌, ◌++◌, ◌∷◌, ◌∙◌, ℕ, true, false, nat_eq, List, [], Some, Ok, All}
use Rattle.std.proofs.Common.{length, map}
use Rattle.std.proofs.Common.{Option, Result, codes, get_or, refl, ap, subst, sym, arith}
use Rattle.std.specs.List.{AllByRecursion, range_with_len}
use Rattle.std.proofs.lemmas.Bool.Decides.{nat_tests}
use Rattle.std.proofs.lemmas.List.Elements.{recursion_from_All}
use Rattle.std.proofs.lemmas.List.FromFn.{fill_by_all, get_or-range_with_len, length-range_with_len}
use Rattle.std.proofs.lemmas.List.FromFn.{map-range_with_len_more}
use Rattle.std.proofs.lemmas.List.{get_or-map, length-map, map-id}
use Rattle.std.proofs.lemmas.Map.Keys.{IsDistinct-from_apart}
use Rattle.cmd_order.proofs.Steps.{then_done}
use Rattle.cmd_order.specs.Columns.{AreColumns, column_seen, places_of}
use Rattle.cmd_order.specs.Tables.{becomes, key_columns, order_of}
use Rattle.dt_model.specs.Table.{PlainTable, name_at, names_at}
use Rattle.dt_table.proofs.Plain.{plain_names}
use Rattle.dt_table.specs.Plain.{plain}
use Rattle.dt_table.specs.Table.{IsColumnList, IsTable, TableSeen}
use Rattle.keys_index.proofs.InPlace.{plain_in_place}
use Rattle.keys_index.specs.Columns.{sorting_named}
use Rattle.dt_base.specs.declared.fault.Fault.{Fault}
use Rattle.na_vector.specs.Frame.{FrameSeen, vectors_of}
use Rattle.order_model.specs.Keys.{key_set, order_set}
use Rattle.order_model.specs.Order.{rising}
use Rattle.order_model.specs.Places.{IsTrueKey}
use Rattle.row_order.specs.declared.ordering.SortCol.{SortCol}
use Rattle.session_model.specs.Form.{Form}
use Rattle.session_model.specs.OrderColumns.{distinct_columns, sorting_by}
use Rattle.session_model.specs.Orders.{columns_named, is_null_alone, key_change, order_change}
use Rattle.stmt_change.specs.Altered.{keyed_by}
use Rattle.vector_model.specs.Then.{then_do}

-- ---- All columns

pub names_all : (names : List (List ℕ)) → names ≡ names_at names (range_with_len 0 (length names))
names_all names = fill_by_all (name_at names) names (length names) [] refl (λ k lt. refl)

pub first_columns : (n : ℕ) → IsColumnList n (range_with_len 0 n)
first_columns n = record {
  in_range = λ k d lt.
      let short : k < n = rw length-range_with_len at lt in
      let at : get_or (range_with_len 0 n) k d ≡ 0 + k = get_or-range_with_len 0 n k d short in
      omega arith;
  distinct = IsDistinct-from_apart nat_eq (range_with_len 0 n) (λ i j d lt hi.
      let short : j < n = rw length-range_with_len at hi in
      let x : get_or (range_with_len 0 n) i d ≡ 0 + i = get_or-range_with_len 0 n i d (omega arith) in
      let y : get_or (range_with_len 0 n) j d ≡ 0 + j = get_or-range_with_len 0 n j d short in
      let no : nat_eq (0 + i) (0 + j) ≡ false = grind (arith, nat_tests) in
      (λ p. nat_eq (x p) (y p)) ∙ no);
}

pub all_named : (t : TableSeen) (places : List ℕ) → IsTable t → places ≡ range_with_len 0 (length t.names)
    → key_columns (plain t) [] ≡ Ok (names_at t.names places)
all_named t places h e =
    ap Ok (plain_names t h ∙ (names_all t.names ∙ ap (names_at t.names) (sym e)))

pub place_more : (n : ℕ) → range_with_len 0 n ++ n ∷ [] ≡ range_with_len 0 (n + 1)
place_more n =
    let same : map (λ (k : ℕ). k) (range_with_len 0 (n + 1)) ≡ map (λ (k : ℕ). k) (range_with_len 0 n) ++ n ∷ [] =
    map-range_with_len_more (λ k. k) 0 n n (omega arith) in
    ap (λ l. l ++ n ∷ []) (sym (map-id (range_with_len 0 n))) ∙ (sym same ∙ map-id (range_with_len 0 (n + 1)))

-- ---- `setkey`

-- the table of this number is another
abbrev pub ok_at : ℕ → PlainTable → Result (Option (ℕ × PlainTable)) Fault
ok_at n t = Ok (Some (n, t))

-- a table whose rows stand in the order of the key
pub keyed_in_place : (t : TableSeen) (key : List ℕ) → IsTable t → IsColumnList (length t.names) key
    → IsTrueKey (rising (vectors_of t.frame.columns) key) t.frame.rows
    → plain (keyed_by key t) ≡ key_set (names_at t.names key) (plain t)
keyed_in_place t key h cols rises =
    plain_in_place t (record t { key = key })
    (record t { key = key; indices = []; index_room = t.index_room + length t.indices }) key h cols rises refl refl

-- the same, as the code has it
pub stands_keyed : (t u : TableSeen) (f : FrameSeen) (key lent : List ℕ) (n : ℕ) → u ≡ t → f ≡ u.frame → lent ≡ key
    → IsTable u → IsColumnList (length t.names) key → IsTrueKey (rising (vectors_of f.columns) lent) f.rows
    → ok_at n (key_set (names_at t.names key) (plain t)) ≡ ok_at n (plain (keyed_by key t))
stands_keyed t u f key lent n e frame k h cols rises =
    let true_key : IsTrueKey (rising (vectors_of t.frame.columns) key) t.frame.rows =
    subst (λ (x : FrameSeen). IsTrueKey (rising (vectors_of x.columns) key) x.rows)
    (frame ∙ ap (λ (x : TableSeen). x.frame) e)
    (subst (λ (l : List ℕ). IsTrueKey (rising (vectors_of f.columns) l) f.rows) k rises) in
    ap (ok_at n) (sym (keyed_in_place t key (subst IsTable e h) cols true_key))

-- a table that is another one in the order of the key
pub moved_keyed : (t u v : TableSeen) (key lent : List ℕ) (n : ℕ) → u ≡ t → lent ≡ key
    → plain v ≡ key_set (names_at u.names lent) (plain u)
    → ok_at n (key_set (names_at t.names key) (plain t)) ≡ ok_at n (plain v)
moved_keyed t u v key lent n e k is =
    ap (ok_at n) (sym (is ∙ (λ i. key_set (names_at (e i).names (k i)) (plain (e i)))))

pub key_change_by : (n : ℕ) (t : PlainTable) (forms : List Form) → is_null_alone forms ≡ false
    → becomes n (key_change t forms) ≡ then_do (key_columns t forms) (λ names. Ok (Some (n, key_set names t)))
key_change_by n t [] h = refl
key_change_by n t (form ∷ rest) h =
    rw h (then_done (columns_named (codes "setkey") t (form ∷ rest)) (λ names. key_set names t) (λ u. Some (n, u)))

-- ---- `setorder`

sorting_seen : (names : List (List ℕ)) (t : PlainTable) (by : List SortCol)
    → AllByRecursion (λ (s : SortCol). s.na_last ≡ false) by
    → sorting_named names t by ≡ map (sorting_by t false) (map (column_seen names) by)
sorting_seen names t [] h = refl
sorting_seen names t (s ∷ by) h =
    let rest = sorting_seen names t by h.1 in
    λ i. record { cells = (sorting_by t false (column_seen names s)).cells; down = s.down; na_last = h.0 i } ∷ rest i

pub ordered_by : (names : List (List ℕ)) (t : PlainTable) (by : List SortCol)
    → All (λ (s : SortCol). s.na_last ≡ false) by
    → order_set (sorting_named names t by) t ≡ order_set (map (sorting_by t false) (map (column_seen names) by)) t
ordered_by names t by h =
    ap (λ l. order_set l t) (sorting_seen names t by (recursion_from_All (λ (s : SortCol). s.na_last ≡ false) by h))

-- a table that is another one in the order of these columns
pub moved_ordered : (t u v : TableSeen) (by : List SortCol) (n : ℕ) → u ≡ t
    → All (λ (s : SortCol). s.na_last ≡ false) by
    → plain v ≡ order_set (sorting_named u.names (plain u) by) (plain u)
    → ok_at n (order_set (map (sorting_by (plain t) false) (map (column_seen t.names) by)) (plain t))
    ≡ ok_at n (plain v)
moved_ordered t u v by n e first is =
    ap (ok_at n) (sym (is ∙ ((λ i. order_set (sorting_named (e i).names (plain (e i)) by) (plain (e i)))
    ∙ ordered_by t.names (plain t) by first)))

pub within_named : (t u : TableSeen) (by : List SortCol) → u ≡ t → AreColumns (length t.names) by
    → All (λ (s : SortCol). s.col < length u.names) by
within_named t u by e h = λ k d lt.
    let long : k < length (places_of by) = rw length-map lt in
    let col : get_or (places_of by) k d.col ≡ (get_or by k d).col =
    get_or-map (λ (s : SortCol). s.col) by k d d.col lt in
    let within : (get_or by k d).col < length t.names = subst (λ c. c < length t.names) col
    (h.places.in_range k d.col long) in
    subst (λ (x : TableSeen). (get_or by k d).col < length x.names) (sym e) within

pub order_of-some : (t : TableSeen) (forms : List Form) → IsTable t → 0 < length forms
    → order_of (plain t) forms ≡ distinct_columns (codes "setorder") true t.names forms
order_of-some t [] h some = absurd (omega arith)
order_of-some t (form ∷ rest) h some =
    ap (λ names. distinct_columns (codes "setorder") true names (form ∷ rest)) (plain_names t h)

pub order_change_by : (n : ℕ) (t : PlainTable) (forms : List Form)
    → becomes n (order_change t forms)
    ≡ then_do (order_of t forms) (λ cs. Ok (Some (n, order_set (map (sorting_by t false) cs) t)))
order_change_by n t [] = refl
order_change_by n t (form ∷ rest) =
    then_done (order_of t (form ∷ rest)) (λ cs. order_set (map (sorting_by t false) cs) t) (λ u. Some (n, u))

-- ---- Over the table of a heap, which is lent

pub key_columns-none : (t : TableSeen) (forms : List Form) → IsTable t → length forms < 1
    → Ok t.names ≡ key_columns (plain t) forms
key_columns-none t [] h none = ap Ok (sym (plain_names t h))
key_columns-none t (form ∷ rest) h none = absurd (omega arith)

pub key_change_lent : (n : ℕ) (t u : TableSeen) (forms : List Form) → u ≡ t → is_null_alone forms ≡ false
    → becomes n (key_change (plain t) forms)
    ≡ then_do (key_columns (plain u) forms) (λ names. ok_at n (key_set names (plain t)))
key_change_lent n t u forms e h =
    key_change_by n (plain t) forms h
    ∙ ap (λ (x : TableSeen). then_do (key_columns (plain x) forms) (λ names. ok_at n (key_set names (plain t)))) (sym e)

pub order_change_lent : (n : ℕ) (t u : TableSeen) (forms : List Form) → u ≡ t
    → becomes n (order_change (plain t) forms)
    ≡ then_do (order_of (plain u) forms) (λ cs. ok_at n (order_set (map (sorting_by (plain t) false) cs) (plain t)))
order_change_lent n t u forms e =
    order_change_by n (plain t) forms
    ∙ ap (λ (x : TableSeen). then_do (order_of (plain x) forms)
    (λ cs. ok_at n (order_set (map (sorting_by (plain t) false) cs) (plain t)))) (sym e)
