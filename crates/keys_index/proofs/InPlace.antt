-- Rows that already stand in the order of a key.
use Rattle.std.proofs.Common.{◌≡◌, ◌+◌, ◌<◌, ℕ, true, false, List, [], ◌∷◌, length, map, get_or, Some}
use Rattle.std.proofs.Common.{◌==◌, Bool, cond, arith, nat_lt, refl, sym, ap, ◌∙◌, true≢false}
use Rattle.std.specs.List.{AllByRecursion, range_with_len}
use Rattle.std.specs.declared.cmp.Ordering.{Ordering}
use Rattle.std.specs.declared.cmp.Ordering.TheVariants.{Less, Equal, Greater}
use Rattle.std.specs.Ordering.{is_gt, is_lt, nat_cmp, ordering_reverse, ordering_then}
use Rattle.std.proofs.lemmas.Bool.Decides.{nat_tests}
use Rattle.std.proofs.lemmas.List.Elements.{recursion_from_All}
use Rattle.std.proofs.lemmas.List.FromFn.{fill_by_all, get_or-range_with_len, length-range_with_len}
use Rattle.std.proofs.lemmas.List.Sorted.{IsPermutation-refl}
use Rattle.std.proofs.lemmas.Simd.{map-map}
use Rattle.dt_base.specs.declared.cell.Cell.TheVariants.{Na}
use Rattle.dt_model.specs.Vector.{Vector, cell_at, gathered, picked}
use Rattle.dt_model.specs.Table.{names_at}
use Rattle.dt_table.specs.Plain.{plain}
use Rattle.dt_table.specs.Table.{IsColumnList, IsReordered, IsTable, TableSeen}
use Rattle.dt_table.proofs.Reordering.{plain_turned}
use Rattle.keys_index.proofs.Ordering.{order_all, plain_key_set}
use Rattle.order_model.specs.Keys.{key_set}
use Rattle.na_vector.specs.Column.{Seen}
use Rattle.na_vector.specs.Frame.{HasLength, vectors_of}
use Rattle.order_model.specs.Order.{Sorting, rising, row_cmp}
use Rattle.order_model.specs.Places.{IsTrueKey, numbered_cmp, ordering}
use Rattle.order_model.proofs.Cells.{row_cmp_total}
use Rattle.order_model.proofs.Sorts.{is_ordering}

not_less : (b c : Bool) → b ≡ false → is_lt (cond b Less (cond c Equal Greater)) ≡ false
not_less true c e = absurd (true≢false e)
not_less false true e = refl
not_less false false e = refl

-- a row that does not stand above the next one stands before it
next_behind : (o : Ordering) (k : ℕ) → is_gt o ≡ false
    → is_lt (ordering_then (ordering_reverse o) (nat_cmp (k + 1) k)) ≡ false
next_behind Less k h = refl
next_behind Equal k h =
    let no : nat_lt (k + 1) k ≡ false = grind (arith, nat_tests) in not_less (nat_lt (k + 1) k) (k + 1 == k) no
next_behind Greater k h = absurd (true≢false h)

-- the order of rows that stand in it is that of their numbers
pub stands_in_order : (by : List Sorting) (n : ℕ) → IsTrueKey by n → range_with_len 0 n ≡ ordering by n
stands_in_order by n h =
    is_ordering by n (range_with_len 0 n) (IsPermutation-refl (range_with_len 0 n))
    (λ k d low lt.
    let short : k + 1 < n = rw length-range_with_len at lt in
    let x : get_or (range_with_len 0 n) k d ≡ 0 + k = get_or-range_with_len 0 n k d (omega arith) in
    let y : get_or (range_with_len 0 n) (k + 1) d ≡ 0 + (k + 1) = get_or-range_with_len 0 n (k + 1) d short in
    let a : get_or (range_with_len 0 n) k d ≡ k = omega arith in
    let b : get_or (range_with_len 0 n) (k + 1) d ≡ k + 1 = omega arith in
    (λ i. is_lt (numbered_cmp by (b i) (a i)))
    ∙ (ap (λ o. is_lt (ordering_then o (nat_cmp (k + 1) k))) ((row_cmp_total by).antisymm (k + 1) k)
    ∙ next_behind (row_cmp by k (k + 1)) k (h k short)))

-- all rows by number are the rows
all_cells : (v : Vector) (n : ℕ) → length v.cells ≡ n → gathered v (map Some (range_with_len 0 n)) ≡ v
all_cells v n long =
    let same = map-map (picked v.cells) Some (range_with_len 0 n)
    ∙ sym (fill_by_all (cell_at v.cells) v.cells n Na long (λ k lt. refl)) in
    λ i. record { kind = v.kind; cells = same i }

all_columns : (columns : List Seen) (n : ℕ) → AllByRecursion (HasLength n) columns
    → map (λ v. gathered v (map Some (range_with_len 0 n))) (vectors_of columns) ≡ vectors_of columns
all_columns [] n h = refl
all_columns (c ∷ columns) n h =
    let here = all_cells c.vector n h.0 in
    let rest = all_columns columns n h.1 in
    λ i. here i ∷ rest i

-- so a table that only gets the key, and loses its indices, is in its order
pub set_in_place : (t mid u : TableSeen) (key : List ℕ) → IsTable t
    → IsTrueKey (rising (vectors_of t.frame.columns) key) t.frame.rows → mid ≡ record t { key = key }
    → u ≡ record mid { indices = []; index_room = mid.index_room + length mid.indices }
    → IsReordered t (ordering (rising (vectors_of t.frame.columns) key) t.frame.rows) key u
set_in_place t mid u key h rises k d =
    let whole : u ≡ record t { key = key; indices = []; index_room = t.index_room + length t.indices } =
    d ∙ ap (λ (x : TableSeen). record x { indices = []; index_room = x.index_room + length x.indices }) k in
    let still = all_columns t.frame.columns t.frame.rows
    (recursion_from_All (HasLength t.frame.rows) t.frame.columns h.frame.one_length) in
    record {
      names = ap (λ (x : TableSeen). x.names) whole;
      vectors = ap (λ (x : TableSeen). vectors_of x.frame.columns) whole
          ∙ (sym still ∙ ap (λ (l : List ℕ). map (λ v. gathered v (map Some l)) (vectors_of t.frame.columns))
          (stands_in_order (rising (vectors_of t.frame.columns) key) t.frame.rows rises));
      rows = ap (λ (x : TableSeen). x.frame.rows) whole;
      key = ap (λ (x : TableSeen). x.key) whole;
      indices = ap (λ (x : TableSeen). x.indices) whole;
      slots = ap (λ (x : TableSeen). x.slots) whole;
    }

-- and is what `setkey` leaves
pub plain_in_place : (t mid u : TableSeen) (key : List ℕ) → IsTable t → IsColumnList (length t.names) key
    → IsTrueKey (rising (vectors_of t.frame.columns) key) t.frame.rows → mid ≡ record t { key = key }
    → u ≡ record mid { indices = []; index_room = mid.index_room + length mid.indices }
    → plain u ≡ key_set (names_at t.names key) (plain t)
plain_in_place t mid u key h cols rises k d =
    let rows : List ℕ = ordering (rising (vectors_of t.frame.columns) key) t.frame.rows in
    plain_turned t u rows key
    (order_all (rising (vectors_of t.frame.columns) key) t.frame.rows rows refl)
    (set_in_place t mid u key h rises k d)
    ∙ plain_key_set t key key rows h cols refl refl
