-- Rows in the order of some columns, by places and by names.
use Rattle.std.proofs.Common.{◌≡◌, ◌<◌, ℕ, List, [], ◌∷◌, length, map, All, refl, sym, ap, ◌∙◌, subst}
use Rattle.std.specs.List.{AllByRecursion, range_with_len}
use Rattle.std.specs.List.Sorted.{IsPermutation}
use Rattle.std.proofs.lemmas.List.Elements.{All-map, recursion_from_All}
use Rattle.std.proofs.lemmas.Simd.{map-map}
use Rattle.dt_base.specs.declared.cell.ColType.TheVariants as ty
use Rattle.dt_model.specs.Table.{names_at}
use Rattle.dt_model.specs.Vector.{Vector}
use Rattle.dt_table.specs.Plain.{plain, plain_reordered}
use Rattle.dt_table.specs.Table.{IsColumnList, IsReordered, IsTable, TableSeen}
use Rattle.dt_table.proofs.Plain.{plain_rows}
use Rattle.dt_table.proofs.PlainKeys.{cells_by_name, key_by_names}
use Rattle.keys_index.specs.Columns.{rises, sorting_named}
use Rattle.na_vector.specs.Frame.{vectors_of}
use Rattle.order_model.specs.Keys.{IsInOrder, cells_named, key_of, key_set, order_set}
use Rattle.order_model.specs.Order.{Sorting, rising}
use Rattle.order_model.specs.Places.{ordering}
use Rattle.order_model.proofs.Exists.{ordering_sorts}
use Rattle.order_model.proofs.Truth.{ordering_in_order}
use Rattle.row_order.specs.Columns.{sorting, sorting_of}
use Rattle.row_order.specs.declared.ordering.SortCol.{SortCol}

-- ---- Columns whose cells rise

pub rises_within : (width : ℕ) (cols : List ℕ) (by : List SortCol) → by ≡ map rises cols → All (λ c. c < width) cols
    → All (λ (s : SortCol). s.col < width) by
rises_within width cols by e h = rw e (All-map (λ (s : SortCol). s.col < width) rises cols h)

pub rises_sort : (vs : List Vector) (cols : List ℕ) (by : List SortCol) → by ≡ map rises cols
    → sorting_of vs by ≡ rising vs cols
rises_sort vs cols by e = ap (sorting_of vs) e ∙ map-map (sorting vs) rises cols

-- ---- All rows, in order

pub order_all : (by : List Sorting) (n : ℕ) (rows : List ℕ) → rows ≡ ordering by n
    → IsPermutation (range_with_len 0 n) rows
order_all by n rows e = subst (IsPermutation (range_with_len 0 n)) (sym e) (ordering_sorts by n).all

pub order_sorted : (by : List Sorting) (n : ℕ) (rows : List ℕ) → rows ≡ ordering by n → IsInOrder by rows
order_sorted by n rows e = subst (IsInOrder by) (sym e) (ordering_in_order by n)

-- the columns of a key, in a list of its own
pub keyed_sorted : (vs : List Vector) (key own rows : List ℕ) (n : ℕ) → own ≡ key → rows ≡ ordering (rising vs key) n
    → IsInOrder (rising vs own) rows
keyed_sorted vs key own rows n k e = subst (λ (l : List ℕ). IsInOrder (rising vs l) rows) (sym k)
    (order_sorted (rising vs key) n rows e)

-- without a key all rows are in order
pub unkeyed_sorted : (vs : List Vector) (key rows : List ℕ) → key ≡ [] → IsInOrder (rising vs key) rows
unkeyed_sorted vs key rows e = rw e (λ p lt. refl)

-- ---- By names

-- rows in the order of a key are what `setkey` leaves
pub plain_key_set : (t : TableSeen) (key own rows : List ℕ) → IsTable t → IsColumnList (length t.names) key
    → own ≡ key → rows ≡ ordering (rising (vectors_of t.frame.columns) key) t.frame.rows
    → plain_reordered rows own t ≡ key_set (names_at t.names key) (plain t)
plain_key_set t key own rows h cols k e =
    let by = key_by_names t key h (recursion_from_All (λ c. c < length t.names) key cols.in_range) in
    let same : rows ≡ ordering (key_of (cells_named (plain t)) (names_at t.names key)) (length (plain t).rows) =
    e ∙ (λ i. ordering (sym by i) (sym (plain_rows t) i)) in
    (λ i. plain_reordered (same i) (k i) t)

named_columns : (t : TableSeen) (by : List SortCol) → IsTable t
    → AllByRecursion (λ (s : SortCol). s.col < length t.names) by
    → sorting_named t.names (plain t) by ≡ sorting_of (vectors_of t.frame.columns) by
named_columns t [] h range = refl
named_columns t (s ∷ by) h range =
    let here = cells_by_name t s.col (record { vector = record { kind = ty.Lgl; cells = [] }; spare = 0 }) h range.0 in
    let rest = named_columns t by h range.1 in
    λ i. record { cells = here i; down = s.down; na_last = s.na_last } ∷ rest i

-- rows in any order of some columns are what `setorder` leaves
pub plain_order_set : (t : TableSeen) (by : List SortCol) (key rows : List ℕ) → IsTable t
    → All (λ (s : SortCol). s.col < length t.names) by → key ≡ []
    → rows ≡ ordering (sorting_of (vectors_of t.frame.columns) by) t.frame.rows
    → plain_reordered rows key t ≡ order_set (sorting_named t.names (plain t) by) (plain t)
plain_order_set t by key rows h range none e =
    let columns = named_columns t by h (recursion_from_All (λ (s : SortCol). s.col < length t.names) by range) in
    let same : rows ≡ ordering (sorting_named t.names (plain t) by) (length (plain t).rows) =
    e ∙ (λ i. ordering (sym columns i) (sym (plain_rows t) i)) in
    (λ i. plain_reordered (same i) (none i) t)

-- ---- Tables put in order

-- a table in an order that is known by another equation
pub reordered_by : (t u : TableSeen) (rows given key own : List ℕ) → rows ≡ given → own ≡ key → IsReordered t rows own u
    → IsReordered t given key u
reordered_by t u rows given key own e k h = (subst (λ (l : List ℕ). IsReordered t given l u) k
    (subst (λ (l : List ℕ). IsReordered t l own u) e h))
