-- A table with its rows in another order.
use Rattle.std.proofs.Common.{◌≡◌, ◌<◌, ℕ, zero, suc, List, [], ◌∷◌, length, map, get_or, All, Some, arith, refl, sym}
use Rattle.std.proofs.Common.{ap, ◌∙◌, subst}
use Rattle.std.specs.List.{AllByRecursion, range_with_len}
use Rattle.std.specs.List.Sorted.{IsPermutation}
use Rattle.std.proofs.lemmas.List.{get_or-map, length-map}
use Rattle.std.proofs.lemmas.List.Elements.{All-get_or, recursion_from_All}
use Rattle.std.proofs.lemmas.List.FromFn.{fill_by_all, get_or-map-range_with_len, get_or-range_with_len}
use Rattle.std.proofs.lemmas.List.FromFn.{length-range_with_len}
use Rattle.std.proofs.lemmas.List.Sorted.{All-permutation, length_permutation}
use Rattle.std.proofs.lemmas.Simd.{map-map}
use Rattle.dt_base.specs.declared.cell.Cell.{Cell}
use Rattle.dt_base.specs.declared.cell.Cell.TheVariants.{Na}
use Rattle.dt_model.specs.Table.{heads_of, row_at, rows_of}
use Rattle.dt_model.specs.Vector.{Vector, cell_at, gathered, picked}
use Rattle.na_vector.specs.Frame.{IsFrame, vectors_of}
use Rattle.order_model.specs.Keys.{IsInOrder, taken}
use Rattle.order_model.specs.Order.{ascending, cells_of, rising}
use Rattle.order_model.specs.Places.{IsTrueKey}
use Rattle.order_model.proofs.Truth.{in_order_true}
use Rattle.dt_table.specs.Plain.{plain, plain_reordered}
use Rattle.dt_table.specs.Table.{IsColumnList, IsReordered, IsTable, TableSeen}
use Rattle.dt_table.proofs.Plain.{vectors_count}
use Rattle.dt_table.proofs.Tables.{no_columns}
use Rattle.dt_table.proofs.Truth.{no_key_true}

-- ---- All rows, each once

-- there are as many
pub order_length : (n : ℕ) (order : List ℕ) → IsPermutation (range_with_len 0 n) order → length order ≡ n
order_length n order h = length_permutation (range_with_len 0 n) order h ∙ length-range_with_len 0 n

-- each is one of the rows
pub order_within : (n : ℕ) (order : List ℕ) → IsPermutation (range_with_len 0 n) order → All (λ r. r < n) order
order_within n order h =
    All-permutation (λ r. r < n) (range_with_len 0 n) order h
    (λ k d lt. (let below : k < n = rw (← length-range_with_len 0 n) lt in
    let at = get_or-range_with_len 0 n k d below in omega arith))

-- ---- Columns and keys

-- every vector has its cells in the order of the rows
abbrev turned : List ℕ → List Vector → List Vector
turned order = map (λ v. gathered v (map Some order))

cells_turned : (vs : List Vector) (order : List ℕ) (c : ℕ) → c < length vs
    → cells_of (turned order vs) c ≡ map (cell_at (cells_of vs c)) order
cells_turned [] order c lt = absurd (omega arith)
cells_turned (v ∷ vs) order zero lt = map-map (picked v.cells) Some order
cells_turned (v ∷ vs) order (suc c) lt = cells_turned vs order c (omega arith)

-- so a list of columns orders the new rows as it did the old ones
pub rising_turned : (vs : List Vector) (order cols : List ℕ) → AllByRecursion (λ c. c < length vs) cols
    → rising (turned order vs) cols ≡ map (taken order) (rising vs cols)
rising_turned vs order [] range = refl
rising_turned vs order (c ∷ cols) range =
    let here = cells_turned vs order c range.0 in
    let rest = rising_turned vs order cols range.1 in
    λ i. ascending (here i) ∷ rest i

-- a key that the rows have in their new order
key_turned : (vs : List Vector) (order key : List ℕ) (n : ℕ) → length order ≡ n → All (λ c. c < length vs) key
    → IsInOrder (rising vs key) order → IsTrueKey (rising (turned order vs) key) n
key_turned vs order key n long range h =
    subst (λ by. IsTrueKey by n)
    (sym (rising_turned vs order key (recursion_from_All (λ c. c < length vs) key range)))
    (subst (IsTrueKey (map (taken order) (rising vs key))) long (in_order_true (rising vs key) order h))

-- ---- The table

-- as many columns as there were
width_turned : (t u : TableSeen) (order key : List ℕ) → IsReordered t order key u
    → length u.frame.columns ≡ length t.frame.columns
width_turned t u order key h =
    sym (vectors_count u.frame.columns) ∙ (ap length h.vectors
    ∙ (length-map (vectors_of t.frame.columns) (λ v. gathered v (map Some order))
    ∙ vectors_count t.frame.columns))

pub IsTable-reordered : (t u : TableSeen) (order key : List ℕ) → IsTable t → IsFrame u.frame.columns u.frame.rows
    → IsPermutation (range_with_len 0 t.frame.rows) order → IsColumnList (length t.names) key
    → IsInOrder (rising (vectors_of t.frame.columns) key) order → IsReordered t order key u → IsTable u
IsTable-reordered t u order key table frame all cols sorted h =
    let width : length u.frame.columns ≡ length t.frame.columns = width_turned t u order key h in
    let named : length t.names ≡ length (vectors_of t.frame.columns) = table.named
    ∙ sym (vectors_count t.frame.columns) in
    let rises = key_turned (vectors_of t.frame.columns) order key t.frame.rows (order_length t.frame.rows order all)
    (subst (λ n. All (λ c. c < n) key) named cols.in_range) sorted in
    record {
      frame = frame;
      named = rw (h.names, width) table.named;
      names = rw h.names table.names;
      cells = rw (h.rows, width) table.cells;
      width = rw (h.names, h.slots) table.width;
      key = rw (h.key, h.names) cols;
      true_key = record { rises = rw (h.vectors, h.key, h.rows) rises };
      indices = rw h.indices (λ n d lt. absurd (omega arith));
    }

-- ---- Its plain reading

heads_turned : (names : List (List ℕ)) (vs : List Vector) (order : List ℕ)
    → heads_of names (turned order vs) ≡ heads_of names vs
heads_turned [] vs order = refl
heads_turned (name ∷ names) [] order = refl
heads_turned (name ∷ names) (v ∷ vs) order = ap (λ rest. record { name = name; kind = v.kind } ∷ rest)
    (heads_turned names vs order)

row_turned : (vs : List Vector) (order : List ℕ) (p : ℕ) → p < length order
    → row_at (turned order vs) p ≡ row_at vs (get_or order p 0)
row_turned [] order p lt = refl
row_turned (v ∷ vs) order p lt =
    let here : cell_at (map (picked v.cells) (map Some order)) p ≡ cell_at v.cells (get_or order p 0) =
    ap (λ (l : List Cell). cell_at l p) (map-map (picked v.cells) Some order)
    ∙ get_or-map (cell_at v.cells) order p 0 Na lt in
    let rest = row_turned vs order p lt in
    λ i. here i ∷ rest i

rows_turned : (vs : List Vector) (order : List ℕ) (n : ℕ) → length order ≡ n → All (λ r. r < n) order
    → rows_of n (turned order vs) ≡ map (λ r. get_or (rows_of n vs) r []) order
rows_turned vs order n long within =
    sym (fill_by_all (row_at (turned order vs)) (map (λ r. get_or (rows_of n vs) r []) order) n []
    (length-map order (λ r. get_or (rows_of n vs) r []) ∙ long)
    (λ p lt.
    let there : p < length order = omega arith in
    let r : ℕ = get_or order p 0 in
    let below : r < n = All-get_or (λ x. x < n) order p 0 there within in
    get_or-map (λ x. get_or (rows_of n vs) x []) order p 0 [] there
    ∙ (get_or-map-range_with_len (row_at vs) 0 n r r [] below (omega arith)
    ∙ sym (row_turned vs order p there))))

pub plain_turned : (t u : TableSeen) (order key : List ℕ) → IsPermutation (range_with_len 0 t.frame.rows) order
    → IsReordered t order key u → plain u ≡ plain_reordered order key t
plain_turned t u order key all h =
    let vs : List Vector = vectors_of t.frame.columns in
    let n : ℕ = t.frame.rows in
    rw (
      h.names,
      h.vectors,
      h.rows,
      h.key,
      h.indices,
      h.slots,
      heads_turned t.names vs order,
      rows_turned vs order n (order_length n order all) (order_within n order all),
    ) refl

-- ---- Keys that are recorded or dropped

-- without a key nothing is asked of the rows
pub IsTable-unkeyed : (t : TableSeen) (key : List ℕ) → IsTable t → key ≡ [] → IsTable (record t { key = key })
IsTable-unkeyed t key h e = record {
  frame = h.frame;
  named = h.named;
  names = h.names;
  cells = h.cells;
  width = h.width;
  key = no_columns (length t.names) key e;
  true_key = no_key_true t.frame.rows (vectors_of t.frame.columns) key e;
  indices = h.indices;
}
