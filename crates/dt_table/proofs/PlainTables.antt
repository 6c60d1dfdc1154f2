-- The plain reading of a table is a plain table.
use Rattle.std.proofs.Common.{◌≡◌, ◌<◌, ◌≤◌, ◌∙◌, ◌==◌, ℕ, zero, suc, List, [], ◌∷◌, All, false, map, length, get_or}
use Rattle.std.proofs.Common.{refl, sym, ap, subst, arith, inl, inr}
use Rattle.std.specs.List.{AllByRecursion, Contains, IsDistinct, range_with_len}
use Rattle.std.specs.Str.{bytes_eq}
use Rattle.std.specs.Cmp.Lexicographic.{nat_list_eq_equiv}
use Rattle.std.proofs.lemmas.Bool.{cases_lt, eqb-false}
use Rattle.std.proofs.lemmas.List.{get_or-map, length-map}
use Rattle.std.proofs.lemmas.List.Elements.{All-get_or, All-map, All-weaker, Contains-get_or, recursion_from_All}
use Rattle.std.proofs.lemmas.List.FromFn.{length-map-range_with_len}
use Rattle.std.proofs.lemmas.Map.Keys.{IsDistinct-from_apart, apart_from_distinct}
use Rattle.dt_base.specs.declared.cell.Cell.{Cell}
use Rattle.dt_base.specs.declared.cell.Cell.TheVariants.{Na}
use Rattle.dt_base.specs.declared.cell.ColType.{ColType}
use Rattle.dt_base.specs.Cell.{IsOfType}
use Rattle.dt_model.specs.Table.{heads_of, name_at, names_at, row_at, rows_of}
use Rattle.dt_model.specs.Vector.{Vector, IsVector, cell_at}
use Rattle.na_vector.specs.Column.{Seen, IsColumn}
use Rattle.na_vector.specs.Frame.{vectors_of}
use Rattle.dt_table.proofs.PlainKeys.{plain_key_true}
use Rattle.dt_table.specs.Plain.{plain}
use Rattle.dt_table.specs.PlainTables.{AreColumns, IsPlainTable, IsRow}
use Rattle.dt_table.specs.Table.{IndexSeen, IsColumnList, IsIndex, IsNames, IsTable, TableSeen}

-- ---- rows

na_typed : (kind : ColType) → IsOfType kind Na
na_typed kind = tt

-- past the end a cell is NA
cell_typed : (kind : ColType) (cells : List Cell) (r : ℕ) → AllByRecursion (IsOfType kind) cells
    → IsOfType kind (cell_at cells r)
cell_typed kind [] r h = na_typed kind
cell_typed kind (x ∷ cells) zero h = h.0
cell_typed kind (x ∷ cells) (suc r) h = cell_typed kind cells r h.1

row_typed : (names : List (List ℕ)) (vs : List Vector) (r : ℕ) → length names ≡ length vs → AllByRecursion IsVector vs
    → IsRow (heads_of names vs) (row_at vs r)
row_typed [] [] r e h = tt
row_typed [] (v ∷ vs) r e h = absurd (omega arith)
row_typed (q ∷ names) [] r e h = absurd (omega arith)
row_typed (q ∷ names) (v ∷ vs) r e h =
    let typed : IsVector v = h.0 in (
      cell_typed v.kind v.cells r (recursion_from_All (IsOfType v.kind) v.cells typed.typed),
      row_typed names vs r
          (omega arith) h.1,
    )

rows_typed : (names : List (List ℕ)) (vs : List Vector) (n : ℕ) → length names ≡ length vs
    → AllByRecursion IsVector vs → All (IsRow (heads_of names vs)) (rows_of n vs)
rows_typed names vs n e h = All-map (IsRow (heads_of names vs)) (row_at vs) (range_with_len 0 n)
    (λ k d lt. row_typed names vs _ e h)

-- ---- columns

head_names : (names : List (List ℕ)) (vs : List Vector) → length names ≡ length vs
    → map (λ head. head.name) (heads_of names vs) ≡ names
head_names [] [] e = refl
head_names [] (v ∷ vs) e = refl
head_names (q ∷ names) [] e = absurd (omega arith)
head_names (q ∷ names) (v ∷ vs) e = ap (λ rest. q ∷ rest) (head_names names vs (omega arith))

head_count : (names : List (List ℕ)) (vs : List Vector) → length names ≡ length vs → length (heads_of names vs)
    ≡ length vs
head_count [] [] e = refl
head_count [] (v ∷ vs) e = absurd (omega arith)
head_count (q ∷ names) [] e = absurd (omega arith)
head_count (q ∷ names) (v ∷ vs) e = let rest = head_count names vs (omega arith) in omega arith

-- ---- keys and indices

-- names at two places differ
names_apart : (names : List (List ℕ)) (a b : ℕ) → IsDistinct bytes_eq names → a < length names → b < length names
    → (a == b) ≡ false → bytes_eq (name_at names a) (name_at names b) ≡ false
names_apart names a b d x y n =
    elim (cases_lt a b) [
      | inl lt ↦ apart_from_distinct bytes_eq names a b [] d lt y
      | inr ge ↦ (let below : b < a = less a b ge (eqb-false a b n) in
          nat_list_eq_equiv.symm (name_at names a) (name_at names b)
          ∙ apart_from_distinct bytes_eq names b a [] d below x)
    ]
  where
    less : (a b : ℕ) → b ≤ a → (a ≡ b → ⊥) → b < a
    less a b ge n = omega (arith, n)

-- the names at places that are columns
columns_at : (names : List (List ℕ)) (cols : List ℕ) → IsNames names → IsColumnList (length names) cols
    → AreColumns names (names_at names cols)
columns_at names cols ns cs = record {
  known = All-map (Contains names) (name_at names) cols (All-weaker (λ c. c < length names)
      (λ c. Contains names (name_at names c)) (λ c lt. Contains-get_or names c [] lt) cols cs.in_range);
  distinct = IsDistinct-from_apart bytes_eq (names_at names cols) (λ i j d lt hi.
      let long : j < length cols = (let same : length (names_at names cols)
      ≡ length cols = length-map cols (name_at names) in omega arith) in
      let before : i < length cols = omega arith in
      let a : ℕ = get_or cols i 0 in
      let b : ℕ = get_or cols j 0 in
      rw (get_or-map (name_at names) cols i 0 d before, get_or-map (name_at names) cols j 0 d long)
      (names_apart names a b ns.distinct (All-get_or (λ c. c < length names) cols i 0 before cs.in_range)
      (All-get_or (λ c. c < length names) cols j 0 long cs.in_range)
      (apart_from_distinct (λ (x y : ℕ). x == y) cols i j 0 cs.distinct lt long)));
}

indices_at : (names : List (List ℕ)) (n : ℕ) (vs : List Vector) (xs : List IndexSeen) → IsNames names
    → All (IsIndex (length names) n vs) xs → All (AreColumns names) (map (λ x. names_at names x.cols) xs)
indices_at names n vs xs ns h =
    All-map (AreColumns names) (λ (x : IndexSeen). names_at names x.cols) xs
    (All-weaker (IsIndex (length names) n vs) (λ x. AreColumns names (names_at names x.cols))
    (λ x index. columns_at names x.cols ns index.cols) xs h)

-- ---- the table

vectors_typed : (columns : List Seen) → All IsColumn columns → AllByRecursion IsVector (vectors_of columns)
vectors_typed columns h = recursion_from_All IsVector (vectors_of columns)
    (All-map IsVector (λ (c : Seen). c.vector) columns h)

pub plain_table : (t : TableSeen) → IsTable t → IsPlainTable (plain t)
plain_table t h =
    let vs : List Vector = vectors_of t.frame.columns in
    let wide : length vs ≡ length t.frame.columns = length-map t.frame.columns (λ (c : Seen). c.vector) in
    let each : length t.names ≡ length vs = h.named ∙ sym wide in
    let names : map (λ head. head.name) (heads_of t.names vs) ≡ t.names = head_names t.names vs each in
    let columns : length (heads_of t.names vs) ≡ length t.frame.columns = head_count t.names vs each ∙ wide in
    let rows : length (rows_of t.frame.rows vs) ≡ t.frame.rows = length-map-range_with_len (row_at vs) 0 t.frame.rows in
    record {
      rows = rows_typed t.names vs t.frame.rows each (vectors_typed t.frame.columns h.frame.vectors);
      names = subst IsNames (sym names) h.names;
      none = λ e. rows ∙ h.frame.none (sym columns ∙ e);
      short = rw rows h.frame.short;
      cells = rw (rows, columns) h.cells;
      width = rw (columns, ← h.named) h.width;
      key = subst (λ ns. AreColumns ns (names_at t.names t.key)) (sym names) (columns_at t.names t.key h.names h.key);
      true_key = plain_key_true t h;
      indices = subst (λ ns. All (AreColumns ns) (map (λ x. names_at t.names x.cols) t.indices)) (sym names)
          (indices_at t.names t.frame.rows vs t.indices h.names h.indices);
    }
