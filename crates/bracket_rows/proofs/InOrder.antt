-- Columns by their names, and rows in the order of them.
use Rattle.std.proofs.Common.{◌≡◌, ◌∙◌, ◌<◌, sym, ap, ℕ, true, false, List, [], ◌∷◌, length, map, All, Some, Ok, refl}
use Rattle.std.proofs.Common.{codes, suc, zero}
use Rattle.std.specs.List.{AllByRecursion}
use Rattle.std.proofs.Math.Dec.{eqb-suc-zero}
use Rattle.std.proofs.lemmas.List.{length-map}
use Rattle.std.proofs.lemmas.List.Elements.{All-map, recursion_from_All}
use Rattle.std.proofs.lemmas.List.FromFn.{length-map-range_with_len}
use Rattle.std.proofs.lemmas.List.Quantifiers.{position-Some}
use Rattle.std.proofs.lemmas.Slice.Eq.{bytes_eq-Decides}
use Rattle.std.specs.Str.{bytes_eq}
use Rattle.bracket_rows.specs.Found.{AreRows}
use Rattle.bracket_rows.specs.Ordered.{arg_form, arg_item, column_seen}
use Rattle.dt_base.specs.Warns.{no_warns}
use Rattle.dt_base.specs.declared.warns.Warns.{Warns}
use Rattle.dt_base.specs.declared.cell.ColType.TheVariants as ty
use Rattle.dt_model.specs.Table.{name_at, place_of}
use Rattle.dt_model.specs.Vector.{IsWithin}
use Rattle.dt_table.proofs.Plain.{plain_names, plain_rows}
use Rattle.dt_table.proofs.PlainKeys.{cells_by_name}
use Rattle.dt_table.specs.Plain.{plain}
use Rattle.dt_table.specs.Table.{IsTable, TableSeen}
use Rattle.na_vector.specs.Column.{Seen}
use Rattle.na_vector.specs.Frame.{rows_with, vectors_of}
use Rattle.order_model.proofs.Exists.{ordering_sorts}
use Rattle.order_model.proofs.Sorts.{within}
use Rattle.order_model.specs.Order.{Sorting}
use Rattle.order_model.specs.Places.{ordering, row_at_place}
use Rattle.row_model.specs.Rows.{Places}
use Rattle.row_order.specs.Columns.{sorting, sorting_of}
use Rattle.row_order.specs.declared.ordering.SortCol.{SortCol}
use Rattle.dt_tree.specs.declared.tree.Arg.{Arg}
use Rattle.expr_scope.proofs.Ends.{argument_means}
use Rattle.func_table.specs.declared.func.Func.TheVariants as func
use Rattle.session_model.specs.Binding.{bound}
use Rattle.session_model.specs.Expression.{each, names_in}
use Rattle.session_model.specs.Found.{Found, found_at, ordered_rows, rows_ordered}
use Rattle.session_model.specs.Meaning.{arg_meaning}
use Rattle.session_model.specs.OrderColumns.{OrderColumn, column_asked, known_column, sorting_by}
use Rattle.session_model.specs.Written.{Item}
use Rattle.vector_model.specs.Then.{then_do}

-- ---- A column by its name

-- a name that is found is the column's
pub known : (names : List (List ℕ)) (c : OrderColumn) (col : ℕ) → Some col ≡ place_of c.name names
    → known_column names c ≡ Ok (record { name = name_at names col; down = c.down })
known names c col h =
    let found = position-Some (bytes_eq c.name) names col [] (sym h) in
    let same : c.name ≡ name_at names col = (bytes_eq-Decides c.name (name_at names col)).0 found.1 in
    rw (← h) (λ j. Ok (record { name = same j; down = c.down }))

pub within_names : (names : List (List ℕ)) (name : List ℕ) (col : ℕ) → Some col ≡ place_of name names
    → col < length names
within_names names name col h = (position-Some (bytes_eq name) names col [] (sym h)).0

pub ruleset placed = (known, within_names)

-- ---- The columns of an order

sorting_same : (t : TableSeen) (s : SortCol) → IsTable t → s.col < length t.names → s.na_last ≡ true
    → sorting (vectors_of t.frame.columns) s ≡ sorting_by (plain t) true (column_seen t.names s)
sorting_same t s h lt last =
    let none : Seen = record { vector = record { kind = ty.Lgl; cells = [] }; spare = 0 } in
    λ j. record { cells = sym (cells_by_name t s.col none h lt) j; down = s.down; na_last = last j }

same_by_each : (t : TableSeen) (by : List SortCol) → IsTable t → AllByRecursion (λ s. s.col < length t.names) by
    → AllByRecursion (λ s. s.na_last ≡ true) by
    → sorting_of (vectors_of t.frame.columns) by ≡ map (sorting_by (plain t) true) (map (column_seen t.names) by)
same_by_each t [] h range last = refl
same_by_each t (s ∷ by) h range last =
    let here = sorting_same t s h range.0 last.0 in
    let rest = same_by_each t by h range.1 last.1 in
    λ j. here j ∷ rest j

-- columns by their places order rows as they do by their names
pub sortings_same : (t : TableSeen) (by : List SortCol) → IsTable t → All (λ s. s.col < length t.names) by
    → All (λ s. s.na_last ≡ true) by
    → sorting_of (vectors_of t.frame.columns) by ≡ map (sorting_by (plain t) true) (map (column_seen t.names) by)
sortings_same t by h range last =
    same_by_each t by h (recursion_from_All (λ s. s.col < length t.names) by range)
    (recursion_from_All (λ s. s.na_last ≡ true) by last)

-- ---- The arguments

names_same : (args : List Arg) → map (λ (k : Item). k.name) (map arg_item args) ≡ names_in (map arg_meaning args)
names_same [] = refl
names_same (a ∷ args) = ap (λ l. (arg_meaning a).name ∷ l) (names_same args)

forms_same : (args : List Arg) → map (λ (k : Item). k.form) (map arg_item args) ≡ map arg_form args
forms_same [] = refl
forms_same (a ∷ args) = λ j. (argument_means a j).form ∷ forms_same args j

-- the call of `order` looks at the names of its arguments, then at the column that each asks
pub call_means : (t : TableSeen) (args : List Arg) → IsTable t → ordered_rows (map arg_item args) (plain t)
    ≡ then_do (bound func.Order (names_in (map arg_meaning args)))
    (λ _. then_do (each (column_asked (codes "order") true t.names) (map arg_form args))
    (λ by. Ok (rows_ordered (plain t) by)))
call_means t args h = λ j. then_do (bound func.Order (names_same args j))
    (λ _. then_do (each (column_asked (codes "order") true (plain_names t h j)) (forms_same args j))
    (λ by. Ok (rows_ordered (plain t) by)))

-- once they are known, it gives the rows in their order
pub order_gives : (t : TableSeen) (args : List Arg) (u : Unit {0}) (by : List OrderColumn) (r : Found) → IsTable t
    → bound func.Order (names_in (map arg_meaning args)) ≡ Ok u
    → each (column_asked (codes "order") true t.names) (map arg_form args) ≡ Ok by → r ≡ rows_ordered (plain t) by
    → ordered_rows (map arg_item args) (plain t) ≡ Ok r
order_gives t args u by r h b e s = call_means t args h ∙ rw (b, e, s) refl

-- ---- The rows

-- the places of all rows in this order are those that the definition gives
pub found_in_order : (t : TableSeen) (by : List SortCol) (rows : List ℕ) (places : Places) (warns : Warns) → IsTable t
    → All (λ s. s.col < length t.names) by → All (λ s. s.na_last ≡ true) by
    → rows ≡ ordering (sorting_of (vectors_of t.frame.columns) by) t.frame.rows → places ≡ map Some rows
    → warns ≡ no_warns → found_at (plain t) places false false warns ≡ rows_ordered (plain t) (map (column_seen t.names) by)
found_in_order t by rows places warns h range last e p w =
    let order : rows ≡ ordering (map (sorting_by (plain t) true) (map (column_seen t.names) by)) (length (plain t).rows) =
    e ∙ (λ j. ordering (sortings_same t by h range last j) (sym (plain_rows t) j)) in
    λ j. found_at (plain t) ((p ∙ ap (map Some) order) j) false false (w j)

no_rows : (t : TableSeen) → IsTable t → rows_with (length t.frame.columns) t.frame.rows ≡ t.frame.rows
no_rows t h = go (length t.frame.columns) refl
  where
    go : (width : ℕ) → length t.frame.columns ≡ width → rows_with width t.frame.rows ≡ t.frame.rows
    go zero e = sym (h.frame.none e)
    go (suc width) e = rw (eqb-suc-zero width) refl

-- and they are rows of the table
pub rows_in_order : (t : TableSeen) (by : List Sorting) (rows : List ℕ) (places : Places) → IsTable t
    → rows ≡ ordering by t.frame.rows → places ≡ map Some rows → AreRows t places
rows_in_order t by rows places h e p =
    let n : ℕ = t.frame.rows in
    let so = ordering_sorts by n in
    let all : All (IsWithin n) (map Some (ordering by n)) = All-map (IsWithin n) Some (ordering by n)
    (λ k d lt. within by n (ordering by n) so.all so.up k d lt) in
    let is : places ≡ map Some (ordering by n) = p ∙ ap (map Some) e in
    let long : length (map Some (ordering by n)) ≡ n = length-map (ordering by n) Some
    ∙ length-map-range_with_len (row_at_place by n) 0 n in
    rw is (record { within = all; short = rw long h.frame.short; none = rw long (no_rows t h) })
