-- What an index of one column makes of a table, also before a change that does not name the column.
use Rattle.std.proofs.Common.{◌≡◌, ◌∙◌, ◌<◌, ◌==◌, ◌&&◌, ◌||◌, ◌++◌, not, ℕ, zero, suc, Bool, true, false, All}
use Rattle.std.proofs.Common.{List, [], ◌∷◌}
use Rattle.std.proofs.Common.{length, map, arith, refl, sym, ap, subst, Option, None, Some, option_map}
use Rattle.std.specs.List.{AllByRecursion, IsDistinct, filter, list_any}
use Rattle.std.specs.Str.{bytes_eq}
use Rattle.std.proofs.lemmas.Bool.Decides.{nat_tests}
use Rattle.std.proofs.lemmas.List.{map-append}
use Rattle.std.proofs.lemmas.List.Elements.{All-head, All-tail, filter-append}
use Rattle.std.proofs.lemmas.Map.Keys.{IsDistinct-head, IsDistinct-tail}
use Rattle.auto_index.specs.Added.{FitsWith, IsOf, altered_with, keeps, names_column}
use Rattle.stmt_value.specs.Values.{HasNoIndex}
use Rattle.dt_model.specs.Table.{name_at, names_at}
use Rattle.dt_table.proofs.Moving.{names_moved}
use Rattle.dt_table.specs.Change.{Add, ChangeSeen, Delete, FitsPart, PartSeen, Replace, Write, added_names}
use Rattle.dt_table.specs.Change.{indices_changed, is_left, is_named, moved, names_changed, part_names, stays_before}
use Rattle.dt_table.specs.Plain.{plain, plain_changed}
use Rattle.dt_table.specs.Table.{IndexSeen, IsTable, TableSeen}
use Rattle.keys_index.proofs.Probing.{same_place}
use Rattle.session_model.specs.AutoIndex.{index_kept, indexed_alteration}
use Rattle.session_model.specs.Indices.{with_index}
use Rattle.stmt_change.specs.Altered.{altered_names, plain_altered}
use Rattle.stmt_change.specs.Places.{table_at}
use Rattle.stmt_change.specs.declared.change.Altered.{Altered}
use Rattle.table_heap.specs.Altered.{FitsParts, indexed, table_altered}
use Rattle.table_heap.specs.Seen.{HeapSeen}
use Rattle.table_heap.specs.declared.bound.Id.{Id}

-- ---- The table

plain_one : (t : TableSeen) (x : IndexSeen)
    → plain (indexed t (Some x)) ≡ with_index (names_at t.names x.cols) (plain t)
plain_one t x =
    let all : map (λ y. names_at t.names y.cols) (t.indices ++ x ∷ [])
    ≡ map (λ y. names_at t.names y.cols) t.indices ++ names_at t.names x.cols ∷ [] =
    map-append (λ y. names_at t.names y.cols) t.indices (x ∷ []) in
    λ i. record (plain t) { indices = all i }

-- an index of a column that no part names stays, behind those that stay
left_one : (ps : List PartSeen) (names : List (List ℕ)) (xs : List IndexSeen) (x : IndexSeen) (c : ℕ)
    → x.cols ≡ c ∷ [] → is_named ps c ≡ false → c < length names
    → map (λ y. names_at (names_changed ps names) y.cols) (indices_changed ps (xs ++ x ∷ []))
    ≡ map (λ y. names_at (names_changed ps names) y.cols) (indices_changed ps xs) ++ (name_at names c ∷ []) ∷ []
left_one ps names xs x c cols free lt =
    let f : IndexSeen → List (List ℕ) = λ y. names_at (names_changed ps names) y.cols in
    let stays : is_left ps x ≡ true = ap (λ (l : List ℕ). not (list_any (is_named ps) l)) cols ∙ rw free refl in
    let here : filter (is_left ps) (x ∷ []) ≡ x ∷ [] = rw stays refl in
    let split : filter (is_left ps) (xs ++ x ∷ []) ≡ filter (is_left ps) xs ++ x ∷ [] =
    filter-append (is_left ps) xs (x ∷ []) ∙ ap (λ (l : List IndexSeen). filter (is_left ps) xs ++ l) here in
    let name : f (moved ps x) ≡ name_at names c ∷ [] =
    ap (λ (l : List ℕ). names_at (names_changed ps names) (map (stays_before ps) l)) cols
    ∙ names_moved ps names (added_names ps) (c ∷ []) (free, tt) (lt, tt) in
    ap (λ (l : List IndexSeen). map f (map (moved ps) l)) split
    ∙ (ap (map f) (map-append (moved ps) (filter (is_left ps) xs) (x ∷ []))
    ∙ (map-append f (indices_changed ps xs) (moved ps x ∷ [])
    ∙ ap (λ (l : List (List ℕ)). map f (indices_changed ps xs) ++ l ∷ []) name))

changed_one : (t : TableSeen) (ch : ChangeSeen) (x : IndexSeen) (c : ℕ) → x.cols ≡ c ∷ [] → is_named ch.parts c ≡ false
    → c < length t.names
    → plain_changed (indexed t (Some x)) ch ≡ with_index (name_at t.names c ∷ []) (plain_changed t ch)
changed_one t ch x c cols free lt =
    let all = left_one ch.parts t.names t.indices x c cols free lt in
    λ i. record (plain_changed t ch) { indices = all i }

altered_one : (t : TableSeen) (ch : Option ChangeSeen) (x : IndexSeen) (c : ℕ) → x.cols ≡ c ∷ []
    → names_column ch c ≡ false → c < length t.names
    → table_altered t (Some x) ch ≡ with_index (name_at t.names c ∷ []) (table_altered t None ch)
altered_one t None x c cols free lt =
    plain_one t x ∙ ap (λ (l : List ℕ). with_index (names_at t.names l) (plain t)) cols
altered_one t (Some ch) x c cols free lt = changed_one t ch x c cols free lt

-- ---- Whether a change names the column

all_behind : (P : List ℕ → Type 0) (xs ys : List (List ℕ)) → AllByRecursion P (xs ++ ys) → AllByRecursion P ys
all_behind P [] ys h = h
all_behind P (x ∷ xs) ys h = all_behind P xs ys h.1

-- the names behind a column's differ from it
apart_behind : (xs ys : List (List ℕ)) (c : ℕ) → IsDistinct bytes_eq (xs ++ ys) → c < length xs
    → AllByRecursion (λ q. bytes_eq (name_at xs c) q ≡ false) ys
apart_behind [] ys c d lt = absurd (omega arith)
apart_behind (x ∷ xs) ys zero d lt =
    all_behind (λ q. bytes_eq x q ≡ false) xs ys (IsDistinct-head bytes_eq x (xs ++ ys) d)
apart_behind (x ∷ xs) ys (suc c) d lt = apart_behind xs ys c (IsDistinct-tail bytes_eq x (xs ++ ys) d) (omega arith)

parts_named : (t : TableSeen) (c : ℕ) (ps : List PartSeen) → IsDistinct bytes_eq t.names → c < length t.names
    → All (FitsPart t) ps → AllByRecursion (λ q. bytes_eq (name_at t.names c) q ≡ false) (added_names ps)
    → list_any (bytes_eq (name_at t.names c)) (part_names t.names ps) ≡ is_named ps c
parts_named t c [] d lt h apart = refl
parts_named t c (Replace k with ∷ ps) d lt h apart =
    let here = same_place t.names c k d lt (All-head (FitsPart t) (Replace k with) ps h).0 in
    let rest = parts_named t c ps d lt (All-tail (FitsPart t) (Replace k with) ps h) apart in
    λ i. here i || rest i
parts_named t c (Write k at cells ∷ ps) d lt h apart =
    let here = same_place t.names c k d lt (All-head (FitsPart t) (Write k at cells) ps h).0 in
    let rest = parts_named t c ps d lt (All-tail (FitsPart t) (Write k at cells) ps h) apart in
    λ i. here i || rest i
parts_named t c (Add name with ∷ ps) d lt h apart =
    let rest = parts_named t c ps d lt (All-tail (FitsPart t) (Add name with) ps h) apart.1 in
    λ i. apart.0 i || rest i
parts_named t c (Delete k ∷ ps) d lt h apart =
    let here = same_place t.names c k d lt (All-head (FitsPart t) (Delete k) ps h) in
    let rest = parts_named t c ps d lt (All-tail (FitsPart t) (Delete k) ps h) apart in
    λ i. here i || rest i

change_named : (t : TableSeen) (ch : Option ChangeSeen) (c : ℕ) → IsTable t → c < length t.names → FitsParts t ch
    → list_any (bytes_eq (name_at t.names c)) (altered_names t ch) ≡ names_column ch c
change_named t None c h lt fits = refl
change_named t (Some ch) c h lt fits =
    parts_named t c ch.parts h.names.distinct lt fits.parts
    (apart_behind t.names (added_names ch.parts) c fits.names.distinct lt)

-- ---- What is altered

-- the table of an Id keeps the index where it is the altered one, and its change does not name the column
pub keeps_here : (h : HeapSeen) (id : Id) (a : Altered) (c : ℕ) → IsTable (table_at h id)
    → c < length (table_at h id).names → FitsParts (table_at h a.id) a.parts → a.id ≡ id
    → keeps id.number (name_at (table_at h id).names c) (Some (plain_altered h a)) ≡ not (names_column a.parts c)
keeps_here h id a c is lt fits same =
    let t = table_at h id in
    let at : FitsParts t a.parts = subst (λ (k : Id). FitsParts (table_at h k) a.parts) same fits in
    let q = name_at t.names c in
    let one : (id.number == id.number) ≡ true = grind (arith, nat_tests) in
    (λ i. ((same i).number == id.number) && not (list_any (bytes_eq q) (altered_names (table_at h (same i)) a.parts)))
    ∙ (ap (λ (b : Bool). b && not (list_any (bytes_eq q) (altered_names t a.parts))) one
    ∙ ap not (change_named t a.parts c is lt at))

-- what is altered, with the index
pub altered_added : (h : HeapSeen) (id : Id) (x : IndexSeen) (c : ℕ) (a : Option Altered) → IsTable (table_at h id)
    → c < length (table_at h id).names → x.cols ≡ c ∷ [] → HasNoIndex a → FitsWith h a → IsOf id a
    → keeps id.number (name_at (table_at h id).names c) (option_map (plain_altered h) a) ≡ true
    → plain_altered h (altered_with id x a)
    ≡ indexed_alteration id.number (plain (table_at h id)) (name_at (table_at h id).names c)
    (option_map (plain_altered h) a)
altered_added h id x c None is lt cols none fits same kept =
    let table = altered_one (table_at h id) None x c cols refl lt in
    λ i. record { number = id.number; names = []; table = table i }
altered_added h id x c (Some a) is lt cols none fits same kept =
    let t = table_at h id in
    let q = name_at t.names c in
    let free : names_column a.parts c ≡ false =
    not_true (names_column a.parts c) (sym (keeps_here h id a c is lt fits.1.parts same) ∙ kept) in
    let old : table_altered (table_at h a.id) a.index a.parts ≡ table_altered t None a.parts =
    (λ i. table_altered (table_at h (same i)) (none i) a.parts) in
    let chosen : index_kept id.number q (plain_altered h a)
    ≡ with_index (q ∷ []) (table_altered (table_at h a.id) a.index a.parts) = rw kept refl in
    let table : table_altered t (Some x) a.parts ≡ index_kept id.number q (plain_altered h a) =
    altered_one t a.parts x c cols free lt ∙ (ap (with_index (q ∷ [])) (sym old) ∙ sym chosen) in
    λ i. record {
      number = (sym same i).number;
      names = altered_names (table_at h (sym same i)) a.parts;
      table = table i;
    }
  where
    not_true : (b : Bool) → not b ≡ true → b ≡ false
    not_true true e = cc
    not_true false e = refl
