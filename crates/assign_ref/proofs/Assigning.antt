-- The change of targets without a fault is the assignment.
use Rattle.std.proofs.Common.{◌≡◌, ◌+◌, ◌<◌, ◌==◌, ℕ, zero, suc, List, [], ◌∷◌, length, map, All, None, Some, Option}
use Rattle.std.proofs.Common.{Ok, slice_get, refl, sym, ap, ◌∙◌, subst, arith, inl, inr}
use Rattle.std.specs.List.{AllByRecursion}
use Rattle.std.proofs.lemmas.Bool.{cases_Bool, eqb-true, or_cases}
use Rattle.std.proofs.lemmas.List.Elements.{All-from_recursion}
use Rattle.dt_base.specs.declared.warns.Warns.{Warns}
use Rattle.dt_base.specs.Warns.{both_warns}
use Rattle.dt_model.specs.Table.{ColumnHead, heads_of, is_repeated, place_of}
use Rattle.dt_model.specs.Vector.{Vector}
use Rattle.na_vector.specs.Frame.{vectors_of}
use Rattle.dt_table.specs.Change.{FitsPart, FitsTable, PartSeen}
use Rattle.dt_table.specs.Plain.{plain, plain_changed}
use Rattle.dt_table.specs.Table.{IsFilled, IsTable, TableSeen}
use Rattle.dt_table.proofs.Plain.{plain_names, plain_rows, vectors_count}
use Rattle.dt_table.proofs.Moving.{ap2}
use Rattle.assign_model.specs.Assign.{assigned, head_at, names_in, or_fault, target_warns, table_after, value_warns}
use Rattle.assign_model.specs.Assign.{warns_after}
use Rattle.assign_model.specs.Targets.{AssignFault, Duplicate, Length, Rows, Target, Unknown, assign_fault, is_name}
use Rattle.assign_model.specs.Targets.{has_length, names_of, rows_assigned, target_fault, targets_fault, value_fault}
use Rattle.assign_ref.specs.Planned.{parts_of}
use Rattle.assign_ref.specs.Values.{FitsTarget, FitsValue, part_warns, parts_warns, place_warns}
use Rattle.assign_ref.proofs.Columns.{place_some}
use Rattle.assign_ref.proofs.Fitting.{change_fits, none_left}
use Rattle.assign_ref.proofs.Whole.{plain_is_assigned}

-- ---- Targets without a fault

value_fits : (names : List (List ℕ)) (n : ℕ) (rows : Rows) (k : ℕ) (name : List ℕ) (value : Option Vector)
    → value_fault names n rows k name value ≡ None → FitsValue names n rows name value
value_fits names n rows k name None e =
    elim (cases_Bool (is_name names name)) [
      | inl hit ↦ hit
      | inr miss ↦
          (let some : Some (Unknown k) ≡ None = rw miss at e in cc)
    ]
value_fits names n rows k name (Some x) e =
    elim (cases_Bool (has_length n rows x)) [
      | inl hit ↦ elim (or_cases (length x.cells == 1) (length x.cells == rows_assigned n rows) hit) [
        | inl one ↦ inl (eqb-true (length x.cells) 1 one)
        | inr each ↦ inr (eqb-true (length x.cells) (rows_assigned n rows) each)
      ]
      | inr miss ↦ (let some : Some (Length k (length x.cells) (rows_assigned n rows)) ≡ None = rw miss at e in cc)
    ]

target_fits : (names : List (List ℕ)) (n : ℕ) (rows : Rows) (all : List Target) (k : ℕ) (t : Target)
    → target_fault names n rows all k t ≡ None → FitsTarget names n rows t
target_fits names n rows all k t e =
    elim (cases_Bool (is_repeated (names_of all) k)) [
      | inl hit ↦ (let some : Some (Duplicate k) ≡ None = rw hit at e in cc)
      | inr miss ↦ value_fits names n rows k t.name t.value (rw miss at e)
    ]

fits_each : (names : List (List ℕ)) (n : ℕ) (rows : Rows) (all : List Target) (k : ℕ) (ts : List Target)
    → targets_fault names n rows all k ts ≡ None → AllByRecursion (FitsTarget names n rows) ts
fits_each names n rows all k [] e = tt
fits_each names n rows all k (t ∷ ts) e =
    let both = none_left (target_fault names n rows all k t) (targets_fault names n rows all (k + 1) ts) e in
    (target_fits names n rows all k t both.0, fits_each names n rows all (k + 1) ts both.1)

pub targets_fit : (names : List (List ℕ)) (n : ℕ) (rows : Rows) (ts : List Target)
    → targets_fault names n rows ts 0 ts ≡ None → All (FitsTarget names n rows) ts
targets_fit names n rows ts e = All-from_recursion (FitsTarget names n rows) ts (fits_each names n rows ts 0 ts e)

-- ---- Warnings

head_there : (names : List (List ℕ)) (vs : List Vector) (c : ℕ) → length names ≡ length vs → c < length names
    → (rows : Rows) (x : Vector) → value_warns rows x (slice_get (heads_of names vs) c) ≡ place_warns rows x vs (Some c)
head_there [] vs c e lt rows x = absurd (omega arith)
head_there (q ∷ names) [] c e lt rows x = absurd (omega arith)
head_there (q ∷ names) (v ∷ vs) zero e lt rows x = refl
head_there (q ∷ names) (v ∷ vs) (suc c) e lt rows x = head_there names vs c (omega arith) (omega arith) rows x

place_same : (names : List (List ℕ)) (vs : List Vector) (name : List ℕ) (rows : Rows) (x : Vector) → length names
    ≡ length vs → value_warns rows x (head_at (heads_of names vs) (place_of name names))
    ≡ place_warns rows x vs (place_of name names)
place_same names vs name rows x each = go (place_of name names) refl
  where
    go : (o : Option ℕ) → place_of name names ≡ o → value_warns rows x (head_at (heads_of names vs) o)
        ≡ place_warns rows x vs o
    go None h = refl
    go (Some c) h = (let found = place_some name names c h in head_there names vs c each found.0 rows x)

target_same : (names : List (List ℕ)) (vs : List Vector) (rows : Rows) (name : List ℕ) (value : Option Vector)
    → length names ≡ length vs → map (λ (head : ColumnHead). head.name) (heads_of names vs) ≡ names
    → target_warns (heads_of names vs) rows name value ≡ part_warns rows names vs name value
target_same names vs rows name None each e = refl
target_same names vs rows name (Some x) each e =
    ap (λ (qs : List (List ℕ)). value_warns rows x (head_at (heads_of names vs) (place_of name qs))) e
    ∙ place_same names vs name rows x each

pub warns_same : (names : List (List ℕ)) (vs : List Vector) (rows : Rows) (ts : List Target) → length names
    ≡ length vs → map (λ (head : ColumnHead). head.name) (heads_of names vs) ≡ names
    → warns_after (heads_of names vs) rows ts ≡ parts_warns rows names vs ts
warns_same names vs rows [] each e = refl
warns_same names vs rows (t ∷ ts) each e = ap2 both_warns (target_same names vs rows t.name t.value each e)
    (warns_same names vs rows ts each e)

-- ---- The assignment

pub is_assigned : (t : TableSeen) (rows : Rows) (ts : List Target) (ps : List PartSeen) (warns : Warns) → IsTable t
    → assign_fault t.names t.frame.rows t.slots rows ts ≡ None → ps
    ≡ parts_of t.frame.rows rows t.names (vectors_of t.frame.columns) ts → warns
    ≡ parts_warns rows t.names (vectors_of t.frame.columns) ts → assigned (plain t) rows ts
    ≡ Ok (record { table = plain_changed t (record { parts = ps }); warns = warns })
is_assigned t rows ts ps warns h none parts w =
    let each : length t.names ≡ length (vectors_of t.frame.columns) = h.named ∙ sym (vectors_count t.frame.columns) in
    let fault : assign_fault (names_in (plain t)) (length (plain t).rows) t.slots rows ts ≡ None =
    ap (λ (qs : List (List ℕ)). assign_fault qs (length (plain t).rows) t.slots rows ts) (plain_names t h)
    ∙ (ap (λ (m : ℕ). assign_fault t.names m t.slots rows ts) (plain_rows t) ∙ none) in
    let table : table_after (plain t) rows ts ≡ plain_changed t (record { parts = ps }) = sym
    (ap (λ (l : List PartSeen). plain_changed t (record { parts = l })) parts ∙ plain_is_assigned t rows ts h) in
    let told : warns_after (plain t).columns rows ts ≡ warns = warns_same t.names (vectors_of t.frame.columns) rows ts
    each (plain_names t h) ∙ sym w in
    ap (λ (f : Option AssignFault). or_fault f (record {
      table = table_after (plain t) rows ts;
      warns = warns_after
          (plain t).columns rows ts;
    })) fault
    ∙ (λ j. Ok (record { table = table j; warns = told j }))

pub is_fitting : (t : TableSeen) (rows : Rows) (ts : List Target) (ps : List PartSeen) → IsTable t
    → All IsFilled (names_of ts) → assign_fault t.names t.frame.rows t.slots rows ts ≡ None → ps
    ≡ parts_of t.frame.rows rows t.names (vectors_of t.frame.columns) ts → All (FitsPart t) ps
    → FitsTable t (record { parts = ps })
is_fitting t rows ts ps h filled none parts fits =
    subst (λ (l : List PartSeen). FitsTable t (record { parts = l })) (sym parts)
    (change_fits t rows ts h filled none (subst (λ (l : List PartSeen). All (FitsPart t) l) parts fits))
