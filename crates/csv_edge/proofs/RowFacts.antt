-- One record more: its fault, and its fields in the columns.
use Rattle.std.proofs.Common.{◌≡◌, ◌+◌, ◌<◌, ◌≤◌, ◌∙◌, ℕ, Bool, List, [], ◌∷◌, None, get_or, set, length, inl, inr}
use Rattle.std.proofs.Common.{refl, sym, arith}
use Rattle.std.proofs.lemmas.Bool.{cases_lt}
use Rattle.std.proofs.lemmas.List.{get_or-set_same, get_or-set_other, get_or_default}
use Rattle.csv_edge.proofs.FillingFacts.{gains_next}
use Rattle.csv_edge.specs.Filling.{Gains}
use Rattle.csv_edge.specs.declared.filling.Filling.{Filling}
use Rattle.run_model.specs.Csv.{Record, row_fault, rows_fault, fields_at}

-- a record without fault leaves the fault to the records behind it
pub rows_fault_next : (w v b : ℕ) (row : Record) (rest whole : List Record) → whole ≡ row ∷ rest → v ≡ w
    → row_fault v b row ≡ None
    → rows_fault w (b + 1) rest ≡ rows_fault w b whole
rows_fault_next w v b row rest whole e same right = let here : row_fault w b row ≡ None = rw same at right in
    rw (e, here) refl

-- a column that gained the record's field gains the fields of the records behind it
pub fields_next : (again : Bool) (column grown after : Filling) (k : ℕ) (row : Record) (rest whole : List Record)
    → whole ≡ row ∷ rest
    → Gains again column grown (get_or row k [] ∷ []) → Gains again grown after (fields_at k rest)
    → Gains again column after (fields_at k whole)
fields_next again column grown after k row rest whole e first more =
    rw e (gains_next again column grown after (get_or row k []) (fields_at k rest) first more)

-- the columns up to one place more have gained a record's fields
pub column_grown : (again : Bool) (before columns : List Filling) (i : ℕ) (column grown : Filling)
    (fields : List (List ℕ)) (field : List ℕ)
    → i < length columns → field ≡ get_or fields i [] → Gains again (get_or columns i column) grown (field ∷ [])
    → ((k : ℕ) (d : Filling) → k < i → Gains again (get_or before k d) (get_or columns k d) (get_or fields k [] ∷ []))
    → ((k : ℕ) (d : Filling) → i ≤ k → get_or columns k d ≡ get_or before k d)
    → (k : ℕ) (d : Filling) → k < i + 1 → Gains again (get_or before k d) (get_or (set columns i grown) k d)
    (get_or fields k [] ∷ [])
column_grown again before columns i column grown fields field within same gains earlier later k d h =
    elim (cases_lt k i) [
      | inl lt ↦ rw (get_or-set_other columns i k grown d (omega arith)) (earlier k d lt)
      | inr ge ↦ (let at : k ≡ i = omega arith in
          let old : get_or before i d ≡ get_or columns i column = sym (later i d (omega arith))
          ∙ get_or_default columns i d column within in
          rw (at, old, get_or-set_same columns i grown d within, ← same) gains)
    ]

-- and the columns behind it are as they were
pub column_same : (before columns : List Filling) (i : ℕ) (grown : Filling)
    → ((k : ℕ) (d : Filling) → i ≤ k → get_or columns k d ≡ get_or before k d)
    → (k : ℕ) (d : Filling) → i + 1 ≤ k → get_or (set columns i grown) k d ≡ get_or before k d
column_same before columns i grown later k d h = get_or-set_other columns i k grown d (omega arith)
    ∙ later k d (omega arith)
