-- How many fields the records of a text have: no more than its bytes and one.
use Rattle.std.proofs.Common.{◌≡◌, ◌<◌, ◌≤◌, ◌+◌, ◌*◌, ◌==◌, ◌⊎◌, ℕ, zero, suc, List, [], ◌∷◌, Bool, true, false, not}
use Rattle.std.proofs.Common.{nat_le, cond, Option, None, Some, length, refl, sym, subst, inl, inr, arith}
use Rattle.std.proofs.Common.{length-append, true≢false}
use Rattle.std.specs.List.{list_all}
use Rattle.std.specs.Str.{is_utf8}
use Rattle.std.proofs.lemmas.Bool.{eqb-true}
use Rattle.csv.specs.Machine.{Read, next_record, ends_at_end, is_end, step, fields_after, field_after}
use Rattle.csv.specs.Reading.{records, records_from, records_next, default_config, is_bom, strip_bom}
use Rattle.csv.specs.declared.parser.Config.{Config}
use Rattle.csv.specs.declared.parser.State.{State}
use Rattle.csv.specs.declared.parser.State.TheVariants as st
use Rattle.csv.specs.declared.parser.Action.{Action}
use Rattle.csv.specs.declared.parser.Action.TheVariants as act
use Rattle.csv_edge.proofs.OneRecord.{pick, some_is, none_is, last_read, this_read, later_read, read_settles}
use Rattle.run_model.specs.Csv.{Record, FileFault, row_fault, rows_fault, fault_or, Ragged, NotUtf8, TooManyRows}

-- ---- one record

-- an action adds one field at the most
fields_after-length : (a : Action) (fields : List (List ℕ)) (field : List ℕ)
    → length (fields_after a fields field) ≤ length fields + 1
fields_after-length act.EndField fields field = omega (arith, length-append fields (field ∷ []))
fields_after-length act.Skip fields field = omega arith
fields_after-length act.Copy fields field = omega arith
fields_after-length act.EndRecord fields field = omega (arith, length-append fields (field ∷ []))

-- and the end of a record adds one
end_adds : (a : Action) (fields : List (List ℕ)) (field : List ℕ) → is_end a ≡ true
    → 0 < length (fields_after a fields field)
end_adds act.EndField fields field e = absurd (true≢false (sym e))
end_adds act.Skip fields field e = absurd (true≢false (sym e))
end_adds act.Copy fields field e = absurd (true≢false (sym e))
end_adds act.EndRecord fields field e = omega (arith, length-append fields (field ∷ []))

-- a record that a byte ended has as many fields as bytes at the most; one that the text's end ended has one more
abbrev pub Sized : ℕ → List ℕ → Read → Type 0
Sized n xs p = (length p.0 + length p.2 ≤ n + length xs) ⊎ ((p.2 ≡ []) × (length p.0 ≤ n + length xs + 1))

sized_by : (n m : ℕ) (c : ℕ) (rest : List ℕ) (p : Read) → m ≤ n + 1 → Sized m rest p → Sized n (c ∷ rest) p
sized_by n m c rest p le (inl h) = inl (omega arith)
sized_by n m c rest p le (inr h) = inr (h.0, omega (arith, h.1))

pub read_sized : (cfg : Config) (xs : List ℕ) (s : State) (fields : List (List ℕ)) (field : List ℕ) (p : Read)
    → next_record cfg s fields field xs ≡ Some p → Sized (length fields) xs p
unfolding next_record
read_sized cfg [] s fields field =
    pick (ends_at_end s) (Some (last_read fields field)) None (Sized (length fields) [])
    (λ _ p e. subst (Sized (length fields) []) (some_is (last_read fields field) p e)
    (inr (refl, omega (arith, length-append fields (field ∷ [])))))
    (λ _ p e. none_is p e)
read_sized cfg (c ∷ rest) s fields field =
    pick (is_end (step cfg s c).1) (Some (this_read cfg s c fields field rest)) (later_read cfg s c fields field rest)
    (Sized (length fields) (c ∷ rest))
    (λ _ p e. subst (Sized (length fields) (c ∷ rest)) (some_is (this_read cfg s c fields field rest) p e)
    (inl (omega (arith, fields_after-length (step cfg s c).1 fields field))))
    (λ _ p e. sized_by (length fields) (length (fields_after (step cfg s c).1 fields field)) c rest p
    (fields_after-length (step cfg s c).1 fields field)
    (read_sized cfg rest (step cfg s c).0 (fields_after (step cfg s c).1 fields field)
    (field_after (step cfg s c).1 c field) p e))

-- a record has a field
pub read_some : (cfg : Config) (xs : List ℕ) (s : State) (fields : List (List ℕ)) (field : List ℕ) (p : Read)
    → next_record cfg s fields field xs ≡ Some p → 0 < length p.0
unfolding next_record
read_some cfg [] s fields field =
    pick (ends_at_end s) (Some (last_read fields field)) None (λ p. 0 < length p.0)
    (λ _ p e. subst (λ (q : Read). 0 < length q.0) (some_is (last_read fields field) p e)
    (omega (arith, length-append fields (field ∷ []))))
    (λ _ p e. none_is p e)
read_some cfg (c ∷ rest) s fields field =
    pick (is_end (step cfg s c).1) (Some (this_read cfg s c fields field rest)) (later_read cfg s c fields field rest)
    (λ p. 0 < length p.0)
    (λ b p e. subst (λ (q : Read). 0 < length q.0) (some_is (this_read cfg s c fields field rest) p e)
    (end_adds (step cfg s c).1 fields field b))
    (λ _ p e. read_some cfg rest (step cfg s c).0 (fields_after (step cfg s c).1 fields field)
    (field_after (step cfg s c).1 c field) p e)

-- ---- all records

-- how many fields records have
abbrev pub total : List Record → ℕ
total [] = 0
total (row ∷ rest) = length row + total rest

-- no byte and no open record: no record
none_after : (cfg : Config) (n : ℕ) (s : State) → ends_at_end s ≡ false → records_from cfg n s [] ≡ []
unfolding records_from next_record
none_after cfg zero s h = refl
none_after cfg (suc n) s h = rw h refl

total_step : (cfg : Config) (n : ℕ) (s : State) (xs : List ℕ)
    → ((p : Read) → next_record cfg s [] [] xs ≡ Some p
    → length p.0 + total (records_from cfg n p.1 p.2) ≤ length xs + 1)
    → (o : Option Read) → next_record cfg s [] [] xs ≡ o → total (records_next (records_from cfg n) o) ≤ length xs + 1
total_step cfg n s xs some None e = omega arith
total_step cfg n s xs some (Some p) e = some p e

total_of : (cfg : Config) (n : ℕ) (xs : List ℕ) (p : Read) → ends_at_end p.1 ≡ false
    → total (records_from cfg n p.1 p.2) ≤ length p.2 + 1 → Sized 0 xs p
    → length p.0 + total (records_from cfg n p.1 p.2) ≤ length xs + 1
total_of cfg n xs p between rest (inl h) = omega arith
total_of cfg n xs p between rest (inr h) =
    let none : records_from cfg n p.1 p.2 ≡ [] = rw h.0 (none_after cfg n p.1 between) in rw none (omega (arith, h.1))

pub records_from-total : (cfg : Config) (n : ℕ) (s : State) (xs : List ℕ) → ends_at_end s ≡ false
    → total (records_from cfg n s xs) ≤ length xs + 1
unfolding records_from
records_from-total cfg zero s xs h = omega arith
records_from-total cfg (suc n) s xs h =
    total_step cfg n s xs
    (λ p e. let between = read_settles cfg xs s [] [] p e in
    total_of cfg n xs p between (records_from-total cfg n p.1 p.2 between) (read_sized cfg xs s [] [] p e))
    (next_record cfg s [] [] xs) refl

-- the first record has a field
first_some : (cfg : Config) (n : ℕ) (s : State) (xs : List ℕ) (o : Option Read) (header : Record) (rows : List Record)
    → next_record cfg s [] [] xs ≡ o → records_next (records_from cfg n) o ≡ header ∷ rows → 0 < length header
first_some cfg n s xs None header rows e same = cc
first_some cfg n s xs (Some p) header rows e same =
    let here : p.0 ≡ header = cc in subst (λ (r : Record). 0 < length r) here (read_some cfg xs s [] [] p e)

pub header_some : (cfg : Config) (n : ℕ) (s : State) (xs : List ℕ) (header : Record) (rows : List Record)
    → records_from cfg n s xs ≡ header ∷ rows → 0 < length header
unfolding records_from
header_some cfg zero s xs header rows same = cc
header_some cfg (suc n) s xs header rows same = first_some cfg n s xs (next_record cfg s [] [] xs) header rows refl same

-- ---- records of one length

no_fault_first : (a b : Option FileFault) → fault_or a b ≡ None → a ≡ None
no_fault_first None b e = refl
no_fault_first (Some f) b e = cc

no_fault_rest : (a b : Option FileFault) → fault_or a b ≡ None → b ≡ None
no_fault_rest None b e = e
no_fault_rest (Some f) b e = cc

right_length : (w : ℕ) (many same text : Bool)
    → cond many (Some TooManyRows) (cond (not same) (Some (Ragged w)) (cond (not text) (Some (NotUtf8 w)) None)) ≡ None
    → same ≡ true
right_length w true same text e = cc
right_length w false true text e = refl
right_length w false false text e = cc

-- a record without fault has the header's length
pub row_length : (w b : ℕ) (row : Record) → row_fault w b row ≡ None → length row ≡ w
row_length w b row e =
    eqb-true (length row) w (right_length (b + 2) (nat_le 16777216 b) (length row == w) (list_all is_utf8 row) e)

pub rows_total : (w b : ℕ) (rows : List Record) → rows_fault w b rows ≡ None → total rows ≡ length rows * w
rows_total w b [] e = omega arith
rows_total w b (row ∷ rest) e =
    let here = row_length w b row (no_fault_first (row_fault w b row) (rows_fault w (b + 1) rest) e) in
    let later = rows_total w (b + 1) rest (no_fault_rest (row_fault w b row) (rows_fault w (b + 1) rest) e) in
    rw (here, later) (omega arith)

-- and there are no more than the limit
many_rows : (w : ℕ) (many same text : Bool)
    → cond many (Some TooManyRows) (cond (not same) (Some (Ragged w)) (cond (not text) (Some (NotUtf8 w)) None)) ≡ None
    → many ≡ false
many_rows w true same text e = cc
many_rows w false same text e = refl

pub rows_few : (w b : ℕ) (rows : List Record) → b ≤ 16777216 → rows_fault w b rows ≡ None → b + length rows ≤ 16777216
rows_few w b [] le e = omega arith
rows_few w b (row ∷ rest) le e =
    let here = many_rows (b + 2) (nat_le 16777216 b) (length row == w) (list_all is_utf8 row)
    (no_fault_first (row_fault w b row) (rows_fault w (b + 1) rest) e) in
    let below : b < 16777216 = grind arith in
    let later = rows_few w (b + 1) rest (omega arith)
    (no_fault_rest (row_fault w b row) (rows_fault w (b + 1) rest) e) in
    omega arith

-- ---- the cells of a file

pub strip_bom-length : (xs : List ℕ) → length (strip_bom xs) ≤ length xs
unfolding strip_bom
strip_bom-length [] = omega arith
strip_bom-length (a ∷ []) = omega arith
strip_bom-length (a ∷ b ∷ []) = omega arith
strip_bom-length (a ∷ b ∷ c ∷ rest) =
    elim (is_bom a b c) as (λ v. length (cond v rest (a ∷ b ∷ c ∷ rest)) ≤ suc (suc (suc (length rest)))) [
      | true ↦ omega arith
      | false ↦ omega arith
    ]

-- each cell takes a byte
pub cells_within : (bytes : List ℕ) (header : Record) (rows : List Record)
    → records default_config (strip_bom bytes) ≡ header ∷ rows
    → rows_fault (length header) 0 rows ≡ None → length rows * length header ≤ length bytes
cells_within bytes header rows same right =
    let all = records_from-total default_config (length (strip_bom bytes) + 1) st.StartRecord (strip_bom bytes) refl in
    let some = header_some default_config (length (strip_bom bytes) + 1) st.StartRecord (strip_bom bytes)
    header rows same in
    let short = strip_bom-length bytes in
    let each = rows_total (length header) 0 rows right in
    let sum : length header + total rows ≤ length (strip_bom bytes) + 1 = rw same at all in
    rw (← each) (omega arith)
