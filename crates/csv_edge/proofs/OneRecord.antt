-- The read of one record: it takes bytes, and leaves the reader between two records.
use Rattle.std.proofs.Common.{◌≡◌, ◌<◌, ◌≤◌, ◌==◌, ◌&&◌, ℕ, suc, List, [], ◌∷◌, ◌++◌, Bool, true, false, Option, None}
use Rattle.std.proofs.Common.{Some, length, refl, sym, ap, ◌∙◌, arith, true≢false, if◌then◌else◌}
use Rattle.std.specs.Option.{option_map_or}
use Rattle.csv.specs.Machine.{Read, next_record, ends_at_end, is_end, step, in_field, start_field, start_record}
use Rattle.csv.specs.Machine.{after_end, ends_with, is_byte, fields_after, field_after}
use Rattle.csv.specs.declared.parser.Config.{Config}
use Rattle.csv.specs.declared.parser.Terminator.{Terminator}
use Rattle.csv.specs.declared.parser.Terminator.TheVariants as term
use Rattle.csv.specs.declared.parser.State.{State}
use Rattle.csv.specs.declared.parser.State.TheVariants as st
use Rattle.csv.specs.declared.parser.Action.{Action}
use Rattle.csv.specs.declared.parser.Action.TheVariants as act

-- a step that ends a record leaves a state in which the end of the text ends none
abbrev Settles : State × Action → Type 0
Settles x = is_end x.1 ≡ true → ends_at_end x.0 ≡ false

either : (b : Bool) (x y : State × Action) → Settles x → Settles y → Settles (if b then x else y)
either true x y hx hy = hx
either false x y hx hy = hy

no : {A : Type 0} → false ≡ true → A
no e = absurd (true≢false (sym e))

after : (t : Terminator) (c : ℕ) → ends_at_end (after_end t c) ≡ false
after term.CRLF c = elim (c == 13) as (λ b. ends_at_end (if b then st.AfterCr else st.StartRecord) ≡ false) [
  | true ↦ refl
  | false ↦ refl
]
after (term.Any t) c = refl

field_settles : (cfg : Config) (c : ℕ) → Settles (in_field cfg c)
field_settles cfg c =
    either (c == cfg.delimiter) (st.StartField, act.EndField)
    (if ends_with cfg.terminator c then (after_end cfg.terminator c, act.EndRecord) else (st.InField, act.Copy))
    (λ e. no e)
    (either (ends_with cfg.terminator c) (after_end cfg.terminator c, act.EndRecord) (st.InField, act.Copy)
    (λ e. after cfg.terminator c) (λ e. no e))

start_field_settles : (cfg : Config) (c : ℕ) → Settles (start_field cfg c)
start_field_settles cfg c = either (cfg.quoting && (c == cfg.quote)) (st.InQuoted, act.Skip) (in_field cfg c)
    (λ e. no e) (field_settles cfg c)

start_settles : (cfg : Config) (c : ℕ) → Settles (start_record cfg c)
start_settles cfg c =
    either (ends_with cfg.terminator c) (st.StartRecord, act.Skip)
    (if is_byte cfg.comment c then (st.InComment, act.Skip) else start_field cfg c) (λ e. no e)
    (either (is_byte cfg.comment c) (st.InComment, act.Skip) (start_field cfg c) (λ e. no e)
    (start_field_settles cfg c))

step_settles : (cfg : Config) (s : State) (c : ℕ) → Settles (step cfg s c)
step_settles cfg st.StartRecord c = start_settles cfg c
step_settles cfg st.StartField c = start_field_settles cfg c
step_settles cfg st.InField c = field_settles cfg c
step_settles cfg st.InQuoted c =
    either (cfg.quoting && (c == cfg.quote)) (st.AfterQuote, act.Skip)
    (if cfg.quoting && is_byte cfg.escape c then (st.InEscape, act.Skip) else (st.InQuoted, act.Copy)) (λ e. no e)
    (either (cfg.quoting && is_byte cfg.escape c) (st.InEscape, act.Skip) (st.InQuoted, act.Copy)
    (λ e. no e) (λ e. no e))
step_settles cfg st.InEscape c = λ e. no e
step_settles cfg st.AfterQuote c =
    either (cfg.quoting && cfg.double_quote && (c == cfg.quote)) (st.InQuoted, act.Copy) (in_field cfg c) (λ e. no e)
    (field_settles cfg c)
step_settles cfg st.InComment c = either (c == 10) (st.StartRecord, act.Skip) (st.InComment, act.Skip)
    (λ e. no e) (λ e. no e)
step_settles cfg st.AfterCr c = either (c == 10) (st.StartRecord, act.Skip) (start_record cfg c) (λ e. no e)
    (start_settles cfg c)

-- what holds of the record that a choice gives
pub pick : (b : Bool) (x y : Option Read) (P : Read → Type 0) → (b ≡ true → (p : Read) → x ≡ Some p → P p)
    → (b ≡ false → (p : Read) → y ≡ Some p → P p) → (p : Read) → (if b then x else y) ≡ Some p → P p
pick true x y P hx hy = hx refl
pick false x y P hx hy = hy refl

pub some_is : {A : Type 0} (x y : A) → Some x ≡ Some y → x ≡ y
some_is x y e = ap (λ o. option_map_or (λ v. v) o x) e

pub none_is : {A : Type 0} {B : Type 0} (x : A) → None ≡ Some x → B
none_is x e = absurd (true≢false (sym (ap (λ o. option_map_or (λ _. true) o false) e)))

abbrev pub last_read : List (List ℕ) → List ℕ → Read
last_read fields field = (fields ++ (field ∷ []), st.StartRecord, [])

abbrev pub this_read : Config → State → ℕ → List (List ℕ) → List ℕ → List ℕ → Read
this_read cfg s c fields field rest = (fields_after (step cfg s c).1 fields field, (step cfg s c).0, rest)

abbrev pub later_read : Config → State → ℕ → List (List ℕ) → List ℕ → List ℕ → Option Read
later_read cfg s c fields field rest = next_record cfg (step cfg s c).0 (fields_after (step cfg s c).1 fields field)
    (field_after (step cfg s c).1 c field) rest

pub read_settles : (cfg : Config) (xs : List ℕ) (s : State) (fields : List (List ℕ)) (field : List ℕ) (p : Read)
    → next_record cfg s fields field xs ≡ Some p → ends_at_end p.1 ≡ false
unfolding next_record
read_settles cfg [] s fields field = pick (ends_at_end s) (Some (last_read fields field)) None
    (λ p. ends_at_end p.1 ≡ false) (λ _ p e. ap (λ q. ends_at_end q.1) (sym (some_is (last_read fields field) p e)))
    (λ _ p e. none_is p e)
read_settles cfg (c ∷ rest) s fields field =
    pick (is_end (step cfg s c).1) (Some (this_read cfg s c fields field rest)) (later_read cfg s c fields field rest)
    (λ p. ends_at_end p.1 ≡ false) (λ b p e. ap (λ q. ends_at_end q.1)
    (sym (some_is (this_read cfg s c fields field rest) p e)) ∙ step_settles cfg s c b)
    (λ _ p e. read_settles cfg rest (step cfg s c).0 (fields_after (step cfg s c).1 fields field)
    (field_after (step cfg s c).1 c field) p e)

pub read_shortens : (cfg : Config) (xs : List ℕ) (s : State) (fields : List (List ℕ)) (field : List ℕ) (p : Read)
    → next_record cfg s fields field xs ≡ Some p → length p.2 ≤ length xs
unfolding next_record
read_shortens cfg [] s fields field =
    pick (ends_at_end s) (Some (last_read fields field)) None (λ p. length p.2 ≤ 0)
    (λ _ p e. let left : [] ≡ p.2 = ap (λ q. q.2) (some_is (last_read fields field) p e) in
    rw (← left) (omega arith)) (λ _ p e. none_is p e)
read_shortens cfg (c ∷ rest) s fields field =
    pick (is_end (step cfg s c).1) (Some (this_read cfg s c fields field rest)) (later_read cfg s c fields field rest)
    (λ p. length p.2 ≤ suc (length rest)) (λ _ p e. let left : rest ≡ p.2 =
    ap (λ q. q.2) (some_is (this_read cfg s c fields field rest) p e) in rw (← left) (omega arith))
    (λ _ p e. let less : length p.2 ≤ length rest =
    read_shortens cfg rest (step cfg s c).0 (fields_after (step cfg s c).1 fields field)
    (field_after (step cfg s c).1 c field) p e in omega arith)

pub read_takes : (cfg : Config) (xs : List ℕ) (s : State) (p : Read) → ends_at_end s ≡ false
    → next_record cfg s [] [] xs ≡ Some p → length p.2 < length xs
unfolding next_record
read_takes cfg [] s p h e = none_is p (rw h at e)
read_takes cfg (c ∷ rest) s p h e =
    pick (is_end (step cfg s c).1) (Some (this_read cfg s c [] [] rest)) (later_read cfg s c [] [] rest)
    (λ p. length p.2 < suc (length rest)) (λ _ p e. let left : rest ≡ p.2 =
    ap (λ q. q.2) (some_is (this_read cfg s c [] [] rest) p e) in rw (← left) (omega arith))
    (λ _ p e. let less : length p.2 ≤ length rest =
    read_shortens cfg rest (step cfg s c).0 (fields_after (step cfg s c).1 [] [])
    (field_after (step cfg s c).1 c []) p e in omega arith) p e
