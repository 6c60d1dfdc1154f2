-- A field that is a word of logicals or integers is ASCII, and so it is UTF-8.
use Rattle.std.proofs.Common.{◌≡◌, ◌∙◌, ◌<◌, ◌&&◌, ℕ, List, [], ◌∷◌, Bool, true, false, Option, Some, None, Result, Ok}
use Rattle.std.proofs.Common.{Err, IfOk, IsAscii, is_some, if◌then◌else◌, option_map, length, refl, sym, inl, inr}
use Rattle.std.proofs.Common.{arith, true≢false}
use lib.Utf8.{encode}
use Rattle.std.proofs.lemmas.Bool.{and_parts}
use Rattle.std.proofs.lemmas.Grind.{common_steps}
use Rattle.std.proofs.lemmas.Str.{is_utf8-from_IsUtf8, IsUtf8-from_ascii}
use Rattle.std.proofs.lemmas.Str.Ascii.{IsAscii-nil, IsAscii-cons}
use Rattle.std.specs.Prelude.{nat_lt, ◌^◌, ◌==◌, pos, neg_ℤ}
use Rattle.std.specs.Char.{is_ascii_digit}
use Rattle.std.specs.List.{list_any}
use Rattle.std.specs.Str.{is_utf8, chars, all_ascii_digits, bytes_eq}
use Rattle.std.specs.Str.Parse.{digits_value}
use Rattle.csv_edge.proofs.FillingFacts.{either, missing_is, named, any_is, trues, falses}
use Rattle.dt_base.specs.declared.cell.ColType.TheVariants as ty
use Rattle.dt_model.specs.Spelling.{integer_of, natural_of, is_numeral, field_truth}
use Rattle.run_model.specs.CsvCells.{is_missing, suits}

digit_small : (c : ℕ) → is_ascii_digit c ≡ true → c < 128
digit_small c e = grind (arith, common_steps)

digits_ascii : (ds : List ℕ) → all_ascii_digits ds ≡ true → IsAscii ds
digits_ascii [] e = IsAscii-nil
digits_ascii (c ∷ cs) e =
    let parts = and_parts (is_ascii_digit c) (all_ascii_digits cs) e in
    IsAscii-cons c cs (digit_small c parts.0) (digits_ascii cs parts.1)

-- what a test leaves, where it leaves something
tested : {A : Type 0} (b : Bool) (x : A) → is_some (if b then Some x else None) ≡ true → b ≡ true
tested true x e = refl
tested false x e = absurd (true≢false (sym e))

mapped : {A B : Type 0} (f : A → B) (o : Option A) → is_some (option_map f o) ≡ true → is_some o ≡ true
mapped f None e = absurd (true≢false (sym e))
mapped f (Some x) e = refl

natural_ascii : (ds : List ℕ) → is_some (natural_of ds) ≡ true → IsAscii ds
natural_ascii ds e =
    let all = tested (is_numeral ds && nat_lt (digits_value 10 ds) (2 ^ 63)) (digits_value 10 ds) e in
    let numeral = and_parts (is_numeral ds) (nat_lt (digits_value 10 ds) (2 ^ 63)) all in
    digits_ascii ds (and_parts (nat_lt 0 (length ds)) (all_ascii_digits ds) numeral.0).1

sign_small : (b sign : ℕ) → sign < 128 → (b == sign) ≡ true → b < 128
sign_small b sign small e = grind (arith, common_steps)

signed_ascii : (b : ℕ) (rest : List ℕ) (minus plus : Bool) → (b == 45) ≡ minus → (b == 43) ≡ plus
    → is_some (if minus then option_map (λ n. neg_ℤ (pos n)) (natural_of rest) else
    (if plus then option_map pos (natural_of rest) else option_map pos (natural_of (b ∷ rest)))) ≡ true
    → IsAscii (b ∷ rest)
signed_ascii b rest true plus m p e =
    IsAscii-cons b rest (sign_small b 45 (omega arith) m)
    (natural_ascii rest (mapped (λ n. neg_ℤ (pos n)) (natural_of rest) e))
signed_ascii b rest false true m p e = IsAscii-cons b rest (sign_small b 43 (omega arith) p)
    (natural_ascii rest (mapped pos (natural_of rest) e))
signed_ascii b rest false false m p e = natural_ascii (b ∷ rest) (mapped pos (natural_of (b ∷ rest)) e)

integer_ascii : (f : List ℕ) → is_some (integer_of f) ≡ true → IsAscii f
integer_ascii [] e = absurd (true≢false (sym e))
integer_ascii (b ∷ rest) e = signed_ascii b rest (b == 45) (b == 43) refl refl e

-- a field that tells no type
pub missing_text : (f : List ℕ) → is_missing f ≡ true → is_utf8 f ≡ true
unfolding is_utf8 chars encode
missing_text = missing_is (λ f. is_utf8 f ≡ true) refl refl

-- a field of a column of logicals
pub lgl_text : (f : List ℕ) → suits ty.Lgl f ≡ true → is_utf8 f ≡ true
unfolding is_utf8 chars encode
lgl_text f e = elim (either (is_missing f) (is_some (field_truth f)) e) [
  | inl one ↦ missing_text f one
  | inr one ↦ elim (named (list_any (bytes_eq f) trues) (list_any (bytes_eq f) falses) one) [
    | inl word ↦ any_is (λ f. is_utf8 f ≡ true) f trues (refl, (refl, (refl, tt))) word
    | inr word ↦ any_is (λ f. is_utf8 f ≡ true) f falses (refl, (refl, (refl, tt))) word
  ]
]

-- a field of a column of integers
pub int_text : (f : List ℕ) → suits ty.Int f ≡ true → is_utf8 f ≡ true
int_text f e = elim (either (is_missing f) (is_some (integer_of f)) e) [
  | inl one ↦ missing_text f one
  | inr one ↦ is_utf8-from_IsUtf8 f (IsUtf8-from_ascii f (integer_ascii f one))
]

-- what was taken as a word is text
pub took_text : {E : Type 0} (f : List ℕ) (suited : Bool) (r : Result Bool E) → (suited ≡ true → is_utf8 f ≡ true)
    → IfOk r (λ took. took ≡ suited) → IfOk r (λ took. took ≡ true → is_utf8 f ≡ true)
took_text f suited (Ok took) text e = λ t. text (sym e ∙ t)
took_text f suited (Err x) text e = tt
