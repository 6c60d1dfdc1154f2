-- Fields that are all text.
use Rattle.std.proofs.Common.{◌≡◌, ◌&&◌, ℕ, List, [], ◌∷◌, Bool, true, false, Option, Result, Ok, Err, IsOk, IfOk}
use Rattle.std.proofs.Common.{MatchOption, MatchResult, IsUtf8, refl, sym, true≢false}
use Rattle.std.specs.List.{list_all}
use Rattle.std.specs.Result.{result_ok}
use Rattle.std.specs.Str.{is_utf8}
use Rattle.std.proofs.lemmas.Str.{IsUtf8-from_is_utf8, is_utf8-from_IsUtf8}
use Rattle.csv.specs.Records.{AllText, Row, fields_of}

-- the test says true of texts
pub all_utf8_true : (fs : List (List ℕ)) → AllText fs → list_all is_utf8 fs ≡ true
unfolding AllText
all_utf8_true [] h = refl
all_utf8_true (f ∷ fs) h = rw (is_utf8-from_IsUtf8 f h.0, all_utf8_true fs h.1) refl

-- a test that does not say true says false
not_true : (b : Bool) → (b ≡ true → ⊥) → b ≡ false
not_true true h = absurd (h refl)
not_true false h = refl

both : (a b : Bool) → (a && b) ≡ true → (a ≡ true) × (b ≡ true)
both true b e = (refl, e)
both false b e = absurd (true≢false (sym e))

-- and of texts alone
pub all_text : (fs : List (List ℕ)) → list_all is_utf8 fs ≡ true → AllText fs
unfolding AllText
all_text [] e = tt
all_text (f ∷ fs) e =
    let parts = both (is_utf8 f) (list_all is_utf8 fs) e in
    (IsUtf8-from_is_utf8 f parts.0, all_text fs parts.1)

-- a record that is turned into texts is one of texts, and one that is refused is none
pub texts_of : {E : Type 0} (fs : List (List ℕ)) (r : Result Row E) (o : Option Row) → o ≡ result_ok r
    → IfOk r (λ s. fields_of s ≡ fs) → IfOk r (λ s. AllText (fields_of s)) → (AllText fs → IsOk r)
    → MatchOption o (list_all is_utf8 fs ≡ false) (λ row. (fields_of row ≡ fs) × (list_all is_utf8 fs ≡ true))
texts_of fs (Ok s) o e same text refused = rw e (same, rw same at (all_utf8_true (fields_of s) text))
texts_of fs (Err x) o e same text refused =
    rw e (not_true (list_all is_utf8 fs) (λ t. absurd (true≢false (sym (refused (all_text fs t))))))

-- the text of bytes, where they are one
pub text_cases : {V : Type 0} {E : Type 0} (f : List ℕ) (P : V → Type 0) (Q : E → Type 0) (r : Result V E)
    (o : Option V) → o ≡ result_ok r
    → MatchResult r (λ s. P s × IsUtf8 f) (λ e. (IsUtf8 f → ⊥) × Q e)
    → MatchOption o (is_utf8 f ≡ false) (λ t. (is_utf8 f ≡ true) × P t)
text_cases f P Q (Ok s) o e h = rw e (is_utf8-from_IsUtf8 f h.1, h.0)
text_cases f P Q (Err x) o e h = rw e (not_true (is_utf8 f) (λ t. h.0 (IsUtf8-from_is_utf8 f t)))
