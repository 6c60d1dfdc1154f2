-- What stands between the quotes of a text in UTF-8 stands for a text in UTF-8.
use Rattle.std.proofs.Common.{◌≡◌, ℕ, suc, ◌+◌, ◌-◌, ◌<◌, ◌≤◌, ◌==◌, ◌&&◌, ◌||◌, Bool, true, false, cond, List, [], ◌∷◌}
use Rattle.std.proofs.Common.{◌++◌, length, get_or, take, drop, slice_index, IsUtf8, Option, Some, None, Result, Ok}
use Rattle.std.proofs.Common.{Err, IfOk, IfSome, refl, ap, sym, subst, ⊎_elim, ◌∙◌, append-nil, add-zero, arith}
use Rattle.std.proofs.Common.{get_or-drop, length-drop, drop-drop}
use Rattle.std.proofs.lemmas.Bool.Decides.{nat_tests}
use Rattle.std.proofs.lemmas.List.{drop_all}
use Rattle.std.proofs.lemmas.Str.{IsUtf8-append, IsUtf8-nil, IsUtf8-from_ascii, IsUtf8-encode, IsUtf8-between}
use Rattle.std.proofs.lemmas.Str.{IsCharBoundary-after_ascii, IsCharBoundary-before_ascii, encode_ascii, inside_one}
use Rattle.std.proofs.lemmas.Str.{length-encode, len_utf8_bounds}
use Rattle.std.proofs.str.Laws.{order}
use lib.Utf8.{scalars, encodes, encode, scalar}
use Rattle.run_model.specs.First.{meaning, onto, plain, escape}
use Rattle.dt_tokens.proofs.Texts.{joined}
use Rattle.dt_tokens.proofs.Ascii.{one_ascii}

high_bytes : (c : ℕ) → 128 ≤ c → (k : ℕ) → k < length (encode c) → 128 ≤ get_or (encode c) k 0
high_bytes c high k within =
    ⊎_elim (λ small. let e : c ≡ get_or (encode c) k 0 =
    inside_one c [] (encode c) k (sym (append-nil (encode c))) within small in absurd (omega arith)) (λ h. h)
    (order (get_or (encode c) k 0) 128)

plain_if : (P : List ℕ → Type 0) (r : Result (List ℕ) ℕ) (b : ℕ) → IfOk r (λ bs. P (b ∷ bs)) → IfOk (plain b r) P
plain_if P (Ok bs) b h = h
plain_if P (Err n) b h = h

not_backslash : (b : ℕ) → 128 ≤ b → (b == 92) ≡ false
not_backslash b high = grind (arith, nat_tests)

-- bytes past ASCII stand for themselves
copied : (xs : List ℕ) (P : List ℕ → Type 0) (rest : List ℕ) →
    ((k : ℕ) → k < length xs → 128 ≤ get_or xs k 0) → IfOk (meaning false rest) (λ bs. P (xs ++ bs)) →
    IfOk (meaning false (xs ++ rest)) P
copied [] P rest high h = h
copied (x ∷ xs) P rest high h =
    rw (not_backslash x (high 0 (omega arith)))
    (plain_if P (meaning false (xs ++ rest)) x
    (copied xs (λ bs. P (x ∷ bs)) rest (λ k l. high (suc k) (omega arith)) h))

prefix_if : (front : List ℕ) → IsUtf8 front → (r : Result (List ℕ) ℕ) → IfOk r IsUtf8 →
    IfOk r (λ bs. IsUtf8 (front ++ bs))
prefix_if front u (Ok bs) h = IsUtf8-append front bs u h
prefix_if front u (Err n) h = h

one_text : (b : ℕ) → b < 128 → IsUtf8 (b ∷ [])
one_text b small = IsUtf8-from_ascii (b ∷ []) (one_ascii b small)

onto_if : (o : Option ℕ) (r : Result (List ℕ) ℕ) → IfSome o (λ c. c < 128) → IfOk r IsUtf8 → IfOk (onto o r) IsUtf8
onto_if None r small h = tt
onto_if (Some c) (Ok bs) small h = IsUtf8-append (c ∷ []) bs (one_text c small) h
onto_if (Some c) (Err n) small h = h

if_cond : (P : ℕ → Type 0) (t : Bool) (x y : Option ℕ) → (t ≡ true → IfSome x P) → IfSome y P → IfSome (cond t x y) P
if_cond P true x y h k = h refl
if_cond P false x y h k = k

kept_escape : (b : ℕ) → ((b == 92) || ((b == 34) || (b == 39))) ≡ true → b < 128
kept_escape b h = grind (arith, nat_tests)

escape_small : (b : ℕ) → IfSome (escape b) (λ c. c < 128)
escape_small b =
    if_cond (λ c. c < 128) (b == 110) _ _ (λ h. omega arith)
    (if_cond (λ c. c < 128) (b == 116) _ _ (λ h. omega arith)
    (if_cond (λ c. c < 128) (b == 114) _ _ (λ h. omega arith)
    (if_cond (λ c. c < 128) ((b == 92) || ((b == 34) || (b == 39))) (Some b) None (λ h. kept_escape b h) tt)))

is_other : (b n : ℕ) → n < b → (b == n) ≡ false
is_other b n less = grind (arith, nat_tests)

escape_high : (b : ℕ) → 128 ≤ b → escape b ≡ None
escape_high b high = rw (
  is_other b 110 (omega arith),
  is_other b 116 (omega arith),
  is_other b 114 (omega arith),
  is_other b 92 (omega arith),
  is_other b 34 (omega arith),
  is_other b 39 (omega arith),
) refl

escaped_high : (xs rest : List ℕ) → ((k : ℕ) → k < length xs → 128 ≤ get_or xs k 0) → 0 < length xs →
    IfOk (meaning true (xs ++ rest)) IsUtf8
escaped_high [] rest high some = absurd (omega arith)
escaped_high (x ∷ xs) rest high some = rw (escape_high x (high 0 (omega arith))) tt

escaped_char : (c : ℕ) (rest : List ℕ) → IfOk (meaning false rest) IsUtf8 →
    IfOk (meaning true (encode c ++ rest)) IsUtf8
escaped_char c rest h =
    ⊎_elim
    (λ small. rw (encode_ascii c small) (onto_if (escape c) (meaning false rest) (escape_small c) h))
    (λ high. escaped_high (encode c) rest (high_bytes c high) (omega (arith, length-encode c, (len_utf8_bounds c).0)))
    (order c 128)

ascii_char : (c : ℕ) (rest : List ℕ) (t : Bool) → c < 128 → IfOk (meaning false rest) IsUtf8 →
    IfOk (meaning true rest) IsUtf8 → IfOk (cond t (meaning true rest) (plain c (meaning false rest))) IsUtf8
ascii_char c rest true small h k = k
ascii_char c rest false small h k = plain_if IsUtf8 (meaning false rest) c
    (prefix_if (c ∷ []) (one_text c small) (meaning false rest) h)

text_char : (c : ℕ) (rest : List ℕ) → scalar c ≡ true → IfOk (meaning false rest) IsUtf8 →
    IfOk (meaning true rest) IsUtf8 → IfOk (meaning false (encode c ++ rest)) IsUtf8
text_char c rest ok h k =
    ⊎_elim
    (λ small. rw (encode_ascii c small) (ascii_char c rest (c == 92) small h k))
    (λ high. copied (encode c) IsUtf8 rest (high_bytes c high)
    (prefix_if (encode c) (IsUtf8-encode c ok) (meaning false rest) h))
    (order c 128)

pub both_true : (a b : Bool) → (a && b) ≡ true → (a ≡ true) × (b ≡ true)
both_true true b h = (refl, h)
both_true false b h = absurd (cc)

both : (cs : List ℕ) → scalars cs ≡ true →
    IfOk (meaning false (encodes cs)) IsUtf8 × IfOk (meaning true (encodes cs)) IsUtf8
both [] h = (IsUtf8-nil, IsUtf8-nil)
both (c ∷ cs) h =
    let parts = both_true (scalar c) (scalars cs) h in
    let rest = both cs parts.1 in
    (text_char c (encodes cs) parts.0 rest.0 rest.1, escaped_char c (encodes cs) rest.0)

-- what the bytes of a text stand for is UTF-8
pub meaning_text : (s : List ℕ) → IsUtf8 s → IfOk (meaning false s) IsUtf8
meaning_text s u = subst (λ x. IfOk (meaning false x) IsUtf8) u.1.1 (both u.0 u.1.0).0

pub meaning_done : (s out : List ℕ) (n i : ℕ) (escaped : Bool) → length s ≤ i →
    meaning false s ≡ joined out n (meaning escaped (drop i s)) → IsUtf8 s → IsUtf8 out
meaning_done s out n i escaped past is u =
    let e : meaning false s ≡ Ok (out ++ []) = is ∙ ap (λ xs. joined out n (meaning escaped xs)) (drop_all i s past) in
    subst IsUtf8 (append-nil out) (subst (λ r. IfOk r IsUtf8) e (meaning_text s u))

-- what stands between two ASCII bytes of a text is UTF-8
pub inside_text : (s : List ℕ) (at n : ℕ) → IsUtf8 s → at < length s → n + 1 < length (drop at s) →
    slice_index (drop at s) 0 < 128 → slice_index (drop at s) (n + 1) < 128 →
    IsUtf8 (take n (drop 1 (drop at s)))
inside_text s at n u l within front back =
    let room = length-drop at s in
    let first = get_or-drop at s 0 0 ∙ ap (λ k. get_or s k 0) (add-zero at) in
    let last = get_or-drop at s (n + 1) 0 in
    let count : at + (n + 1) - (at + 1) ≡ n = omega arith in
    let e : take (at + (n + 1) - (at + 1)) (drop (at + 1) s) ≡ take n (drop 1 (drop at s)) =
    (λ i. take (count i) (sym (drop-drop 1 at s) i)) in
    subst IsUtf8 e (IsUtf8-between s (at + 1) (at + (n + 1)) u (omega arith)
    (IsCharBoundary-after_ascii s at u l (omega arith))
    (IsCharBoundary-before_ascii s (at + (n + 1)) (omega arith) (omega arith)))
