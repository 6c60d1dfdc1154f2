-- The bytes up to the closing quote and what they stand for, against the grammar of a body.
use Rattle.std.proofs.Common.{◌≡◌, ◌≢◌, ⊎_elim, ℕ, suc, ◌+◌, ◌==◌, Bool, true, false, List, [], ◌∷◌, ◌++◌, length, take}
use Rattle.std.proofs.Common.{drop, Option, Some, None, Result, Ok, Err, refl, ap, sym, subst, ◌∙◌, arith}
use Rattle.std.proofs.lemmas.Bool.Decides.{eqb_tells, nat_tests}
use Rattle.std.proofs.lemmas.List.{take_at}
use Rattle.dt_tree.specs.declared.token.Token.TheVariants.{Chr}
use Rattle.dt_tree.specs.declared.pieces.Piece.TheVariants.{Spelled}
use Rattle.dt_tree.specs.declared.pieces.First.TheVariants.{Found}
use Rattle.run_model.specs.First.{escape, text_at, text_len, meaning, ahead, onto, plain, text_of, closed_text}
use Rattle.run_model.specs.TextBodies.{IsBody, done, plain as straight, escaped}

same_byte : (b : ℕ) → (b == b) ≡ true
same_byte b = grind (arith, nat_tests)

pub other_byte : (b c : ℕ) → b ≢ c → (b == c) ≡ false
other_byte b c h = grind (arith, nat_tests)

body_len : (q : ℕ) (bs ts rest : List ℕ) → q ≢ 92 → IsBody q bs ts →
    text_len q false (bs ++ q ∷ rest) ≡ Some (length bs)
body_len q bs ts rest h (done {q = r}) = rw (same_byte r) refl
body_len q bs ts rest h (straight {q = r} {bs = cs} {ts = us} b apart other more) =
    rw (other_byte b r apart, other_byte b 92 other) (ap ahead (body_len r cs us rest h more) ∙ ap Some (omega arith))
body_len q bs ts rest h (escaped {q = r} {bs = cs} {ts = us} b c is more) =
    rw (other_byte 92 r (λ e. h (sym e))) (ap (λ o. ahead (ahead o)) (body_len r cs us rest h more)
    ∙ ap Some (omega arith))

body_meaning : (q : ℕ) (bs ts : List ℕ) → IsBody q bs ts → meaning false bs ≡ Ok ts
body_meaning q bs ts (done {q = r}) = refl
body_meaning q bs ts (straight {q = r} {bs = cs} {ts = us} b apart other more) =
    rw (other_byte b 92 other) (ap (plain b) (body_meaning r cs us more))
body_meaning q bs ts (escaped {q = r} {bs = cs} {ts = us} b c is more) =
    rw is (ap (onto (Some c)) (body_meaning r cs us more))

pub body_read : (q : ℕ) (bs ts rest : List ℕ) → q ≢ 92 → IsBody q bs ts →
    text_at (q ∷ (bs ++ q ∷ rest)) ≡ Found (Spelled (Chr ts)) (length bs + 2)
body_read q bs ts rest h is =
    ap (closed_text (q ∷ (bs ++ q ∷ rest))) (body_len q bs ts rest h is)
    ∙ ap (λ m. text_of (length bs) (meaning false m)) (take_at bs (q ∷ rest) (length bs) refl)
    ∙ ap (text_of (length bs)) (body_meaning q bs ts is)

-- the bytes of s up to the quote at n are a body that spells ts
record Spelt (q : ℕ) (s : List ℕ) (n : ℕ) (ts : List ℕ) : Type 0 where
  pub bs : List ℕ
  pub rest : List ℕ
  pub whole : s ≡ bs ++ q ∷ rest
  pub len : length bs ≡ n
  pub body : IsBody q bs ts

-- s begins with the byte behind a backslash, and goes on so
record Escapes (q : ℕ) (s : List ℕ) (n : ℕ) (ts : List ℕ) : Type 0 where
  pub b : ℕ
  pub c : ℕ
  pub tail : List ℕ
  pub us : List ℕ
  pub m : ℕ
  pub whole : s ≡ b ∷ tail
  pub escape : escape b ≡ Some c
  pub text : ts ≡ c ∷ us
  pub len : n ≡ m + 1
  pub spelt : Spelt q tail m us

ahead_some : (o : Option ℕ) (n : ℕ) → ahead o ≡ Some n → (m : ℕ) × (o ≡ Some m) × (n ≡ m + 1)
ahead_some None n h = absurd (cc)
ahead_some (Some m) n h = (m, refl, cc)

onto_ok : (o : Option ℕ) (r : Result (List ℕ) ℕ) (ts : List ℕ) → onto o r ≡ Ok ts →
    (c : ℕ) × (us : List ℕ) × (o ≡ Some c) × (r ≡ Ok us) × (ts ≡ c ∷ us)
onto_ok None r ts h = absurd (cc)
onto_ok (Some c) (Ok us) ts h = (c, us, refl, refl, cc)
onto_ok (Some c) (Err n) ts h = absurd (cc)

plain_ok : (b : ℕ) (r : Result (List ℕ) ℕ) (ts : List ℕ) → plain b r ≡ Ok ts →
    (us : List ℕ) × (r ≡ Ok us) × (ts ≡ b ∷ us)
plain_ok b (Ok us) ts h = (us, refl, cc)
plain_ok b (Err n) ts h = absurd (cc)

take_one_more : (b : ℕ) (s : List ℕ) (n m : ℕ) → n ≡ m + 1 → take n (b ∷ s) ≡ b ∷ take m s
take_one_more b s n m e = let f : n ≡ suc m = omega arith in ap (λ k. take k (b ∷ s)) f

spelt_quote : (q b : ℕ) (s : List ℕ) (n : ℕ) (ts : List ℕ) → b ≡ q → 0 ≡ n →
    meaning false (take n (b ∷ s)) ≡ Ok ts → Spelt q (b ∷ s) n ts
spelt_quote q b s n ts e zero_len is =
    let none : Ok [] ≡ Ok ts = ap (λ k. meaning false (take k (b ∷ s))) zero_len ∙ is in
    let empty : [] ≡ ts = cc in
    record { bs = []; rest = s; whole = ap (λ x. x ∷ s) e; len = zero_len; body = subst (IsBody q []) empty done }

spelt_plain : (q b : ℕ) (s : List ℕ) (n m : ℕ) (ts us : List ℕ) → b ≢ q → b ≢ 92 → n ≡ m + 1 → ts ≡ b ∷ us →
    Spelt q s m us → Spelt q (b ∷ s) n ts
spelt_plain q b s n m ts us apart other len text r =
    record {
      bs = b ∷ r.bs;
      rest = r.rest;
      whole = ap (λ x. b ∷ x) r.whole;
      len = omega (arith, r.len);
      body = subst (IsBody q (b ∷ r.bs)) (sym text) (straight b apart other r.body);
    }

spelt_escaped : (q b : ℕ) (s : List ℕ) (n m : ℕ) (ts : List ℕ) → b ≡ 92 → n ≡ m + 1 → Escapes q s m ts →
    Spelt q (b ∷ s) n ts
spelt_escaped q b s n m ts is len r =
    let p = r.spelt in
    record {
      bs = 92 ∷ r.b ∷ p.bs;
      rest = p.rest;
      whole = (λ i. is i ∷ r.whole i) ∙ ap (λ x. 92 ∷ r.b ∷ x) p.whole;
      len = omega (arith, p.len, r.len);
      body = subst (IsBody q (92 ∷ r.b ∷ p.bs)) (sym r.text) (escaped r.b r.c r.escape p.body);
    }

len_quote : (q b : ℕ) (s : List ℕ) → (b == q) ≡ true → text_len q false (b ∷ s) ≡ Some 0
len_quote q b s e = rw e refl

len_more : (q b : ℕ) (s : List ℕ) (t : Bool) → (b == q) ≡ false → (b == 92) ≡ t →
    text_len q false (b ∷ s) ≡ ahead (text_len q t s)
len_more q b s t e f = rw (e, f) refl

meaning_backslash : (b : ℕ) (s : List ℕ) → (b == 92) ≡ true → meaning false (b ∷ s) ≡ meaning true s
meaning_backslash b s e = rw e refl

meaning_plain : (b : ℕ) (s : List ℕ) → (b == 92) ≡ false → meaning false (b ∷ s) ≡ plain b (meaning false s)
meaning_plain b s e = rw e refl

mutual
  spelt : (s : List ℕ) (q n : ℕ) (ts : List ℕ) → q ≢ 92 → text_len q false s ≡ Some n →
      meaning false (take n s) ≡ Ok ts → Spelt q s n ts
  spelt [] q n ts h len is = absurd (cc)
  spelt (b ∷ s) q n ts h len is =
      ⊎_elim
      (λ p. let e : Some 0 ≡ Some n = sym (len_quote q b s p.0) ∙ len in let f : 0 ≡ n = cc in
      spelt_quote q b s n ts p.1 f is)
      (λ p.
      ⊎_elim
      (λ r.
      let e : ahead (text_len q true s) ≡ Some n = sym (len_more q b s true p.0 r.0) ∙ len in
      let a = ahead_some (text_len q true s) n e in
      let f : meaning false (b ∷ take a.0 s) ≡ Ok ts = ap (meaning false) (sym (take_one_more b s n a.0 a.2)) ∙ is in
      let g : meaning true (take a.0 s) ≡ Ok ts = sym (meaning_backslash b (take a.0 s) r.0) ∙ f in
      spelt_escaped q b s n a.0 ts r.1 a.2 (escapes s q a.0 ts h a.1 g))
      (λ r.
      let e : ahead (text_len q false s) ≡ Some n = sym (len_more q b s false p.0 r.0) ∙ len in
      let a = ahead_some (text_len q false s) n e in
      let f : meaning false (b ∷ take a.0 s) ≡ Ok ts = ap (meaning false) (sym (take_one_more b s n a.0 a.2)) ∙ is in
      let g : plain b (meaning false (take a.0 s)) ≡ Ok ts = sym (meaning_plain b (take a.0 s) r.0) ∙ f in
      let k = plain_ok b (meaning false (take a.0 s)) ts g in
      spelt_plain q b s n a.0 ts k.0 p.1 r.1 a.2 k.2 (spelt s q a.0 k.0 h a.1 k.1))
      (eqb_tells b 92))
      (eqb_tells b q)

  escapes : (s : List ℕ) (q n : ℕ) (ts : List ℕ) → q ≢ 92 → text_len q true s ≡ Some n →
      meaning true (take n s) ≡ Ok ts → Escapes q s n ts
  escapes [] q n ts h len is = absurd (cc)
  escapes (b ∷ s) q n ts h len is =
      let a = ahead_some (text_len q false s) n len in
      let f : meaning true (b ∷ take a.0 s) ≡ Ok ts = ap (meaning true) (sym (take_one_more b s n a.0 a.2)) ∙ is in
      let k = onto_ok (escape b) (meaning false (take a.0 s)) ts f in
      record {
        b = b;
        c = k.0;
        tail = s;
        us = k.1;
        m = a.0;
        whole = refl;
        escape = k.2;
        text = k.4;
        len = a.2;
        spelt = spelt s q a.0 k.1 h a.1 k.3;
      }

closed_found : (s : List ℕ) (o : Option ℕ) (ts : List ℕ) (n : ℕ) →
    closed_text s o ≡ Found (Spelled (Chr ts)) n →
    (m : ℕ) × (o ≡ Some m) × (n ≡ m + 2) × (meaning false (take m (drop 1 s)) ≡ Ok ts)
closed_found s None ts n h = absurd (cc)
closed_found s (Some m) ts n h = by_meaning (meaning false (take m (drop 1 s))) refl h
  where
    by_meaning : (r : Result (List ℕ) ℕ) → meaning false (take m (drop 1 s)) ≡ r →
        text_of m r ≡ Found (Spelled (Chr ts)) n →
        (k : ℕ) × (Some m ≡ Some k) × (n ≡ k + 2) × (meaning false (take k (drop 1 s)) ≡ Ok ts)
    by_meaning (Ok us) e g = let f : us ≡ ts = cc in (m, refl, cc, e ∙ ap Ok f)
    by_meaning (Err k) e g = absurd (cc)

pub body_found : (q : ℕ) (s ts : List ℕ) (n : ℕ) → q ≢ 92 → text_at (q ∷ s) ≡ Found (Spelled (Chr ts)) n →
    (bs rest : List ℕ) × (s ≡ bs ++ q ∷ rest) × IsBody q bs ts × (n ≡ length bs + 2)
body_found q s ts n h is =
    let a = closed_found (q ∷ s) (text_len q false s) ts n is in
    let r = spelt s q a.0 ts h a.1 a.3 in
    (r.bs, r.rest, r.whole, r.body, omega (arith, r.len, a.2))
