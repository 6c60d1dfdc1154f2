-- On which line the byte behind a piece stands.
use Rattle.std.proofs.Common.{◌≡◌, ◌≢◌, ℕ, zero, suc, ◌+◌, ◌<◌, ◌==◌, ◌&&◌, ◌||◌, Bool, true, false, cond, not, List}
use Rattle.std.proofs.Common.{[], ◌∷◌, length, get_or, take, drop, Option, Some, None, Result, Ok, Err, refl, ap, sym}
use Rattle.std.proofs.Common.{subst, ◌∙◌, ⊎_elim, add-zero, arith, get_or-drop, length-drop}
use Rattle.std.specs.Prelude.{bytes_eq, codes}
use Rattle.std.proofs.lemmas.Bool.Decides.{eqb_tells}
use Rattle.std.proofs.lemmas.List.{take_all}
use Rattle.std.proofs.str.Laws.{order}
use Rattle.std.specs.Char.{is_ascii_digit, is_ascii_alphabetic}
use Rattle.dt_tree.specs.declared.token.Place.{Place}
use Rattle.dt_tree.specs.declared.token.Token.{Token}
use Rattle.dt_tree.specs.declared.token.Token.TheVariants.{Name, Word, Int, Chr, Sign, Break}
use Rattle.dt_tree.specs.declared.pieces.Piece.{Piece}
use Rattle.dt_tree.specs.declared.pieces.Piece.TheVariants.{Layout, Feed, Spelled}
use Rattle.dt_tree.specs.declared.pieces.First.{First}
use Rattle.dt_tree.specs.declared.pieces.First.TheVariants.{Found, Bad, PastLimit}
use Rattle.dt_tree.specs.declared.pieces.Start.{Start}
use Rattle.dt_tree.specs.declared.pieces.Start.TheVariants as begins
use Rattle.dt_tree.specs.declared.pieces.Class.{Class}
use Rattle.dt_tree.specs.declared.pieces.Class.TheVariants as class
use Rattle.dt_tree.specs.declared.token.Literal.TheVariants as literal
use Rattle.dt_tree.specs.declared.token.Sign.{Sign as AnySign}
use Rattle.dt_tree.specs.declared.token.Sign.TheVariants as sign
use Rattle.run_model.specs.Bytes.{is_in, run, head_is}
use Rattle.run_model.specs.Places.{place_at, moved, moved_over, start}
use Rattle.run_model.specs.Signs.{sign_at, spelled}
use Rattle.run_model.specs.First.{first, first_by, start_of, word_of, text_of, closed_text, signed}
use Rattle.dt_tokens.proofs.Bodies.{other_byte}
use Rattle.dt_tokens.proofs.LongestSigns.{sign_begins}
use Rattle.dt_tokens.proofs.Places.{place_more}
use Rattle.dt_tokens.proofs.Runs.{run_inside}

abbrev line_at : List ℕ → ℕ → ℕ
line_at s i = (place_at s i).line

moved_line : (p : Place) (b : ℕ) → b ≢ 10 → (moved p b).line ≡ p.line
moved_line p b other = rw (other_byte b 10 other) refl

line_step : (s : List ℕ) (i : ℕ) → get_or s i 0 ≢ 10 → line_at s (i + 1) ≡ line_at s i
line_step s i other =
    ⊎_elim
    (λ within. ap (λ p. p.line) (place_more s i within) ∙ moved_line (place_at s i) (get_or s i 0) other)
    (λ past. ap (λ xs. (moved_over start xs).line) (take_all (i + 1) s (omega arith) ∙ sym (take_all i s past)))
    (order i (length s))

same_line : (n : ℕ) (s : List ℕ) (i : ℕ) → ((k : ℕ) → k < n → get_or (drop i s) k 0 ≢ 10) →
    line_at s (i + n) ≡ line_at s i
same_line zero s i others = ap (line_at s) (add-zero i)
same_line (suc m) s i others =
    let e : i + suc m ≡ i + m + 1 = omega arith in
    ap (line_at s) e ∙ line_step s (i + m) (λ is. others m (omega arith) (get_or-drop i s m 0 ∙ is))
    ∙ same_line m s i (λ k l. others k (omega arith))

-- what is told of a token that is neither a sign nor a break
abbrev IsPlain : Token → Type 0
IsPlain (Sign x) = ⊥
IsPlain (Break n) = ⊥
IsPlain _ = Unit {0}

abbrev Says : Start → List ℕ → Piece → ℕ → Type 0
Says begins.Comment s p n = (p ≡ Layout) × (n ≡ 1 + run (is_in class.Line) (drop 1 s))
Says begins.Blank s p n = (p ≡ Layout) × (n ≡ 1 + run (is_in class.Blank) (drop 1 s))
Says begins.Feed s p n = (p ≡ Feed) × (n ≡ 1)
Says begins.Sign s p n = (x : AnySign) × (sign_at s ≡ Some x) × (p ≡ Spelled (Sign x)) × (n ≡ length (spelled x))
Says _ s p n = (t : Token) × (p ≡ Spelled t) × IsPlain t

words : (a b c d e f g : Bool) (w : List ℕ) →
    IsPlain (cond a (Word literal.True) (cond b (Word literal.False)
    (cond c (Word literal.Na) (cond d (Word literal.NaInt)
    (cond e (Word literal.NaChr) (cond f (Word literal.Null) (cond g (Word literal.Infinite) (Name w))))))))
words true b c d e f g w = tt
words false true c d e f g w = tt
words false false true d e f g w = tt
words false false false true e f g w = tt
words false false false false true f g w = tt
words false false false false false true g w = tt
words false false false false false false true w = tt
words false false false false false false false w = tt

word_plain : (w : List ℕ) → IsPlain (word_of w)
word_plain w = words (bytes_eq w (codes "TRUE")) (bytes_eq w (codes "FALSE")) (bytes_eq w (codes "NA"))
    (bytes_eq w (codes "NA_integer_")) (bytes_eq w (codes "NA_character_")) (bytes_eq w (codes "NULL"))
    (bytes_eq w (codes "Inf")) w

found_plain : (t : Token) (m n : ℕ) (p : Piece) → IsPlain t → Found (Spelled t) m ≡ Found p n →
    (t : Token) × (p ≡ Spelled t) × IsPlain t
found_plain t m n p plain h = let e : Spelled t ≡ p = cc in (t, sym e, plain)

guarded : (a : Bool) (t : Token) (f : First) (m n : ℕ) (p : Piece) → IsPlain t → ((h : f ≡ Found p n) → ⊥) →
    cond a f (Found (Spelled t) m) ≡ Found p n → (t : Token) × (p ≡ Spelled t) × IsPlain t
guarded true t f m n p plain never h = absurd (never h)
guarded false t f m n p plain never h = found_plain t m n p plain h

number_found : (a b : Bool) (t : Token) (m n : ℕ) (p : Piece) → IsPlain t →
    cond a (Bad 0) (cond b (Found (Spelled t) m) PastLimit) ≡ Found p n →
    (t : Token) × (p ≡ Spelled t) × IsPlain t
number_found true b t m n p plain h = absurd (cc)
number_found false true t m n p plain h = found_plain t m n p plain h
number_found false false t m n p plain h = absurd (cc)

text_found : (r : Result (List ℕ) ℕ) (m n : ℕ) (p : Piece) → text_of m r ≡ Found p n →
    (t : Token) × (p ≡ Spelled t) × IsPlain t
text_found (Ok bs) m n p h = found_plain (Chr bs) (m + 2) n p tt h
text_found (Err k) m n p h = absurd (cc)

closed_plain : (s : List ℕ) (o : Option ℕ) (n : ℕ) (p : Piece) → closed_text s o ≡ Found p n →
    (t : Token) × (p ≡ Spelled t) × IsPlain t
closed_plain s None n p h = absurd (cc)
closed_plain s (Some m) n p h = text_found _ m n p h

sign_found : (s : List ℕ) (o : Option AnySign) (n : ℕ) (p : Piece) → sign_at s ≡ o → signed o ≡ Found p n →
    Says begins.Sign s p n
sign_found s None n p e h = absurd (cc)
sign_found s (Some x) n p e h = let f : Spelled (Sign x) ≡ p = cc in let g : length (spelled x) ≡ n = cc in
    (x, e, sym f, sym g)

layout_found : (m n : ℕ) (p q : Piece) → Found q m ≡ Found p n → (p ≡ q) × (n ≡ m)
layout_found m n p q h = let e : q ≡ p = cc in let f : m ≡ n = cc in (sym e, sym f)

found_by : (k : Start) (s : List ℕ) (p : Piece) (n : ℕ) → first_by k s ≡ Found p n → Says k s p n
found_by begins.Word s p n h = let m = 1 + run (is_in class.Name) (drop 1 s) in
    found_plain (word_of (take m s)) m n p (word_plain (take m s)) h
found_by begins.Number s p n h = number_found _ _ _ _ n p tt h
found_by begins.Text s p n h = closed_plain s _ n p h
found_by begins.Quoted s p n h = guarded _ _ (Bad 0) _ n p tt (λ e. absurd (cc)) h
found_by begins.Comment s p n h = layout_found _ n p Layout h
found_by begins.Feed s p n h = layout_found 1 n p Feed h
found_by begins.Blank s p n h = layout_found _ n p Layout h
found_by begins.Sign s p n h = sign_found s (sign_at s) n p refl h

not_feed : (b : ℕ) (bs : List ℕ) (k : Start) → start_of (b ∷ bs) ≡ k → k ≢ begins.Feed → b ≢ 10
not_feed b bs k is other e = other (sym is ∙ ap (λ x. start_of (x ∷ bs)) e)

goes_on_line : (c : Class) (b : ℕ) (bs : List ℕ) → is_in c 10 ≡ false → b ≢ 10 → (k : ℕ) →
    k < 1 + run (is_in c) bs → get_or (b ∷ bs) k 0 ≢ 10
goes_on_line c b bs out other zero within e = other e
goes_on_line c b bs out other (suc k) within e = let f : true ≡ false = sym (run_inside (is_in c) bs k (omega arith))
    ∙ ap (is_in c) e ∙ out in absurd (cc)

no_feed : (t1 t2 t3 t4 t5 t7 : Bool) →
    cond t1 begins.Word (cond t2 begins.Number
    (cond t3 begins.Text (cond t4 begins.Quoted (cond t5 begins.Comment (cond t7 begins.Blank begins.Sign)))))
    ≡ begins.Feed →
    ⊥
no_feed true t2 t3 t4 t5 t7 h = absurd (cc)
no_feed false true t3 t4 t5 t7 h = absurd (cc)
no_feed false false true t4 t5 t7 h = absurd (cc)
no_feed false false false true t5 t7 h = absurd (cc)
no_feed false false false false true t7 h = absurd (cc)
no_feed false false false false false true h = absurd (cc)
no_feed false false false false false false h = absurd (cc)

feed_head : (r : List ℕ) → start_of r ≡ begins.Feed → (0 < length r) × (get_or r 0 0 ≡ 10)
feed_head [] h = absurd (cc)
feed_head (b ∷ bs) h =
    (omega arith, ⊎_elim (λ p. p.1) (λ p. absurd (no_feed _ _ _ _ _ _ (sym (without b bs p.0) ∙ h))) (eqb_tells b 10))
  where
    without : (b : ℕ) (bs : List ℕ) → (b == 10) ≡ false →
        start_of (b ∷ bs) ≡ cond (is_ascii_alphabetic b || ((b == 46) && not (head_is is_ascii_digit bs))) begins.Word
        (cond (is_ascii_digit b) begins.Number (cond ((b == 34) || (b == 39)) begins.Text
        (cond (b == 96) begins.Quoted (cond (b == 35) begins.Comment
        (cond (is_in class.Blank b) begins.Blank begins.Sign)))))
    without b bs e = rw e refl

-- the line behind a piece, from the line of the piece
abbrev pub LineAfter : Piece → ℕ → ℕ → Type 0
LineAfter Layout l m = m ≡ l
LineAfter Feed l m = m ≡ l + 1
LineAfter (Spelled (Sign sign.Semi)) l m = m ≡ l
LineAfter (Spelled (Break n)) l m = ⊥
LineAfter _ l m = Unit {0}

plain_line : (t : Token) (l m : ℕ) → IsPlain t → LineAfter (Spelled t) l m
plain_line (Name w) l m h = tt
plain_line (Word w) l m h = tt
plain_line (Int v) l m h = tt
plain_line (Chr w) l m h = tt
plain_line (Sign x) l m h = absurd h
plain_line (Break n) l m h = absurd h

sign_line : (x : AnySign) (s : List ℕ) (i : ℕ) → sign_at (drop i s) ≡ Some x →
    LineAfter (Spelled (Sign x)) (line_at s i) (line_at s (i + length (spelled x)))
sign_line sign.Semi s i h = same_line 1 s i
    (λ k l e. let f : k ≡ 0 = omega arith in
    let g : get_or (drop i s) 0 0 ≡ 59 = ap (λ r. get_or r 0 0) (sign_begins sign.Semi (drop i s) h) in let j = sym g
    ∙ ap (λ z. get_or (drop i s) z 0) (sym f) ∙ e in absurd (omega (arith, j)))
sign_line _ s i h = tt

layout_line : (c : Class) (r : List ℕ) (k : Start) → is_in c 10 ≡ false → start_of r ≡ k → k ≢ begins.Feed →
    k ≢ begins.Sign → (j : ℕ) → j < 1 + run (is_in c) (drop 1 r) → get_or r j 0 ≢ 10
layout_line c [] k out is other sign j within = absurd (sign (sym is))
layout_line c (b ∷ bs) k out is other sign j within = goes_on_line c b bs out (not_feed b bs k is other) j within

plain_after : (s : List ℕ) (i n : ℕ) (p : Piece) (f : (t : Token) × (p ≡ Spelled t) × IsPlain t) →
    LineAfter p (line_at s i) (line_at s (i + n))
plain_after s i n p f = subst (λ z. LineAfter z (line_at s i) (line_at s (i + n))) (sym f.1)
    (plain_line f.0 (line_at s i) (line_at s (i + n)) f.2)

by_start : (k : Start) (s : List ℕ) (i : ℕ) (p : Piece) (n : ℕ) → start_of (drop i s) ≡ k →
    Says k (drop i s) p n → LineAfter p (line_at s i) (line_at s (i + n))
by_start begins.Word s i p n is f = plain_after s i n p f
by_start begins.Number s i p n is f = plain_after s i n p f
by_start begins.Text s i p n is f = plain_after s i n p f
by_start begins.Quoted s i p n is f = plain_after s i n p f
by_start begins.Comment s i p n is f =
    subst (λ z. LineAfter z (line_at s i) (line_at s (i + n))) (sym f.0)
    (same_line n s i (λ j l. layout_line class.Line (drop i s) begins.Comment refl is (λ e. absurd (cc))
    (λ e. absurd (cc)) j (omega (arith, f.1))))
by_start begins.Blank s i p n is f =
    subst (λ z. LineAfter z (line_at s i) (line_at s (i + n))) (sym f.0)
    (same_line n s i (λ j l. layout_line class.Blank (drop i s) begins.Blank refl is (λ e. absurd (cc))
    (λ e. absurd (cc)) j (omega (arith, f.1))))
by_start begins.Feed s i p n is f =
    let h = feed_head (drop i s) is in
    let within : i < length s = omega (arith, h.0, length-drop i s) in
    let b : get_or s i 0 ≡ 10 = ap (λ k. get_or s k 0) (sym (add-zero i)) ∙ sym (get_or-drop i s 0 0) ∙ h.1 in
    let up : line_at s (i + 1) ≡ line_at s i + 1 =
    ap (λ q. q.line) (place_more s i within ∙ ap (moved (place_at s i)) b) in
    subst (λ z. LineAfter z (line_at s i) (line_at s (i + n))) (sym f.0) (ap (λ m. line_at s (i + m)) f.1 ∙ up)
by_start begins.Sign s i p n is f =
    subst (λ z. LineAfter z (line_at s i) (line_at s (i + n))) (sym f.2)
    (subst (λ m. LineAfter (Spelled (Sign f.0)) (line_at s i) (line_at s (i + m))) (sym f.3)
    (sign_line f.0 s i f.1))

pub line_after : (s : List ℕ) (i : ℕ) (p : Piece) (n : ℕ) → first (drop i s) ≡ Found p n →
    LineAfter p (line_at s i) (line_at s (i + n))
line_after s i p n h = by_start (start_of (drop i s)) s i p n refl (found_by (start_of (drop i s)) (drop i s) p n h)
