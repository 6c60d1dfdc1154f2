-- Behind a break where no bracket is open the next token stands on the break's line.
use Rattle.std.proofs.Common.{◌≡◌, ℕ, ◌+◌, ◌==◌, ◌&&◌, Bool, true, false, cond, not, List, [], ◌∷◌, ◌++◌, length, refl}
use Rattle.std.proofs.Common.{ap, sym, subst, ◌∙◌, arith}
use Rattle.std.proofs.lemmas.Bool.Decides.{nat_tests}
use Rattle.dt_tree.specs.declared.token.Place.{Place}
use Rattle.dt_tree.specs.declared.token.Token.{Token}
use Rattle.dt_tree.specs.declared.token.Token.TheVariants.{Name, Word, Int, Chr, Sign, Break}
use Rattle.dt_tree.specs.declared.token.Placed.{Placed}
use Rattle.dt_tree.specs.declared.pieces.Piece.{Piece}
use Rattle.dt_tree.specs.declared.pieces.Piece.TheVariants.{Layout, Feed, Spelled}
use Rattle.dt_tree.specs.declared.token.Sign.TheVariants as sign
use Rattle.dt_tree.specs.declared.pieces.Before.{Before}
use Rattle.run_model.specs.Places.{place_at}
use Rattle.run_model.specs.TokenLaws.{HeadOnLine, BreaksLead}
use Rattle.run_model.specs.Tokens.{Cut, Cuts, after, begin, deeper, shown, ends_line, token_of, tokens_of, Spells}
use Rattle.dt_tokens.proofs.Lines.{LineAfter, line_after}
use Rattle.dt_tokens.proofs.Utf8Texts.{both_true}

ends_here : (b : Before) → b.depth ≡ 0 → b.joins ≡ false → ends_line b ≡ true
ends_here b flat free = (λ i. (flat i == 0) && not (free i))

head_piece : (p : Piece) (b : Before) (at : Place) (l m : ℕ) (rest : Before → List Placed) → at.line ≡ l →
    b.depth ≡ 0 → b.joins ≡ false → LineAfter p l m → HeadOnLine m (rest b) →
    HeadOnLine l (token_of b at p ++ rest (after b p))
head_piece Layout b at l m rest is flat free line head = subst (λ n. HeadOnLine n (rest b)) line head
head_piece Feed b at l m rest is flat free line head = rw (ends_here b flat free) is
head_piece (Spelled t) b at l m rest is flat free line head = is

head_on : (xs : List Cut) (s : List ℕ) (i j : ℕ) (b : Before) → Cuts s i xs j → b.depth ≡ 0 → b.joins ≡ false →
    HeadOnLine (place_at s i).line (tokens_of b xs)
head_on [] s i j b cut flat free = tt
head_on (x ∷ xs) s i j b cut flat free =
    head_piece x.piece b x.at (place_at s i).line (place_at s (i + x.len)).line (λ c. tokens_of c xs)
    (ap (λ p. p.line) cut.0) flat free (line_after s i x.piece x.len cut.1)
    (head_on xs s (i + x.len) j b cut.2 flat free)

not_true : (t : Bool) → not t ≡ true → t ≡ false
not_true true h = absurd (cc)
not_true false h = refl

is_zero : (n : ℕ) → (n == 0) ≡ true → n ≡ 0
is_zero n h = grind (arith, nat_tests)

feed_leads : (t : Bool) (b : Before) (at : Place) (m : ℕ) (us : List Placed) → ends_line b ≡ t →
    m ≡ at.line + 1 → (b.depth ≡ 0 → b.joins ≡ false → HeadOnLine m us) → BreaksLead b.depth us →
    BreaksLead b.depth (cond t (record { at = at; token = Break (at.line + 1) } ∷ []) [] ++ us)
feed_leads false b at m us is line head leads = leads
feed_leads true b at m us is line head leads =
    let parts = both_true (b.depth == 0) (not b.joins) is in (
      λ flat n e. let f : at.line + 1 ≡ n = cc in
          subst (λ k. HeadOnLine k us) (line ∙ f) (head flat (not_true b.joins parts.1)),
      leads,
    )

shown_deeper : (t : Token) (at : Place) (n : ℕ) → deeper n (shown at t) ≡ deeper n t
shown_deeper (Sign sign.Semi) at n = refl
shown_deeper (Sign x) at n = refl
shown_deeper (Name w) at n = refl
shown_deeper (Word w) at n = refl
shown_deeper (Int v) at n = refl
shown_deeper (Chr w) at n = refl
shown_deeper (Break k) at n = refl

token_leads : (t : Token) (b : Before) (at : Place) (l m : ℕ) (rest : Before → List Placed) → at.line ≡ l →
    LineAfter (Spelled t) l m → ((c : Before) → c.depth ≡ 0 → c.joins ≡ false → HeadOnLine m (rest c)) →
    b.depth ≡ 0 → (n : ℕ) → shown at t ≡ Break n → HeadOnLine n (rest (after b (Spelled t)))
token_leads (Sign sign.Semi) b at l m rest is line head flat n e =
    let f : at.line ≡ n = cc in
    subst (λ k. HeadOnLine k (rest (after b (Spelled (Sign sign.Semi))))) (line ∙ sym is ∙ f)
    (head (after b (Spelled (Sign sign.Semi))) flat refl)
token_leads (Sign x) b at l m rest is line head flat n e = absurd (cc)
token_leads (Name w) b at l m rest is line head flat n e = absurd (cc)
token_leads (Word w) b at l m rest is line head flat n e = absurd (cc)
token_leads (Int v) b at l m rest is line head flat n e = absurd (cc)
token_leads (Chr w) b at l m rest is line head flat n e = absurd (cc)
token_leads (Break k) b at l m rest is line head flat n e = absurd line

leads_piece : (p : Piece) (b : Before) (at : Place) (l m : ℕ) (rest : Before → List Placed) → at.line ≡ l →
    LineAfter p l m → ((c : Before) → c.depth ≡ 0 → c.joins ≡ false → HeadOnLine m (rest c)) →
    BreaksLead (after b p).depth (rest (after b p)) →
    BreaksLead b.depth (token_of b at p ++ rest (after b p))
leads_piece Layout b at l m rest is line head leads = leads
leads_piece Feed b at l m rest is line head leads =
    feed_leads (ends_line b) b at m (rest b) refl (line ∙ ap (λ k. k + 1) (sym is)) (head b) leads
leads_piece (Spelled t) b at l m rest is line head leads = (
  token_leads t b at l m rest is line head,
  subst (λ d. BreaksLead d (rest (after b (Spelled t)))) (sym (shown_deeper t at b.depth)) leads,
)

leads : (xs : List Cut) (s : List ℕ) (i j : ℕ) (b : Before) → Cuts s i xs j → BreaksLead b.depth (tokens_of b xs)
leads [] s i j b cut = tt
leads (x ∷ xs) s i j b cut =
    leads_piece x.piece b x.at (place_at s i).line (place_at s (i + x.len)).line (λ c. tokens_of c xs)
    (ap (λ p. p.line) cut.0) (line_after s i x.piece x.len cut.1)
    (λ c flat free. head_on xs s (i + x.len) j c cut.2 flat free) (leads xs s (i + x.len) j (after b x.piece) cut.2)

pub breaks_lead : (s : List ℕ) (ts : List Placed) → Spells s ts → HeadOnLine 1 ts × BreaksLead 0 ts
breaks_lead s ts a = (
  subst (HeadOnLine 1) a.tokens (head_on a.pieces s 0 (length s) begin a.cut refl refl),
  subst (BreaksLead 0) a.tokens (leads a.pieces s 0 (length s) begin a.cut),
)
