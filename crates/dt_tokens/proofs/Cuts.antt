-- Piece by piece.
use Rattle.std.proofs.Common.{◌≡◌, ℕ, ◌+◌, List, [], ◌∷◌, ◌++◌, drop, refl, ap, sym, ◌∙◌, append_assoc, append-nil}
use Rattle.dt_tree.specs.declared.token.Place.{Place}
use Rattle.dt_tree.specs.declared.token.Placed.{Placed}
use Rattle.dt_tree.specs.declared.pieces.Piece.{Piece}
use Rattle.dt_tree.specs.declared.pieces.First.TheVariants.{Found}
use Rattle.dt_tree.specs.declared.pieces.Before.{Before}
use Rattle.run_model.specs.Places.{place_at}
use Rattle.run_model.specs.First.{first}
use Rattle.run_model.specs.Tokens.{Cut, Cuts, after, begin, token_of, tokens_of}

abbrev all_after : Before → List Cut → Before
all_after b [] = b
all_after b (x ∷ xs) = all_after (after b x.piece) xs

-- some pieces of s up to i give these tokens and leave this state
pub record Reached (s : List ℕ) (i : ℕ) (b : Before) (ts : List Placed) : Type 0 where
  pub pieces : List Cut
  pub cut : Cuts s 0 pieces i
  pub state : all_after begin pieces ≡ b
  pub tokens : tokens_of begin pieces ≡ ts

cuts_push : (xs : List Cut) (s : List ℕ) (i j : ℕ) (x : Cut) → Cuts s i xs j → x.at ≡ place_at s j →
    first (drop j s) ≡ Found x.piece x.len → Cuts s i (xs ++ x ∷ []) (j + x.len)
cuts_push [] s i j x cut at found = (
  at ∙ ap (place_at s) (sym cut),
  ap (λ k. first (drop k s)) cut ∙ found,
  ap (λ k. k + x.len) cut,
)
cuts_push (y ∷ ys) s i j x cut at found = (cut.0, cut.1, cuts_push ys s (i + y.len) j x cut.2 at found)

after_push : (xs : List Cut) (b : Before) (x : Cut) → all_after b (xs ++ x ∷ []) ≡ after (all_after b xs) x.piece
after_push [] b x = refl
after_push (y ∷ ys) b x = after_push ys (after b y.piece) x

tokens_push : (xs : List Cut) (b : Before) (x : Cut) →
    tokens_of b (xs ++ x ∷ []) ≡ tokens_of b xs ++ token_of (all_after b xs) x.at x.piece
tokens_push [] b x = append-nil _
tokens_push (y ∷ ys) b x = ap (λ r. token_of b y.at y.piece ++ r) (tokens_push ys (after b y.piece) x)
    ∙ sym (append_assoc (token_of b y.at y.piece) (tokens_of (after b y.piece) ys)
    (token_of (all_after (after b y.piece) ys) x.at x.piece))

pub reached_begin : (s : List ℕ) → Reached s 0 begin []
reached_begin s = record { pieces = []; cut = refl; state = refl; tokens = refl }

pub reached_more : (s : List ℕ) (i : ℕ) (b c : Before) (ts us : List Placed) (p : Piece) (len : ℕ) (at : Place) →
    Reached s i b ts → at ≡ place_at s i → first (drop i s) ≡ Found p len → c ≡ after b p →
    us ≡ ts ++ token_of b at p → Reached s (i + len) c us
reached_more s i b c ts us p len at r is found state grown =
    let x : Cut = record { at = at; piece = p; len = len } in
    record {
      pieces = r.pieces ++ x ∷ [];
      cut = cuts_push r.pieces s 0 i x r.cut is found;
      state = after_push r.pieces begin x ∙ ap (λ z. after z p) r.state ∙ sym state;
      tokens = tokens_push r.pieces begin x ∙ (λ k. r.tokens k ++ token_of (r.state k) at p) ∙ sym grown;
    }
