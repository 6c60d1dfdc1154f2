-- What stands between the quotes of a text, as a grammar.
--   IsBody q bs ts     the bytes bs, between two quotes q, spell the text ts
--   TextsAreBodies     a text begins exactly where a quote, a body and the quote again do
use Rattle.std.specs.Prelude.{◌≡◌, ◌≢◌, ℕ, ◌+◌, List, [], ◌∷◌, ◌++◌, length, Some}
use Rattle.dt_tree.specs.declared.token.Token.TheVariants.{Chr}
use Rattle.dt_tree.specs.declared.pieces.Piece.TheVariants.{Spelled}
use Rattle.dt_tree.specs.declared.pieces.First.TheVariants.{Found}
use Rattle.run_model.specs.First.{escape, text_at}

-- A body is empty, or begins with a byte that is neither the quote nor a backslash, or with a
-- backslash and a byte that it may stand before.
pub data IsBody : ℕ → List ℕ → List ℕ → Type 0 where
  done : {q : ℕ} → IsBody q [] []
  plain : {q : ℕ} {bs ts : List ℕ} (b : ℕ) → b ≢ q → b ≢ 92 → IsBody q bs ts → IsBody q (b ∷ bs) (b ∷ ts)
  escaped : {q : ℕ} {bs ts : List ℕ} (b c : ℕ) → escape b ≡ Some c → IsBody q bs ts → IsBody q (92 ∷ b ∷ bs) (c ∷ ts)

-- A text that is found is a quote, a body and the quote again, and each such spelling is found.
pub record TextsAreBodies : Type 0 where
  pub found : (q : ℕ) (s ts : List ℕ) (n : ℕ) → q ≢ 92 → text_at (q ∷ s) ≡ Found (Spelled (Chr ts)) n
      → (bs rest : List ℕ) × (s ≡ bs ++ q ∷ rest) × IsBody q bs ts × (n ≡ length bs + 2)
  pub every : (q : ℕ) (bs ts rest : List ℕ) → q ≢ 92 → IsBody q bs ts
      → text_at (q ∷ (bs ++ q ∷ rest)) ≡ Found (Spelled (Chr ts)) (length bs + 2)
