-- Where the first fault of a list of tokens stands.
--   IsViable ts          some script begins with these tokens
--   IsFirstFault ts n    the grammar's fault stands at token n, counted from 0, or at the end
use Rattle.std.specs.Prelude.{◌≡◌, ℕ, suc, ◌+◌, ◌≤◌, ◌<◌, List, [], ◌∷◌, ◌++◌, length, take}
use Rattle.run_model.specs.GrammarTrees.{Token, Stmt}
use Rattle.run_model.specs.Grammar.{IsScript}

-- some script begins with these tokens
abbrev pub IsViable : List Token → Type 0
IsViable ts = (more : List Token) × (ss : List Stmt) × IsScript (ts ++ more) ss

-- The token at n is the first with which the tokens so far begin no script. Where n is the number
-- of tokens, they begin one and are none.
pub record IsFirstFault (ts : List Token) (n : ℕ) : Type 0 where
  pub within : n ≤ length ts
  pub before : IsViable (take n ts)
  pub after : n < length ts → ¬ IsViable (take (n + 1) ts)
  pub at_end : n ≡ length ts → (ss : List Stmt) → ¬ IsScript ts ss
