-- What follows from the reading of a script.
--   OneReading            bytes are one script at most, or have one first fault, and not both
--   Begins us before x    behind the lines of the statements before it, the first token of the statement x
--   StatementsLeadLines   each statement stands on the line of its first token
use Rattle.std.specs.Prelude.{◌≡◌, ℕ, Bool, true, false, List, ◌∷◌, ◌++◌}
use Rattle.dt_tree.specs.declared.fault.ScriptFault.{ScriptFault}
use Rattle.dt_tree.specs.declared.token.Placed.{Placed}
use Rattle.dt_tree.specs.declared.tree.Script.{Script}
use Rattle.run_model.specs.Grammar.{IsLines, IsScript}
use Rattle.run_model.specs.GrammarTrees.{Token, Break, Stmt}
use Rattle.run_model.specs.Reading.{IsReadAs, IsRefused}
use Rattle.run_model.specs.TokenView.{plain_token, plain_tokens}
use Rattle.run_model.specs.Tokens.{Spells}

-- Two scripts that the bytes are are equal, so are two first faults, and no bytes have both.
pub record OneReading : Type 0 where
  pub script : (s : List ℕ) (a b : Script) → IsReadAs s a → IsReadAs s b → a ≡ b
  pub fault : (s : List ℕ) (f g : ScriptFault) → IsRefused s f → IsRefused s g → f ≡ g
  pub either : (s : List ℕ) (a : Script) (f : ScriptFault) → IsReadAs s a → ¬ IsRefused s f

-- the token is a line feed or ";"
abbrev pub is_break : Token → Bool
is_break (Break n) = true
is_break _ = false

-- The tokens us are the lines of the statements before x, a token that is no break, and more. That
-- token stands on the line of x.
pub record Begins (us : List Placed) (before : List Stmt) (x : Stmt) : Type 0 where
  pub vs : List Placed
  pub u : Placed
  pub ws : List Placed
  pub split : us ≡ vs ++ u ∷ ws
  pub behind : IsLines (plain_tokens vs) before x.line
  pub begins : is_break (plain_token u.token) ≡ false
  pub line : u.at.line ≡ x.line

-- In the tokens of a text each statement begins with a token on its line.
abbrev pub StatementsLeadLines : Type 0
StatementsLeadLines = (s : List ℕ) (us : List Placed) (before after : List Stmt) (x : Stmt) → Spells s us
    → IsScript (plain_tokens us) (before ++ x ∷ after) → Begins us before x
