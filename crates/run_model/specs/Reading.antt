-- What the bytes of a script are: the one script, or the first fault. The passes come in order:
-- UTF-8, the tokens, the nesting of brackets, the grammar, and the places of assignments.
--   IsFaultAt ts n       the tokens ts have their fault at token n, counted from 0, or at the end
--   fault_place s us n   the place of token n in the text s, or the place after its last byte
--   IsReadAs s t         the bytes s are the script t
--   IsRefused s f        the bytes s have the fault f as their first
use Rattle.std.specs.Prelude.{◌≡◌, ℕ, zero, suc, List, [], ◌∷◌, length, Option, Some, None}
use Rattle.dt_tree.specs.declared.fault.ScriptFault.{ScriptFault}
use Rattle.dt_tree.specs.declared.fault.ScriptFault.TheVariants.{Syntax}
use Rattle.dt_tree.specs.declared.token.Place.{Place}
use Rattle.dt_tree.specs.declared.token.Placed.{Placed}
use Rattle.dt_tree.specs.declared.tree.Script.{Script}
use Rattle.run_model.specs.FirstFault.{IsFirstFault}
use Rattle.run_model.specs.Grammar.{IsScript}
use Rattle.run_model.specs.GrammarTrees.{Token, Stmt}
use Rattle.run_model.specs.Misplaced.{misplaced}
use Rattle.run_model.specs.Places.{place_at}
use Rattle.run_model.specs.TokenView.{plain_tokens}
use Rattle.run_model.specs.Tokens.{AreTokens, HasFault, unmarked}
use Rattle.run_model.specs.TreeView.{script_of}

-- The grammar refuses the tokens there; or it takes them, and there stands the first token of an
-- assignment in a wrong place.
pub data IsFaultAt (ts : List Token) (n : ℕ) : Type 0 where
  ungrammatical : IsFirstFault ts n → IsFaultAt ts n
  stands_wrong : (ss : List Stmt) → IsScript ts ss → misplaced ts ss ≡ Some n → IsFaultAt ts n

-- the place of token n, or the place after the last byte where there are no more
abbrev pub fault_place : List ℕ → List Placed → ℕ → Place
fault_place s [] n = place_at s (length s)
fault_place s (u ∷ us) zero = u.at
fault_place s (u ∷ us) (suc n) = fault_place s us n

-- The bytes are tokens that spell the script, and no assignment stands in a wrong place.
pub record IsReadAs (s : List ℕ) (script : Script) : Type 0 where
  pub tokens : List Placed
  pub cut : AreTokens s tokens
  pub spelled : IsScript (plain_tokens tokens) (script_of script)
  pub right : misplaced (plain_tokens tokens) (script_of script) ≡ None

-- The bytes are no tokens; or they are, and the tokens have a fault. Bytes are counted in their
-- line, after a byte order mark is dropped.
pub data IsRefused (s : List ℕ) : ScriptFault → Type 0 where
  in_tokens : (f : ScriptFault) → HasFault s f → IsRefused s f
  in_grammar : (us : List Placed) (n : ℕ) → AreTokens s us → IsFaultAt (plain_tokens us) n
      → IsRefused s (Syntax (fault_place (unmarked s) us n))
