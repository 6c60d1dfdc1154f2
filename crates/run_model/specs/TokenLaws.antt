-- What follows from the definitions of tokens alone.
--   OneAnswer          a script is one list of tokens, or has one first fault, and not both
--   LongestSign        of the symbols that a text begins with the longest is taken
--   RunsAreLongest     a run of a class of bytes goes on as long as it can
--   HeadOnLine n ts    the first of the tokens ts, if there is one, stands on line n
--   BreaksLead n ts    behind each break of ts outside brackets the next token is on its line
--   BreaksLeadLines    the tokens of a text begin on line 1, and its breaks lead lines
use Rattle.std.specs.Prelude.{◌≡◌, ℕ, ◌<◌, ◌≤◌, List, [], ◌∷◌, ◌++◌, length, drop, true, false, slice_index, Some, None}
use Rattle.dt_tree.specs.declared.token.Placed.{Placed}
use Rattle.dt_tree.specs.declared.token.Token.TheVariants.{Break}
use Rattle.dt_tree.specs.declared.token.Sign.{Sign}
use Rattle.dt_tree.specs.declared.fault.ScriptFault.{ScriptFault}
use Rattle.dt_tree.specs.declared.pieces.Class.{Class}
use Rattle.run_model.specs.Bytes.{is_in, run, head_is}
use Rattle.run_model.specs.Signs.{spelled, sign_at}
use Rattle.run_model.specs.Tokens.{AreTokens, HasFault, Spells, deeper}

-- Two lists of tokens of one script are equal, two first faults are equal, and no script has both.
pub record OneAnswer : Type 0 where
  pub tokens : (s : List ℕ) (ts us : List Placed) → AreTokens s ts → AreTokens s us → ts ≡ us
  pub fault : (s : List ℕ) (f g : ScriptFault) → HasFault s f → HasFault s g → f ≡ g
  pub either : (s : List ℕ) (ts : List Placed) (f : ScriptFault) → AreTokens s ts → ¬ HasFault s f

-- The text begins with the symbol that is found, no symbol that it begins with is longer, and
-- where none is found it begins with none.
pub record LongestSign : Type 0 where
  pub begins : (x : Sign) (s : List ℕ) → sign_at s ≡ Some x → s ≡ spelled x ++ drop (length (spelled x)) s
  pub longest : (x y : Sign) (s rest : List ℕ) → sign_at s ≡ Some x → s ≡ spelled y ++ rest
      → length (spelled y) ≤ length (spelled x)
  pub none : (y : Sign) (s rest : List ℕ) → sign_at s ≡ None → ¬ (s ≡ spelled y ++ rest)

-- All bytes of the run are of the class, and the one behind it is not.
pub record RunsAreLongest : Type 0 where
  pub inside : (c : Class) (s : List ℕ) (i : ℕ) → i < run (is_in c) s → is_in c (slice_index s i) ≡ true
  pub next : (c : Class) (s : List ℕ) → head_is (is_in c) (drop (run (is_in c) s) s) ≡ false

-- the first of the tokens, if there is one, stands on this line
abbrev pub HeadOnLine : ℕ → List Placed → Type 0
HeadOnLine n [] = Unit {0}
HeadOnLine n (u ∷ us) = u.at.line ≡ n

-- Behind a break where no bracket is open the next token stands on the break's line. The first
-- argument is the number of brackets that are open before the tokens.
abbrev pub BreaksLead : ℕ → List Placed → Type 0
BreaksLead depth [] = Unit {0}
BreaksLead depth (t ∷ ts) = (depth ≡ 0 → (n : ℕ) → t.token ≡ Break n → HeadOnLine n ts)
    × BreaksLead (deeper depth t.token) ts

-- The first token of a text is on line 1, and each break outside brackets leads its line.
abbrev pub BreaksLeadLines : Type 0
BreaksLeadLines = (s : List ℕ) (ts : List Placed) → Spells s ts → HeadOnLine 1 ts × BreaksLead 0 ts
