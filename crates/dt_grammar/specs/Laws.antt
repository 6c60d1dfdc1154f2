-- What follows from the grammar alone.
--   OneScript          tokens spell one script at most
--   OneCodeScript      and so with the scripts that code holds
--   EachIsSpelled      each script that the rules allow is spelled by some tokens
--   EachIsAllowed      what tokens of a script spell, the rules allow
--   EachIsAnswered     tokens spell a script or have a first fault
--   OneFault           two faults of tokens are equal, and tokens of a right script have none
--   MarksInStep        each mark of a script has its flag
use Rattle.std.specs.Prelude.{◌≡◌, ℕ, List, map, length, None, ◌⊎◌}
use Rattle.dt_tree.specs.declared.token.Token as token_type
use Rattle.dt_tree.specs.declared.tree.Script.{Script}
use Rattle.dt_grammar.specs.AllowedTrees.{AreStmts}
use Rattle.run_model.specs.FirstFault.{IsFirstFault}
use Rattle.run_model.specs.Grammar.{IsScript}
use Rattle.run_model.specs.GrammarTrees.{Token, Stmt}
use Rattle.run_model.specs.Misplaced.{marks_from, flags, misplaced}
use Rattle.run_model.specs.Reading.{IsFaultAt}
use Rattle.run_model.specs.TokenView.{plain_token}
use Rattle.run_model.specs.TreeView.{script_of}

-- A list of tokens spells one script at most.
abbrev pub OneScript : Type 0
OneScript = (ts : List Token) (ss others : List Stmt) → IsScript ts ss → IsScript ts others → ss ≡ others

-- A list of tokens spells one script of the code's trees at most.
abbrev pub OneCodeScript : Type 0
OneCodeScript = (ts : List Token) (a b : Script) → IsScript ts (script_of a) → IsScript ts (script_of b) → a ≡ b

-- Each script that the rules allow is spelled by some tokens.
abbrev pub EachIsSpelled : Type 0
EachIsSpelled = (ss : List Stmt) → AreStmts ss → (us : List token_type.Token) × IsScript (map plain_token us) ss

-- What tokens of a script spell, the rules allow: a chain has operators of one level, a query has
-- one bracket or more and no query as its head, and so on.
abbrev pub EachIsAllowed : Type 0
EachIsAllowed = (us : List token_type.Token) (ss : List Stmt) → IsScript (map plain_token us) ss → AreStmts ss

-- Each list of tokens spells a script, or has a first fault.
abbrev pub EachIsAnswered : Type 0
EachIsAnswered = (ts : List Token) → ((ss : List Stmt) × IsScript ts ss) ⊎ ((n : ℕ) × IsFirstFault ts n)

-- A list of tokens has one fault at most, and none where it spells a script without an assignment
-- in a wrong place.
pub record OneFault : Type 0 where
  pub once : (ts : List Token) (n m : ℕ) → IsFaultAt ts n → IsFaultAt ts m → n ≡ m
  pub none : (ts : List Token) (ss : List Stmt) (n : ℕ) → IsScript ts ss → misplaced ts ss ≡ None → ¬ IsFaultAt ts n

-- The walk over the trees gives as many flags as the text has marks.
abbrev pub MarksInStep : Type 0
MarksInStep = (ts : List Token) (ss : List Stmt) → IsScript ts ss → length (marks_from 0 ts) ≡ length (flags ss)
