-- What the grammar answers to tokens.
--   Judges ts r           the tokens ts spell the statements r, or their first fault is r
use Rattle.std.specs.Prelude.{ℕ, List, Result, Ok, Err}
use Rattle.dt_tree.specs.declared.tree.Stmt as stmt_type
use Rattle.run_model.specs.FirstFault.{IsFirstFault}
use Rattle.run_model.specs.Grammar.{IsScript}
use Rattle.run_model.specs.GrammarTrees.{Token}
use Rattle.run_model.specs.TreeView.{stmts_of}

-- the statements that tokens spell, or where the grammar first refuses them
abbrev pub Judges : List Token → Result (List stmt_type.Stmt) ℕ → Type 0
Judges ts (Ok done) = IsScript ts (stmts_of done)
Judges ts (Err n) = IsFirstFault ts n
