-- What a token that ends all operators makes of the innermost frame.
--   Made                    what a token makes of a frame
--   made_of m               the code's
--   state_with m fs         the state behind it, with the frames fs around it
--   next_made h f           the next item of a bracket
--   with_stmt f t           the statements with the one that ends with the expression t
--   made_at e f t           what the token makes of the frame f, where the expression t has come in it
--   made_none e f           the same, where nothing has come in it
--   end_step e p            the machine's step, behind an expression
--   none_step e fs          the machine's step, where nothing has come
use Rattle.std.specs.Prelude.{ℕ, Bool, true, false, List, [], ◌∷◌, ◌++◌, Option, Some, None, option_map}
use Rattle.run_model.specs.GrammarTrees.{Word, Tree, Paren, Call, Args, NoArgs, MoreArgs, Absent, Stmt}
use Rattle.run_model.specs.Grammar.{Filled, takes_unnamed, with_item}
use Rattle.run_model.specs.TreeView.{tree_of, args_of}
use Rattle.dt_grammar.specs.Machine as model
use Rattle.dt_grammar.specs.Machine.{Head, Frame, InParen, InCall, InItem, InStmt, State, query}
use Rattle.dt_grammar.specs.Machine.{item, names_of}
use Rattle.script_frames.specs.declared.frames.End.{End}
use Rattle.script_frames.specs.declared.frames.End.TheVariants as end
use Rattle.script_frames.specs.declared.frames.Made as made_type
use Rattle.script_frames.specs.declared.frames.Made.TheVariants as made
use Rattle.script_frames.specs.Frames.{head_tree, filled_of, frame_of}
use Rattle.script_frames.specs.Steps.{in_assign}

-- an expression that has come, a frame in which one is to come, a bracket where the name of an item is
-- to come, or a formula where a name is to come
pub data Made : Type 0 where
  Have : Tree → Made
  Want : Frame → Made
  NeedName : Head → Filled → Made
  NeedWord : Word → Args → Option Word → List Word → List Word → Made

abbrev pub made_of : made_type.Made → Made
made_of (made.Have t) = Have (tree_of t)
made_of (made.Want f) = Want (frame_of f)
made_of (made.NeedName h f) = NeedName (head_tree h) (filled_of f)
made_of (made.NeedWord f) = NeedWord f.call (args_of f.args) f.target f.left f.right

abbrev pub state_with : Made → List Frame → State
state_with (Have t) rest = model.Have rest t
state_with (Want f) rest = model.Want (f ∷ rest)
state_with (NeedName h f) rest = model.NeedName h f rest
state_with (NeedWord g args o xs ys) rest = model.NeedWord g args o xs ys rest

-- the next item of a bracket, which has a name where j has come and by
abbrev pub next_from : Bool → Head → Filled → Made
next_from true h f = Want (InItem h f)
next_from false h f = NeedName h f

abbrev pub next_made : Head → Filled → Made
next_made h f = next_from (takes_unnamed f) h f

abbrev pub after_stmts : List Stmt → ℕ → Option Word → Tree → List Stmt
after_stmts ss n o t = ss ++ record { line = n; target = o; expr = t } ∷ []

abbrev pub with_stmt : Frame → Tree → Option (List Stmt)
with_stmt (InStmt ss n o) t = Some (after_stmts ss n o t)
with_stmt _ t = None

-- behind an expression
abbrev pub made_at : End → Frame → Tree → Option Made
made_at end.Round InParen t = Some (Have (Paren t))
made_at end.Round (InCall x args o) t = Some (Have (Call x (MoreArgs args o t)))
made_at end.Round _ t = None
made_at end.Square f t = option_map (λ came. Have (query came.0 came.1)) (item f t)
made_at end.Comma (InCall x args o) t = Some (Want (InCall x (MoreArgs args o t) None))
made_at end.Comma f t = option_map (λ came. next_made came.0 came.1) (item f t)
made_at (end.Break m) f t = option_map (λ ss. Want (InStmt ss m None)) (with_stmt f t)
made_at end.Assign f t = option_map Want (in_assign f t)
made_at end.Tilde (InCall x args o) t = option_map (λ xs. NeedWord x args o xs []) (names_of t)
made_at end.Tilde _ t = None

-- behind nothing
abbrev pub made_none : End → Frame → Option Made
made_none end.Round (InCall x NoArgs None) = Some (Have (Call x NoArgs))
made_none end.Round _ = None
made_none end.Square (InItem h f) = Some (Have (query h (with_item f Absent)))
made_none end.Square _ = None
made_none end.Comma (InItem h f) = Some (next_made h (with_item f Absent))
made_none end.Comma _ = None
made_none (end.Break m) (InStmt ss n None) = Some (Want (InStmt ss m None))
made_none (end.Break m) _ = None
made_none end.Assign _ = None
made_none end.Tilde _ = None

abbrev pub end_step : End → List Frame × Tree → Option State
end_step end.Round = model.shut
end_step end.Square = model.shut_square
end_step end.Comma = model.comma
end_step (end.Break m) = model.break m
end_step end.Assign = model.assign
end_step end.Tilde = model.tilde

abbrev pub none_step : End → List Frame → Option State
none_step end.Round = model.shut_none
none_step end.Square = model.shut_square_none
none_step end.Comma = model.comma_none
none_step (end.Break m) = model.break_none m
none_step end.Assign = λ _. None
none_step end.Tilde = λ _. None
