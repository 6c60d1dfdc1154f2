-- How contracts see the states of the code.
--   prefix_of p      a one-sided operator
--   end_of e         a token that ends all operators
--   symbol_of s      a token
--   head_tree h      what stands before a bracket
--   filled_of f      what the items of a bracket have filled
--   frame_of f       what has been begun
--   frames_of fs     all of it, the innermost first
--   state_of s       a state
use Rattle.std.specs.Prelude.{ℕ, suc, Bool, false, nat_le, List, [], ◌∷◌}
use Rattle.dt_tree.specs.declared.tree.Expr.{Expr}
use Rattle.script_frames.specs.declared.frames.Prefix as prefix_type
use Rattle.script_frames.specs.declared.frames.Prefix.TheVariants as prefix
use Rattle.script_frames.specs.declared.frames.End as end_type
use Rattle.script_frames.specs.declared.frames.End.TheVariants as end
use Rattle.script_frames.specs.declared.frames.Symbol as symbol_type
use Rattle.script_frames.specs.declared.frames.Symbol.TheVariants as symbol
use Rattle.script_frames.specs.declared.frames.Head as head_type
use Rattle.script_frames.specs.declared.frames.Filled as filled_type
use Rattle.script_frames.specs.declared.frames.Filled.TheVariants as filled
use Rattle.script_frames.specs.declared.frames.Frame as frame_type
use Rattle.script_frames.specs.declared.frames.Frame.TheVariants as frame
use Rattle.script_frames.specs.declared.frames.State as state_type
use Rattle.script_frames.specs.declared.frames.State.TheVariants as state
use Rattle.run_model.specs.GrammarTrees.{Typed, Null, Infinite, Prefix, Not, Negate, Token, Name, Literal, Operator}
use Rattle.run_model.specs.GrammarTrees.{Bang, Tilde, Assign, Arrow, Is, Open, Shut, OpenSquare, ShutSquare, Comma}
use Rattle.run_model.specs.GrammarTrees.{Break, Semicolon, Tree, Unary, Chain, MoreTails}
use Rattle.run_model.specs.Grammar.{level, prefix_level, Filled, Nothing, UpToI, UpToJ, UpToBy}
use Rattle.dt_grammar.specs.Machine.{Head, Frame, Front, Left, InParen, InCall, InItem, InNamed, InAssign, InStmt}
use Rattle.dt_grammar.specs.Machine.{State, Want, Have, NeedName, NeedIs, NeedWord, HaveWords}
use Rattle.run_model.specs.TreeView.{tree_of, tails_of, args_of, brackets_of, first_of, second_of, stmts_of}

abbrev pub prefix_of : prefix_type.Prefix → Prefix
prefix_of prefix.Not = Not
prefix_of prefix.Negate = Negate

abbrev pub end_of : end_type.End → Token
end_of end.Round = Shut
end_of end.Square = ShutSquare
end_of end.Comma = Comma
end_of (end.Break n) = Break n
end_of end.Assign = Assign
end_of end.Tilde = Tilde

abbrev pub symbol_of : symbol_type.Symbol → Token
symbol_of (symbol.Name x) = Name x
symbol_of (symbol.Literal c k) = Literal (Typed c k)
symbol_of symbol.Null = Literal Null
symbol_of symbol.Infinite = Literal Infinite
symbol_of (symbol.Operator op) = Operator op
symbol_of symbol.Bang = Bang
symbol_of symbol.Arrow = Arrow
symbol_of symbol.Is = Is
symbol_of symbol.Open = Open
symbol_of symbol.OpenSquare = OpenSquare
symbol_of symbol.Semicolon = Semicolon
symbol_of (symbol.End e) = end_of e

abbrev pub head_tree : head_type.Head → Head
head_tree h = record { tree = tree_of h.tree; brackets = brackets_of h.brackets }

abbrev pub filled_of : filled_type.Filled → Filled
filled_of filled.Nothing = Nothing
filled_of (filled.UpToI a) = UpToI (first_of a)
filled_of (filled.UpToJ a b) = UpToJ (first_of a) (second_of b)
filled_of (filled.UpToBy a b c args) = UpToBy (first_of a) (second_of b) (first_of c) (args_of args)

abbrev pub frame_of : frame_type.Frame → Frame
frame_of (frame.Front p) = Front (prefix_of p)
frame_of (frame.Left t rest o) = Left (tree_of t) (tails_of rest) o
frame_of frame.InParen = InParen
frame_of (frame.InCall x args o) = InCall x (args_of args) o
frame_of (frame.InItem h f) = InItem (head_tree h) (filled_of f)
frame_of (frame.InNamed h f x) = InNamed (head_tree h) (filled_of f) x
frame_of (frame.InAssign h a l) = InAssign (head_tree h) (UpToI (first_of a)) (tree_of l)
frame_of (frame.InStmt done n o) = InStmt (stmts_of done) n o

-- the code keeps the innermost frame last
abbrev pub frames_over : List Frame → List frame_type.Frame → List Frame
frames_over below [] = below
frames_over below (f ∷ fs) = frames_over (frame_of f ∷ below) fs

abbrev pub frames_of : List frame_type.Frame → List Frame
frames_of fs = frames_over [] fs

abbrev pub state_of : state_type.State → State
state_of (state.Want frames) = Want (frames_of frames.items)
state_of (state.Have frames t) = Have (frames_of frames.items) (tree_of t)
state_of (state.NeedName h f frames) = NeedName (head_tree h) (filled_of f) (frames_of frames.items)
state_of (state.NeedIs h f x frames) = NeedIs (head_tree h) (filled_of f) x (frames_of frames.items)
state_of (state.NeedWord f frames) = NeedWord f.call (args_of f.args) f.target f.left f.right (frames_of frames.items)
state_of (state.HaveWords f frames) = HaveWords f.call (args_of f.args) f.target f.left f.right (frames_of frames.items)

abbrev pub closed_of : List frame_type.Frame → Expr → List Frame × Tree
closed_of frames t = (frames_of frames, tree_of t)

-- Frame by frame: whether it is an operator that binds at least as tightly as k, the operator with
-- its last operand, and how tightly what comes in it has to bind.
abbrev pub binds : ℕ → Frame → Bool
binds k (Front p) = nat_le k (prefix_level p)
binds k (Left l tails op) = nat_le k (level op)
binds k _ = false

abbrev pub ended : Frame → Tree → Tree
ended (Front p) t = Unary p t
ended (Left l tails op) t = Chain l (MoreTails tails op t)
ended _ t = t

abbrev pub frame_demand : Frame → ℕ
frame_demand (Front p) = suc (prefix_level p)
frame_demand (Left l tails op) = suc (level op)
frame_demand _ = 0
