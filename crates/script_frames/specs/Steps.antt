-- The steps of the machine, frame by frame: what one frame becomes, or the expression that it ends.
--   bracket_tree f       the bracket with these items
--   placed j o           an item without a name, which stands at j where j is true
--   came_of p            what stands before a bracket, and what its items have filled
--   in_assign f t        ":=" behind the expression t
--   in_naming f x        "=" behind the name x
--   in_arrow f x         "<-" behind the name x
--   bare_name t          the name that an expression is
--   added_name t         the name behind a "+"
--   names_behind xs ts   the names xs and those that the tails ts add
use Rattle.std.specs.Prelude.{Bool, List, [], ◌∷◌, ◌++◌, Option, Some, None, option_map, option_and_then, if◌then◌else◌}
use Rattle.dt_base.specs.declared.operators.Op.TheVariants.{Add}
use Rattle.dt_tree.specs.declared.tree.BinOp.{BinOp}
use Rattle.dt_tree.specs.declared.tree.BinOp.TheVariants.{Arith}
use Rattle.dt_tree.specs.declared.tree.Expr.{Expr}
use Rattle.script_frames.specs.declared.frames.Head as head_type
use Rattle.script_frames.specs.declared.frames.Filled as filled_type
use Rattle.run_model.specs.GrammarTrees.{Word, Tree, Var, NoArgs, Item, Absent}
use Rattle.run_model.specs.Grammar.{Filled, Nothing, UpToI, UpToJ, UpToBy, item_of, is_j}
use Rattle.run_model.specs.TreeView.{BracketTree, TailTree, item_in, tree_of}
use Rattle.dt_grammar.specs.Machine.{Head, Frame, InCall, InItem, InNamed, InAssign, InStmt}
use Rattle.script_frames.specs.Frames.{head_tree, filled_of}

abbrev pub bracket_tree : Filled → BracketTree
bracket_tree Nothing = record { first = Absent; second = Absent; third = Absent; args = NoArgs }
bracket_tree (UpToI i) = record { first = i; second = Absent; third = Absent; args = NoArgs }
bracket_tree (UpToJ i j) = record { first = i; second = j; third = Absent; args = NoArgs }
bracket_tree (UpToBy i j by args) = record { first = i; second = j; third = by; args = args }

abbrev pub placed : Bool → Option Expr → Item
placed j o = item_in (option_map (λ e. item_of j (tree_of e)) o)

abbrev pub came_of : head_type.Head × filled_type.Filled → Head × Filled
came_of p = (head_tree p.0, filled_of p.1)

abbrev pub in_assign : Frame → Tree → Option Frame
in_assign (InItem h f) t = if is_j f then Some (InAssign h f t) else None
in_assign _ t = None

abbrev pub in_naming : Frame → Word → Option Frame
in_naming (InCall g args None) x = Some (InCall g args (Some x))
in_naming (InItem h f) x = Some (InNamed h f x)
in_naming (InStmt ss n None) x = Some (InStmt ss n (Some x))
in_naming _ x = None

abbrev pub in_arrow : Frame → Word → Option Frame
in_arrow (InStmt ss n None) x = Some (InStmt ss n (Some x))
in_arrow _ x = None

-- the name that an expression is, where it is a bare one
abbrev pub bare_name : Tree → Option Word
bare_name (Var x) = Some x
bare_name _ = None

-- the name behind a "+", where a bare one and no other operator stands there
abbrev pub name_added : BinOp → Tree → Option Word
name_added (Arith Add) t = bare_name t
name_added _ t = None

abbrev pub added_name : TailTree → Option Word
added_name t = name_added t.0 t.1

-- these names, and those that the tails add to them
abbrev pub names_behind : List Word → List TailTree → Option (List Word)
names_behind names [] = Some names
names_behind names (x ∷ xs) = option_and_then (λ name. names_behind (names ++ name ∷ []) xs) (added_name x)
