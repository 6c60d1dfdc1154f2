-- The steps of the machine, frame by frame, and the view of what the code makes of a frame.
use Rattle.std.proofs.Common.{◌≡◌, ◌≢◌, Bool, true, false, List, [], ◌∷◌, ◌++◌, Option, Some, None, option_map}
use Rattle.std.proofs.Common.{option_and_then, refl, sym, ◌∙◌, ap, subst}
use Rattle.dt_tree.specs.declared.tree.Expr.{Expr, out-Expr, roll-Expr, roll-out-Expr}
use Rattle.dt_tree.specs.declared.tree.Expr.TheOpen.{Expr-F}
use Rattle.dt_tree.specs.declared.tree.Expr.TheOpen as layer
use Rattle.dt_tree.specs.declared.tree.Expr.TheVariants as code
use Rattle.dt_tree.specs.declared.tree.Second.{Second}
use Rattle.dt_tree.specs.declared.tree.Arg.{Arg}
use Rattle.dt_tree.specs.declared.tree.Tail.{Tail}
use Rattle.dt_tree.specs.declared.tree.Bracket.{Bracket, out-Bracket, roll-out-Bracket}
use Rattle.dt_tree.specs.declared.tree.Stmt as stmt_type
use Rattle.run_model.specs.GrammarTrees.{Word, Tree, Var, Given, NoArgs, MoreArgs, Brackets, NoBrackets, MoreBrackets}
use Rattle.run_model.specs.Grammar.{Filled, Nothing, UpToI, UpToJ, UpToBy, with_bracket, as_j, with_name}
use Rattle.run_model.specs.TreeView.{tree_of, bracket_of, first_of, second_of, args_of, stmt_of, stmts_of}
use Rattle.dt_grammar.specs.Machine.{Frame, Front, Left, InParen, InCall, InItem, InNamed, InAssign, InStmt, Want}
use Rattle.dt_grammar.specs.Machine.{head_of, name_top, arrow_top, opens, naming}
use Rattle.dt_grammar.proofs.Trees.{tree_of-Lit, tree_of-Null, tree_of-Infinite, tree_of-Name, tree_of-Paren}
use Rattle.dt_grammar.proofs.Trees.{tree_of-Minus, tree_of-Not, tree_of-Chain, tree_of-Call, tree_of-Query}
use Rattle.dt_grammar.proofs.Trees.{tree_of-Formula, item_of_second-Value, item_of_second-Assign}
use Rattle.dt_grammar.proofs.Trees.{item_of_second-AssignAll, bracket_of-roll, brackets_of-push}
use Rattle.script_frames.proofs.FrameViews.{frames}
use Rattle.script_frames.specs.Steps.{bracket_tree, placed, bare_name, in_naming, in_arrow}

-- brackets
pub with_bracket_is : (bs : Brackets) (f : Filled)
    → with_bracket bs f ≡ (let b = bracket_tree f in MoreBrackets bs b.first b.second b.third b.args)
with_bracket_is bs Nothing = refl
with_bracket_is bs (UpToI i) = refl
with_bracket_is bs (UpToJ i j) = refl
with_bracket_is bs (UpToBy i j by args) = refl

pub ruleset brackets = (bracket_of-roll)

pub bracket_of_is : (b : Bracket) → bracket_of b ≡ record {
  first = first_of (out-Bracket b).first;
  second = second_of (out-Bracket b).second;
  third = first_of (out-Bracket b).third;
  args = args_of (out-Bracket b).args;
}
bracket_of_is b = let o = out-Bracket b in ap bracket_of (sym (roll-out-Bracket b))
    ∙ bracket_of-roll o.first o.second o.third o.args

pub with_name_is : (f : Filled) (x : Word) (t : Tree)
    → with_name f x t ≡ (let b = bracket_tree f in UpToBy b.first b.second b.third (MoreArgs b.args (Some x) t))
with_name_is Nothing x t = refl
with_name_is (UpToI i) x t = refl
with_name_is (UpToJ i j) x t = refl
with_name_is (UpToBy i j by args) x t = refl

pub ruleset names = (bracket_of_is, with_name_is)

pub ruleset queries = (brackets_of-push, with_bracket_is)

-- items
pub first_of-placed : (o : Option Expr) → placed false o ≡ first_of o
first_of-placed None = refl
first_of-placed (Some t) = refl

pub ruleset items = (first_of-placed)

pub ruleset seconds = (item_of_second-Value, item_of_second-Assign, item_of_second-AssignAll)

-- what is no call and no query in the code is none in the view
as_j_other_layer : (l : Expr-F Expr Second Arg Bracket Tail)
    → ((x : Word) (args : List Arg) → roll-Expr l ≢ code.Call x args)
    → as_j (tree_of (roll-Expr l)) ≡ Given (tree_of (roll-Expr l))
as_j_other_layer (layer.Lit c k) h = subst (λ z. as_j (z) ≡ Given (z))
    (sym (ap tree_of (code.rolls-Lit c k) ∙ tree_of-Lit c k)) refl
as_j_other_layer layer.Null h = subst (λ z. as_j (z) ≡ Given (z))
    (sym (ap tree_of (code.rolls-Null) ∙ tree_of-Null)) refl
as_j_other_layer layer.Infinite h = subst (λ z. as_j (z) ≡ Given (z))
    (sym (ap tree_of (code.rolls-Infinite) ∙ tree_of-Infinite)) refl
as_j_other_layer (layer.Name x) h = subst (λ z. as_j (z) ≡ Given (z))
    (sym (ap tree_of (code.rolls-Name x) ∙ tree_of-Name x)) refl
as_j_other_layer (layer.Paren t) h = subst (λ z. as_j (z) ≡ Given (z))
    (sym (ap tree_of (code.rolls-Paren t) ∙ tree_of-Paren t)) refl
as_j_other_layer (layer.Minus t) h = subst (λ z. as_j (z) ≡ Given (z))
    (sym (ap tree_of (code.rolls-Minus t) ∙ tree_of-Minus t)) refl
as_j_other_layer (layer.Not t) h = subst (λ z. as_j (z) ≡ Given (z))
    (sym (ap tree_of (code.rolls-Not t) ∙ tree_of-Not t)) refl
as_j_other_layer (layer.Chain t rest) h =
    subst (λ z. as_j (z) ≡ Given (z)) (sym (ap tree_of (code.rolls-Chain t rest) ∙ tree_of-Chain t rest)) refl
as_j_other_layer (layer.Call x args) h = absurd (h x args (code.rolls-Call x args))
as_j_other_layer (layer.Query t bs) h = subst (λ z. as_j (z) ≡ Given (z))
    (sym (ap tree_of (code.rolls-Query t bs) ∙ tree_of-Query t bs)) refl
as_j_other_layer (layer.Formula xs ys) h =
    subst (λ z. as_j (z) ≡ Given (z)) (sym (ap tree_of (code.rolls-Formula xs ys) ∙ tree_of-Formula xs ys)) refl

pub as_j_other : (t : Expr) → ((x : Word) (args : List Arg) → t ≢ code.Call x args)
    → as_j (tree_of t) ≡ Given (tree_of t)
as_j_other t h = subst (λ s. ((x : Word) (args : List Arg) → s ≢ code.Call x args)
    → as_j (tree_of s) ≡ Given (tree_of s)) (roll-out-Expr t) (as_j_other_layer (out-Expr t)) h

head_of_other_layer : (l : Expr-F Expr Second Arg Bracket Tail)
    → ((u : Expr) (bs : List Bracket) → roll-Expr l ≢ code.Query u bs)
    → head_of (tree_of (roll-Expr l)) ≡ record { tree = tree_of (roll-Expr l); brackets = NoBrackets }
head_of_other_layer (layer.Lit c k) h = subst (λ z. head_of (z) ≡ record { tree = z; brackets = NoBrackets })
    (sym (ap tree_of (code.rolls-Lit c k) ∙ tree_of-Lit c k)) refl
head_of_other_layer layer.Null h = subst (λ z. head_of (z) ≡ record { tree = z; brackets = NoBrackets })
    (sym (ap tree_of (code.rolls-Null) ∙ tree_of-Null)) refl
head_of_other_layer layer.Infinite h = subst (λ z. head_of (z) ≡ record { tree = z; brackets = NoBrackets })
    (sym (ap tree_of (code.rolls-Infinite) ∙ tree_of-Infinite)) refl
head_of_other_layer (layer.Name x) h = subst (λ z. head_of (z) ≡ record { tree = z; brackets = NoBrackets })
    (sym (ap tree_of (code.rolls-Name x) ∙ tree_of-Name x)) refl
head_of_other_layer (layer.Paren t) h = subst (λ z. head_of (z) ≡ record { tree = z; brackets = NoBrackets })
    (sym (ap tree_of (code.rolls-Paren t) ∙ tree_of-Paren t)) refl
head_of_other_layer (layer.Minus t) h = subst (λ z. head_of (z) ≡ record { tree = z; brackets = NoBrackets })
    (sym (ap tree_of (code.rolls-Minus t) ∙ tree_of-Minus t)) refl
head_of_other_layer (layer.Not t) h = subst (λ z. head_of (z) ≡ record { tree = z; brackets = NoBrackets })
    (sym (ap tree_of (code.rolls-Not t) ∙ tree_of-Not t)) refl
head_of_other_layer (layer.Chain t rest) h =
    subst (λ z. head_of (z) ≡ record { tree = z; brackets = NoBrackets })
    (sym (ap tree_of (code.rolls-Chain t rest) ∙ tree_of-Chain t rest)) refl
head_of_other_layer (layer.Call x args) h =
    subst (λ z. head_of (z) ≡ record { tree = z; brackets = NoBrackets })
    (sym (ap tree_of (code.rolls-Call x args) ∙ tree_of-Call x args)) refl
head_of_other_layer (layer.Query t bs) h = absurd (h t bs (code.rolls-Query t bs))
head_of_other_layer (layer.Formula xs ys) h =
    subst (λ z. head_of (z) ≡ record { tree = z; brackets = NoBrackets })
    (sym (ap tree_of (code.rolls-Formula xs ys) ∙ tree_of-Formula xs ys)) refl

pub head_of_other : (t : Expr) → ((u : Expr) (bs : List Bracket) → t ≢ code.Query u bs)
    → head_of (tree_of t) ≡ record { tree = tree_of t; brackets = NoBrackets }
head_of_other t h = subst (λ s. ((u : Expr) (bs : List Bracket) → s ≢ code.Query u bs)
    → head_of (tree_of s) ≡ record { tree = tree_of s; brackets = NoBrackets }) (roll-out-Expr t)
    (head_of_other_layer (out-Expr t)) h

-- what a bare name begins
pub opens-name : (frames : List Frame) (t : Tree)
    → opens frames t ≡ option_map (λ x. Want (InCall x NoArgs None ∷ frames)) (bare_name t)
opens-name frames (Var x) = refl
opens-name frames t = refl

pub naming-name : (frames : List Frame) (t : Tree)
    → naming frames t ≡ option_and_then (λ x. name_top frames x) (bare_name t)
naming-name frames (Var x) = refl
naming-name frames t = refl

abbrev is_var : Tree → Bool
is_var (Var x) = true
is_var _ = false

arrow_none : (frames : List Frame) (t : Tree) → is_var t ≡ false → arrow_top frames t ≡ None
arrow_none (InStmt ss n None ∷ rest) (Var x) e = cc
arrow_none _ _ e = refl

pub arrow-name : (frames : List Frame) (t : Tree)
    → arrow_top frames t ≡ option_and_then (λ x. arrow_top frames (Var x)) (bare_name t)
arrow-name frames (Var x) = refl
arrow-name frames t = arrow_none frames t refl

pub ruleset bare_names = (opens-name, naming-name, arrow-name)

-- frames
pub naming-frame : (f : Frame) (rest : List Frame) (x : Word)
    → name_top (f ∷ rest) x ≡ option_map (λ g. Want (g ∷ rest)) (in_naming f x)
naming-frame (Front p) rest x = refl
naming-frame (Left l tails op) rest x = refl
naming-frame InParen rest x = refl
naming-frame (InCall g args None) rest x = refl
naming-frame (InCall g args (Some y)) rest x = refl
naming-frame (InItem h f) rest x = refl
naming-frame (InNamed h f y) rest x = refl
naming-frame (InAssign h f l) rest x = refl
naming-frame (InStmt ss n None) rest x = refl
naming-frame (InStmt ss n (Some y)) rest x = refl

pub arrow-frame : (f : Frame) (rest : List Frame) (x : Word)
    → arrow_top (f ∷ rest) (Var x) ≡ option_map (λ g. Want (g ∷ rest)) (in_arrow f x)
arrow-frame (Front p) rest x = refl
arrow-frame (Left l tails op) rest x = refl
arrow-frame InParen rest x = refl
arrow-frame (InCall g args o) rest x = refl
arrow-frame (InItem h f) rest x = refl
arrow-frame (InNamed h f y) rest x = refl
arrow-frame (InAssign h f l) rest x = refl
arrow-frame (InStmt ss n None) rest x = refl
arrow-frame (InStmt ss n (Some y)) rest x = refl

pub ruleset steps = (naming-frame, arrow-frame)

-- behind an expression that may be a name, in any frames
pub ruleset naming_steps = (frames, steps, bare_names)

pub stmts_of-push : (ss : List stmt_type.Stmt) (s : stmt_type.Stmt)
    → stmts_of (ss ++ s ∷ []) ≡ stmts_of ss ++ stmt_of s ∷ []
stmts_of-push [] s = refl
stmts_of-push (x ∷ ss) s = ap (λ xs. stmt_of x ∷ xs) (stmts_of-push ss s)

pub ruleset statements = (stmts_of-push)
