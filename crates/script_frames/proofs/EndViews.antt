-- The machine's steps at a token that ends all operators, from what it makes of the innermost frame.
use Rattle.std.proofs.Common.{◌≡◌, ◌≢◌, Bool, true, false, cond, List, [], ◌∷◌, Option, Some, None, option_map, map}
use Rattle.std.proofs.Common.{refl, ap}
use Rattle.dt_tree.specs.declared.tree.Arg.{Arg}
use Rattle.run_model.specs.GrammarTrees.{Word, Tree, Args, NoArgs, MoreArgs, Absent}
use Rattle.run_model.specs.Grammar.{Filled, takes_unnamed, is_j, with_item}
use Rattle.run_model.specs.TreeView.{ArgTree, args_from, arg_of, args_of}
use Rattle.dt_grammar.specs.Machine as model
use Rattle.dt_grammar.specs.Machine.{Head, Frame, Front, Left, InParen, InCall, InItem, InNamed, InAssign, InStmt}
use Rattle.dt_grammar.specs.Machine.{State, item_from, query, item, names_of, last_stmt}
use Rattle.script_frames.specs.declared.frames.End.{End}
use Rattle.script_frames.specs.declared.frames.End.TheVariants as end
use Rattle.script_frames.specs.Ends.{Made, Have, Want, NeedWord, state_with, next_from, next_made, with_stmt, made_at}
use Rattle.script_frames.specs.Ends.{made_none, end_step, none_step}

-- the state behind what is made, with these frames around it
abbrev behind : List Frame → Option Made → Option State
behind rest o = option_map (λ m. state_with m rest) o

closes : (rest : List Frame) (o : Option (Head × Filled))
    → option_map (λ came. model.Have rest (query came.0 came.1)) o
    ≡ behind rest (option_map (λ came. Have (query came.0 came.1)) o)
closes rest None = refl
closes rest (Some came) = refl

next_is : (b : Bool) (h : Head) (f : Filled) (rest : List Frame)
    → item_from b h f rest ≡ state_with (next_from b h f) rest
next_is true h f rest = refl
next_is false h f rest = refl

goes_on : (rest : List Frame) (o : Option (Head × Filled))
    → option_map (λ came. model.next_item came.0 came.1 rest) o
    ≡ behind rest (option_map (λ came. next_made came.0 came.1) o)
goes_on rest None = refl
goes_on rest (Some came) = ap Some (next_is (takes_unnamed came.1) came.0 came.1 rest)

assigns : (b : Bool) (f : Frame) (rest : List Frame)
    → cond b (Some (model.Want (f ∷ rest))) None ≡ behind rest (option_map Want (cond b (Some f) None))
assigns true f rest = refl
assigns false f rest = refl

names : (x : Word) (args : Args) (o : Option Word) (rest : List Frame) (xs : Option (List Word))
    → option_map (λ left. model.NeedWord x args o left [] rest) xs
    ≡ behind rest (option_map (λ left. NeedWord x args o left []) xs)
names x args o rest None = refl
names x args o rest (Some left) = refl

-- behind an expression
pub end-frame : (e : End) (f : Frame) (rest : List Frame) (t : Tree)
    → end_step e (f ∷ rest, t) ≡ behind rest (made_at e f t)
end-frame end.Round (Front p) rest t = refl
end-frame end.Round (Left l tails op) rest t = refl
end-frame end.Round InParen rest t = refl
end-frame end.Round (InCall x args o) rest t = refl
end-frame end.Round (InItem h f) rest t = refl
end-frame end.Round (InNamed h f x) rest t = refl
end-frame end.Round (InAssign h f l) rest t = refl
end-frame end.Round (InStmt ss n o) rest t = refl
end-frame end.Square f rest t = closes rest (item f t)
end-frame end.Comma (Front p) rest t = goes_on rest (item (Front p) t)
end-frame end.Comma (Left l tails op) rest t = goes_on rest (item (Left l tails op) t)
end-frame end.Comma InParen rest t = goes_on rest (item InParen t)
end-frame end.Comma (InCall x args o) rest t = refl
end-frame end.Comma (InItem h f) rest t = goes_on rest (item (InItem h f) t)
end-frame end.Comma (InNamed h f x) rest t = goes_on rest (item (InNamed h f x) t)
end-frame end.Comma (InAssign h f l) rest t = goes_on rest (item (InAssign h f l) t)
end-frame end.Comma (InStmt ss n o) rest t = goes_on rest (item (InStmt ss n o) t)
end-frame (end.Break m) (Front p) rest t = refl
end-frame (end.Break m) (Left l tails op) rest t = refl
end-frame (end.Break m) InParen rest t = refl
end-frame (end.Break m) (InCall x args o) rest t = refl
end-frame (end.Break m) (InItem h f) rest t = refl
end-frame (end.Break m) (InNamed h f x) rest t = refl
end-frame (end.Break m) (InAssign h f l) rest t = refl
end-frame (end.Break m) (InStmt ss n o) rest t = refl
end-frame end.Assign (Front p) rest t = refl
end-frame end.Assign (Left l tails op) rest t = refl
end-frame end.Assign InParen rest t = refl
end-frame end.Assign (InCall x args o) rest t = refl
end-frame end.Assign (InItem h f) rest t = assigns (is_j f) (InAssign h f t) rest
end-frame end.Assign (InNamed h f x) rest t = refl
end-frame end.Assign (InAssign h f l) rest t = refl
end-frame end.Assign (InStmt ss n o) rest t = refl
end-frame end.Tilde (Front p) rest t = refl
end-frame end.Tilde (Left l tails op) rest t = refl
end-frame end.Tilde InParen rest t = refl
end-frame end.Tilde (InCall x args o) rest t = names x args o rest (names_of t)
end-frame end.Tilde (InItem h f) rest t = refl
end-frame end.Tilde (InNamed h f x) rest t = refl
end-frame end.Tilde (InAssign h f l) rest t = refl
end-frame end.Tilde (InStmt ss n o) rest t = refl

-- and where no frame is left, no script goes on
pub end-none : (e : End) (t : Tree) → end_step e ([], t) ≡ None
end-none end.Round t = refl
end-none end.Square t = refl
end-none end.Comma t = refl
end-none (end.Break m) t = refl
end-none end.Assign t = refl
end-none end.Tilde t = refl

-- behind nothing
pub none-frame : (e : End) (f : Frame) (rest : List Frame) → none_step e (f ∷ rest) ≡ behind rest (made_none e f)
none-frame end.Round (Front p) rest = refl
none-frame end.Round (Left l tails op) rest = refl
none-frame end.Round InParen rest = refl
none-frame end.Round (InCall x NoArgs None) rest = refl
none-frame end.Round (InCall x NoArgs (Some y)) rest = refl
none-frame end.Round (InCall x (MoreArgs before w u) None) rest = refl
none-frame end.Round (InCall x (MoreArgs before w u) (Some y)) rest = refl
none-frame end.Round (InItem h f) rest = refl
none-frame end.Round (InNamed h f x) rest = refl
none-frame end.Round (InAssign h f l) rest = refl
none-frame end.Round (InStmt ss n o) rest = refl
none-frame end.Square (Front p) rest = refl
none-frame end.Square (Left l tails op) rest = refl
none-frame end.Square InParen rest = refl
none-frame end.Square (InCall x args o) rest = refl
none-frame end.Square (InItem h f) rest = refl
none-frame end.Square (InNamed h f x) rest = refl
none-frame end.Square (InAssign h f l) rest = refl
none-frame end.Square (InStmt ss n o) rest = refl
none-frame end.Comma (Front p) rest = refl
none-frame end.Comma (Left l tails op) rest = refl
none-frame end.Comma InParen rest = refl
none-frame end.Comma (InCall x args o) rest = refl
none-frame end.Comma (InItem h f) rest = goes_on rest (Some (h, with_item f Absent))
none-frame end.Comma (InNamed h f x) rest = refl
none-frame end.Comma (InAssign h f l) rest = refl
none-frame end.Comma (InStmt ss n o) rest = refl
none-frame (end.Break m) (Front p) rest = refl
none-frame (end.Break m) (Left l tails op) rest = refl
none-frame (end.Break m) InParen rest = refl
none-frame (end.Break m) (InCall x args o) rest = refl
none-frame (end.Break m) (InItem h f) rest = refl
none-frame (end.Break m) (InNamed h f x) rest = refl
none-frame (end.Break m) (InAssign h f l) rest = refl
none-frame (end.Break m) (InStmt ss n None) rest = refl
none-frame (end.Break m) (InStmt ss n (Some y)) rest = refl
none-frame end.Assign f rest = refl
none-frame end.Tilde f rest = refl

pub none-none : (e : End) → none_step e [] ≡ None
none-none end.Round = refl
none-none end.Square = refl
none-none end.Comma = refl
none-none (end.Break m) = refl
none-none end.Assign = refl
none-none end.Tilde = refl

-- the statements, where the script ends
pub last_stmt-frame : (f : Frame) (rest : List Frame) (t : Tree) → last_stmt (f ∷ rest, t) ≡ with_stmt f t
last_stmt-frame (Front p) rest t = refl
last_stmt-frame (Left l tails op) rest t = refl
last_stmt-frame InParen rest t = refl
last_stmt-frame (InCall x args o) rest t = refl
last_stmt-frame (InItem h f) rest t = refl
last_stmt-frame (InNamed h f x) rest t = refl
last_stmt-frame (InAssign h f l) rest t = refl
last_stmt-frame (InStmt ss n o) rest t = refl

-- the call without arguments, from its parts
more_not_empty : (x : Word) (before : Args) (o : Option Word) (t : Tree) (xs : List ArgTree)
    → made_none end.Round (InCall x (args_from (MoreArgs before o t) xs) None) ≡ None
more_not_empty x before o t [] = refl
more_not_empty x before o t (y ∷ xs) = more_not_empty x (MoreArgs before o t) y.0 y.1 xs

pub call_not_empty : (x : Word) (xs : List Arg) → xs ≢ [] → made_none end.Round (InCall x (args_of xs) None) ≡ None
call_not_empty x [] h = absurd (h refl)
call_not_empty x (y ∷ xs) h = more_not_empty x NoArgs (arg_of y).0 (arg_of y).1 (map arg_of xs)

pub ruleset empties = (call_not_empty)
