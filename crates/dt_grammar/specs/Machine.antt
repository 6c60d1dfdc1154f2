-- The parser as a machine that takes one token at a time.
--   Frame            what has been begun and waits for an expression
--   State            the frames, the innermost first, and what may come
--   step s x         the state behind one more token, or None where the token cannot go on
--   run s ts         the state behind the tokens
--   init             the state before the first token
--   finish s         the script, where the tokens end here
--   parsed ts        the script that the tokens spell, by the machine
use Rattle.std.specs.Prelude.{ℕ, suc, Bool, true, false, List, [], ◌∷◌, ◌++◌, Option, Some, None, nat_le, if◌then◌else◌}
use Rattle.std.specs.Prelude.{option_and_then, option_map, ◌==◌}
use Rattle.dt_base.specs.declared.operators.Op.TheVariants.{Add, Sub}
use Rattle.dt_tree.specs.declared.tree.BinOp.{BinOp}
use Rattle.dt_tree.specs.declared.tree.BinOp.TheVariants.{Arith}
use Rattle.run_model.specs.GrammarTrees.{Word, Prefix, Not, Negate, Token, Name, Literal, Operator, Bang, Tilde, Assign}
use Rattle.run_model.specs.GrammarTrees.{Arrow, Is, Open, Shut, OpenSquare, ShutSquare, Comma, Break, Tree, Lit, Var}
use Rattle.run_model.specs.GrammarTrees.{Paren, Unary, Chain, Tails, NoTails, MoreTails, Call, Query, Formula, Args}
use Rattle.run_model.specs.GrammarTrees.{NoArgs, MoreArgs, Absent, Assigns, Brackets, NoBrackets, Stmt}
use Rattle.run_model.specs.Grammar.{level, is_single, prefix_level, Filled, Nothing, takes_unnamed, is_j, with_item}
use Rattle.run_model.specs.Grammar.{with_name, with_bracket, item_of}

-- what stands before a bracket: the head of a query, and the brackets behind it so far
pub record Head : Type 0 where
  pub tree : Tree
  pub brackets : Brackets

-- an expression before one more bracket
abbrev pub head_of : Tree → Head
head_of (Query t bs) = record { tree = t; brackets = bs }
head_of t = record { tree = t; brackets = NoBrackets }

-- the query with one more bracket
abbrev pub query : Head → Filled → Tree
query h f = Query h.tree (with_bracket h.brackets f)

-- What has been begun and waits for an expression: a one-sided operator; a chain, with its last
-- operator; a parenthesis; an argument of a call; an item of a bracket, without a name, with one,
-- or behind ":="; a statement, with those before it and its line.
pub data Frame : Type 0 where
  Front : Prefix → Frame
  Left : Tree → Tails → BinOp → Frame
  InParen : Frame
  InCall : Word → Args → Option Word → Frame
  InItem : Head → Filled → Frame
  InNamed : Head → Filled → Word → Frame
  InAssign : Head → Filled → Tree → Frame
  InStmt : List Stmt → ℕ → Option Word → Frame

-- The frames, the innermost first. An expression is to come, or a whole one has come.
pub data State : Type 0 where
  Want : List Frame → State
  Have : List Frame → Tree → State
  -- in a bracket where only items with a name may follow: a name must come, and then "="
  NeedName : Head → Filled → List Frame → State
  NeedIs : Head → Filled → Word → List Frame → State
  -- behind "~" in the argument of a call: a name must come; a name has come
  NeedWord : Word → Args → Option Word → List Word → List Word → List Frame → State
  HaveWords : Word → Args → Option Word → List Word → List Word → List Frame → State

-- the level of what the innermost frame waits for
abbrev pub demand : List Frame → ℕ
demand (Front p ∷ rest) = suc (prefix_level p)
demand (Left l tails op ∷ rest) = suc (level op)
demand _ = 0

-- ends the operators that bind at least as tightly as k
abbrev pub close : ℕ → List Frame → Tree → List Frame × Tree
close k (Front p ∷ rest) t = if nat_le k (prefix_level p) then close k rest (Unary p t) else (Front p ∷ rest, t)
close k (Left l tails op ∷ rest) t = if nat_le k (level op) then close k rest (Chain l (MoreTails tails op t)) else
    (Left l tails op ∷ rest, t)
close k frames t = (frames, t)

-- a one-sided operator
abbrev pub front : Prefix → List Frame → Option State
front p frames = if nat_le (demand frames) (prefix_level p) then Some (Want (Front p ∷ frames)) else None

-- a chain begins
abbrev pub begin_chain : BinOp → List Frame → Tree → Option State
begin_chain op frames t = if nat_le (demand frames) (level op) then Some (Want (Left t NoTails op ∷ frames)) else None

-- a chain goes on, or another one begins in it
abbrev pub extend_chain : Bool → Bool → BinOp → Tree → Tails → BinOp → List Frame → Tree → Option State
extend_chain true false op l tails o rest t = Some (Want (Left l (MoreTails tails o t) op ∷ rest))
extend_chain true true op l tails o rest t = None
extend_chain false _ op l tails o rest t = begin_chain op (Left l tails o ∷ rest) t

-- a two-sided operator behind what is closed
abbrev pub infix_op : BinOp → List Frame × Tree → Option State
infix_op op (Left l tails o ∷ rest, t) = extend_chain (level o == level op) (is_single op) op l tails o rest t
infix_op op (frames, t) = begin_chain op frames t

-- the next item of a bracket
abbrev pub item_from : Bool → Head → Filled → List Frame → State
item_from true h f rest = Want (InItem h f ∷ rest)
item_from false h f rest = NeedName h f rest

abbrev pub next_item : Head → Filled → List Frame → State
next_item h f rest = item_from (takes_unnamed f) h f rest

-- ")" behind nothing, "]", "," and a break
abbrev pub shut_none : List Frame → Option State
shut_none (InCall x NoArgs None ∷ rest) = Some (Have rest (Call x NoArgs))
shut_none _ = None

abbrev pub shut_square_none : List Frame → Option State
shut_square_none (InItem h f ∷ rest) = Some (Have rest (query h (with_item f Absent)))
shut_square_none _ = None

abbrev pub comma_none : List Frame → Option State
comma_none (InItem h f ∷ rest) = Some (next_item h (with_item f Absent) rest)
comma_none _ = None

abbrev pub break_none : ℕ → List Frame → Option State
break_none m (InStmt ss n None ∷ rest) = Some (Want (InStmt ss m None ∷ rest))
break_none m _ = None

-- ")" behind an expression
abbrev pub shut : List Frame × Tree → Option State
shut (InParen ∷ rest, t) = Some (Have rest (Paren t))
shut (InCall x args o ∷ rest, t) = Some (Have rest (Call x (MoreArgs args o t)))
shut _ = None

-- an item with its last expression
abbrev pub item : Frame → Tree → Option (Head × Filled)
item (InItem h f) t = Some (h, with_item f (item_of (is_j f) t))
item (InNamed h f x) t = Some (h, with_name f x t)
item (InAssign h f l) t = Some (h, with_item f (Assigns l t))
item _ t = None

-- "]" behind an expression
abbrev pub shut_square : List Frame × Tree → Option State
shut_square ([], t) = None
shut_square (f ∷ rest, t) = option_map (λ i. Have rest (query i.0 i.1)) (item f t)

-- "," behind an expression
abbrev pub comma_item : Frame → List Frame → Tree → Option State
comma_item (InCall x args o) rest t = Some (Want (InCall x (MoreArgs args o t) None ∷ rest))
comma_item f rest t = option_map (λ i. next_item i.0 i.1 rest) (item f t)

abbrev pub comma : List Frame × Tree → Option State
comma ([], t) = None
comma (f ∷ rest, t) = comma_item f rest t

-- a break behind an expression
abbrev pub break : ℕ → List Frame × Tree → Option State
break m (InStmt ss n o ∷ rest, t) = Some
    (Want (InStmt (ss ++ record { line = n; target = o; expr = t } ∷ []) m None ∷ rest))
break m _ = None

-- ":=" behind an expression
abbrev pub assign : List Frame × Tree → Option State
assign (InItem h f ∷ rest, t) = if is_j f then Some (Want (InAssign h f t ∷ rest)) else None
assign _ = None

-- the names behind the first
abbrev pub tail_names : Tails → Option (List Word)
tail_names NoTails = Some []
tail_names (MoreTails rest (Arith Add) (Var x)) = option_map (λ xs. xs ++ x ∷ []) (tail_names rest)
tail_names _ = None

-- the names of a sum of bare names
abbrev pub names_of : Tree → Option (List Word)
names_of (Var x) = Some (x ∷ [])
names_of (Chain (Var x) tails) = option_map (λ xs. (x ∷ []) ++ xs) (tail_names tails)
names_of _ = None

-- "~" behind a sum of bare names
abbrev pub tilde : List Frame × Tree → Option State
tilde (InCall x args o ∷ rest, t) = option_map (λ xs. NeedWord x args o xs [] rest) (names_of t)
tilde _ = None

-- "(" behind a name
abbrev pub opens : List Frame → Tree → Option State
opens frames (Var x) = Some (Want (InCall x NoArgs None ∷ frames))
opens frames _ = None

-- "=" behind a name
abbrev pub name_top : List Frame → Word → Option State
name_top (InCall f args None ∷ rest) x = Some (Want (InCall f args (Some x) ∷ rest))
name_top (InItem h f ∷ rest) x = Some (Want (InNamed h f x ∷ rest))
name_top (InStmt ss n None ∷ rest) x = Some (Want (InStmt ss n (Some x) ∷ rest))
name_top _ x = None

abbrev pub naming : List Frame → Tree → Option State
naming frames (Var x) = name_top frames x
naming frames _ = None

-- "<-" behind a name
abbrev pub arrow_top : List Frame → Tree → Option State
arrow_top (InStmt ss n None ∷ rest) (Var x) = Some (Want (InStmt ss n (Some x) ∷ rest))
arrow_top _ _ = None

-- one token
abbrev pub step : State → Token → Option State
step (Want frames) (Literal v) = Some (Have frames (Lit v))
step (Want frames) (Name x) = Some (Have frames (Var x))
step (Want frames) (Operator (Arith Sub)) = front Negate frames
step (Want frames) Bang = front Not frames
step (Want frames) Open = Some (Want (InParen ∷ frames))
step (Want frames) Shut = shut_none frames
step (Want frames) ShutSquare = shut_square_none frames
step (Want frames) Comma = comma_none frames
step (Want frames) (Break m) = break_none m frames
step (Want frames) _ = None
step (Have frames t) (Operator op) = infix_op op (close (suc (level op)) frames t)
step (Have frames t) Open = opens frames t
step (Have frames t) OpenSquare = Some (Want (InItem (head_of t) Nothing ∷ frames))
step (Have frames t) Is = naming frames t
step (Have frames t) Arrow = arrow_top frames t
step (Have frames t) Shut = shut (close 0 frames t)
step (Have frames t) ShutSquare = shut_square (close 0 frames t)
step (Have frames t) Comma = comma (close 0 frames t)
step (Have frames t) (Break m) = break m (close 0 frames t)
step (Have frames t) Assign = assign (close 0 frames t)
step (Have frames t) Tilde = tilde (close 0 frames t)
step (Have frames t) _ = None
step (NeedName h f rest) (Name x) = Some (NeedIs h f x rest)
step (NeedName h f rest) _ = None
step (NeedIs h f x rest) Is = Some (Want (InNamed h f x ∷ rest))
step (NeedIs h f x rest) _ = None
step (NeedWord g args o xs ys rest) (Name y) = Some (HaveWords g args o xs (ys ++ y ∷ []) rest)
step (NeedWord g args o xs ys rest) _ = None
step (HaveWords g args o xs ys rest) (Operator (Arith Add)) = Some (NeedWord g args o xs ys rest)
step (HaveWords g args o xs ys rest) Shut = Some (Have rest (Call g (MoreArgs args o (Formula xs ys))))
step (HaveWords g args o xs ys rest) Comma = Some (Want (InCall g (MoreArgs args o (Formula xs ys)) None ∷ rest))
step (HaveWords g args o xs ys rest) _ = None

-- the tokens one by one
abbrev pub run : State → List Token → Option State
run s [] = Some s
run s (x ∷ xs) = option_and_then (λ next. run next xs) (step s x)

-- before the first token
abbrev pub init : State
init = Want (InStmt [] 1 None ∷ [])

abbrev pub last_stmt : List Frame × Tree → Option (List Stmt)
last_stmt (InStmt ss n o ∷ rest, t) = Some (ss ++ record { line = n; target = o; expr = t } ∷ [])
last_stmt _ = None

-- the script, where the tokens end here
abbrev pub finish : State → Option (List Stmt)
finish (Want (InStmt ss n None ∷ rest)) = Some ss
finish (Have frames t) = last_stmt (close 0 frames t)
finish _ = None

-- the script that the tokens spell, by the machine
abbrev pub parsed : List Token → Option (List Stmt)
parsed ts = option_and_then finish (run init ts)
