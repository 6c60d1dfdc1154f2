-- Which tokens spell which script: the grammar, production by production.
--   IsScript ts ss     script  = { [stmt] break } [stmt]
--   IsLines ts ss n    the part { [stmt] break }, behind which line n begins
--   IsLeft ts o        the part [name ("<-" | "=")] of stmt
--   IsOr .. IsPrim     expr = and { "|" and } and so on: one level of operators each, the loosest first
--   IsArgs ts args     [arg {"," arg}]
--   IsArg ts t         expr | names "~" names
--   IsNames ts xs      names = name { "+" name }
--   IsItems ts f       bracket = [item {"," item}]
--   IsItem j ts x      empty | expr | expr ":=" expr, the last one as j alone
-- An operator's level says how tightly it binds, and `IsExpr k` is an expression whose operators
-- outside of brackets bind at least as tightly as k: one family in place of eleven.
use Rattle.std.specs.Prelude.{◌≡◌, ℕ, suc, ◌+◌, Bool, true, false, List, [], ◌∷◌, ◌++◌, Option, Some, None, codes}
use Rattle.std.specs.Prelude.{if◌then◌else◌}
use Rattle.std.specs.Str.{bytes_eq}
use Rattle.dt_base.specs.declared.operators.Op.TheVariants.{Add, Sub, Mul, Div, Mod, Eq, Ne, Lt, Le, Gt, Ge, And, Or}
use Rattle.dt_tree.specs.declared.tree.BinOp.{BinOp}
use Rattle.dt_tree.specs.declared.tree.BinOp.TheVariants.{Arith, In, Range}
use Rattle.run_model.specs.GrammarTrees.{Word, Value, Prefix, Not, Negate, Token, Name, Literal, Operator, Bang, Tilde}
use Rattle.run_model.specs.GrammarTrees.{Assign, Arrow, Is, Open, Shut, OpenSquare, ShutSquare, Comma, Break, Tree, Lit}
use Rattle.run_model.specs.GrammarTrees.{Var, Paren, Unary, Chain, Call, Query, Formula, Tails, NoTails, MoreTails}
use Rattle.run_model.specs.GrammarTrees.{Args, NoArgs, MoreArgs, Item, Absent, Given, Assigns, AssignsAll, Brackets}
use Rattle.run_model.specs.GrammarTrees.{NoBrackets, MoreBrackets, Stmt}

-- how tightly an operator binds: 0 is the loosest
abbrev pub level : BinOp → ℕ
level (Arith Or) = 0
level (Arith And) = 1
level (Arith Eq) = 3
level (Arith Ne) = 3
level (Arith Lt) = 3
level (Arith Le) = 3
level (Arith Gt) = 3
level (Arith Ge) = 3
level (Arith Add) = 4
level (Arith Sub) = 4
level (Arith Mul) = 5
level (Arith Div) = 6
level (Arith Mod) = 6
level In = 6
level Range = 7

-- the levels at which one operator stands at most: comparisons, and ":"
abbrev pub is_single : BinOp → Bool
is_single (Arith Eq) = true
is_single (Arith Ne) = true
is_single (Arith Lt) = true
is_single (Arith Le) = true
is_single (Arith Gt) = true
is_single (Arith Ge) = true
is_single Range = true
is_single _ = false

-- "!" stands at the level not, and "-" at the level sign
abbrev pub prefix_level : Prefix → ℕ
prefix_level Not = 2
prefix_level Negate = 8

abbrev pub prefix_token : Prefix → Token
prefix_token Not = Bang
prefix_token Negate = Operator (Arith Sub)

-- the level of post, where brackets stand, and that of prim
abbrev pub post : ℕ
post = 9

abbrev pub prim : ℕ
prim = 10

-- What the items of a bracket have filled so far. Behind by, which is the third item without a
-- name, and behind an item with a name only items with a name may follow.
pub data Filled : Type 0 where
  Nothing : Filled
  UpToI : Item → Filled
  UpToJ : Item → Item → Filled
  UpToBy : Item → Item → Item → Args → Filled

-- an item without a name may come
abbrev pub takes_unnamed : Filled → Bool
takes_unnamed (UpToBy i j by args) = false
takes_unnamed _ = true

-- the next item without a name is j
abbrev pub is_j : Filled → Bool
is_j (UpToI i) = true
is_j _ = false

-- one more item without a name
abbrev pub with_item : Filled → Item → Filled
with_item Nothing x = UpToI x
with_item (UpToI i) x = UpToJ i x
with_item (UpToJ i j) x = UpToBy i j x NoArgs
with_item (UpToBy i j by args) x = UpToBy i j by args

-- one more item with a name
abbrev pub with_name : Filled → Word → Tree → Filled
with_name Nothing x t = UpToBy Absent Absent Absent (MoreArgs NoArgs (Some x) t)
with_name (UpToI i) x t = UpToBy i Absent Absent (MoreArgs NoArgs (Some x) t)
with_name (UpToJ i j) x t = UpToBy i j Absent (MoreArgs NoArgs (Some x) t)
with_name (UpToBy i j by args) x t = UpToBy i j by (MoreArgs args (Some x) t)

-- one more bracket, with these items
abbrev pub with_bracket : Brackets → Filled → Brackets
with_bracket bs Nothing = MoreBrackets bs Absent Absent Absent NoArgs
with_bracket bs (UpToI i) = MoreBrackets bs i Absent Absent NoArgs
with_bracket bs (UpToJ i j) = MoreBrackets bs i j Absent NoArgs
with_bracket bs (UpToBy i j by args) = MoreBrackets bs i j by args

-- the name of the call that assigns
abbrev pub is_assign : Word → Bool
is_assign x = bytes_eq x (codes ":=")

-- an expression as j: the call of `:=` is an assignment there
abbrev pub as_j : Tree → Item
as_j (Call x args) = if is_assign x then AssignsAll args else Given (Call x args)
as_j t = Given t

abbrev pub item_of : Bool → Tree → Item
item_of true t = as_j t
item_of false t = Given t

-- [ name "=" ]
pub data IsTarget : List Token → Option Word → Type 0 where
  without : IsTarget [] None
  named : {x : Word} → IsTarget (Name x ∷ Is ∷ []) (Some x)

-- [ name ("<-" | "=") ]
pub data IsLeft : List Token → Option Word → Type 0 where
  plain : {ts : List Token} {o : Option Word} → IsTarget ts o → IsLeft ts o
  arrow : {x : Word} → IsLeft (Name x ∷ Arrow ∷ []) (Some x)

-- names = name { "+" name }
pub data IsNames : List Token → List Word → Type 0 where
  name : {x : Word} → IsNames (Name x ∷ []) (x ∷ [])
  names : {ts : List Token} {xs : List Word} (x : Word) → IsNames ts xs
      → IsNames (ts ++ Operator (Arith Add) ∷ Name x ∷ []) (xs ++ x ∷ [])

mutual
  -- IsExpr k ts t: the tokens ts spell the tree t, whose operators outside of brackets bind at least as tightly as k
  pub data IsExpr : ℕ → List Token → Tree → Type 0 where
    -- what binds more tightly
    higher : {k : ℕ} {ts : List Token} {t : Tree} → IsExpr (suc k) ts t → IsExpr k ts t
    -- operand op operand, and more of the same level
    chain : {k : ℕ} {us vs : List Token} {t : Tree} {rest : Tails} → IsExpr (suc k) us t → IsTails k vs rest
        → IsExpr k (us ++ vs) (Chain t rest)
    -- not = "!" cmp, and sign = "-" post
    unary : {ts : List Token} {t : Tree} (p : Prefix) → IsExpr (suc (prefix_level p)) ts t
        → IsExpr (prefix_level p) (prefix_token p ∷ ts) (Unary p t)
    -- post = prim { "[" bracket "]" }
    bracket : {us vs : List Token} {t : Tree} {bs : Brackets} {f : Filled} → IsHead us t bs → IsItems vs f
        → IsExpr post (us ++ OpenSquare ∷ (vs ++ ShutSquare ∷ [])) (Query t (with_bracket bs f))
    -- prim = literal | name | name "(" [arg {"," arg}] ")" | "(" expr ")"
    literal : {v : Value} → IsExpr prim (Literal v ∷ []) (Lit v)
    var : {x : Word} → IsExpr prim (Name x ∷ []) (Var x)
    call : {x : Word} {ts : List Token} {args : Args} → IsArgs ts args
        → IsExpr prim (Name x ∷ Open ∷ (ts ++ Shut ∷ [])) (Call x args)
    paren : {ts : List Token} {t : Tree} → IsExpr 0 ts t → IsExpr prim (Open ∷ (ts ++ Shut ∷ [])) (Paren t)

  -- op operand { op operand }, or op operand alone where the level takes one operator
  pub data IsTails : ℕ → List Token → Tails → Type 0 where
    one : {vs : List Token} {r : Tree} (op : BinOp) → IsExpr (suc (level op)) vs r
        → IsTails (level op) (Operator op ∷ vs) (MoreTails NoTails op r)
    again : {k : ℕ} {us vs : List Token} {rest : Tails} {r : Tree} (op : BinOp) → IsTails k us rest → level op ≡ k
        → is_single op ≡ false → IsExpr (suc k) vs r → IsTails k (us ++ Operator op ∷ vs) (MoreTails rest op r)

  -- what stands before a bracket: prim, or prim and brackets
  pub data IsHead : List Token → Tree → Brackets → Type 0 where
    bare : {ts : List Token} {t : Tree} → IsExpr prim ts t → IsHead ts t NoBrackets
    behind : {ts : List Token} {t : Tree} {bs : Brackets} → IsExpr post ts (Query t bs) → IsHead ts t bs

  -- expr | names "~" names
  pub data IsArg : List Token → Tree → Type 0 where
    expr : {ts : List Token} {t : Tree} → IsExpr 0 ts t → IsArg ts t
    formula : {us vs : List Token} {xs ys : List Word} → IsNames us xs → IsNames vs ys
        → IsArg (us ++ Tilde ∷ vs) (Formula xs ys)

  -- [ arg { "," arg } ], where arg = [ name "=" ] (expr | names "~" names)
  pub data IsArgs : List Token → Args → Type 0 where
    none : IsArgs [] NoArgs
    some : {us vs ws : List Token} {args : Args} {o : Option Word} {t : Tree} → IsBefore us args → IsTarget vs o
        → IsArg ws t → IsArgs (us ++ (vs ++ ws)) (MoreArgs args o t)

  -- what stands before an argument: nothing, or arguments and a comma
  pub data IsBefore : List Token → Args → Type 0 where
    first : IsBefore [] NoArgs
    later : {ts : List Token} {args : Args} {o : Option Word} {t : Tree} → IsArgs ts (MoreArgs args o t)
        → IsBefore (ts ++ Comma ∷ []) (MoreArgs args o t)

  -- empty | expr | expr ":=" expr, the last as j alone
  pub data IsItem : Bool → List Token → Item → Type 0 where
    empty : {j : Bool} → IsItem j [] Absent
    value : {j : Bool} {ts : List Token} {t : Tree} → IsExpr 0 ts t → IsItem j ts (item_of j t)
    assigns : {us vs : List Token} {l r : Tree} → IsExpr 0 us l → IsExpr 0 vs r
        → IsItem true (us ++ Assign ∷ vs) (Assigns l r)

  -- item { "," item }, where an item without a name, or name "=" expr
  pub data IsItems : List Token → Filled → Type 0 where
    unnamed : {us vs : List Token} {f : Filled} {x : Item} → IsFilled us f → takes_unnamed f ≡ true
        → IsItem (is_j f) vs x → IsItems (us ++ vs) (with_item f x)
    with : {us vs : List Token} {f : Filled} {t : Tree} (x : Word) → IsFilled us f → IsExpr 0 vs t
        → IsItems (us ++ Name x ∷ Is ∷ vs) (with_name f x t)

  -- what stands before an item: nothing, or items and a comma
  pub data IsFilled : List Token → Filled → Type 0 where
    begin : IsFilled [] Nothing
    comma : {ts : List Token} {f : Filled} → IsItems ts f → IsFilled (ts ++ Comma ∷ []) f

-- expr = and { "|" and }
abbrev pub IsOr : List Token → Tree → Type 0
IsOr = IsExpr 0

-- and = not { "&" not }
abbrev pub IsAnd : List Token → Tree → Type 0
IsAnd = IsExpr 1

-- not = ["!"] cmp
abbrev pub IsNot : List Token → Tree → Type 0
IsNot = IsExpr 2

-- cmp = sum [("==" | "!=" | "<" | "<=" | ">" | ">=") sum]
abbrev pub IsCmp : List Token → Tree → Type 0
IsCmp = IsExpr 3

-- sum = prod { ("+" | "-") prod }
abbrev pub IsSum : List Token → Tree → Type 0
IsSum = IsExpr 4

-- prod = spec { "*" spec }
abbrev pub IsProd : List Token → Tree → Type 0
IsProd = IsExpr 5

-- spec = range { ("%in%" | "%%" | "%/%") range }
abbrev pub IsSpec : List Token → Tree → Type 0
IsSpec = IsExpr 6

-- range = sign [":" sign]
abbrev pub IsRange : List Token → Tree → Type 0
IsRange = IsExpr 7

-- sign = ["-"] post
abbrev pub IsSign : List Token → Tree → Type 0
IsSign = IsExpr 8

-- post = prim { "[" bracket "]" }
abbrev pub IsPost : List Token → Tree → Type 0
IsPost = IsExpr post

-- prim = literal | name | name "(" [arg {"," arg}] ")" | "(" expr ")"
abbrev pub IsPrim : List Token → Tree → Type 0
IsPrim = IsExpr prim

-- { [stmt] break }, behind which line n begins: a statement stands on the line of its first token
pub data IsLines : List Token → List Stmt → ℕ → Type 0 where
  start : IsLines [] [] 1
  blank : {ts : List Token} {ss : List Stmt} {n : ℕ} (m : ℕ) → IsLines ts ss n → IsLines (ts ++ Break m ∷ []) ss m
  line : {us vs ws : List Token} {ss : List Stmt} {n : ℕ} {o : Option Word} {t : Tree} (m : ℕ) → IsLines us ss n
      → IsLeft vs o → IsExpr 0 ws t → IsLines (us ++ (vs ++ (ws ++ Break m ∷ [])))
      (ss ++ record { line = n; target = o; expr = t } ∷ []) m

-- script = { [stmt] break } [stmt]
pub data IsScript : List Token → List Stmt → Type 0 where
  ended : {ts : List Token} {ss : List Stmt} {n : ℕ} → IsLines ts ss n → IsScript ts ss
  open_end : {us vs ws : List Token} {ss : List Stmt} {n : ℕ} {o : Option Word} {t : Tree} → IsLines us ss n
      → IsLeft vs o → IsExpr 0 ws t → IsScript (us ++ (vs ++ ws)) (ss ++ record { line = n; target = o; expr = t } ∷ [])
