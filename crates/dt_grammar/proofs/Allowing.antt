-- What the tokens of a script spell is allowed.
use Rattle.std.proofs.Common.{◌≡◌, ◌≢◌, ℕ, suc, ◌≤◌, ◌⊎◌, inl, inr, Bool, true, false, cond, List, [], ◌∷◌, ◌++◌, map}
use Rattle.std.proofs.Common.{refl, sym, ap, subst, arith}
use Rattle.dt_tree.specs.declared.token.Literal.TheVariants as word
use Rattle.dt_tree.specs.declared.token.Sign.TheVariants as sign
use Rattle.dt_tree.specs.declared.token.Token as token_type
use Rattle.dt_tree.specs.declared.token.Token.TheVariants as token
use Rattle.dt_tree.specs.declared.tree.BinOp.{BinOp}
use Rattle.dt_grammar.specs.AllowedTrees.{IsLiteral, level_of, IsFormula, IsAllowed, AreTails, AreArgs, IsPlain}
use Rattle.dt_grammar.specs.AllowedTrees.{IsSecond, AreNamed, AreBrackets, AreStmts}
use Rattle.run_model.specs.GrammarTrees.{Word, Token, Name, Literal, Operator, Assign, Is, Shut, OpenSquare, ShutSquare}
use Rattle.run_model.specs.GrammarTrees.{Comma, Break, Tree, Lit, Var, Paren, Unary, Chain, Call, Query, Formula, Tails}
use Rattle.run_model.specs.GrammarTrees.{NoTails, MoreTails, Args, NoArgs, Item, Absent, Given, AssignsAll, Brackets}
use Rattle.run_model.specs.GrammarTrees.{NoBrackets, MoreBrackets, Stmt}
use Rattle.run_model.specs.Grammar.{level, is_single, prefix_level, prim, Filled, Nothing, UpToI, UpToJ, UpToBy}
use Rattle.run_model.specs.Grammar.{takes_unnamed, is_j, with_item, with_name, with_bracket, is_assign, as_j, item_of}
use Rattle.run_model.specs.Grammar.{IsNames, name, names, IsExpr, higher, chain, unary, bracket, literal, var, call}
use Rattle.run_model.specs.Grammar.{paren, IsTails, one, again, IsHead, bare, behind, IsArg, expr, formula, IsArgs}
use Rattle.run_model.specs.Grammar.{none, some, IsBefore, first, later, IsItem, empty, value, assigns, IsItems, unnamed}
use Rattle.run_model.specs.Grammar.{with, IsFilled, begin, comma, IsLines, start, blank, line, IsScript, ended}
use Rattle.run_model.specs.Grammar.{open_end}
use Rattle.run_model.specs.TokenView.{plain_token}

-- each literal among the tokens is one of a script's
abbrev IsReal : Token → Type 0
IsReal (Literal v) = IsLiteral v
IsReal _ = Unit {0}

abbrev AreReal : List Token → Type 0
AreReal [] = Unit {0}
AreReal (x ∷ xs) = IsReal x × AreReal xs

left : (us vs : List Token) → AreReal (us ++ vs) → AreReal us
left [] vs r = tt
left (x ∷ us) vs r = (r.0, left us vs r.1)

right : (us vs : List Token) → AreReal (us ++ vs) → AreReal vs
right [] vs r = r
right (x ∷ us) vs r = right us vs r.1

word_real : (u : token_type.Token) → IsReal (plain_token u)
word_real (token.Name x) = tt
word_real (token.Word word.True) = tt
word_real (token.Word word.False) = tt
word_real (token.Word word.Na) = tt
word_real (token.Word word.NaInt) = tt
word_real (token.Word word.NaChr) = tt
word_real (token.Word word.Null) = tt
word_real (token.Word word.Infinite) = tt
word_real (token.Int n) = tt
word_real (token.Chr s) = tt
word_real (token.Sign sign.In) = tt
word_real (token.Sign sign.Div) = tt
word_real (token.Sign sign.Mod) = tt
word_real (token.Sign sign.Arrow) = tt
word_real (token.Sign sign.Assign) = tt
word_real (token.Sign sign.Eq) = tt
word_real (token.Sign sign.Ne) = tt
word_real (token.Sign sign.Le) = tt
word_real (token.Sign sign.Ge) = tt
word_real (token.Sign sign.Open) = tt
word_real (token.Sign sign.Shut) = tt
word_real (token.Sign sign.OpenSquare) = tt
word_real (token.Sign sign.ShutSquare) = tt
word_real (token.Sign sign.Comma) = tt
word_real (token.Sign sign.Semi) = tt
word_real (token.Sign sign.Plus) = tt
word_real (token.Sign sign.Minus) = tt
word_real (token.Sign sign.Times) = tt
word_real (token.Sign sign.Lt) = tt
word_real (token.Sign sign.Gt) = tt
word_real (token.Sign sign.And) = tt
word_real (token.Sign sign.Or) = tt
word_real (token.Sign sign.Bang) = tt
word_real (token.Sign sign.Range) = tt
word_real (token.Sign sign.Tilde) = tt
word_real (token.Sign sign.Is) = tt
word_real (token.Break n) = tt

words_real : (us : List token_type.Token) → AreReal (map plain_token us)
words_real [] = tt
words_real (u ∷ us) = (word_real u, words_real us)

-- what the items of a bracket have filled is allowed
abbrev AreFilled : Filled → Type 0
AreFilled Nothing = Unit {0}
AreFilled (UpToI i) = IsPlain i
AreFilled (UpToJ i j) = IsPlain i × IsSecond j
AreFilled (UpToBy i j by args) = IsPlain i × IsSecond j × IsPlain by × AreNamed args

-- brackets, or none yet
abbrev AreBefore : Brackets → Type 0
AreBefore NoBrackets = Unit {0}
AreBefore (MoreBrackets before i j by args) = AreBrackets (MoreBrackets before i j by args)

-- an item, as j or not
abbrev IsItemAllowed : Bool → Item → Type 0
IsItemAllowed true x = IsSecond x
IsItemAllowed false x = IsPlain x

as_before : (bs : Brackets) → AreBrackets bs → AreBefore bs
as_before NoBrackets a = tt
as_before (MoreBrackets before i j by args) a = a

absent_allowed : (j : Bool) → IsItemAllowed j Absent
absent_allowed true = tt
absent_allowed false = tt

one_more : (bs : Brackets) (i j by : Item) (args : Args) → AreBefore bs → IsPlain i → IsSecond j → IsPlain by
    → AreNamed args → AreBrackets (MoreBrackets bs i j by args)
one_more NoBrackets i j by args b x y z w = (x, y, z, w)
one_more (MoreBrackets before i' j' by' args') i j by args b x y z w = (b, x, y, z, w)

bracket_allowed : (bs : Brackets) (f : Filled) → AreBefore bs → AreFilled f → AreBrackets (with_bracket bs f)
bracket_allowed bs Nothing b a = one_more bs Absent Absent Absent NoArgs b tt tt tt tt
bracket_allowed bs (UpToI i) b a = one_more bs i Absent Absent NoArgs b a tt tt tt
bracket_allowed bs (UpToJ i j) b a = one_more bs i j Absent NoArgs b a.0 a.1 tt tt
bracket_allowed bs (UpToBy i j by args) b a = one_more bs i j by args b a.0 a.1 a.2 a.3

call_as_j : (b : Bool) (x : Word) (args : Args) → is_assign x ≡ b → IsAllowed 0 (Call x args)
    → IsSecond (cond b (AssignsAll args) (Given (Call x args)))
call_as_j true x args e a = a.1
call_as_j false x args e a = (ap (λ b. cond b (AssignsAll args) (Given (Call x args))) e, a)

value_as_j : (t : Tree) → IsAllowed 0 t → IsSecond (as_j t)
value_as_j (Lit v) a = (refl, a)
value_as_j (Var x) a = (refl, a)
value_as_j (Paren t) a = (refl, a)
value_as_j (Unary p t) a = (refl, a)
value_as_j (Chain t rest) a = (refl, a)
value_as_j (Call x args) a = call_as_j (is_assign x) x args refl a
value_as_j (Query t bs) a = (refl, a)
value_as_j (Formula xs ys) a = absurd a

value_allowed : (j : Bool) (t : Tree) → IsAllowed 0 t → IsItemAllowed j (item_of j t)
value_allowed true t a = value_as_j t a
value_allowed false t a = a

item_filled : (f : Filled) (x : Item) → takes_unnamed f ≡ true → AreFilled f → IsItemAllowed (is_j f) x
    → AreFilled (with_item f x)
item_filled Nothing x e a b = b
item_filled (UpToI i) x e a b = (a, b)
item_filled (UpToJ i j) x e a b = (a.0, a.1, b, tt)
item_filled (UpToBy i j by args) x e a b = absurd cc

name_filled : (f : Filled) (x : Word) (t : Tree) → AreFilled f → IsAllowed 0 t → AreFilled (with_name f x t)
name_filled Nothing x t a b = (tt, tt, tt, (tt, b))
name_filled (UpToI i) x t a b = (a, tt, tt, (tt, b))
name_filled (UpToJ i j) x t a b = (a.0, a.1, tt, (tt, b))
name_filled (UpToBy i j by args) x t a b = (a.0, a.1, a.2, (a.3, b))

-- names are some
push_some : {A : Type 0} (xs : List A) (x : A) → xs ++ x ∷ [] ≢ []
push_some [] x e = cc
push_some (y ∷ xs) x e = cc

some_names : {ts : List Token} {xs : List Word} → IsNames ts xs → xs ≢ []
some_names name e = cc
some_names (names {ts} {xs} x d) e = push_some xs x e

tails_level : {k : ℕ} {ts : List Token} {rest : Tails} → IsTails k ts rest → level_of rest ≡ k
tails_level (one op d) = refl
tails_level (again op d e f d') = e

more_allowed : (l : ℕ) (rest : Tails) (op : BinOp) (t : Tree) → level op ≡ l → is_single op ≡ false → AreTails l rest
    → IsAllowed (suc l) t → AreTails l (MoreTails rest op t)
more_allowed l NoTails op t e f a b = absurd a
more_allowed l (MoreTails before o u) op t e f a b = (e, f, a, b)

chain_allowed : (j k : ℕ) (t : Tree) (rest : Tails) → j ≤ k → level_of rest ≡ k → IsAllowed (suc k) t → AreTails k rest
    → IsAllowed j (Chain t rest)
chain_allowed j k t rest h e a b = (
  let q = e in omega arith,
  subst (λ n. IsAllowed (suc n) t) (sym e) a,
  subst (λ n. AreTails n rest) (sym e) b,
)

mutual
  allowed : {k : ℕ} {ts : List Token} {t : Tree} → IsExpr k ts t → AreReal ts → (j : ℕ) → j ≤ k → IsAllowed j t
  allowed (higher d) r j h = allowed d r j (omega arith)
  allowed (chain {k} {us} {vs} {t} {rest} d e) r j h =
      chain_allowed j k t rest h (tails_level e) (allowed d (left us vs r) (suc k) (omega arith))
      (tails_allowed e (right us vs r))
  allowed (unary p d) r j h = (h, allowed d r.1 (suc (prefix_level p)) (omega arith))
  allowed (bracket {us} {vs} {t} {bs} {f} d e) r j h =
      let w = head_allowed d (left us (OpenSquare ∷ (vs ++ ShutSquare ∷ [])) r) in (
        h,
        w.0,
        bracket_allowed bs f w.1 (items_allowed e
            (left vs (ShutSquare ∷ []) (right us (OpenSquare ∷ (vs ++ ShutSquare ∷ [])) r).1)),
      )
  allowed literal r j h = (h, r.0)
  allowed var r j h = h
  allowed (call {x} {ts} {args} d) r j h = (h, args_allowed d (left ts (Shut ∷ []) r.1.1))
  allowed (paren {ts} d) r j h = (h, allowed d (left ts (Shut ∷ []) r.1) 0 (omega arith))

  tails_allowed : {k : ℕ} {ts : List Token} {rest : Tails} → IsTails k ts rest → AreReal ts → AreTails k rest
  tails_allowed (one op d) r = (refl, allowed d r.1 (suc (level op)) (omega arith))
  tails_allowed (again {k} {us} {vs} {rest} {r = u} op d e f d') r =
      more_allowed k rest op u e f (tails_allowed d (left us (Operator op ∷ vs) r))
      (allowed d' (right us (Operator op ∷ vs) r).1 (suc k) (omega arith))

  head_allowed : {ts : List Token} {t : Tree} {bs : Brackets} → IsHead ts t bs → AreReal ts → IsAllowed prim t
      × AreBefore bs
  head_allowed (bare d) r = (allowed d r prim (omega arith), tt)
  head_allowed (behind {ts} {t} {bs} d) r = let a = allowed d r 0 (omega arith) in (a.1, as_before bs a.2)

  arg_allowed : {ts : List Token} {t : Tree} → IsArg ts t → AreReal ts → IsAllowed 0 t ⊎ IsFormula t
  arg_allowed (expr d) r = inl (allowed d r 0 (omega arith))
  arg_allowed (formula n m) r = inr (some_names n, some_names m)

  args_allowed : {ts : List Token} {args : Args} → IsArgs ts args → AreReal ts → AreArgs args
  args_allowed none r = tt
  args_allowed (some {us} {vs} {ws} b n d) r =
      (before_allowed b (left us (vs ++ ws) r), arg_allowed d (right vs ws (right us (vs ++ ws) r)))

  before_allowed : {ts : List Token} {args : Args} → IsBefore ts args → AreReal ts → AreArgs args
  before_allowed first r = tt
  before_allowed (later {ts} d) r = args_allowed d (left ts (Comma ∷ []) r)

  item_allowed : {j : Bool} {ts : List Token} {x : Item} → IsItem j ts x → AreReal ts → IsItemAllowed j x
  item_allowed (empty {j}) r = absent_allowed j
  item_allowed (value {j} {ts} {t} d) r = value_allowed j t (allowed d r 0 (omega arith))
  item_allowed (assigns {us} {vs} d e) r =
      (allowed d (left us (Assign ∷ vs) r) 0 (omega arith), allowed e (right us (Assign ∷ vs) r).1 0 (omega arith))

  items_allowed : {ts : List Token} {f : Filled} → IsItems ts f → AreReal ts → AreFilled f
  items_allowed (unnamed {us} {vs} {f} {x} b e d) r =
      item_filled f x e (filled_allowed b (left us vs r)) (item_allowed d (right us vs r))
  items_allowed (with {us} {vs} {f} {t} x b d) r =
      name_filled f x t (filled_allowed b (left us (Name x ∷ Is ∷ vs) r))
      (allowed d (right us (Name x ∷ Is ∷ vs) r).1.1 0 (omega arith))

  filled_allowed : {ts : List Token} {f : Filled} → IsFilled ts f → AreReal ts → AreFilled f
  filled_allowed begin r = tt
  filled_allowed (comma {ts} d) r = items_allowed d (left ts (Comma ∷ []) r)

push_allowed : (ss : List Stmt) (s : Stmt) → AreStmts ss → IsAllowed 0 s.expr → AreStmts (ss ++ s ∷ [])
push_allowed [] s a b = (b, tt)
push_allowed (x ∷ ss) s a b = (a.0, push_allowed ss s a.1 b)

lines_allowed : {ts : List Token} {ss : List Stmt} {n : ℕ} → IsLines ts ss n → AreReal ts → AreStmts ss
lines_allowed start r = tt
lines_allowed (blank {ts} m d) r = lines_allowed d (left ts (Break m ∷ []) r)
lines_allowed (line {us} {vs} {ws} {ss} {n} {o} {t} m d l e) r =
    push_allowed ss (record { line = n; target = o; expr = t })
    (lines_allowed d (left us (vs ++ (ws ++ Break m ∷ [])) r))
    (allowed e (left ws (Break m ∷ []) (right vs (ws ++ Break m ∷ []) (right us (vs ++ (ws ++ Break m ∷ [])) r))) 0
    (omega arith))

script_allowed : {ts : List Token} {ss : List Stmt} → IsScript ts ss → AreReal ts → AreStmts ss
script_allowed (ended d) r = lines_allowed d r
script_allowed (open_end {us} {vs} {ws} {ss} {n} {o} {t} d l e) r =
    push_allowed ss (record { line = n; target = o; expr = t }) (lines_allowed d (left us (vs ++ ws) r))
    (allowed e (right vs ws (right us (vs ++ ws) r)) 0 (omega arith))

-- what the tokens of a script spell is allowed
pub spelled_allowed : (us : List token_type.Token) (ss : List Stmt) → IsScript (map plain_token us) ss → AreStmts ss
spelled_allowed us ss d = script_allowed d (words_real us)
