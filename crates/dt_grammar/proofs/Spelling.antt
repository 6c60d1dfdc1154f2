-- Each tree that the rules allow is spelled by some tokens.
use Rattle.std.proofs.Common.{◌≡◌, ◌≢◌, ℕ, suc, inl, inr, true, false, List, [], ◌∷◌, ◌++◌, map, Option, Some, None}
use Rattle.std.proofs.Common.{codes, refl, sym, ap, subst, arith, append_assoc, append-nil}
use Rattle.std.proofs.lemmas.List.{map-append}
use Rattle.dt_base.specs.declared.cell.Cell.TheVariants as cell
use Rattle.dt_base.specs.declared.cell.ColType.TheVariants as ty
use Rattle.dt_base.specs.declared.operators.Op.TheVariants.{Add, Sub, Mul, Div, Mod, Eq, Ne, Lt, Le, Gt, Ge, And, Or}
use Rattle.dt_tree.specs.declared.token.Literal.TheVariants as word
use Rattle.dt_tree.specs.declared.token.Sign.TheVariants as sign
use Rattle.dt_tree.specs.declared.token.Token as token_type
use Rattle.dt_tree.specs.declared.token.Token.TheVariants as token
use Rattle.dt_tree.specs.declared.tree.BinOp.{BinOp}
use Rattle.dt_tree.specs.declared.tree.BinOp.TheVariants.{Arith, In, Range}
use Rattle.dt_grammar.specs.AllowedTrees.{IsLiteral, level_of, IsFormula, IsAllowed, AreTails, AreArgs, IsPlain}
use Rattle.dt_grammar.specs.AllowedTrees.{IsSecond, AreNamed, AreBrackets, AreStmts}
use Rattle.run_model.specs.GrammarTrees.{Word, Value, Typed, Null, Infinite, Not, Negate, Token, Name, Literal}
use Rattle.run_model.specs.GrammarTrees.{Operator, Open, Shut, OpenSquare, ShutSquare, Assign, Tilde, Is, Break, Tree}
use Rattle.run_model.specs.GrammarTrees.{Lit, Var, Paren, Unary, Chain, Call, Query, Formula, Tails, NoTails, MoreTails}
use Rattle.run_model.specs.GrammarTrees.{Args, NoArgs, MoreArgs, Item, Absent, Given, Assigns, AssignsAll, Brackets}
use Rattle.run_model.specs.GrammarTrees.{NoBrackets, MoreBrackets, Stmt}
use Rattle.run_model.specs.Grammar.{level, is_single, prefix_level, post, prim, UpToI, UpToJ, UpToBy, IsTarget, without}
use Rattle.run_model.specs.Grammar.{named, IsLeft, plain, IsNames, name, names, IsExpr, chain, unary, literal, var}
use Rattle.run_model.specs.Grammar.{paren, call, bracket, IsTails, one, again, IsHead, bare, behind, IsArg, expr}
use Rattle.run_model.specs.Grammar.{formula, IsArgs, none, some, IsBefore, first, later, IsItem, empty, value, assigns}
use Rattle.run_model.specs.Grammar.{IsItems, unnamed, with, IsFilled, begin, comma, IsLines, start, blank, line}
use Rattle.run_model.specs.Grammar.{IsScript, ended}
use Rattle.run_model.specs.TokenView.{plain_token}
use Rattle.dt_grammar.proofs.Opened.{lower}

-- tokens of a script of which this holds
pub record Words (P : List Token → Type 0) : Type 0 where
  pub us : List token_type.Token
  pub so : P (map plain_token us)

nothing : {P : List Token → Type 0} → P [] → Words P
nothing p = record { us = []; so = p }

joined : {P Q R : List Token → Type 0} → Words P → Words Q
    → ((us vs : List Token) → P us → Q vs → R (us ++ vs)) → Words R
joined {R = R} a b f = record {
  us = a.us ++ b.us;
  so = subst R (sym (map-append plain_token a.us b.us)) (f (map plain_token a.us) (map plain_token b.us) a.so b.so);
}

led : {P Q : List Token → Type 0} (u : token_type.Token) → Words P
    → ((ts : List Token) → P ts → Q (plain_token u ∷ ts)) → Words Q
led u a f = record { us = u ∷ a.us; so = f (map plain_token a.us) a.so }

closed : {P Q : List Token → Type 0} (u : token_type.Token) → Words P
    → ((ts : List Token) → P ts → Q (ts ++ plain_token u ∷ [])) → Words Q
closed {Q = Q} u a f = record {
  us = a.us ++ u ∷ [];
  so = subst Q (sym (map-append plain_token a.us (u ∷ []))) (f (map plain_token a.us) a.so);
}

same : {P Q : List Token → Type 0} → Words P → ((ts : List Token) → P ts → Q ts) → Words Q
same a f = record { us = a.us; so = f (map plain_token a.us) a.so }

-- the token of a literal, and of an operator
literal_token : (v : Value) → IsLiteral v → (u : token_type.Token) × (plain_token u ≡ Literal v)
literal_token Null a = (token.Word word.Null, refl)
literal_token Infinite a = (token.Word word.Infinite, refl)
literal_token (Typed cell.Na ty.Lgl) a = (token.Word word.Na, refl)
literal_token (Typed cell.Na ty.Int) a = (token.Word word.NaInt, refl)
literal_token (Typed cell.Na ty.Chr) a = (token.Word word.NaChr, refl)
literal_token (Typed (cell.Lgl true) ty.Lgl) a = (token.Word word.True, refl)
literal_token (Typed (cell.Lgl false) ty.Lgl) a = (token.Word word.False, refl)
literal_token (Typed (cell.Int n) ty.Int) a = (token.Int n, refl)
literal_token (Typed (cell.Text s) ty.Chr) a = (token.Chr s, refl)
literal_token (Typed _ _) a = absurd a

operator_token : (op : BinOp) → (u : token_type.Token) × (plain_token u ≡ Operator op)
operator_token (Arith Add) = (token.Sign sign.Plus, refl)
operator_token (Arith Sub) = (token.Sign sign.Minus, refl)
operator_token (Arith Mul) = (token.Sign sign.Times, refl)
operator_token (Arith Div) = (token.Sign sign.Div, refl)
operator_token (Arith Mod) = (token.Sign sign.Mod, refl)
operator_token (Arith Eq) = (token.Sign sign.Eq, refl)
operator_token (Arith Ne) = (token.Sign sign.Ne, refl)
operator_token (Arith Lt) = (token.Sign sign.Lt, refl)
operator_token (Arith Le) = (token.Sign sign.Le, refl)
operator_token (Arith Gt) = (token.Sign sign.Gt, refl)
operator_token (Arith Ge) = (token.Sign sign.Ge, refl)
operator_token (Arith And) = (token.Sign sign.And, refl)
operator_token (Arith Or) = (token.Sign sign.Or, refl)
operator_token In = (token.Sign sign.In, refl)
operator_token Range = (token.Sign sign.Range, refl)

-- names, and a formula
names_from : (ys : List Word) → Words (λ ts. IsNames ts ys) → (xs : List Word) → Words (λ ts. IsNames ts (ys ++ xs))
names_from ys w [] = subst (λ z. Words (λ ts. IsNames ts z)) (sym (append-nil ys)) w
names_from ys w (x ∷ xs) =
    let next : Words (λ ts. IsNames ts (ys ++ x ∷ [])) =
    joined {P = λ ts. IsNames ts ys} {Q = λ ts. ts ≡ Operator (Arith Add) ∷ Name x ∷ []}
    {R = λ ts. IsNames ts (ys ++ x ∷ [])} w (record { us = token.Sign sign.Plus ∷ token.Name x ∷ []; so = refl })
    (λ us vs d e. subst (λ z. IsNames (us ++ z) (ys ++ x ∷ [])) (sym e) (names x d)) in
    subst (λ z. Words (λ ts. IsNames ts z)) (append_assoc ys (x ∷ []) xs) (names_from (ys ++ x ∷ []) next xs)

names_words : (xs : List Word) → xs ≢ [] → Words (λ ts. IsNames ts xs)
names_words [] h = absurd (h refl)
names_words (x ∷ xs) h = names_from (x ∷ []) (record { us = token.Name x ∷ []; so = name }) xs

formula_words : (t : Tree) → IsFormula t → Words (λ ts. IsArg ts t)
formula_words (Formula xs ys) f =
    joined {Q = λ ts. (vs : List Token) × (ts ≡ Tilde ∷ vs) × IsNames vs ys} {R = λ ts. IsArg ts (Formula xs ys)}
    (names_words xs f.0) (led {P = λ ts. IsNames ts ys} (token.Sign sign.Tilde) (names_words ys f.1)
    (λ ts d. (ts, refl, d)))
    (λ us vs n m. subst (λ z. IsArg (us ++ z) (Formula xs ys)) (sym m.1) (formula n m.2))
formula_words (Lit v) f = absurd f
formula_words (Var x) f = absurd f
formula_words (Paren t) f = absurd f
formula_words (Unary p t) f = absurd f
formula_words (Chain t rest) f = absurd f
formula_words (Call x args) f = absurd f
formula_words (Query t bs) f = absurd f

target_words : (o : Option Word) → Words (λ ts. IsTarget ts o)
target_words None = nothing {P = λ ts. IsTarget ts None} without
target_words (Some x) = record { us = token.Name x ∷ token.Sign sign.Is ∷ []; so = named }

before_words : (args : Args) → Words (λ ts. IsArgs ts args) → Words (λ ts. IsBefore ts args)
before_words NoArgs w = nothing {P = λ ts. IsBefore ts NoArgs} first
before_words (MoreArgs before o t) w = closed {P = λ ts. IsArgs ts (MoreArgs before o t)}
    {Q = λ ts. IsBefore ts (MoreArgs before o t)} (token.Sign sign.Comma) w (λ ts d. later d)

more_args : (before : Args) (o : Option Word) (t : Tree) → Words (λ ts. IsArgs ts before) → Words (λ ts. IsArg ts t)
    → Words (λ ts. IsArgs ts (MoreArgs before o t))
more_args before o t w a =
    let named_arg : Words (λ ts. (vs : List Token) × (ws : List Token) × (ts ≡ vs ++ ws) × IsTarget vs o × IsArg ws t) =
    joined {P = λ ts. IsTarget ts o} {Q = λ ts. IsArg ts t} (target_words o) a
    (λ us vs n d. (us, vs, refl, n, d)) in
    joined {P = λ ts. IsBefore ts before} {R = λ ts. IsArgs ts (MoreArgs before o t)} (before_words before w) named_arg
    (λ us vs b n. subst (λ z. IsArgs (us ++ z) (MoreArgs before o t)) (sym n.2) (some b n.3 n.4))

-- a bracket: i, j and by with their commas, and the items with a name behind them
three_items : (i j by : Item) → Words (λ ts. IsItem false ts i) → Words (λ ts. IsItem true ts j)
    → Words (λ ts. IsItem false ts by) → Words (λ ts. IsItems ts (UpToBy i j by NoArgs))
three_items i j by a b c =
    let one_item : Words (λ ts. IsItems ts (UpToI i)) =
    same {P = λ ts. IsItem false ts i} a (λ ts d. unnamed begin refl d) in
    let first_comma = closed {P = λ ts. IsItems ts (UpToI i)} {Q = λ ts. IsFilled ts (UpToI i)} (token.Sign sign.Comma)
    one_item (λ ts d. comma d) in
    let two_items = joined {Q = λ ts. IsItem true ts j} {R = λ ts. IsItems ts (UpToJ i j)} first_comma b
    (λ us vs d e. unnamed d refl e) in
    let second_comma = closed {P = λ ts. IsItems ts (UpToJ i j)} {Q = λ ts. IsFilled ts (UpToJ i j)}
    (token.Sign sign.Comma) two_items (λ ts d. comma d) in
    joined {Q = λ ts. IsItem false ts by} {R = λ ts. IsItems ts (UpToBy i j by NoArgs)} second_comma c
    (λ us vs d e. unnamed d refl e)

named_item : (i j by : Item) (before : Args) (x : Word) (t : Tree) → Words (λ ts. IsItems ts (UpToBy i j by before))
    → Words (λ ts. IsExpr 0 ts t) → Words (λ ts. IsItems ts (UpToBy i j by (MoreArgs before (Some x) t)))
named_item i j by before x t w a =
    let filled = closed {P = λ ts. IsItems ts (UpToBy i j by before)} {Q = λ ts. IsFilled ts (UpToBy i j by before)}
    (token.Sign sign.Comma) w (λ ts d. comma d) in
    let tail : Words (λ ts. (vs : List Token) × (ts ≡ Name x ∷ Is ∷ vs) × IsExpr 0 vs t) =
    led {P = λ ts. (vs : List Token) × (ts ≡ Is ∷ vs) × IsExpr 0 vs t} (token.Name x)
    (led {P = λ ts. IsExpr 0 ts t} (token.Sign sign.Is) a (λ ts d. (ts, refl, d)))
    (λ ts d. (d.0, ap (λ z. Name x ∷ z) d.1, d.2)) in
    joined {R = λ ts. IsItems ts (UpToBy i j by (MoreArgs before (Some x) t))} filled tail
    (λ us vs d e. subst (λ z. IsItems (us ++ z) (UpToBy i j by (MoreArgs before (Some x) t))) (sym e.1)
    (with x d e.2))

one_bracket : (t : Tree) (bs : Brackets) (i j by : Item) (args : Args) → Words (λ ts. IsHead ts t bs)
    → Words (λ ts. IsItems ts (UpToBy i j by args))
    → Words (λ ts. IsExpr post ts (Query t (MoreBrackets bs i j by args)))
one_bracket t bs i j by args h w =
    let shut : Words (λ ts. (vs : List Token) × (ts ≡ vs ++ ShutSquare ∷ []) × IsItems vs (UpToBy i j by args)) =
    closed {P = λ ts. IsItems ts (UpToBy i j by args)} (token.Sign sign.ShutSquare) w (λ ts d. (ts, refl, d)) in
    let square : Words (λ ts. (vs : List Token) × (ts ≡ OpenSquare ∷ (vs ++ ShutSquare ∷ []))
    × IsItems vs (UpToBy i j by args)) = led (token.Sign sign.OpenSquare) shut
    (λ ts d. (d.0, ap (λ z. OpenSquare ∷ z) d.1, d.2)) in
    joined {P = λ ts. IsHead ts t bs} {R = λ ts. IsExpr post ts (Query t (MoreBrackets bs i j by args))} h square
    (λ us vs d e. subst (λ z. IsExpr post (us ++ z) (Query t (MoreBrackets bs i j by args))) (sym e.1)
    (bracket d e.2))

-- operators with their right sides
one_tail : (l : ℕ) (op : BinOp) (t : Tree) → level op ≡ l → Words (λ ts. IsExpr (suc l) ts t)
    → Words (λ ts. IsTails l ts (MoreTails NoTails op t))
one_tail l op t e w =
    let o = operator_token op in
    led {P = λ ts. IsExpr (suc l) ts t} {Q = λ ts. IsTails l ts (MoreTails NoTails op t)} o.0 w
    (λ ts d. subst (λ z. IsTails l (z ∷ ts) (MoreTails NoTails op t)) (sym o.1)
    (subst (λ n. IsTails n (Operator op ∷ ts) (MoreTails NoTails op t)) e
    (one op (subst (λ n. IsExpr (suc n) ts t) (sym e) d))))

more_tails : (l : ℕ) (rest : Tails) (op : BinOp) (t : Tree) → level op ≡ l → is_single op ≡ false
    → Words (λ ts. IsTails l ts rest) → Words (λ ts. IsExpr (suc l) ts t)
    → Words (λ ts. IsTails l ts (MoreTails rest op t))
more_tails l rest op t e f w a =
    let o = operator_token op in
    let tail : Words (λ ts. (vs : List Token) × (ts ≡ Operator op ∷ vs) × IsExpr (suc l) vs t) =
    led {P = λ ts. IsExpr (suc l) ts t} o.0 a (λ ts d. (ts, ap (λ z. z ∷ ts) o.1, d)) in
    joined {P = λ ts. IsTails l ts rest} {R = λ ts. IsTails l ts (MoreTails rest op t)} w tail
    (λ us vs d x. subst (λ z. IsTails l (us ++ z) (MoreTails rest op t)) (sym x.1) (again op d e f x.2))

mutual
  spell : (t : Tree) (k : ℕ) → IsAllowed k t → Words (λ ts. IsExpr k ts t)
  spell (Lit v) k a =
      let u = literal_token v a.1 in
      record { us = u.0 ∷ []; so = subst (λ z. IsExpr k (z ∷ []) (Lit v)) (sym u.1) (lower prim k a.0 literal) }
  spell (Var x) k a = record { us = token.Name x ∷ []; so = lower prim k a var }
  spell (Paren t) k a =
      let shut : Words (λ ts. (vs : List Token) × (ts ≡ vs ++ Shut ∷ []) × IsExpr 0 vs t) =
      closed {P = λ ts. IsExpr 0 ts t} (token.Sign sign.Shut) (spell t 0 a.1) (λ ts d. (ts, refl, d)) in
      led {Q = λ ts. IsExpr k ts (Paren t)} (token.Sign sign.Open) shut
      (λ ts d. subst (λ z. IsExpr k (Open ∷ z) (Paren t)) (sym d.1) (lower prim k a.0 (paren d.2)))
  spell (Unary Not t) k a = led {P = λ ts. IsExpr 3 ts t} {Q = λ ts. IsExpr k ts (Unary Not t)} (token.Sign sign.Bang)
      (spell t 3 a.1) (λ ts d. lower (prefix_level Not) k a.0 (unary Not d))
  spell (Unary Negate t) k a = led {P = λ ts. IsExpr 9 ts t} {Q = λ ts. IsExpr k ts (Unary Negate t)}
      (token.Sign sign.Minus) (spell t 9 a.1) (λ ts d. lower (prefix_level Negate) k a.0 (unary Negate d))
  spell (Chain t rest) k a = joined {P = λ ts. IsExpr (suc (level_of rest)) ts t}
      {Q = λ ts. IsTails (level_of rest) ts rest} {R = λ ts. IsExpr k ts (Chain t rest)}
      (spell t (suc (level_of rest)) a.1) (spell_tails rest (level_of rest) a.2)
      (λ us vs d e. lower (level_of rest) k a.0 (chain d e))
  spell (Call x args) k a =
      let shut : Words (λ ts. (vs : List Token) × (ts ≡ vs ++ Shut ∷ []) × IsArgs vs args) =
      closed {P = λ ts. IsArgs ts args} (token.Sign sign.Shut) (spell_args args a.1) (λ ts d. (ts, refl, d)) in
      let open_shut : Words (λ ts. (vs : List Token) × (ts ≡ Open ∷ (vs ++ Shut ∷ [])) × IsArgs vs args) =
      led (token.Sign sign.Open) shut (λ ts d. (d.0, ap (λ z. Open ∷ z) d.1, d.2)) in
      led {Q = λ ts. IsExpr k ts (Call x args)} (token.Name x) open_shut
      (λ ts d. subst (λ z. IsExpr k (Name x ∷ z) (Call x args)) (sym d.1) (lower prim k a.0 (call d.2)))
  spell (Query t bs) k a = same {P = λ ts. IsExpr post ts (Query t bs)} {Q = λ ts. IsExpr k ts (Query t bs)}
      (spell_brackets bs t (spell t prim a.1) a.2) (λ ts d. lower post k a.0 d)
  spell (Formula xs ys) k a = absurd a

  spell_tails : (rest : Tails) (l : ℕ) → AreTails l rest → Words (λ ts. IsTails l ts rest)
  spell_tails NoTails l a = absurd a
  spell_tails (MoreTails NoTails op t) l a = one_tail l op t a.0 (spell t (suc l) a.1)
  spell_tails (MoreTails (MoreTails before o u) op t) l a =
      more_tails l (MoreTails before o u) op t a.0 a.1 (spell_tails (MoreTails before o u) l a.2) (spell t (suc l) a.3)

  spell_args : (args : Args) → AreArgs args → Words (λ ts. IsArgs ts args)
  spell_args NoArgs a = nothing {P = λ ts. IsArgs ts NoArgs} none
  spell_args (MoreArgs before o t) a =
      more_args before o t (spell_args before a.0)
      (elim a.1 [
        | inl h ↦ same {P = λ ts. IsExpr 0 ts t} {Q = λ ts. IsArg ts t} (spell t 0 h) (λ ts d. expr d)
        | inr f ↦ formula_words t f
      ])

  spell_plain : (x : Item) → IsPlain x → Words (λ ts. IsItem false ts x)
  spell_plain Absent a = nothing {P = λ ts. IsItem false ts Absent} empty
  spell_plain (Given t) a = same {P = λ ts. IsExpr 0 ts t} {Q = λ ts. IsItem false ts (Given t)} (spell t 0 a)
      (λ ts d. value d)
  spell_plain (Assigns l r) a = absurd a
  spell_plain (AssignsAll args) a = absurd a

  spell_second : (x : Item) → IsSecond x → Words (λ ts. IsItem true ts x)
  spell_second Absent a = nothing {P = λ ts. IsItem true ts Absent} empty
  spell_second (Given t) a = same {P = λ ts. IsExpr 0 ts t} {Q = λ ts. IsItem true ts (Given t)} (spell t 0 a.1)
      (λ ts d. subst (λ z. IsItem true ts z) a.0 (value d))
  spell_second (Assigns l r) a =
      let right : Words (λ ts. (vs : List Token) × (ts ≡ Assign ∷ vs) × IsExpr 0 vs r) =
      led {P = λ ts. IsExpr 0 ts r} (token.Sign sign.Assign) (spell r 0 a.1) (λ ts d. (ts, refl, d)) in
      joined {P = λ ts. IsExpr 0 ts l} {R = λ ts. IsItem true ts (Assigns l r)} (spell l 0 a.0) right
      (λ us vs d e. subst (λ z. IsItem true (us ++ z) (Assigns l r)) (sym e.1) (assigns d e.2))
  spell_second (AssignsAll args) a =
      let shut : Words (λ ts. (vs : List Token) × (ts ≡ vs ++ Shut ∷ []) × IsArgs vs args) =
      closed {P = λ ts. IsArgs ts args} (token.Sign sign.Shut) (spell_args args a) (λ ts d. (ts, refl, d)) in
      let open_shut : Words (λ ts. (vs : List Token) × (ts ≡ Open ∷ (vs ++ Shut ∷ [])) × IsArgs vs args) =
      led (token.Sign sign.Open) shut (λ ts d. (d.0, ap (λ z. Open ∷ z) d.1, d.2)) in
      led {Q = λ ts. IsItem true ts (AssignsAll args)} (token.Name (codes ":=")) open_shut
      (λ ts d. subst (λ z. IsItem true (Name (codes ":=") ∷ z) (AssignsAll args)) (sym d.1)
      (value (lower prim 0 (omega arith) (call d.2))))

  spell_named : (args : Args) → AreNamed args → (i j by : Item) → Words (λ ts. IsItems ts (UpToBy i j by NoArgs))
      → Words (λ ts. IsItems ts (UpToBy i j by args))
  spell_named NoArgs a i j by w = w
  spell_named (MoreArgs before None t) a i j by w = absurd a
  spell_named (MoreArgs before (Some x) t) a i j by w =
      named_item i j by before x t (spell_named before a.0 i j by w) (spell t 0 a.1)

  spell_brackets : (bs : Brackets) (t : Tree) → Words (λ ts. IsExpr prim ts t) → AreBrackets bs
      → Words (λ ts. IsExpr post ts (Query t bs))
  spell_brackets NoBrackets t h a = absurd a
  spell_brackets (MoreBrackets NoBrackets i j by args) t h a =
      one_bracket t NoBrackets i j by args (same {P = λ ts. IsExpr prim ts t} {Q = λ ts. IsHead ts t NoBrackets} h
      (λ ts d. bare d))
      (spell_named args a.3 i j by (three_items i j by (spell_plain i a.0) (spell_second j a.1) (spell_plain by a.2)))
  spell_brackets (MoreBrackets (MoreBrackets before i' j' by' args') i j by args) t h a =
      let bs = MoreBrackets before i' j' by' args' in
      one_bracket t bs i j by args (same {P = λ ts. IsExpr post ts (Query t bs)} {Q = λ ts. IsHead ts t bs}
      (spell_brackets (MoreBrackets before i' j' by' args') t h a.0) (λ ts d. behind d))
      (spell_named args a.4 i j by (three_items i j by (spell_plain i a.1) (spell_second j a.2) (spell_plain by a.3)))

-- statements, each behind a break with its line
left_words : (o : Option Word) → Words (λ ts. IsLeft ts o)
left_words o = same {P = λ ts. IsTarget ts o} {Q = λ ts. IsLeft ts o} (target_words o) (λ ts d. plain d)

record Done (ss : List Stmt) (ts : List Token) : Type 0 where
  next : ℕ
  lines : IsLines ts ss next

one_stmt : (ss : List Stmt) (s : Stmt) → Words (Done ss) → Words (λ ts. IsExpr 0 ts s.expr)
    → Words (Done (ss ++ s ∷ []))
one_stmt ss s w e =
    let lead : Words (λ ts. IsLines ts ss s.line) =
    closed {P = Done ss} {Q = λ ts. IsLines ts ss s.line} (token.Break s.line) w (λ ts d. blank s.line d.lines) in
    let shut : Words (λ ts. (ws : List Token) × (ts ≡ ws ++ Break s.line ∷ []) × IsExpr 0 ws s.expr) =
    closed {P = λ ts. IsExpr 0 ts s.expr} (token.Break s.line) e (λ ts d. (ts, refl, d)) in
    let whole : Words (λ ts. (vs : List Token) × (ws : List Token) × (ts ≡ vs ++ (ws ++ Break s.line ∷ []))
    × IsLeft vs s.target × IsExpr 0 ws s.expr) =
    joined {P = λ ts. IsLeft ts s.target} (left_words s.target) shut
    (λ us vs n d. (us, d.0, ap (λ z. us ++ z) d.1, n, d.2)) in
    joined {P = λ ts. IsLines ts ss s.line} {R = Done (ss ++ s ∷ [])} lead whole
    (λ us vs d x. record {
      next = s.line;
      lines =
          subst (λ z. IsLines (us ++ z) (ss ++ s ∷ []) s.line) (sym x.2) (line s.line d x.3 x.4);
    })

stmts_from : (ss : List Stmt) → Words (Done ss) → (more : List Stmt) → AreStmts more → Words (Done (ss ++ more))
stmts_from ss w [] a = subst (λ z. Words (Done z)) (sym (append-nil ss)) w
stmts_from ss w (s ∷ more) a = subst (λ z. Words (Done z)) (append_assoc ss (s ∷ []) more)
    (stmts_from (ss ++ s ∷ []) (one_stmt ss s w (spell s.expr 0 a.0)) more a.1)

-- tokens that spell the script
pub script_words : (ss : List Stmt) → AreStmts ss → Words (λ ts. IsScript ts ss)
script_words ss a = same {P = Done ss} {Q = λ ts. IsScript ts ss}
    (stmts_from [] (record { us = []; so = record { next = 1; lines = start } }) ss a) (λ ts d. ended d.lines)
