-- Each mark of the text has its flag.
use Rattle.std.proofs.Common.{◌≡◌, ℕ, suc, ◌+◌, Bool, true, false, cond, List, [], ◌∷◌, ◌++◌, Option, length, refl, sym}
use Rattle.std.proofs.Common.{◌∙◌, ap, arith, length-append}
use Rattle.dt_base.specs.declared.operators.Op.TheVariants.{Add}
use Rattle.dt_tree.specs.declared.tree.BinOp.TheVariants.{Arith}
use Rattle.run_model.specs.GrammarTrees.{Word, Token, Name, Operator, Is, Arrow, Open, Shut, OpenSquare, ShutSquare}
use Rattle.run_model.specs.GrammarTrees.{Comma, Tilde, Assign, Break, Prefix, Not, Negate, Tree, Call, Query, Absent}
use Rattle.run_model.specs.GrammarTrees.{Given, Assigns, AssignsAll, Tails, Args, Item, Brackets, NoBrackets}
use Rattle.run_model.specs.GrammarTrees.{MoreBrackets, Stmt}
use Rattle.run_model.specs.Grammar.{prefix_token, item_of, is_assign, takes_unnamed, Filled, Nothing, UpToI, UpToJ}
use Rattle.run_model.specs.Grammar.{UpToBy, with_item, with_name, with_bracket, IsTarget, without, named, IsLeft, plain}
use Rattle.run_model.specs.Grammar.{arrow, IsNames, name, names, IsExpr, higher, chain, unary, literal, var, paren}
use Rattle.run_model.specs.Grammar.{call, bracket, IsTails, one, again, IsHead, bare, behind, IsArg, expr, formula}
use Rattle.run_model.specs.Grammar.{IsArgs, none, some, IsBefore, first, later, IsItem, empty, value, assigns, IsItems}
use Rattle.run_model.specs.Grammar.{unnamed, with, IsFilled, begin, comma, IsLines, start, blank, line, IsScript, ended}
use Rattle.run_model.specs.Grammar.{open_end}
use Rattle.run_model.specs.Misplaced.{is_mark, marks_from, name_flags, target_flags, names_flags, inner, inner_tails}
use Rattle.run_model.specs.Misplaced.{inner_args, inner_item, inner_brackets, Stage, Free, Assigned, Over, j_flags}
use Rattle.run_model.specs.Misplaced.{bracket_flags, stage, outer_brackets, outer, stmt_flags, flags}

abbrev count : List Token → ℕ
count [] = 0
count (x ∷ xs) = cond (is_mark x) (suc (count xs)) (count xs)

count_step : (b : Bool) (n m : ℕ) → cond b (suc (n + m)) (n + m) ≡ cond b (suc n) n + m
count_step true n m = omega arith
count_step false n m = refl

count-append : (xs ys : List Token) → count (xs ++ ys) ≡ count xs + count ys
count-append [] ys = omega arith
count-append (x ∷ xs) ys = ap (λ n. cond (is_mark x) (suc n) n) (count-append xs ys)
    ∙ count_step (is_mark x) (count xs) (count ys)

name_count : (x : Word) (wrong : Bool) (ts : List Token) → count (Name x ∷ ts) ≡ length (name_flags x wrong) + count ts
name_count x wrong ts = go (is_assign x)
  where
    go : (b : Bool) → cond b (suc (count ts)) (count ts) ≡ length (cond b (wrong ∷ []) []) + count ts
    go true = omega arith
    go false = omega arith

prefix_count : (p : Prefix) (ts : List Token) → count (prefix_token p ∷ ts) ≡ count ts
prefix_count Not ts = refl
prefix_count Negate ts = refl

target_count : {ts : List Token} {o : Option Word} → IsTarget ts o → count ts ≡ length (target_flags o)
target_count without = refl
target_count (named {x}) = omega (arith, name_count x false (Is ∷ []))

names_append : (xs ys : List Word) → length (names_flags (xs ++ ys)) ≡ length (names_flags xs) + length (names_flags ys)
names_append [] ys = omega arith
names_append (x ∷ xs) ys = omega (
  arith,
  names_append xs ys,
  length-append (name_flags x false) (names_flags (xs ++ ys)),
  length-append (name_flags x false) (names_flags xs),
)

names_count : {ts : List Token} {xs : List Word} → IsNames ts xs → count ts ≡ length (names_flags xs)
names_count (name {x}) = omega (arith, name_count x false [], length-append (name_flags x false) [])
names_count (names {ts} {xs} x d) = omega (
  arith,
  names_count d,
  count-append ts (Operator (Arith Add) ∷ Name x ∷ []),
  name_count x false [],
  names_append xs (x ∷ []),
  length-append (name_flags x false) [],
)

value_flags : (j : Bool) (t : Tree) → inner_item (item_of j t) ≡ inner t
value_flags false t = refl
value_flags true (Call x args) = in_j_flags (is_assign x) refl
  where
    in_j_flags : (b : Bool) → is_assign x ≡ b
        → inner_item (cond b (AssignsAll args) (Given (Call x args))) ≡ name_flags x true ++ inner_args args
    in_j_flags true e = ap (λ c. cond c (true ∷ []) [] ++ inner_args args) (sym e)
    in_j_flags false e = refl
value_flags true t = refl

-- the flags of a bracket's items
abbrev inner_filled : Filled → ℕ
inner_filled Nothing = 0
inner_filled (UpToI a) = length (inner_item a)
inner_filled (UpToJ a b) = length (inner_item a) + length (inner_item b)
inner_filled (UpToBy a b c args) = length (inner_item a) + length (inner_item b) + length (inner_item c)
    + length (inner_args args)

item_filled : (f : Filled) (p : Item) → takes_unnamed f ≡ true
    → inner_filled (with_item f p) ≡ inner_filled f + length (inner_item p)
item_filled Nothing p e = omega arith
item_filled (UpToI a) p e = refl
item_filled (UpToJ a b) p e = omega arith
item_filled (UpToBy a b c args) p e = absurd cc

named_filled : (f : Filled) (x : Word) (t : Tree)
    → inner_filled (with_name f x t) ≡ inner_filled f + (length (name_flags x false) + length (inner t))
named_filled Nothing x t = omega (arith, length-append (name_flags x false) (inner t))
named_filled (UpToI a) x t = omega (arith, length-append (name_flags x false) (inner t))
named_filled (UpToJ a b) x t = omega (arith, length-append (name_flags x false) (inner t))
named_filled (UpToBy a b c args) x t = omega (
  arith,
  length-append (name_flags x false) (inner t),
  length-append (inner_args args) (name_flags x false ++ inner t),
)

bracket_count : (bs : Brackets) (f : Filled)
    → length (inner_brackets (with_bracket bs f)) ≡ length (inner_brackets bs) + 1 + inner_filled f
bracket_count bs Nothing = simp length-append (omega arith)
bracket_count bs (UpToI a) = simp length-append (omega arith)
bracket_count bs (UpToJ a b) = simp length-append (omega arith)
bracket_count bs (UpToBy a b c args) = simp length-append (omega arith)

mutual
  expr_count : {k : ℕ} {ts : List Token} {t : Tree} → IsExpr k ts t → count ts ≡ length (inner t)
  expr_count (higher d) = expr_count d
  expr_count (chain {us = us} {vs} {t} {rest} d e) =
      omega (arith, expr_count d, tails_count e, count-append us vs, length-append (inner t) (inner_tails rest))
  expr_count (unary {ts} p d) = omega (arith, prefix_count p ts, expr_count d)
  expr_count literal = refl
  expr_count (var {x}) = omega (arith, name_count x false [])
  expr_count (paren {ts} d) = omega (arith, expr_count d, count-append ts (Shut ∷ []))
  expr_count (call {x} {ts} {args} d) = omega (
    arith,
    name_count x true (Open ∷ (ts ++ Shut ∷ [])),
    args_count d,
    count-append ts (Shut ∷ []),
    length-append (name_flags x true) (inner_args args),
  )
  expr_count (bracket {us} {vs} {t} {bs} {f} d e) =
      omega (
        arith,
        head_count d,
        items_count e,
        count-append us (OpenSquare ∷ (vs ++ ShutSquare ∷ [])),
        count-append vs (ShutSquare ∷ []),
        length-append (inner t) (inner_brackets (with_bracket bs f)),
        bracket_count bs f,
      )

  head_count : {ts : List Token} {t : Tree} {bs : Brackets} → IsHead ts t bs
      → count ts ≡ length (inner t) + length (inner_brackets bs)
  head_count (bare d) = omega (arith, expr_count d)
  head_count (behind {ts} {t} {bs} d) = omega (arith, expr_count d, length-append (inner t) (inner_brackets bs))

  tails_count : {k : ℕ} {ts : List Token} {rest : Tails} → IsTails k ts rest → count ts ≡ length (inner_tails rest)
  tails_count (one op d) = expr_count d
  tails_count (again {us = us} {vs} {rest} {r} op d e f d') =
      omega (
        arith,
        tails_count d,
        expr_count d',
        count-append us (Operator op ∷ vs),
        length-append (inner_tails rest) (inner r),
      )

  arg_count : {ts : List Token} {t : Tree} → IsArg ts t → count ts ≡ length (inner t)
  arg_count (expr d) = expr_count d
  arg_count (formula {us} {vs} {xs} {ys} n m) =
      omega (
        arith,
        names_count n,
        names_count m,
        count-append us (Tilde ∷ vs),
        length-append (names_flags xs) (names_flags ys),
      )

  args_count : {ts : List Token} {args : Args} → IsArgs ts args → count ts ≡ length (inner_args args)
  args_count none = refl
  args_count (some {us} {vs} {ws} {args} {o} {t} b n d) =
      omega (
        arith,
        before_count b,
        target_count n,
        arg_count d,
        count-append us (vs ++ ws),
        count-append vs ws,
        length-append (inner_args args) (target_flags o ++ inner t),
        length-append (target_flags o) (inner t),
      )

  before_count : {ts : List Token} {args : Args} → IsBefore ts args → count ts ≡ length (inner_args args)
  before_count first = refl
  before_count (later {ts} d) = omega (arith, args_count d, count-append ts (Comma ∷ []))

  item_count : {j : Bool} {ts : List Token} {p : Item} → IsItem j ts p → count ts ≡ length (inner_item p)
  item_count empty = refl
  item_count (value {j} {ts} {t} d) = expr_count d ∙ ap length (sym (value_flags j t))
  item_count (assigns {us} {vs} {l} {r} d e) =
      omega (arith, expr_count d, expr_count e, count-append us (Assign ∷ vs), length-append (inner l) (true ∷ inner r))

  items_count : {ts : List Token} {f : Filled} → IsItems ts f → count ts ≡ inner_filled f
  items_count (unnamed {us} {vs} {f} {x = p} b e d) =
      omega (arith, filled_count b, item_count d, count-append us vs, item_filled f p e)
  items_count (with {us} {vs} {f} {t} x b d) =
      omega (
        arith,
        filled_count b,
        expr_count d,
        count-append us (Name x ∷ Is ∷ vs),
        name_count x false (Is ∷ vs),
        named_filled f x t,
      )

  filled_count : {ts : List Token} {f : Filled} → IsFilled ts f → count ts ≡ inner_filled f
  filled_count begin = refl
  filled_count (comma {ts} d) = omega (arith, items_count d, count-append ts (Comma ∷ []))

-- an outermost chain has the same marks
j_length : (x : Item) → length (j_flags x) ≡ length (inner_item x)
j_length Absent = refl
j_length (Given t) = refl
j_length (Assigns l r) = omega (
  arith,
  length-append (inner l) (false ∷ inner r),
  length-append (inner l) (true ∷ inner r),
)
j_length (AssignsAll args) = refl

bracket_length : (s : Stage) (i j by : Item) (args : Args)
    → length (bracket_flags s i j by args) ≡ 1 + length (inner_item i) + length (inner_item j) + length (inner_item by)
    + length (inner_args args)
bracket_length Free i j by args = let e = j_length j in simp length-append (omega arith)
bracket_length Assigned i j by args = simp length-append (omega arith)
bracket_length Over i j by args = simp length-append (omega arith)

outer_brackets_length : (bs : Brackets) → length (outer_brackets bs) ≡ length (inner_brackets bs)
outer_brackets_length NoBrackets = refl
outer_brackets_length (MoreBrackets before i j by args) =
    let e = outer_brackets_length before in
    let f = bracket_length (stage before) i j by args in
    simp length-append (omega arith)

outer_length : (t : Tree) → length (outer t) ≡ length (inner t)
outer_length (Query t bs) = omega (
  arith,
  length-append (inner t) (outer_brackets bs),
  length-append (inner t) (inner_brackets bs),
  outer_brackets_length bs,
)
outer_length _ = refl

left_count : {ts : List Token} {o : Option Word} → IsLeft ts o → count ts ≡ length (target_flags o)
left_count (plain d) = target_count d
left_count (arrow {x}) = omega (arith, name_count x false (Arrow ∷ []))

flags_push : (ss : List Stmt) (s : Stmt) → length (flags (ss ++ s ∷ [])) ≡ length (flags ss) + length (stmt_flags s)
flags_push [] s = omega (arith, length-append (stmt_flags s) [])
flags_push (x ∷ ss) s = omega (
  arith,
  flags_push ss s,
  length-append (stmt_flags x) (flags (ss ++ s ∷ [])),
  length-append (stmt_flags x) (flags ss),
)

stmt_count : {vs ws : List Token} {o : Option Word} {t : Tree} (n : ℕ) → IsLeft vs o → IsExpr 0 ws t
    → count vs + count ws ≡ length (stmt_flags (record { line = n; target = o; expr = t }))
stmt_count {vs} {ws} {o} {t} n l d = omega
    (arith, left_count l, expr_count d, outer_length t, length-append (target_flags o) (outer t))

lines_count : {ts : List Token} {ss : List Stmt} {n : ℕ} → IsLines ts ss n → count ts ≡ length (flags ss)
lines_count start = refl
lines_count (blank {ts} m d) = omega (arith, lines_count d, count-append ts (Break m ∷ []))
lines_count (line {us} {vs} {ws} {ss} {n} {o} {t} m d l e) =
    omega (
      arith,
      lines_count d,
      stmt_count n l e,
      flags_push ss (record { line = n; target = o; expr = t }),
      count-append us (vs ++ (ws ++ Break m ∷ [])),
      count-append vs (ws ++ Break m ∷ []),
      count-append ws (Break m ∷ []),
    )

script_count : {ts : List Token} {ss : List Stmt} → IsScript ts ss → count ts ≡ length (flags ss)
script_count (ended d) = lines_count d
script_count (open_end {us} {vs} {ws} {ss} {n} {o} {t} d l e) =
    omega (
      arith,
      lines_count d,
      stmt_count n l e,
      flags_push ss (record { line = n; target = o; expr = t }),
      count-append us (vs ++ ws),
      count-append vs ws,
    )

marks_step : (b : Bool) (n : ℕ) (ns : List ℕ) → length (cond b (n ∷ ns) ns) ≡ cond b (suc (length ns)) (length ns)
marks_step true n ns = refl
marks_step false n ns = refl

marks_count : (n : ℕ) (ts : List Token) → length (marks_from n ts) ≡ count ts
marks_count n [] = refl
marks_count n (x ∷ xs) = marks_step (is_mark x) n (marks_from (suc n) xs)
    ∙ ap (λ k. cond (is_mark x) (suc k) k) (marks_count (suc n) xs)

-- each mark of a script has its flag
pub in_step : {ts : List Token} {ss : List Stmt} → IsScript ts ss → length (marks_from 0 ts) ≡ length (flags ss)
in_step {ts} d = marks_count 0 ts ∙ script_count d
