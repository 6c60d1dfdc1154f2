-- Runs in a row; trees, chains and names of which the machine reads the tokens.
use Rattle.std.proofs.Common.{◌≡◌, ℕ, suc, ◌≤◌, Bool, true, false, cond, List, [], ◌∷◌, ◌++◌, Option, Some, None}
use Rattle.std.proofs.Common.{option_and_then, option_map, refl, sym, ◌∙◌, ap, ap₂, subst, arith, append_assoc, le-leb}
use Rattle.std.proofs.Common.{leb-true, nat_le, ◌==◌, eq-eqb, ne_eqb}
use Rattle.std.proofs.lemmas.Bool.{lt-leb}
use Rattle.dt_base.specs.declared.operators.Op.TheVariants.{Add}
use Rattle.dt_tree.specs.declared.tree.BinOp.{BinOp}
use Rattle.dt_tree.specs.declared.tree.BinOp.TheVariants.{Arith}
use Rattle.run_model.specs.GrammarTrees.{Word, Prefix, Not, Negate, Token, Name, Operator, Open, Shut, Tree, Var, Paren}
use Rattle.run_model.specs.GrammarTrees.{Unary, Chain, Tails, NoTails, MoreTails, Args}
use Rattle.run_model.specs.Grammar.{level, is_single, prefix_level, prefix_token, post, IsNames, name, names}
use Rattle.dt_grammar.proofs.Opened.{by_test}
use Rattle.dt_grammar.proofs.Sound.{demand_low}
use Rattle.dt_grammar.specs.Machine.{Frame, Front, Left, InParen, State, Want, Have, NeedWord, HaveWords, demand, close}
use Rattle.dt_grammar.specs.Machine.{front, begin_chain, extend_chain, infix_op, tail_names, shut, names_of, step, run}

-- Runs in a row.
pub run_cons : (s : State) (x : Token) (xs : List Token) (mid : State) (end : Option State) → step s x ≡ Some mid
    → run mid xs ≡ end → run s (x ∷ xs) ≡ end
run_cons s x xs mid end e f = ap (option_and_then (λ next. run next xs)) e ∙ f

run_append_from : (r : Option State) (xs ys : List Token)
    → ((s : State) → run s (xs ++ ys) ≡ option_and_then (λ next. run next ys) (run s xs))
    → option_and_then (λ next. run next (xs ++ ys)) r
    ≡ option_and_then (λ next. run next ys) (option_and_then (λ next. run next xs) r)
run_append_from None xs ys f = refl
run_append_from (Some s) xs ys f = f s

pub run-append : (xs ys : List Token) (s : State) → run s (xs ++ ys) ≡ option_and_then (λ next. run next ys) (run s xs)
run-append [] ys s = refl
run-append (x ∷ xs) ys s = run_append_from (step s x) xs ys (run-append xs ys)

pub run_then : (xs ys : List Token) (s : State) (mid : State) (end : Option State) → run s xs ≡ Some mid
    → run mid ys ≡ end → run s (xs ++ ys) ≡ end
run_then xs ys s mid end e f = run-append xs ys s ∙ ap (option_and_then (λ next. run next ys)) e ∙ f

run_one : (s : State) (x : Token) (mid : State) → step s x ≡ Some mid → run s (x ∷ []) ≡ Some mid
run_one s x mid e = run_cons s x [] mid (Some mid) e refl

pub run_snoc : (xs : List Token) (x : Token) (s mid end : State) → run s xs ≡ Some mid → step mid x ≡ Some end
    → run s (xs ++ x ∷ []) ≡ Some end
run_snoc xs x s mid end e f = run_then xs (x ∷ []) s mid (Some end) e (run_one mid x end f)

pub cond_true : {A : Type 0} {b : Bool} (x y : A) → b ≡ true → cond b x y ≡ x
cond_true x y e = ap (λ c. cond c x y) e

cond_false : {A : Type 0} {b : Bool} (x y : A) → b ≡ false → cond b x y ≡ y
cond_false x y e = ap (λ c. cond c x y) e

pub close_stays : (frames : List Frame) (k : ℕ) (t : Tree) → demand frames ≤ k → close k frames t ≡ (frames, t)
close_stays (Front p ∷ rest) k t h = cond_false _ _ (lt-leb k (prefix_level p) h)
close_stays (Left l tails op ∷ rest) k t h = cond_false _ _ (lt-leb k (level op) h)
close_stays _ k t h = refl

abbrev close_at : ℕ → List Frame × Tree → List Frame × Tree
close_at k p = close k p.0 p.1

twice_step : (j k l : ℕ) (goes stays end : List Frame × Tree) → k ≤ j → close_at k goes ≡ end
    → close_at k stays ≡ cond (nat_le k l) end stays
    → close_at k (cond (nat_le j l) goes stays) ≡ cond (nat_le k l) end stays
twice_step j k l goes stays end h ih here =
    by_test (λ r. close_at k r ≡ cond (nat_le k l) end stays) (nat_le j l) goes stays
    (λ e. ih ∙ sym (cond_true end stays (le-leb k l (let f = leb-true j l e in omega arith))))
    (λ e. here)

pub close_twice : (frames : List Frame) (j k : ℕ) (t : Tree) → k ≤ j → close_at k (close j frames t) ≡ close k frames t
close_twice (Front p ∷ rest) j k t h = twice_step j k (prefix_level p) (close j rest (Unary p t)) (Front p ∷ rest, t)
    (close k rest (Unary p t)) h (close_twice rest j k (Unary p t) h) refl
close_twice (Left l tails op ∷ rest) j k t h = let u = Chain l (MoreTails tails op t) in
    twice_step j k (level op) (close j rest u) (Left l tails op ∷ rest, t) (close k rest u) h
    (close_twice rest j k u h) refl
close_twice _ j k t h = refl

-- Run from these frames, the tokens are read as the tree, up to the operators that may still go on.
pub record Reads (frames : List Frame) (k : ℕ) (ts : List Token) (t : Tree) : Type 0 where
  pub inner : List Frame
  pub last : Tree
  pub goes : run (Want frames) ts ≡ Some (Have inner last)
  pub closes : close k inner last ≡ (frames, t)

pub le_suc : (m k : ℕ) → m ≤ k → m ≤ suc k
le_suc m k h = omega arith

-- what ends in no operator is read whole
pub whole : (k : ℕ) (frames : List Frame) (ts : List Token) (t : Tree) → post ≤ k → Reads frames k ts t
    → run (Want frames) ts ≡ Some (Have frames t)
whole k frames ts t h r =
    let low = demand_low r.inner in
    let e = sym (close_stays r.inner k r.last (omega arith)) ∙ r.closes in
    r.goes ∙ ap (λ p. Some (Have p.0 p.1)) e

pub read_whole : (k : ℕ) (frames : List Frame) (ts : List Token) (t : Tree) → post ≤ k
    → run (Want frames) ts ≡ Some (Have frames t) → Reads frames k ts t
read_whole k frames ts t h e = let low = demand_low frames in
    record { inner = frames; last = t; goes = e; closes = close_stays frames k t (omega arith) }

pub read_higher : (frames : List Frame) (k : ℕ) (ts : List Token) (t : Tree) → demand frames ≤ k
    → Reads frames (suc k) ts t → Reads frames k ts t
read_higher frames k ts t h r = record {
  inner = r.inner;
  last = r.last;
  goes = r.goes;
  closes = sym (close_twice r.inner (suc k) k r.last (omega arith)) ∙ ap (close_at k) r.closes
      ∙ close_stays frames k t h;
}

-- a token behind an expression that sees only what is closed
pub read_then : (frames : List Frame) (k : ℕ) (ts : List Token) (t : Tree) (x : Token)
    (after : List Frame × Tree → Option State) (end : State) → Reads frames k ts t
    → ((inner : List Frame) (last : Tree) → step (Have inner last) x ≡ after (close k inner last))
    → after (frames, t) ≡ Some end → run (Want frames) (ts ++ x ∷ []) ≡ Some end
read_then frames k ts t x after end r f e =
    run_snoc ts x (Want frames) (Have r.inner r.last) end r.goes (f r.inner r.last ∙ ap after r.closes ∙ e)

-- an operator begins a chain, or goes on with one
begin_is : (op : BinOp) (frames : List Frame) (t : Tree) → demand frames ≤ level op
    → begin_chain op frames t ≡ Some (Want (Left t NoTails op ∷ frames))
begin_is op frames t h = cond_true _ _ (le-leb (demand frames) (level op) h)

not_same : (m n : ℕ) → suc m ≤ n → (m == n) ≡ false
not_same m n h = ne_eqb m n (λ e. omega arith)

infix_begins : (op : BinOp) (frames : List Frame) (t : Tree) → demand frames ≤ level op
    → infix_op op (frames, t) ≡ Some (Want (Left t NoTails op ∷ frames))
infix_begins op (Left l tails o ∷ rest) t h =
    ap (λ b. extend_chain b (is_single op) op l tails o rest t) (not_same (level o) (level op) h)
    ∙ begin_is op (Left l tails o ∷ rest) t h
infix_begins op frames t h = begin_is op frames t h

infix_goes_on : (op o : BinOp) (l : Tree) (tails : Tails) (rest : List Frame) (t : Tree) → level o ≡ level op
    → is_single op ≡ false → infix_op op (Left l tails o ∷ rest, t)
    ≡ Some (Want (Left l (MoreTails tails o t) op ∷ rest))
infix_goes_on op o l tails rest t e f = ap₂ (λ a b. extend_chain a b op l tails o rest t)
    (eq-eqb (level o) (level op) e) f

-- the first operand and what follows it, but for the end of the last operand
pub record ReadsChain (frames : List Frame) (k : ℕ) (ts : List Token) (l : Tree) (rest : Tails) : Type 0 where
  pub before : Tails
  pub op : BinOp
  pub right : Tree
  pub inner : List Frame
  pub last : Tree
  pub goes : run (Want frames) ts ≡ Some (Have inner last)
  pub closes : close (suc k) inner last ≡ (Left l before op ∷ frames, right)
  pub all : MoreTails before op right ≡ rest
  pub same : level op ≡ k

pub read_tail : (frames : List Frame) (us vs : List Token) (op : BinOp) (l r : Tree) (before : Tails) (k : ℕ)
    → level op ≡ k → run (Want frames) (us ++ Operator op ∷ []) ≡ Some (Want (Left l before op ∷ frames))
    → Reads (Left l before op ∷ frames) (suc k) vs r
    → ReadsChain frames k (us ++ Operator op ∷ vs) l (MoreTails before op r)
read_tail frames us vs op l r before k e x y = record {
  before = before;
  op = op;
  right = r;
  inner = y.inner;
  last = y.last;
  goes = subst (λ z. run (Want frames) z ≡ Some (Have y.inner y.last)) (append_assoc us (Operator op ∷ []) vs)
      (run_then (us ++ Operator op ∷ []) vs (Want frames) (Want (Left l before op ∷ frames))
      (Some (Have y.inner y.last)) x y.goes);
  closes = y.closes;
  all = refl;
  same = e;
}

pub read_first : (frames : List Frame) (us : List Token) (op : BinOp) (l : Tree) → demand frames ≤ level op
    → Reads frames (suc (level op)) us l → run (Want frames) (us ++ Operator op ∷ [])
    ≡ Some (Want (Left l NoTails op ∷ frames))
read_first frames us op l h r = read_then frames (suc (level op)) us l (Operator op) (infix_op op)
    (Want (Left l NoTails op ∷ frames)) r (λ i z. refl) (infix_begins op frames l h)

pub read_next : (frames : List Frame) (k : ℕ) (us : List Token) (op : BinOp) (l : Tree) (rest : Tails) → level op ≡ k
    → is_single op ≡ false → ReadsChain frames k us l rest
    → run (Want frames) (us ++ Operator op ∷ []) ≡ Some (Want (Left l rest op ∷ frames))
read_next frames k us op l rest e f c =
    run_snoc us (Operator op) (Want frames) (Have c.inner c.last) (Want (Left l rest op ∷ frames)) c.goes
    (ap (λ n. infix_op op (close (suc n) c.inner c.last)) e ∙ ap (infix_op op) c.closes
    ∙ infix_goes_on op c.op l c.before frames c.right (c.same ∙ sym e) f
    ∙ ap (λ z. Some (Want (Left l z op ∷ frames))) c.all)

pub read_chain : (frames : List Frame) (k : ℕ) (ts : List Token) (l : Tree) (rest : Tails) → demand frames ≤ k
    → ReadsChain frames k ts l rest → Reads frames k ts (Chain l rest)
read_chain frames k ts l rest h c = record {
  inner = c.inner;
  last = c.last;
  goes = c.goes;
  closes = sym (close_twice c.inner (suc k) k c.last (omega arith)) ∙ ap (close_at k) c.closes
      ∙ cond_true (close k frames (Chain l (MoreTails c.before c.op c.right))) (Left l c.before c.op ∷ frames, c.right)
      (le-leb k (level c.op) (let q = c.same in omega arith))
      ∙ close_stays frames k (Chain l (MoreTails c.before c.op c.right)) h ∙ ap (λ z. (frames, Chain l z)) c.all;
}

step_prefix : (frames : List Frame) (p : Prefix) → step (Want frames) (prefix_token p) ≡ front p frames
step_prefix frames Not = refl
step_prefix frames Negate = refl

pub read_unary : (frames : List Frame) (ts : List Token) (p : Prefix) (t : Tree) → demand frames ≤ prefix_level p
    → Reads (Front p ∷ frames) (suc (prefix_level p)) ts t
    → Reads frames (prefix_level p) (prefix_token p ∷ ts) (Unary p t)
read_unary frames ts p t h y = record {
  inner = y.inner;
  last = y.last;
  goes = run_cons (Want frames) (prefix_token p) ts (Want (Front p ∷ frames)) (Some (Have y.inner y.last))
      (step_prefix frames p ∙ cond_true (Some (Want (Front p ∷ frames))) None
      (le-leb (demand frames) (prefix_level p) h)) y.goes;
  closes = sym (close_twice y.inner (suc (prefix_level p)) (prefix_level p) y.last (omega arith))
      ∙ ap (close_at (prefix_level p)) y.closes
      ∙ cond_true (close (prefix_level p) frames (Unary p t)) (Front p ∷ frames, t)
      (le-leb (prefix_level p) (prefix_level p) (omega arith)) ∙ close_stays frames (prefix_level p) (Unary p t) h;
}

pub read_paren : (frames : List Frame) (ts : List Token) (t : Tree) → Reads (InParen ∷ frames) 0 ts t
    → run (Want frames) (Open ∷ (ts ++ Shut ∷ [])) ≡ Some (Have frames (Paren t))
read_paren frames ts t r = read_then (InParen ∷ frames) 0 ts t Shut shut (Have frames (Paren t)) r (λ i z. refl) refl

-- Names, and what comes behind "~".
pub read_lower : (frames : List Frame) (j k : ℕ) (ts : List Token) (t : Tree) → k ≤ j → demand frames ≤ k
    → Reads frames j ts t → Reads frames k ts t
read_lower frames j k ts t le h r = record {
  inner = r.inner;
  last = r.last;
  goes = r.goes;
  closes = sym (close_twice r.inner j k r.last le) ∙ ap (close_at k) r.closes ∙ close_stays frames k t h;
}

-- the sum of the names, as it is read
pub record Summed (frames : List Frame) (ts : List Token) (xs : List Word) : Type 0 where
  pub sum : Tree
  pub read_so : Reads frames 4 ts sum
  pub same : names_of sum ≡ Some xs

read_var : (frames : List Frame) (k : ℕ) (x : Word) → demand frames ≤ k → Reads frames k (Name x ∷ []) (Var x)
read_var frames k x h = record { inner = frames; last = Var x; goes = refl; closes = close_stays frames k (Var x) h }

-- two names or more
pub record SummedMore (frames : List Frame) (ts : List Token) (xs : List Word) : Type 0 where
  first_name : Word
  rest : Tails
  read_so : ReadsChain frames 4 ts (Var first_name) rest
  others : List Word
  named_so : tail_names rest ≡ Some others
  same : first_name ∷ others ≡ xs

summed_more : {ts : List Token} {xs : List Word} → IsNames ts xs → (x : Word) (frames : List Frame) → demand frames ≤ 4
    → SummedMore frames (ts ++ Operator (Arith Add) ∷ Name x ∷ []) (xs ++ x ∷ [])
summed_more (name {x = y}) x frames h = record {
  first_name = y;
  rest = MoreTails NoTails (Arith Add) (Var x);
  others = x ∷ [];
  named_so = refl;
  same = refl;
  read_so = read_tail frames (Name y ∷ []) (Name x ∷ []) (Arith Add) (Var y) (Var x) NoTails 4 refl
      (read_first frames (Name y ∷ []) (Arith Add) (Var y) h (read_var frames 5 y (omega arith)))
      (read_var (Left (Var y) NoTails (Arith Add) ∷ frames) 5 x (omega arith));
}
summed_more (names {ts} {xs} y d) x frames h =
    let s = summed_more d y frames h in
    record {
      first_name = s.first_name;
      rest = MoreTails s.rest (Arith Add) (Var x);
      others = s.others ++ x ∷ [];
      named_so = ap (option_map (λ ys. ys ++ x ∷ [])) s.named_so;
      same = ap (λ z. z ++ x ∷ []) s.same;
      read_so = read_tail frames (ts ++ Operator (Arith Add) ∷ Name y ∷ []) (Name x ∷ []) (Arith Add) (Var s.first_name)
          (Var x) s.rest 4 refl (read_next frames 4 (ts ++ Operator (Arith Add) ∷ Name y ∷ []) (Arith Add)
          (Var s.first_name) s.rest refl refl s.read_so)
          (read_var (Left (Var s.first_name) s.rest (Arith Add) ∷ frames) 5 x (omega arith));
    }

pub summed : {ts : List Token} {xs : List Word} → IsNames ts xs → (frames : List Frame) → demand frames ≤ 4
    → Summed frames ts xs
summed (name {x}) frames h = record { sum = Var x; read_so = read_var frames 4 x h; same = refl }
summed (names {ts} {xs} x d) frames h =
    let s = summed_more d x frames h in
    record {
      sum = Chain (Var s.first_name) s.rest;
      read_so = read_chain frames 4 (ts ++ Operator (Arith Add) ∷ Name x ∷ []) (Var s.first_name) s.rest h s.read_so;
      same = ap (option_map (λ ys. (s.first_name ∷ []) ++ ys)) s.named_so ∙ ap Some s.same;
    }

pub read_words : {ts : List Token} {ys : List Word} → IsNames ts ys
    → (g : Word) (args : Args) (o : Option Word) (xs : List Word) (rest : List Frame)
    → run (NeedWord g args o xs [] rest) ts ≡ Some (HaveWords g args o xs ys rest)
read_words name g args o xs rest = refl
read_words (names {ts} {xs = ys} y d) g args o xs rest =
    run_then ts (Operator (Arith Add) ∷ Name y ∷ []) (NeedWord g args o xs [] rest) (HaveWords g args o xs ys rest)
    (Some (HaveWords g args o xs (ys ++ y ∷ []) rest)) (read_words d g args o xs rest) refl
