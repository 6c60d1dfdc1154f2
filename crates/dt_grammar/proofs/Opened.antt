-- What tokens have opened, as the state of the machine says; an expression closed.
use Rattle.std.proofs.Common.{◌≡◌, ℕ, zero, suc, ◌≤◌, ◌⊎◌, inl, inr, Bool, true, false, cond, List, [], ◌∷◌, ◌++◌}
use Rattle.std.proofs.Common.{Option, refl, sym, ◌∙◌, ap, subst, arith, append_assoc, leb-true, leb-false, nat_le}
use Rattle.dt_base.specs.declared.operators.Op.TheVariants.{Add, Sub, Mul, Div, Mod, Eq, Ne, Lt, Le, Gt, Ge, And, Or}
use Rattle.dt_tree.specs.declared.tree.BinOp.{BinOp}
use Rattle.dt_tree.specs.declared.tree.BinOp.TheVariants.{Arith, In, Range}
use Rattle.run_model.specs.GrammarTrees.{Word, Prefix, Not, Negate, Token, Name, Operator, Tilde, Assign, Is, Open}
use Rattle.run_model.specs.GrammarTrees.{OpenSquare, Tree, Lit, Var, Paren, Unary, Chain, Tails, NoTails, MoreTails}
use Rattle.run_model.specs.GrammarTrees.{Call, Query, Formula, Args}
use Rattle.run_model.specs.Grammar.{level, is_single, prefix_level, prefix_token, post, prim, takes_unnamed, is_j}
use Rattle.run_model.specs.Grammar.{IsTarget, IsLeft, IsNames, IsExpr, higher, chain, unary, literal, var, paren, call}
use Rattle.run_model.specs.Grammar.{bracket, IsTails, one, again, IsHead, bare, behind, IsBefore, IsFilled, IsLines}
use Rattle.dt_grammar.specs.Machine.{head_of, Frame, Front, Left, InParen, InCall, InItem, InNamed, InAssign, InStmt}
use Rattle.dt_grammar.specs.Machine.{State, Want, Have, NeedName, NeedIs, NeedWord, HaveWords, demand, close}

-- operators and operands before this operator, of its level
abbrev pub TailsBefore : List Token → Tails → BinOp → Type 0
TailsBefore ts NoTails op = ts ≡ []
TailsBefore ts (MoreTails rest o t) op = IsTails (level op) ts (MoreTails rest o t) × (is_single op ≡ false)

-- these tokens have opened these frames
abbrev pub Opened : List Token → List Frame → Type 0
Opened ts [] = ⊥
Opened ts (Front p ∷ rest) = (us : List Token) × (ts ≡ us ++ prefix_token p ∷ []) × (demand rest ≤ prefix_level p)
    × Opened us rest
Opened ts (Left l tails op ∷ rest) = (us : List Token) × (vs : List Token) × (ws : List Token)
    × (ts ≡ us ++ (vs ++ (ws ++ Operator op ∷ []))) × IsExpr (suc (level op)) vs l × TailsBefore ws tails op
    × (demand rest ≤ level op) × Opened us rest
Opened ts (InParen ∷ rest) = (us : List Token) × (ts ≡ us ++ Open ∷ []) × Opened us rest
Opened ts (InCall x args o ∷ rest) = (us : List Token) × (vs : List Token) × (ws : List Token)
    × (ts ≡ us ++ (Name x ∷ Open ∷ (vs ++ ws))) × IsBefore vs args × IsTarget ws o × Opened us rest
Opened ts (InItem h f ∷ rest) = (us : List Token) × (hs : List Token) × (vs : List Token)
    × (ts ≡ us ++ (hs ++ OpenSquare ∷ vs)) × IsHead hs h.tree h.brackets × IsFilled vs f × (takes_unnamed f ≡ true)
    × Opened us rest
Opened ts (InNamed h f x ∷ rest) = (us : List Token) × (hs : List Token) × (vs : List Token)
    × (ts ≡ us ++ (hs ++ OpenSquare ∷ (vs ++ Name x ∷ Is ∷ []))) × IsHead hs h.tree h.brackets × IsFilled vs f
    × Opened us rest
Opened ts (InAssign h f l ∷ rest) = (us : List Token) × (hs : List Token) × (vs : List Token) × (ws : List Token)
    × (ts ≡ us ++ (hs ++ OpenSquare ∷ (vs ++ (ws ++ Assign ∷ [])))) × IsHead hs h.tree h.brackets × IsFilled vs f
    × IsExpr 0 ws l × (is_j f ≡ true) × Opened us rest
Opened ts (InStmt ss n o ∷ rest) = (us : List Token) × (vs : List Token) × (ts ≡ us ++ vs) × IsLines us ss n
    × IsLeft vs o × (rest ≡ [])

-- names behind "~", and a "+" behind each but the last
abbrev pub IsWordsBefore : List Token → List Word → Type 0
IsWordsBefore ts [] = ts ≡ []
IsWordsBefore ts (y ∷ ys) = (us : List Token) × (ts ≡ us ++ Operator (Arith Add) ∷ []) × IsNames us (y ∷ ys)

abbrev pub WordsOpened : List Token → Word → Args → Option Word → List Word → List Token → List Frame → Type 0
WordsOpened ts g args o xs ns rest = (us : List Token) × (vs : List Token) × (ws : List Token) × (ms : List Token)
    × (ts ≡ us ++ (Name g ∷ Open ∷ (vs ++ (ws ++ (ms ++ Tilde ∷ ns))))) × IsBefore vs args × IsTarget ws o
    × IsNames ms xs × Opened us rest

-- these tokens led to this state
abbrev pub Reached : List Token → State → Type 0
Reached ts (Want frames) = Opened ts frames
Reached ts (Have frames t) = (us : List Token) × (vs : List Token) × (ts ≡ us ++ vs) × Opened us frames
    × IsExpr post vs t
Reached ts (NeedName h f rest) = (us : List Token) × (hs : List Token) × (vs : List Token)
    × (ts ≡ us ++ (hs ++ OpenSquare ∷ vs)) × IsHead hs h.tree h.brackets × IsFilled vs f × Opened us rest
Reached ts (NeedIs h f x rest) = (us : List Token) × (hs : List Token) × (vs : List Token)
    × (ts ≡ us ++ (hs ++ OpenSquare ∷ (vs ++ Name x ∷ []))) × IsHead hs h.tree h.brackets × IsFilled vs f
    × Opened us rest
Reached ts (NeedWord g args o xs ys rest) = (ns : List Token) × IsWordsBefore ns ys × WordsOpened ts g args o xs ns rest
Reached ts (HaveWords g args o xs ys rest) = (ns : List Token) × IsNames ns ys × WordsOpened ts g args o xs ns rest

-- these tokens opened the frames, and then spelled the tree
pub record Closes (ts : List Token) (k : ℕ) (closed : List Frame × Tree) : Type 0 where
  pub us : List Token
  pub vs : List Token
  pub whole : ts ≡ us ++ vs
  pub opened : Opened us closed.0
  pub spelled : IsExpr k vs closed.1
  pub low : demand closed.0 ≤ k

le_cases : (k j : ℕ) → k ≤ suc j → (k ≤ j) ⊎ (suc j ≡ k)
le_cases k j h = grind arith

zero_is : (k : ℕ) → k ≤ zero → zero ≡ k
zero_is k h = omega arith

pub lower : (j k : ℕ) {ts : List Token} {t : Tree} → k ≤ j → IsExpr j ts t → IsExpr k ts t
lower zero k {ts} {t} h d = subst (λ n. IsExpr n ts t) (zero_is k h) d
lower (suc j) k {ts} {t} h d =
    elim (le_cases k j h) [ inl le ↦ lower j k le (higher d) | inr e ↦ subst (λ n. IsExpr n ts t) e d ]

pub by_test : {A : Type 0} (P : A → Type 0) (b : Bool) (x y : A) → (b ≡ true → P x) → (b ≡ false → P y) → P (cond b x y)
by_test P true x y f g = f refl
by_test P false x y f g = g refl

level_top : (op : BinOp) → level op ≤ 7
level_top (Arith Add) = omega arith
level_top (Arith Sub) = omega arith
level_top (Arith Mul) = omega arith
level_top (Arith Div) = omega arith
level_top (Arith Mod) = omega arith
level_top (Arith Eq) = omega arith
level_top (Arith Ne) = omega arith
level_top (Arith Lt) = omega arith
level_top (Arith Le) = omega arith
level_top (Arith Gt) = omega arith
level_top (Arith Ge) = omega arith
level_top (Arith And) = omega arith
level_top (Arith Or) = omega arith
level_top In = omega arith
level_top Range = omega arith

pub level_low : (op : BinOp) → suc (level op) ≤ post
level_low op = let h = level_top op in omega arith

pub tails_low : {k : ℕ} {vs : List Token} {rest : Tails} → IsTails k vs rest → k ≤ 7
tails_low (one op d) = level_top op
tails_low (again op d e single d') = tails_low d

pub prefix_top : (p : Prefix) → prefix_level p ≤ 8
prefix_top Not = omega arith
prefix_top Negate = omega arith

-- what stands before a bracket
abbrev pub is_query : Tree → Bool
is_query (Query t bs) = true
is_query _ = false

not_tails : {k : ℕ} {vs : List Token} {rest : Tails} → IsTails k vs rest → k ≡ post → ⊥
not_tails d e = let h = tails_low d in omega arith

not_prefix : (p : Prefix) → prefix_level p ≡ post → ⊥
not_prefix p e = let h = prefix_top p in omega arith

pub no_query_prim : {k : ℕ} {ts : List Token} {t : Tree} → IsExpr k ts t → k ≡ post → is_query t ≡ false
    → IsExpr prim ts t
no_query_prim (higher {k} {ts} {t} d) e q = subst (λ n. IsExpr (suc n) ts t) e d
no_query_prim (chain d d') e q = absurd (not_tails d' e)
no_query_prim (unary p d) e q = absurd (not_prefix p e)
no_query_prim (bracket d d') e q = absurd cc
no_query_prim literal e q = literal
no_query_prim var e q = var
no_query_prim (call d) e q = call d
no_query_prim (paren d) e q = paren d

pub head_sound : (t : Tree) {vs : List Token} → IsExpr post vs t → IsHead vs (head_of t).tree (head_of t).brackets
head_sound (Query t bs) d = behind d
head_sound (Lit v) d = bare (no_query_prim d refl refl)
head_sound (Var x) d = bare (no_query_prim d refl refl)
head_sound (Paren t) d = bare (no_query_prim d refl refl)
head_sound (Unary p t) d = bare (no_query_prim d refl refl)
head_sound (Chain t rest) d = bare (no_query_prim d refl refl)
head_sound (Call x args) d = bare (no_query_prim d refl refl)
head_sound (Formula xs ys) d = bare (no_query_prim d refl refl)

pub tails_on : (ws vs : List Token) (tails : Tails) (op : BinOp) (t : Tree) → TailsBefore ws tails op
    → IsExpr (suc (level op)) vs t → IsTails (level op) (ws ++ Operator op ∷ vs) (MoreTails tails op t)
tails_on ws vs NoTails op t b d = subst (λ z. IsTails (level op) (z ++ Operator op ∷ vs) (MoreTails NoTails op t))
    (sym b) (one op d)
tails_on ws vs (MoreTails rest o r) op t b d = again op b.0 refl b.1 d

pub close_sound : (frames : List Frame) (k j : ℕ) (us vs : List Token) (t : Tree) → Opened us frames → IsExpr j vs t
    → demand frames ≤ j → k ≤ j → Closes (us ++ vs) k (close k frames t)
close_sound [] k j us vs t o d dem le = absurd o
close_sound (Front p ∷ rest) k j us vs t o d dem le =
    by_test (Closes (us ++ vs) k) (nat_le k (prefix_level p)) _ _
    (λ e.
    let here = close_sound rest k (prefix_level p) o.0 (prefix_token p ∷ vs) (Unary p t) o.3
    (unary p (lower j (suc (prefix_level p)) dem d)) o.2 (leb-true k (prefix_level p) e) in
    subst (λ ts. Closes ts k (close k rest (Unary p t))) (sym (ap (λ z. z ++ vs) o.1 ∙ simp append_assoc)) here)
    (λ e. record {
      us = us;
      vs = vs;
      whole = refl;
      opened = o;
      spelled = lower j k le d;
      low = leb-false k (prefix_level p) e;
    })
close_sound (Left l tails op ∷ rest) k j us vs t o d dem le =
    by_test (Closes (us ++ vs) k) (nat_le k (level op)) _ _
    (λ e.
    let u = Chain l (MoreTails tails op t) in
    let here = close_sound rest k (level op) o.0 (o.1 ++ (o.2 ++ Operator op ∷ vs)) u o.7
    (chain o.4 (tails_on o.2 vs tails op t o.5 (lower j (suc (level op)) dem d))) o.6 (leb-true k (level op) e) in
    subst (λ ts. Closes ts k (close k rest u)) (sym (ap (λ z. z ++ vs) o.3 ∙ simp append_assoc)) here)
    (λ e. record {
      us = us;
      vs = vs;
      whole = refl;
      opened = o;
      spelled = lower j k le d;
      low = leb-false k (level op) e;
    })
close_sound (InParen ∷ rest) k j us vs t o d dem le = record {
  us = us;
  vs = vs;
  whole = refl;
  opened = o;
  spelled = lower j k le d;
  low = omega arith;
}
close_sound (InCall x args n ∷ rest) k j us vs t o d dem le = record {
  us = us;
  vs = vs;
  whole = refl;
  opened = o;
  spelled = lower j k le d;
  low = omega arith;
}
close_sound (InItem h f ∷ rest) k j us vs t o d dem le = record {
  us = us;
  vs = vs;
  whole = refl;
  opened = o;
  spelled = lower j k le d;
  low = omega arith;
}
close_sound (InNamed h f x ∷ rest) k j us vs t o d dem le = record {
  us = us;
  vs = vs;
  whole = refl;
  opened = o;
  spelled = lower j k le d;
  low = omega arith;
}
close_sound (InAssign h f l ∷ rest) k j us vs t o d dem le = record {
  us = us;
  vs = vs;
  whole = refl;
  opened = o;
  spelled = lower j k le d;
  low = omega arith;
}
close_sound (InStmt ss m n ∷ rest) k j us vs t o d dem le = record {
  us = us;
  vs = vs;
  whole = refl;
  opened = o;
  spelled = lower j k le d;
  low = omega arith;
}
