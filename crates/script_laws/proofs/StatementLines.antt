-- Each statement begins with a token on its line.
use Rattle.std.proofs.Common.{◌≡◌, ◌≢◌, ℕ, ◌⊎◌, inl, inr, false, List, [], ◌∷◌, ◌++◌, Option, refl, sym, ◌∙◌, ap, ap₂}
use Rattle.std.proofs.Common.{subst, append_assoc, append-nil}
use Rattle.dt_tree.specs.declared.token.Placed.{Placed}
use Rattle.dt_tree.specs.declared.token.Sign as sign_type
use Rattle.dt_tree.specs.declared.token.Sign.TheVariants as sign
use Rattle.dt_tree.specs.declared.token.Token as token_type
use Rattle.dt_tree.specs.declared.token.Token.TheVariants as token
use Rattle.run_model.specs.GrammarTrees.{Word, Prefix, Not, Negate, Token, Name, Literal, Arrow, Is, Open, OpenSquare}
use Rattle.run_model.specs.GrammarTrees.{ShutSquare, Shut, Break, Tree, Brackets, Stmt}
use Rattle.run_model.specs.Grammar.{prefix_token, IsTarget, without, named, IsLeft, plain, arrow, IsExpr, higher, chain}
use Rattle.run_model.specs.Grammar.{unary, bracket, literal, var, call, paren, IsHead, bare, behind, IsLines, start}
use Rattle.run_model.specs.Grammar.{blank, line, IsScript, ended, open_end}
use Rattle.run_model.specs.TokenView.{plain_token, plain_tokens}
use Rattle.run_model.specs.TokenLaws.{HeadOnLine, BreaksLead}
use Rattle.run_model.specs.Tokens.{deeper}
use Rattle.script_laws.specs.Laws.{is_break, Begins}
use Rattle.script_laws.proofs.Depth.{passed_flat, flat_stmt, flat_part}

-- tokens that begin with one that is no break
record Led (ts : List Token) : Type 0 where
  x : Token
  xs : List Token
  same : ts ≡ x ∷ xs
  no_break : is_break x ≡ false

led_more : (us vs : List Token) → Led us → Led (us ++ vs)
led_more us vs l = record { x = l.x; xs = l.xs ++ vs; same = ap (λ z. z ++ vs) l.same; no_break = l.no_break }

led_prefix : (p : Prefix) (ts : List Token) → Led (prefix_token p ∷ ts)
led_prefix Not ts = record { x = prefix_token Not; xs = ts; same = refl; no_break = refl }
led_prefix Negate ts = record { x = prefix_token Negate; xs = ts; same = refl; no_break = refl }

mutual
  led : {k : ℕ} {ts : List Token} {t : Tree} → IsExpr k ts t → Led ts
  led (higher d) = led d
  led (chain {us = us} {vs} d e) = led_more us vs (led d)
  led (unary {ts} p d) = led_prefix p ts
  led (bracket {us} {vs} d e) = led_more us (OpenSquare ∷ (vs ++ ShutSquare ∷ [])) (led_head d)
  led (literal {v}) = record { x = Literal v; xs = []; same = refl; no_break = refl }
  led (var {x}) = record { x = Name x; xs = []; same = refl; no_break = refl }
  led (call {x} {ts} d) = record { x = Name x; xs = Open ∷ (ts ++ Shut ∷ []); same = refl; no_break = refl }
  led (paren {ts} d) = record { x = Open; xs = ts ++ Shut ∷ []; same = refl; no_break = refl }

  led_head : {ts : List Token} {t : Tree} {bs : Brackets} → IsHead ts t bs → Led ts
  led_head (bare d) = led d
  led_head (behind d) = led d

led_target : {vs ws : List Token} {o : Option Word} → IsTarget vs o → Led ws → Led (vs ++ ws)
led_target without l = l
led_target {ws = ws} (named {x}) l = record { x = Name x; xs = Is ∷ ws; same = refl; no_break = refl }

led_stmt : {vs ws : List Token} {o : Option Word} → IsLeft vs o → Led ws → Led (vs ++ ws)
led_stmt (plain d) l = led_target d l
led_stmt {ws = ws} (arrow {x}) l = record { x = Name x; xs = Arrow ∷ ws; same = refl; no_break = refl }

-- the tokens of a script in two parts
record Parted (us : List Placed) (xs ys : List Token) : Type 0 where
  front : List Placed
  rear : List Placed
  whole : us ≡ front ++ rear
  before : plain_tokens front ≡ xs
  behind : plain_tokens rear ≡ ys

parted : (xs ys : List Token) (us : List Placed) → plain_tokens us ≡ xs ++ ys → Parted us xs ys
parted [] ys us e = record { front = []; rear = us; whole = refl; before = refl; behind = e }
parted (x ∷ xs) ys [] e = absurd cc
parted (x ∷ xs) ys (u ∷ us) e =
    let h : plain_token u.token ≡ x = cc in
    let t : plain_tokens us ≡ xs ++ ys = cc in
    let p = parted xs ys us t in
    record {
      front = u ∷ p.front;
      rear = p.rear;
      whole = ap (λ z. u ∷ z) p.whole;
      before = ap₂ (λ y ys. y ∷ ys) h p.before;
      behind = p.behind;
    }

-- one token of a script
record Alone (us : List Placed) (x : Token) : Type 0 where
  u : Placed
  whole : us ≡ u ∷ []
  is : plain_token u.token ≡ x

alone : (us : List Placed) (x : Token) → plain_tokens us ≡ x ∷ [] → Alone us x
alone [] x e = absurd cc
alone (u ∷ []) x e = record { u = u; whole = refl; is = cc }
alone (u ∷ v ∷ us) x e = absurd cc

no_break_symbol : (s : sign_type.Sign) (n : ℕ) → plain_token (token.Sign s) ≢ Break n
no_break_symbol sign.In n e = cc
no_break_symbol sign.Div n e = cc
no_break_symbol sign.Mod n e = cc
no_break_symbol sign.Arrow n e = cc
no_break_symbol sign.Assign n e = cc
no_break_symbol sign.Eq n e = cc
no_break_symbol sign.Ne n e = cc
no_break_symbol sign.Le n e = cc
no_break_symbol sign.Ge n e = cc
no_break_symbol sign.Open n e = cc
no_break_symbol sign.Shut n e = cc
no_break_symbol sign.OpenSquare n e = cc
no_break_symbol sign.ShutSquare n e = cc
no_break_symbol sign.Comma n e = cc
no_break_symbol sign.Semi n e = cc
no_break_symbol sign.Plus n e = cc
no_break_symbol sign.Minus n e = cc
no_break_symbol sign.Times n e = cc
no_break_symbol sign.Lt n e = cc
no_break_symbol sign.Gt n e = cc
no_break_symbol sign.And n e = cc
no_break_symbol sign.Or n e = cc
no_break_symbol sign.Bang n e = cc
no_break_symbol sign.Range n e = cc
no_break_symbol sign.Tilde n e = cc
no_break_symbol sign.Is n e = cc

break_is : (u : token_type.Token) (n : ℕ) → plain_token u ≡ Break n → u ≡ token.Break n
break_is (token.Name x) n e = absurd cc
break_is (token.Word w) n e = absurd cc
break_is (token.Int i) n e = absurd cc
break_is (token.Chr s) n e = absurd cc
break_is (token.Sign s) n e = absurd (no_break_symbol s n e)
break_is (token.Break m) n e = let q : m ≡ n = cc in ap token.Break q

-- behind a break at which no bracket is open
behind_break : (v : Placed) (n : ℕ) (rest : List Placed) → plain_token v.token ≡ Break n → BreaksLead 0 (v ∷ rest)
    → HeadOnLine n rest × BreaksLead 0 rest
behind_break v n rest e b =
    let q = break_is v.token n e in
    (b.0 refl n q, subst (λ k. BreaksLead k rest) (ap (deeper 0) q) b.1)

-- what is said of the first tokens is said of all
wider : (us rest : List Placed) (before : List Stmt) (x : Stmt) → Begins us before x → Begins (us ++ rest) before x
wider us rest before x b = record {
  vs = b.vs;
  u = b.u;
  ws = b.ws ++ rest;
  split = ap (λ z. z ++ rest) b.split
      ∙ append_assoc b.vs (b.u ∷ b.ws) rest;
  behind = b.behind;
  begins = b.begins;
  line = b.line;
}

-- one more statement, and which of them is meant
no_split : (before after : List Stmt) (x : Stmt) → [] ≢ before ++ x ∷ after
no_split [] after x e = cc
no_split (y ∷ before) after x e = cc

push_split : (ss before after : List Stmt) (s x : Stmt) → ss ++ s ∷ [] ≡ before ++ x ∷ after → ((ss ≡ before) × (s ≡ x))
    ⊎ ((more : List Stmt) × (ss ≡ before ++ x ∷ more))
push_split [] [] after s x e = inl (refl, cc)
push_split [] (y ∷ before) after s x e = let q : [] ≡ before ++ x ∷ after = cc in absurd (no_split before after x q)
push_split (z ∷ ss) [] after s x e = let q : z ≡ x = cc in inr (ss, ap (λ y. y ∷ ss) q)
push_split (z ∷ ss) (y ∷ before) after s x e =
    let h : z ≡ y = cc in
    let t : ss ++ s ∷ [] ≡ before ++ x ∷ after = cc in
    elim (push_split ss before after s x t) [
      | inl r ↦ inl (ap₂ (λ a b. a ∷ b) h r.0, r.1)
      | inr r ↦ inr (r.0, ap₂ (λ a b. a ∷ b) h r.1)
    ]

-- each statement of some lines begins on its line
abbrev AllBegin : List Placed → List Stmt → Type 0
AllBegin us ss = (before after : List Stmt) (x : Stmt) → ss ≡ before ++ x ∷ after → Begins us before x

none_begin : (us : List Placed) → AllBegin us []
none_begin us before after x e = absurd (no_split before after x e)

-- the first token of a statement
stmt_begins : (front rear : List Placed) (ss : List Stmt) (s : Stmt) (ts : List Token)
    → IsLines (plain_tokens front) ss s.line → plain_tokens rear ≡ ts → Led ts → HeadOnLine s.line rear
    → Begins (front ++ rear) ss s
stmt_begins front [] ss s ts d e l h = absurd (let q = e ∙ l.same in cc)
stmt_begins front (u ∷ rear) ss s ts d e l h =
    let q : plain_token u.token ≡ l.x = (let p = e ∙ l.same in cc) in
    record { vs = front; u = u; ws = rear; split = refl; behind = d; begins = ap is_break q ∙ l.no_break; line = h }

more_begin : (front rear : List Placed) (ss : List Stmt) (s : Stmt) → AllBegin front ss → Begins (front ++ rear) ss s
    → AllBegin (front ++ rear) (ss ++ s ∷ [])
more_begin front rear ss s all b before after x e =
    elim (push_split ss before after s x e) [
      | inl r ↦ subst (λ z. Begins (front ++ rear) z x) r.0 (subst (λ z. Begins (front ++ rear) ss z) r.1 b)
      | inr r ↦ wider front rear before x (all before r.0 x r.1)
    ]

-- the first of some tokens and more is the first of those
head_of_both : (n : ℕ) (us rest : List Placed) (ts : List Token) → plain_tokens us ≡ ts → Led ts
    → HeadOnLine n (us ++ rest) → HeadOnLine n us
head_of_both n [] rest ts e l h = tt
head_of_both n (u ∷ us) rest ts e l h = h

record LinesLead (us rest : List Placed) (ss : List Stmt) (n : ℕ) : Type 0 where
  head : HeadOnLine n rest
  breaks : BreaksLead 0 rest
  all : AllBegin us ss

lines_lead : {ts : List Token} {ss : List Stmt} {n : ℕ} → IsLines ts ss n → (us rest : List Placed)
    → plain_tokens us ≡ ts → HeadOnLine 1 (us ++ rest) → BreaksLead 0 (us ++ rest) → LinesLead us rest ss n
lines_lead start [] rest e h b = record { head = h; breaks = b; all = none_begin [] }
lines_lead start (u ∷ us) rest e h b = absurd cc
lines_lead (blank {ts} {ss} {n} m d) us rest e h b =
    let p = parted ts (Break m ∷ []) us e in
    let v = alone p.rear (Break m) p.behind in
    let same : us ++ rest ≡ p.front ++ (v.u ∷ rest) = ap (λ z. z ++ rest) (p.whole ∙ ap (λ z. p.front ++ z) v.whole)
    ∙ append_assoc p.front (v.u ∷ []) rest in
    let l = lines_lead d p.front (v.u ∷ rest) p.before (subst (HeadOnLine 1) same h) (subst (BreaksLead 0) same b) in
    let next = behind_break v.u m rest v.is l.breaks in
    record {
      head = next.0;
      breaks = next.1;
      all = λ before after x q. subst (λ z. Begins z before x) (sym p.whole)
          (wider p.front p.rear before x (l.all before after x q));
    }
lines_lead (line {us = us0} {vs} {ws} {ss} {n} {o} {t} m d l e) us rest q h b =
    let p = parted us0 (vs ++ (ws ++ Break m ∷ [])) us q in
    let r = parted (vs ++ ws) (Break m ∷ []) p.rear (p.behind ∙ sym (append_assoc vs ws (Break m ∷ []))) in
    let v = alone r.rear (Break m) r.behind in
    let rear : p.rear ≡ r.front ++ v.u ∷ [] = r.whole ∙ ap (λ z. r.front ++ z) v.whole in
    let first_same : us ++ rest ≡ p.front ++ (p.rear ++ rest) = ap (λ z. z ++ rest) p.whole
    ∙ append_assoc p.front p.rear rest in
    let i = lines_lead d p.front (p.rear ++ rest) p.before (subst (HeadOnLine 1) first_same h)
    (subst (BreaksLead 0) first_same b) in
    let rest_same : p.rear ++ rest ≡ r.front ++ (v.u ∷ rest) = ap (λ z. z ++ rest) rear
    ∙ append_assoc r.front (v.u ∷ []) rest in
    let after_stmt = passed_flat r.front (v.u ∷ rest) 0 (flat_part r.front (vs ++ ws) r.before (flat_stmt l e))
    (subst (BreaksLead 0) rest_same i.breaks) in
    let next = behind_break v.u m rest v.is after_stmt in
    let s : Stmt = record { line = n; target = o; expr = t } in
    let begun = stmt_begins p.front p.rear ss s (vs ++ (ws ++ Break m ∷ []))
    (subst (λ z. IsLines z ss n) (sym p.before) d) p.behind (led_stmt l (led_more ws (Break m ∷ []) (led e)))
    (head_of_both n p.rear rest (vs ++ (ws ++ Break m ∷ [])) p.behind
    (led_stmt l (led_more ws (Break m ∷ []) (led e))) i.head) in
    record {
      head = next.0;
      breaks = next.1;
      all = subst (λ z. AllBegin z (ss ++ s ∷ [])) (sym p.whole) (more_begin p.front p.rear ss s i.all begun);
    }

pub script_leads : {ts : List Token} {ss : List Stmt} → IsScript ts ss → (us : List Placed) → plain_tokens us ≡ ts
    → HeadOnLine 1 us → BreaksLead 0 us → AllBegin us ss
script_leads (ended d) us e h b =
    let l = lines_lead d us [] e (subst (HeadOnLine 1) (sym (append-nil us)) h)
    (subst (BreaksLead 0) (sym (append-nil us)) b) in
    l.all
script_leads (open_end {us = us0} {vs} {ws} {ss} {n} {o} {t} d l e) us q h b =
    let p = parted us0 (vs ++ ws) us q in
    let i = lines_lead d p.front p.rear p.before (subst (HeadOnLine 1) p.whole h) (subst (BreaksLead 0) p.whole b) in
    let s : Stmt = record { line = n; target = o; expr = t } in
    let begun = stmt_begins p.front p.rear ss s (vs ++ ws) (subst (λ z. IsLines z ss n) (sym p.before) d) p.behind
    (led_stmt l (led e)) i.head in
    subst (λ z. AllBegin z (ss ++ s ∷ [])) (sym p.whole) (more_begin p.front p.rear ss s i.all begun)
