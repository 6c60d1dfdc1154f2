-- What the machine has read is what its state says.
use Rattle.std.proofs.Common.{◌≡◌, ℕ, suc, ◌≤◌, List, [], ◌∷◌, ◌++◌, Option, Some, None, IfSome, option_and_then}
use Rattle.std.proofs.Common.{option_map, refl, sym, ◌∙◌, ap, ap₂, subst, arith, append_assoc, append-nil}
use Rattle.dt_base.specs.declared.operators.Op.TheVariants.{Add, Sub}
use Rattle.dt_tree.specs.declared.tree.BinOp.{BinOp}
use Rattle.dt_tree.specs.declared.tree.BinOp.TheVariants.{Arith}
use Rattle.run_model.specs.GrammarTrees.{Word, Prefix, Not, Negate, Token, Name, Literal, Operator, Bang, Tilde, Assign}
use Rattle.run_model.specs.GrammarTrees.{Arrow, Is, Open, Shut, OpenSquare, ShutSquare, Comma, Break, Tree, Var, Chain}
use Rattle.run_model.specs.GrammarTrees.{Tails, NoTails, MoreTails, Formula, Args, NoArgs, MoreArgs, Absent}
use Rattle.run_model.specs.Grammar.{level, prefix_level, post, Filled, with_item, IsTarget, without, named, IsLeft}
use Rattle.run_model.specs.Grammar.{plain, arrow, IsNames, name, names, IsExpr, higher, chain, unary, literal, var}
use Rattle.run_model.specs.Grammar.{paren, call, bracket, IsTails, one, again, expr, formula, IsArgs, none, some}
use Rattle.run_model.specs.Grammar.{IsBefore, first, later, empty, unnamed, begin, start, blank, line, IsScript, ended}
use Rattle.run_model.specs.Grammar.{open_end}
use Rattle.dt_grammar.specs.Machine.{Head, Frame, Front, Left, InCall, InItem, InStmt, State, Want, Have, NeedName}
use Rattle.dt_grammar.specs.Machine.{NeedIs, NeedWord, HaveWords, demand, close, tail_names, shut_none}
use Rattle.dt_grammar.specs.Machine.{shut_square_none, comma_none, break_none, names_of, tilde, opens, name_top, naming}
use Rattle.dt_grammar.specs.Machine.{arrow_top, step, run, init, last_stmt, finish, parsed}
use Rattle.dt_grammar.proofs.Opened.{Closes, IsWordsBefore, Opened, Reached, WordsOpened, close_sound, head_sound}
use Rattle.dt_grammar.proofs.Opened.{level_low, prefix_top}
use Rattle.dt_grammar.proofs.Closing.{ItemCame, assign_sound, break_sound, came_comma, came_shut, comma_sound}
use Rattle.dt_grammar.proofs.Closing.{front_sound, infix_sound, shut_sound, shut_square_sound}

-- a bare name has one token
var_from : {k : ℕ} {vs : List Token} {t : Tree} → IsExpr k vs t → (x : Word) → t ≡ Var x → vs ≡ Name x ∷ []
var_from (higher d) x e = var_from d x e
var_from (chain d d') x e = absurd cc
var_from (unary p d) x e = absurd cc
var_from literal x e = absurd cc
var_from var x e = cc
var_from (paren d) x e = absurd cc
var_from (call d) x e = absurd cc
var_from (bracket d d') x e = absurd cc

pub var_tokens : {k : ℕ} {vs : List Token} {x : Word} → IsExpr k vs (Var x) → vs ≡ Name x ∷ []
var_tokens {x = x} d = var_from d x refl

-- the names of a sum of bare names are what it spells
some_map : {A B : Type 0} (f : A → B) (r : Option A) (y : B) → option_map f r ≡ Some y → (x : A)
    × (r ≡ Some x) × (f x ≡ y)
some_map f None y e = absurd cc
some_map f (Some x) y e = (x, refl, cc)

record LastName (rest : Tails) (op : BinOp) (vs : List Token) (xs : List Word) : Type 0 where
  before : List Word
  last : Word
  so : tail_names rest ≡ Some before
  tokens : Operator op ∷ vs ≡ Operator (Arith Add) ∷ Name last ∷ []
  same : before ++ last ∷ [] ≡ xs

last_name : (rest : Tails) (op : BinOp) (r : Tree) (vs : List Token) (k : ℕ) (xs : List Word) → IsExpr k vs r
    → tail_names (MoreTails rest op r) ≡ Some xs → LastName rest op vs xs
last_name rest (Arith Add) (Var x) vs k xs d e =
    let q = some_map (λ ys. ys ++ x ∷ []) (tail_names rest) xs e in
    record { before = q.0; last = x; so = q.1; tokens = ap (λ z. Operator (Arith Add) ∷ z) (var_tokens d); same = q.2 }
last_name rest op r vs k xs d e = absurd cc

tails_names : {k : ℕ} {vs : List Token} {tails : Tails} → IsTails k vs tails → (us : List Token) (ys xs : List Word)
    → IsNames us ys → tail_names tails ≡ Some xs → IsNames (us ++ vs) (ys ++ xs)
tails_names (one {vs} {r} op d) us ys xs n e =
    let l = last_name NoTails op r vs (suc (level op)) xs d e in
    let none_before : [] ≡ l.before = (let same : Some [] ≡ Some l.before = l.so in cc) in
    let q : l.last ∷ [] ≡ xs = ap (λ z. z ++ l.last ∷ []) none_before ∙ l.same in
    subst (λ z. IsNames (us ++ z) (ys ++ xs)) (sym l.tokens)
    (subst (λ z. IsNames (us ++ Operator (Arith Add) ∷ Name l.last ∷ []) (ys ++ z)) q (names l.last n))
tails_names (again {k} {us = ms} {vs} {rest} {r} op d same single d') us ys xs n e =
    let l = last_name rest op r vs (suc k) xs d' e in
    let before = tails_names d us ys l.before n l.so in
    subst (λ z. IsNames z (ys ++ xs)) (append_assoc us ms (Operator op ∷ vs))
    (subst (λ z. IsNames ((us ++ ms) ++ z) (ys ++ xs)) (sym l.tokens)
    (subst (λ z. IsNames ((us ++ ms) ++ Operator (Arith Add) ∷ Name l.last ∷ []) z)
    (append_assoc ys l.before (l.last ∷ []) ∙ ap (λ z. ys ++ z) l.same) (names l.last before)))

chain_names : (us vs : List Token) (l : Tree) (rest : Tails) (k j : ℕ) (xs : List Word) → IsExpr k us l
    → IsTails j vs rest → names_of (Chain l rest) ≡ Some xs → IsNames (us ++ vs) xs
chain_names us vs (Var x) rest k j xs d d' e =
    let q = some_map (λ ys. (x ∷ []) ++ ys) (tail_names rest) xs e in
    subst (λ z. IsNames (z ++ vs) xs) (sym (var_tokens d))
    (subst (λ z. IsNames ((Name x ∷ []) ++ vs) z) q.2 (tails_names d' (Name x ∷ []) (x ∷ []) q.0 name q.1))
chain_names us vs l rest k j xs d d' e = absurd cc

pub names_sound : {k : ℕ} {vs : List Token} {t : Tree} → IsExpr k vs t → (xs : List Word) → names_of t ≡ Some xs
    → IsNames vs xs
names_sound (higher d) xs e = names_sound d xs e
names_sound (chain {k} {us} {vs} {t} {rest} d d') xs e = chain_names us vs t rest (suc k) k xs d d' e
names_sound (unary p d) xs e = absurd cc
names_sound literal xs e = absurd cc
names_sound (var {x}) xs e = let q : x ∷ [] ≡ xs = cc in subst (λ z. IsNames (Name x ∷ []) z) q name
names_sound (paren d) xs e = absurd cc
names_sound (call d) xs e = absurd cc
names_sound (bracket d d') xs e = absurd cc

tilde_from : (ts : List Token) (x : Word) (args : Args) (o : Option Word) (rest : List Frame) (r : Option (List Word))
    → ((xs : List Word) → r ≡ Some xs → Reached (ts ++ Tilde ∷ []) (NeedWord x args o xs [] rest))
    → IfSome (option_map (λ xs. NeedWord x args o xs [] rest) r) (Reached (ts ++ Tilde ∷ []))
tilde_from ts x args o rest None f = tt
tilde_from ts x args o rest (Some xs) f = f xs refl

pub tilde_sound : (ts : List Token) (frames : List Frame) (t : Tree) → Closes ts 0 (frames, t)
    → IfSome (tilde (frames, t)) (Reached (ts ++ Tilde ∷ []))
tilde_sound ts (InCall x args n ∷ rest) t c =
    let o = c.opened in
    tilde_from ts x args n rest (names_of t)
    (λ xs e. (
      [],
      refl,
      (
        o.0,
        o.1,
        o.2,
        c.vs,
        ap (λ z. z ++ Tilde ∷ []) (c.whole ∙ ap (λ z. z ++ c.vs) o.3)
            ∙ simp append_assoc,
        o.4,
        o.5,
        names_sound c.spelled xs e,
        o.6,
      ),
    ))
tilde_sound ts _ t c = tt

no_target : {ts : List Token} → IsTarget ts None → ts ≡ []
no_target without = refl

no_left : {ts : List Token} → IsLeft ts None → ts ≡ []
no_left (plain d) = no_target d

no_args : {ts : List Token} → IsBefore ts NoArgs → ts ≡ []
no_args first = refl

pub opens_sound : (ts : List Token) (frames : List Frame) (t : Tree) → Reached ts (Have frames t)
    → IfSome (opens frames t) (Reached (ts ++ Open ∷ []))
opens_sound ts frames (Var x) r = (
  r.0,
  [],
  [],
  ap (λ z. z ++ Open ∷ []) (r.2 ∙ ap (λ z. r.0 ++ z) (var_tokens r.4)) ∙ simp append_assoc,
  first,
  without,
  r.3,
)
opens_sound ts frames _ r = tt

name_top_sound : (ts : List Token) (frames : List Frame) (x : Word) → Reached ts (Have frames (Var x))
    → IfSome (name_top frames x) (Reached (ts ++ Is ∷ []))
name_top_sound ts (InCall f args None ∷ rest) x r =
    let o = r.3 in (
      o.0,
      o.1,
      Name x ∷ Is ∷ [],
      ap (λ z. z ++ Is ∷ [])
          (r.2 ∙ ap₂ ◌++◌ (o.3 ∙ ap (λ z. o.0 ++ (Name f ∷ Open ∷ (o.1 ++ z))) (no_target o.5)) (var_tokens r.4))
          ∙ simp (append_assoc, append-nil),
      o.4,
      named,
      o.6,
    )
name_top_sound ts (InItem h f ∷ rest) x r =
    let o = r.3 in
    (o.0, o.1, o.2, ap (λ z. z ++ Is ∷ []) (r.2 ∙ ap₂ ◌++◌ o.3 (var_tokens r.4)) ∙ simp append_assoc, o.4, o.5, o.7)
name_top_sound ts (InStmt ss n None ∷ rest) x r =
    let o = r.3 in (
      o.0,
      Name x ∷ Is ∷ [],
      ap (λ z. z ++ Is ∷ [])
          (r.2 ∙ ap₂ ◌++◌ (o.2 ∙ ap (λ z. o.0 ++ z) (no_left o.4)) (var_tokens r.4)) ∙ simp (append_assoc, append-nil),
      o.3,
      plain named,
      o.5,
    )
name_top_sound ts _ x r = tt

pub naming_sound : (ts : List Token) (frames : List Frame) (t : Tree) → Reached ts (Have frames t)
    → IfSome (naming frames t) (Reached (ts ++ Is ∷ []))
naming_sound ts frames (Var x) r = name_top_sound ts frames x r
naming_sound ts frames _ r = tt

pub arrow_sound : (ts : List Token) (frames : List Frame) (t : Tree) → Reached ts (Have frames t)
    → IfSome (arrow_top frames t) (Reached (ts ++ Arrow ∷ []))
arrow_sound ts (InStmt ss n None ∷ rest) (Var x) r =
    let o = r.3 in (
      o.0,
      Name x ∷ Arrow ∷ [],
      ap (λ z. z ++ Arrow ∷ [])
          (r.2 ∙ ap₂ ◌++◌ (o.2 ∙ ap (λ z. o.0 ++ z) (no_left o.4)) (var_tokens r.4)) ∙ simp (append_assoc, append-nil),
      o.3,
      arrow,
      o.5,
    )
arrow_sound ts _ _ r = tt

pub shut_none_sound : (ts : List Token) (frames : List Frame) → Opened ts frames
    → IfSome (shut_none frames) (Reached (ts ++ Shut ∷ []))
shut_none_sound ts (InCall x NoArgs None ∷ rest) o = (
  o.0,
  Name x ∷ Open ∷ Shut ∷ [],
  ap (λ z. z ++ Shut ∷ [])
      (o.3 ∙ ap₂ (λ y z. o.0 ++ (Name x ∷ Open ∷ (y ++ z))) (no_args o.4) (no_target o.5)) ∙ simp append_assoc,
  o.6,
  higher (call none),
)
shut_none_sound ts _ o = tt

empty_came : (ts : List Token) (h : Head) (f : Filled) (rest : List Frame) → Opened ts (InItem h f ∷ rest)
    → ItemCame ts rest (h, with_item f Absent)
empty_came ts h f rest o = record {
  us = o.0;
  hs = o.1;
  vs = o.2 ++ [];
  whole = o.3 ∙ simp append-nil;
  head = o.4;
  items = unnamed o.5 o.6 empty;
  opened = o.7;
}

pub shut_square_none_sound : (ts : List Token) (frames : List Frame) → Opened ts frames
    → IfSome (shut_square_none frames) (Reached (ts ++ ShutSquare ∷ []))
shut_square_none_sound ts (InItem h f ∷ rest) o =
    came_shut ts rest (Some (h, with_item f Absent)) (empty_came ts h f rest o)
shut_square_none_sound ts _ o = tt

pub comma_none_sound : (ts : List Token) (frames : List Frame) → Opened ts frames
    → IfSome (comma_none frames) (Reached (ts ++ Comma ∷ []))
comma_none_sound ts (InItem h f ∷ rest) o = came_comma ts rest (Some (h, with_item f Absent)) (empty_came ts h f rest o)
comma_none_sound ts _ o = tt

pub break_none_sound : (ts : List Token) (m : ℕ) (frames : List Frame) → Opened ts frames
    → IfSome (break_none m frames) (Reached (ts ++ Break m ∷ []))
break_none_sound ts m (InStmt ss n None ∷ rest) o = (
  o.0 ++ Break m ∷ [],
  [],
  ap (λ z. z ++ Break m ∷ []) (o.2 ∙ ap (λ z. o.0 ++ z) (no_left o.4))
      ∙ simp (append_assoc, append-nil),
  blank m o.3,
  plain without,
  o.5,
)
break_none_sound ts m _ o = tt

words_on : (ts : List Token) (g : Word) (args : Args) (o : Option Word) (xs : List Word) (ns more : List Token)
    (rest : List Frame) → WordsOpened ts g args o xs ns rest → WordsOpened (ts ++ more) g args o xs (ns ++ more) rest
words_on ts g args o xs ns more rest w =
    (w.0, w.1, w.2, w.3, ap (λ z. z ++ more) w.4 ∙ simp append_assoc, w.5, w.6, w.7, w.8)

word_next : (ns : List Token) (ys : List Word) (y : Word) → IsWordsBefore ns ys
    → IsNames (ns ++ Name y ∷ []) (ys ++ y ∷ [])
word_next ns [] y h = subst (λ z. IsNames (z ++ Name y ∷ []) (y ∷ [])) (sym h) name
word_next ns (x ∷ ys) y h = subst (λ z. IsNames z ((x ∷ ys) ++ y ∷ []))
    (sym (ap (λ z. z ++ Name y ∷ []) h.1 ∙ simp append_assoc)) (names y h.2)

push_not_nil : {A : Type 0} (xs : List A) (x : A) → xs ++ x ∷ [] ≡ [] → ⊥
push_not_nil [] x e = cc
push_not_nil (y ∷ xs) x e = cc

no_names_from : {ns : List Token} {ys : List Word} → IsNames ns ys → ys ≡ [] → ⊥
no_names_from name e = cc
no_names_from (names {ts} {xs} x d) e = push_not_nil xs x e

no_names : {ns : List Token} → IsNames ns [] → ⊥
no_names d = no_names_from d refl

words_before : (ns : List Token) (ys : List Word) → IsNames ns ys → IsWordsBefore (ns ++ Operator (Arith Add) ∷ []) ys
words_before ns [] d = absurd (no_names d)
words_before ns (y ∷ ys) d = (ns, refl, d)

words_came : (ts : List Token) (g : Word) (args : Args) (o : Option Word) (xs ys : List Word) (ns : List Token)
    (rest : List Frame) → IsNames ns ys → WordsOpened ts g args o xs ns rest → (us : List Token) × (vs : List Token)
    × (ts ≡ us ++ (Name g ∷ Open ∷ vs)) × IsArgs vs (MoreArgs args o (Formula xs ys)) × Opened us rest
words_came ts g args o xs ys ns rest d w =
    (w.0, w.1 ++ (w.2 ++ (w.3 ++ Tilde ∷ ns)), w.4, some w.5 w.6 (formula w.7 d), w.8)

-- what is read is one token longer
pub closed_sound : (k : ℕ) (ts : List Token) (frames : List Frame) (t : Tree) → k ≤ post → demand frames ≤ post
    → Reached ts (Have frames t) → Closes ts k (close k frames t)
closed_sound k ts frames t le dem r =
    subst (λ z. Closes z k (close k frames t)) (sym r.2) (close_sound frames k post r.0 r.1 t r.3 r.4 dem le)

prefix_low : (p : Prefix) → suc (prefix_level p) ≤ post
prefix_low p = let h = prefix_top p in omega arith

pub demand_low : (frames : List Frame) → demand frames ≤ post
demand_low (Front p ∷ rest) = prefix_low p
demand_low (Left l tails op ∷ rest) = level_low op
demand_low _ = omega arith

pub all_closed : (ts : List Token) (frames : List Frame) (t : Tree) → Reached ts (Have frames t)
    → Closes ts 0 (close 0 frames t)
all_closed ts frames t r = closed_sound 0 ts frames t (omega arith) (demand_low frames) r

pub step_sound : (ts : List Token) (s : State) (x : Token) → Reached ts s → IfSome (step s x) (Reached (ts ++ x ∷ []))
step_sound ts (Want frames) (Literal v) o = (ts, Literal v ∷ [], refl, o, higher literal)
step_sound ts (Want frames) (Name x) o = (ts, Name x ∷ [], refl, o, higher var)
step_sound ts (Want frames) (Operator (Arith Sub)) o = front_sound ts Negate frames o
step_sound ts (Want frames) Bang o = front_sound ts Not frames o
step_sound ts (Want frames) Open o = (ts, refl, o)
step_sound ts (Want frames) Shut o = shut_none_sound ts frames o
step_sound ts (Want frames) ShutSquare o = shut_square_none_sound ts frames o
step_sound ts (Want frames) Comma o = comma_none_sound ts frames o
step_sound ts (Want frames) (Break m) o = break_none_sound ts m frames o
step_sound ts (Want frames) _ o = tt
step_sound ts (Have frames t) (Operator op) r =
    infix_sound ts op (close (suc (level op)) frames t).0 (close (suc (level op)) frames t).1
    (closed_sound (suc (level op)) ts frames t (level_low op) (demand_low frames) r)
step_sound ts (Have frames t) Open r = opens_sound ts frames t r
step_sound ts (Have frames t) OpenSquare r =
    (r.0, r.1, [], ap (λ z. z ++ OpenSquare ∷ []) r.2 ∙ simp append_assoc, head_sound t r.4, begin, refl, r.3)
step_sound ts (Have frames t) Is r = naming_sound ts frames t r
step_sound ts (Have frames t) Arrow r = arrow_sound ts frames t r
step_sound ts (Have frames t) Shut r = shut_sound ts (close 0 frames t).0 (close 0 frames t).1
    (all_closed ts frames t r)
step_sound ts (Have frames t) ShutSquare r =
    shut_square_sound ts (close 0 frames t).0 (close 0 frames t).1 (all_closed ts frames t r)
step_sound ts (Have frames t) Comma r = comma_sound ts (close 0 frames t).0 (close 0 frames t).1
    (all_closed ts frames t r)
step_sound ts (Have frames t) (Break m) r =
    break_sound ts m (close 0 frames t).0 (close 0 frames t).1 (all_closed ts frames t r)
step_sound ts (Have frames t) Assign r =
    assign_sound ts (close 0 frames t).0 (close 0 frames t).1 (all_closed ts frames t r)
step_sound ts (Have frames t) Tilde r = tilde_sound ts (close 0 frames t).0 (close 0 frames t).1
    (all_closed ts frames t r)
step_sound ts (Have frames t) _ r = tt
step_sound ts (NeedName h f rest) (Name x) r =
    (r.0, r.1, r.2, ap (λ z. z ++ Name x ∷ []) r.3 ∙ simp append_assoc, r.4, r.5, r.6)
step_sound ts (NeedName h f rest) _ r = tt
step_sound ts (NeedIs h f x rest) Is r = (r.0, r.1, r.2, ap (λ z. z ++ Is ∷ []) r.3 ∙ simp append_assoc, r.4, r.5, r.6)
step_sound ts (NeedIs h f x rest) _ r = tt
step_sound ts (NeedWord g args o xs ys rest) (Name y) r =
    let w = words_on ts g args o xs r.0 (Name y ∷ []) rest r.2 in
    (r.0 ++ Name y ∷ [], word_next r.0 ys y r.1, w)
step_sound ts (NeedWord g args o xs ys rest) _ r = tt
step_sound ts (HaveWords g args o xs ys rest) (Operator (Arith Add)) r =
    let w = words_on ts g args o xs r.0 (Operator (Arith Add) ∷ []) rest r.2 in
    (r.0 ++ Operator (Arith Add) ∷ [], words_before r.0 ys r.1, w)
step_sound ts (HaveWords g args o xs ys rest) Shut r =
    let w = words_came ts g args o xs ys r.0 rest r.1 r.2 in
    (w.0, Name g ∷ Open ∷ (w.1 ++ Shut ∷ []), ap (λ z. z ++ Shut ∷ []) w.2 ∙ simp append_assoc, w.4, higher (call w.3))
step_sound ts (HaveWords g args o xs ys rest) Comma r =
    let w = words_came ts g args o xs ys r.0 rest r.1 r.2 in (
      w.0,
      w.1 ++ Comma ∷ [],
      [],
      ap (λ z. z ++ Comma ∷ []) w.2 ∙ simp (append_assoc, append-nil),
      later w.3,
      without,
      w.4,
    )
step_sound ts (HaveWords g args o xs ys rest) _ r = tt

run_from : (r : Option State) (ts xs : List Token) → IfSome r (Reached ts)
    → ((s : State) → Reached ts s → IfSome (run s xs) (Reached (ts ++ xs)))
    → IfSome (option_and_then (λ next. run next xs) r) (Reached (ts ++ xs))
run_from None ts xs h f = tt
run_from (Some s) ts xs h f = f s h

pub run_sound : (xs ts : List Token) (s : State) → Reached ts s → IfSome (run s xs) (Reached (ts ++ xs))
run_sound [] ts s r = subst (λ z. Reached z s) (sym (append-nil ts)) r
run_sound (x ∷ xs) ts s r =
    subst (λ z. IfSome (option_and_then (λ next. run next xs) (step s x)) (Reached z)) (append_assoc ts (x ∷ []) xs)
    (run_from (step s x) (ts ++ x ∷ []) xs (step_sound ts s x r) (λ next h. run_sound xs (ts ++ x ∷ []) next h))

last_sound : (ts : List Token) (frames : List Frame) (t : Tree) → Closes ts 0 (frames, t)
    → IfSome (last_stmt (frames, t)) (IsScript ts)
last_sound ts (InStmt ss m n ∷ rest) t c =
    let o = c.opened in
    subst (λ z. IsScript z (ss ++ record { line = m; target = n; expr = t } ∷ []))
    (sym (c.whole ∙ ap (λ z. z ++ c.vs) o.2 ∙ append_assoc o.0 o.1 c.vs)) (open_end o.3 o.4 c.spelled)
last_sound ts _ t c = tt

pub finish_sound : (ts : List Token) (s : State) → Reached ts s → IfSome (finish s) (IsScript ts)
finish_sound ts (Want (InStmt ss n None ∷ rest)) o =
    subst (λ z. IsScript z ss) (sym (o.2 ∙ ap (λ z. o.0 ++ z) (no_left o.4) ∙ append-nil o.0)) (ended o.3)
finish_sound ts (Have frames t) r = last_sound ts (close 0 frames t).0 (close 0 frames t).1 (all_closed ts frames t r)
finish_sound ts _ o = tt

pub init_reached : Reached [] init
init_reached = ([], [], refl, start, plain without, refl)

parsed_from : (ts : List Token) (r : Option State) → IfSome r (Reached ts)
    → IfSome (option_and_then finish r) (IsScript ts)
parsed_from ts None h = tt
parsed_from ts (Some s) h = finish_sound ts s h

-- what the machine parses is spelled so
pub parsed_sound : (ts : List Token) → IfSome (parsed ts) (IsScript ts)
parsed_sound ts = parsed_from ts (run init ts) (run_sound ts [] init init_reached)
