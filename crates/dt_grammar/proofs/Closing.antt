-- A step behind an expression: an operator, the end of a bracket or an item, a break, an assignment.
use Rattle.std.proofs.Common.{◌≡◌, ℕ, suc, ◌≤◌, Bool, true, false, List, [], ◌∷◌, ◌++◌, Option, Some, None, IfSome}
use Rattle.std.proofs.Common.{option_map, refl, sym, ◌∙◌, ap, subst, append_assoc, append-nil, leb-true, nat_le, ◌==◌}
use Rattle.std.proofs.Common.{eqb-true}
use Rattle.dt_tree.specs.declared.tree.BinOp.{BinOp}
use Rattle.run_model.specs.GrammarTrees.{Prefix, Token, Name, Operator, Assign, Is, Open, Shut, OpenSquare, ShutSquare}
use Rattle.run_model.specs.GrammarTrees.{Comma, Break, Tree, Tails, MoreTails, Assigns}
use Rattle.run_model.specs.Grammar.{level, is_single, prefix_level, prefix_token, Filled, Nothing, UpToI, UpToJ, UpToBy}
use Rattle.run_model.specs.Grammar.{takes_unnamed, is_j, without, plain, IsExpr, higher, paren, call, bracket, IsTails}
use Rattle.run_model.specs.Grammar.{IsHead, expr, some, later, IsItem, value, assigns, IsItems, unnamed, with}
use Rattle.run_model.specs.Grammar.{comma as a_comma, line}
use Rattle.dt_grammar.specs.Machine.{Head, query, Frame, Left, InParen, InCall, InItem, InNamed, InAssign, InStmt, Have}
use Rattle.dt_grammar.specs.Machine.{NeedName, demand, front, begin_chain, extend_chain, infix_op, item_from, next_item}
use Rattle.dt_grammar.specs.Machine.{shut, item, shut_square, comma, break, assign}
use Rattle.dt_grammar.proofs.Opened.{Closes, Opened, Reached, by_test, tails_on}

pub front_sound : (ts : List Token) (p : Prefix) (frames : List Frame) → Opened ts frames
    → IfSome (front p frames) (Reached (ts ++ prefix_token p ∷ []))
front_sound ts p frames o =
    by_test (λ r. IfSome r (Reached (ts ++ prefix_token p ∷ []))) (nat_le (demand frames) (prefix_level p)) _ _
    (λ e. (ts, refl, leb-true _ _ e, o)) (λ e. tt)

begin_sound : (ts : List Token) (op : BinOp) (frames : List Frame) (t : Tree) → Closes ts (suc (level op)) (frames, t)
    → IfSome (begin_chain op frames t) (Reached (ts ++ Operator op ∷ []))
begin_sound ts op frames t c =
    by_test (λ r. IfSome r (Reached (ts ++ Operator op ∷ []))) (nat_le (demand frames) (level op)) _ _
    (λ e. (
      c.us,
      c.vs,
      [],
      ap (λ z. z ++ Operator op ∷ []) c.whole ∙ simp append_assoc,
      c.spelled,
      refl,
      leb-true _ _ e,
      c.opened,
    )) (λ e. tt)

extend_sound : (same single : Bool) (ts : List Token) (op : BinOp) (l : Tree) (tails : Tails) (o : BinOp)
    (rest : List Frame) (t : Tree) → (level o == level op) ≡ same → is_single op ≡ single
    → Closes ts (suc (level op)) (Left l tails o ∷ rest, t)
    → IfSome (extend_chain same single op l tails o rest t) (Reached (ts ++ Operator op ∷ []))
extend_sound true false ts op l tails o rest t e f c =
    let w = c.opened in
    let q : level o ≡ level op = eqb-true (level o) (level op) e in (
      w.0,
      w.1,
      w.2 ++ Operator o ∷ c.vs,
      ap (λ z. z ++ Operator op ∷ []) (c.whole ∙ ap (λ z. z ++ c.vs) w.3) ∙ simp append_assoc,
      subst (λ n. IsExpr (suc n) w.1 l) q w.4,
      (
        subst (λ n. IsTails n (w.2 ++ Operator o ∷ c.vs) (MoreTails tails o t)) q
            (tails_on w.2 c.vs tails o t w.5 (subst (λ n. IsExpr (suc n) c.vs t) (sym q) c.spelled)),
        f,
      ),
      subst (λ n. demand rest ≤ n) q w.6,
      w.7,
    )
extend_sound true true ts op l tails o rest t e f c = tt
extend_sound false _ ts op l tails o rest t e f c = begin_sound ts op (Left l tails o ∷ rest) t c

pub infix_sound : (ts : List Token) (op : BinOp) (frames : List Frame) (t : Tree)
    → Closes ts (suc (level op)) (frames, t) → IfSome (infix_op op (frames, t)) (Reached (ts ++ Operator op ∷ []))
infix_sound ts op (Left l tails o ∷ rest) t c =
    extend_sound (level o == level op) (is_single op) ts op l tails o rest t refl refl c
infix_sound ts op frames t c = begin_sound ts op frames t c

pub shut_sound : (ts : List Token) (frames : List Frame) (t : Tree) → Closes ts 0 (frames, t)
    → IfSome (shut (frames, t)) (Reached (ts ++ Shut ∷ []))
shut_sound ts (InParen ∷ rest) t c =
    let o = c.opened in (
      o.0,
      Open ∷ (c.vs ++ Shut ∷ []),
      ap (λ z. z ++ Shut ∷ []) (c.whole ∙ ap (λ z. z ++ c.vs) o.1) ∙ simp append_assoc,
      o.2,
      higher (paren c.spelled),
    )
shut_sound ts (InCall x args n ∷ rest) t c =
    let o = c.opened in (
      o.0,
      Name x ∷ Open ∷ ((o.1 ++ (o.2 ++ c.vs)) ++ Shut ∷ []),
      ap (λ z. z ++ Shut ∷ []) (c.whole ∙ ap (λ z. z ++ c.vs) o.3) ∙ simp append_assoc,
      o.6,
      higher (call (some o.4 o.5 (expr c.spelled))),
    )
shut_sound ts _ t c = tt

-- an item that has come, of the bracket that these frames are in
pub record ItemCame (ts : List Token) (rest : List Frame) (i : Head × Filled) : Type 0 where
  pub us : List Token
  pub hs : List Token
  pub vs : List Token
  pub whole : ts ≡ us ++ (hs ++ OpenSquare ∷ vs)
  pub head : IsHead hs i.0.tree i.0.brackets
  pub items : IsItems vs i.1
  pub opened : Opened us rest

j_takes : (f : Filled) → is_j f ≡ true → takes_unnamed f ≡ true
j_takes Nothing e = refl
j_takes (UpToI a) e = refl
j_takes (UpToJ a b) e = refl
j_takes (UpToBy a b c args) e = cc

pub item_sound : (ts : List Token) (f : Frame) (rest : List Frame) (t : Tree) → Closes ts 0 (f ∷ rest, t)
    → IfSome (item f t) (ItemCame ts rest)
item_sound ts (InItem h f) rest t c =
    let o = c.opened in
    record {
      us = o.0;
      hs = o.1;
      vs = o.2 ++ c.vs;
      whole = c.whole ∙ ap (λ z. z ++ c.vs) o.3 ∙ simp append_assoc;
      head = o.4;
      items = unnamed o.5 o.6 (value c.spelled);
      opened = o.7;
    }
item_sound ts (InNamed h f x) rest t c =
    let o = c.opened in
    record {
      us = o.0;
      hs = o.1;
      vs = o.2 ++ Name x ∷ Is ∷ c.vs;
      whole = c.whole ∙ ap (λ z. z ++ c.vs) o.3
          ∙ simp append_assoc;
      head = o.4;
      items = with x o.5 c.spelled;
      opened = o.6;
    }
item_sound ts (InAssign h f l) rest t c =
    let o = c.opened in
    record {
      us = o.0;
      hs = o.1;
      vs = o.2 ++ (o.3 ++ Assign ∷ c.vs);
      whole = c.whole ∙ ap (λ z. z ++ c.vs) o.4 ∙ simp append_assoc;
      head = o.5;
      items = unnamed o.6 (j_takes f o.8) (subst (λ b. IsItem b (o.3 ++ Assign ∷ c.vs) (Assigns l t)) (sym o.8)
          (assigns o.7 c.spelled));
      opened = o.9;
    }
item_sound ts _ rest t c = tt

pub came_shut : (ts : List Token) (rest : List Frame) (r : Option (Head × Filled)) → IfSome r (ItemCame ts rest)
    → IfSome (option_map (λ i. Have rest (query i.0 i.1)) r) (Reached (ts ++ ShutSquare ∷ []))
came_shut ts rest None h = tt
came_shut ts rest (Some i) h = (
  h.us,
  h.hs ++ OpenSquare ∷ (h.vs ++ ShutSquare ∷ []),
  ap (λ z. z ++ ShutSquare ∷ []) h.whole ∙ simp append_assoc,
  h.opened,
  bracket h.head h.items,
)

next_from : (b : Bool) (ts : List Token) (h : Head) (f : Filled) (rest : List Frame) → takes_unnamed f ≡ b
    → Reached ts (NeedName h f rest) → Reached ts (item_from b h f rest)
next_from true ts h f rest e r = (r.0, r.1, r.2, r.3, r.4, r.5, e, r.6)
next_from false ts h f rest e r = r

pub came_comma : (ts : List Token) (rest : List Frame) (r : Option (Head × Filled)) → IfSome r (ItemCame ts rest)
    → IfSome (option_map (λ i. next_item i.0 i.1 rest) r) (Reached (ts ++ Comma ∷ []))
came_comma ts rest None h = tt
came_comma ts rest (Some i) h = next_from (takes_unnamed i.1) (ts ++ Comma ∷ []) i.0 i.1 rest refl (
  h.us,
  h.hs,
  h.vs ++ Comma ∷ [],
  ap (λ z. z ++ Comma ∷ []) h.whole ∙ simp append_assoc,
  h.head,
  a_comma h.items,
  h.opened,
)

pub shut_square_sound : (ts : List Token) (frames : List Frame) (t : Tree) → Closes ts 0 (frames, t)
    → IfSome (shut_square (frames, t)) (Reached (ts ++ ShutSquare ∷ []))
shut_square_sound ts [] t c = tt
shut_square_sound ts (f ∷ rest) t c = came_shut ts rest (item f t) (item_sound ts f rest t c)

pub comma_sound : (ts : List Token) (frames : List Frame) (t : Tree) → Closes ts 0 (frames, t)
    → IfSome (comma (frames, t)) (Reached (ts ++ Comma ∷ []))
comma_sound ts (InCall x args n ∷ rest) t c =
    let o = c.opened in (
      o.0,
      (o.1 ++ (o.2 ++ c.vs)) ++ Comma ∷ [],
      [],
      ap (λ z. z ++ Comma ∷ []) (c.whole ∙ ap (λ z. z ++ c.vs) o.3)
          ∙ simp (append_assoc, append-nil),
      later (some o.4 o.5 (expr c.spelled)),
      without,
      o.6,
    )
comma_sound ts [] t c = tt
comma_sound ts (f ∷ rest) t c = came_comma ts rest (item f t) (item_sound ts f rest t c)

pub break_sound : (ts : List Token) (m : ℕ) (frames : List Frame) (t : Tree) → Closes ts 0 (frames, t)
    → IfSome (break m (frames, t)) (Reached (ts ++ Break m ∷ []))
break_sound ts m (InStmt ss n v ∷ rest) t c =
    let o = c.opened in (
      o.0 ++ (o.1 ++ (c.vs ++ Break m ∷ [])),
      [],
      ap (λ z. z ++ Break m ∷ []) (c.whole ∙ ap (λ z. z ++ c.vs) o.2)
          ∙ simp (append_assoc, append-nil),
      line m o.3 o.4 c.spelled,
      plain without,
      o.5,
    )
break_sound ts m _ t c = tt

pub assign_sound : (ts : List Token) (frames : List Frame) (t : Tree) → Closes ts 0 (frames, t)
    → IfSome (assign (frames, t)) (Reached (ts ++ Assign ∷ []))
assign_sound ts (InItem h f ∷ rest) t c =
    let o = c.opened in
    by_test (λ r. IfSome r (Reached (ts ++ Assign ∷ []))) (is_j f) _ _
    (λ e. (
      o.0,
      o.1,
      o.2,
      c.vs,
      ap (λ z. z ++ Assign ∷ []) (c.whole ∙ ap (λ z. z ++ c.vs) o.3) ∙ simp append_assoc,
      o.4,
      o.5,
      c.spelled,
      e,
      o.7,
    )) (λ e. tt)
assign_sound ts _ t c = tt
