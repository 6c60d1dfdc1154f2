-- Each state can be completed, and what the machine refuses begins no script.
use Rattle.std.proofs.Common.{◌≡◌, cond, List, [], ◌∷◌, ◌++◌, Some, None, IfSome, option_and_then, refl, ◌∙◌, ap, subst}
use Rattle.std.proofs.Common.{codes}
use Rattle.std.proofs.Math.Dec.{leb-zero}
use Rattle.run_model.specs.GrammarTrees.{Null, Token, Name, Literal, Is, Shut, ShutSquare, Tree, Lit, Paren, Unary}
use Rattle.run_model.specs.GrammarTrees.{Chain, MoreTails, Call, Formula, MoreArgs, Assigns, Stmt}
use Rattle.run_model.specs.Grammar.{level, prefix_level, is_j, with_item, with_name, item_of, IsScript}
use Rattle.dt_grammar.specs.Machine.{query, Frame, Front, Left, InParen, InCall, InItem, InNamed, InAssign, InStmt}
use Rattle.dt_grammar.specs.Machine.{State, Want, Have, NeedName, NeedIs, NeedWord, HaveWords, close, shut, shut_square}
use Rattle.dt_grammar.specs.Machine.{step, run, init, last_stmt, finish, parsed}
use Rattle.run_model.specs.FirstFault.{IsViable}
use Rattle.dt_grammar.proofs.Opened.{Opened, Reached}
use Rattle.dt_grammar.proofs.Sound.{run_sound, init_reached, parsed_sound}
use Rattle.dt_grammar.proofs.TreesRead.{run-append}
use Rattle.dt_grammar.proofs.Complete.{parsed_complete}

-- the tokens that end what the frames have begun
abbrev closers : List Frame → List Token
closers [] = []
closers (Front p ∷ rest) = closers rest
closers (Left l tails op ∷ rest) = closers rest
closers (InParen ∷ rest) = Shut ∷ closers rest
closers (InCall x args o ∷ rest) = Shut ∷ closers rest
closers (InItem h f ∷ rest) = ShutSquare ∷ closers rest
closers (InNamed h f x ∷ rest) = ShutSquare ∷ closers rest
closers (InAssign h f l ∷ rest) = ShutSquare ∷ closers rest
closers (InStmt ss n o ∷ rest) = []

-- from here these tokens end a script
abbrev Ends : State → List Token → Type 0
Ends s ts = (ss : List Stmt) × (option_and_then finish (run s ts) ≡ Some ss)

ends_after : (s mid : State) (x : Token) (xs : List Token) → step s x ≡ Some mid → Ends mid xs → Ends s (x ∷ xs)
ends_after s mid x xs e h = (h.0, ap (λ r. option_and_then finish (option_and_then (λ next. run next xs) r)) e ∙ h.1)

closers_end : (frames : List Frame) (t : Tree) (ts : List Token) → Opened ts frames → (inner : List Frame) (last : Tree)
    → close 0 inner last ≡ close 0 frames t → Ends (Have inner last) (closers frames)
closers_end [] t ts o inner last e = absurd o
closers_end (Front p ∷ rest) t ts o inner last e =
    closers_end rest (Unary p t) o.0 o.3 inner last
    (e ∙ ap (λ b. cond b (close 0 rest (Unary p t)) (Front p ∷ rest, t)) (leb-zero (prefix_level p)))
closers_end (Left l tails op ∷ rest) t ts o inner last e = let u = Chain l (MoreTails tails op t) in
    closers_end rest u o.0 o.7 inner last (e
    ∙ ap (λ b. cond b (close 0 rest u) (Left l tails op ∷ rest, t)) (leb-zero (level op)))
closers_end (InParen ∷ rest) t ts o inner last e =
    ends_after (Have inner last) (Have rest (Paren t)) Shut (closers rest) (ap shut e)
    (closers_end rest (Paren t) o.0 o.2 rest (Paren t) refl)
closers_end (InCall x args n ∷ rest) t ts o inner last e = let u = Call x (MoreArgs args n t) in
    ends_after (Have inner last) (Have rest u) Shut (closers rest) (ap shut e) (closers_end rest u o.0 o.6 rest u refl)
closers_end (InItem h f ∷ rest) t ts o inner last e = let u = query h (with_item f (item_of (is_j f) t)) in
    ends_after (Have inner last) (Have rest u) ShutSquare (closers rest) (ap shut_square e)
    (closers_end rest u o.0 o.7 rest u refl)
closers_end (InNamed h f x ∷ rest) t ts o inner last e = let u = query h (with_name f x t) in
    ends_after (Have inner last) (Have rest u) ShutSquare (closers rest) (ap shut_square e)
    (closers_end rest u o.0 o.6 rest u refl)
closers_end (InAssign h f l ∷ rest) t ts o inner last e = let u = query h (with_item f (Assigns l t)) in
    ends_after (Have inner last) (Have rest u) ShutSquare (closers rest) (ap shut_square e)
    (closers_end rest u o.0 o.9 rest u refl)
closers_end (InStmt ss m n ∷ rest) t ts o inner last e =
    (ss ++ record { line = m; target = n; expr = t } ∷ [], ap last_stmt e)

have_ends : (ts : List Token) (frames : List Frame) (t : Tree) → Opened ts frames
    → Ends (Have frames t) (closers frames)
have_ends ts frames t o = closers_end frames t ts o frames t refl

completion : (ts : List Token) (s : State) → Reached ts s → (more : List Token) × Ends s more
completion ts (Want frames) o = (Literal Null ∷ closers frames, have_ends ts frames (Lit Null) o)
completion ts (Have frames t) r = (closers frames, have_ends r.0 frames t r.3)
completion ts (NeedName h f rest) r = (
  Name (codes "x") ∷ Is ∷ Literal Null ∷ ShutSquare ∷ closers rest,
  have_ends r.0 rest (query h (with_name f (codes "x") (Lit Null))) r.6,
)
completion ts (NeedIs h f x rest) r = (
  Is ∷ Literal Null ∷ ShutSquare ∷ closers rest,
  have_ends r.0 rest (query h (with_name f x (Lit Null))) r.6,
)
completion ts (NeedWord g args o xs ys rest) r = (
  Name (codes "x") ∷ Shut ∷ closers rest,
  have_ends r.2.0 rest (Call g (MoreArgs args o (Formula xs (ys ++ codes "x" ∷ [])))) r.2.8,
)
completion ts (HaveWords g args o xs ys rest) r =
    (Shut ∷ closers rest, have_ends r.2.0 rest (Call g (MoreArgs args o (Formula xs ys))) r.2.8)

pub spelled : (ts : List Token) (ss : List Stmt) → parsed ts ≡ Some ss → IsScript ts ss
spelled ts ss e = subst (λ r. IfSome r (IsScript ts)) e (parsed_sound ts)

reached : (ts : List Token) (s : State) → run init ts ≡ Some s → Reached ts s
reached ts s e = subst (λ r. IfSome r (Reached ts)) e (run_sound ts [] init init_reached)

-- what the machine has read begins a script
pub viable : (ts : List Token) (s : State) → run init ts ≡ Some s → IsViable ts
viable ts s e =
    let c = completion ts s (reached ts s e) in (
      c.0,
      c.1.0,
      spelled (ts ++ c.0) c.1.0 (ap (option_and_then finish)
          (run-append ts c.0 init ∙ ap (option_and_then (λ next. run next c.0)) e) ∙ c.1.1),
    )

-- what the machine doesn't read begins none
pub not_viable : (ts : List Token) → run init ts ≡ None → ¬ IsViable ts
not_viable ts e v =
    let p = parsed_complete v.2 in
    let q = ap (option_and_then finish) (run-append ts v.0 init ∙ ap (option_and_then (λ next. run next v.0)) e) in
    cc (p, q)

-- where the machine may not end there is no script
pub unfinished : (ts : List Token) (s : State) → run init ts ≡ Some s → finish s ≡ None → (ss : List Stmt)
    → ¬ IsScript ts ss
unfinished ts s e f ss d = cc (parsed_complete d, ap (option_and_then finish) e, f)
