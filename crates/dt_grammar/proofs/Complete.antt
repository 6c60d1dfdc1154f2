-- What the grammar spells, the machine reads.
use Rattle.std.proofs.Common.{◌≡◌, ℕ, suc, ◌≤◌, Bool, true, List, [], ◌∷◌, ◌++◌, Option, Some, None, option_and_then}
use Rattle.std.proofs.Common.{option_map, refl, ◌∙◌, ap, subst, arith, append_assoc}
use Rattle.run_model.specs.GrammarTrees.{Word, Token, Name, Literal, Operator, Tilde, Assign, Is, Open, Shut}
use Rattle.run_model.specs.GrammarTrees.{OpenSquare, ShutSquare, Comma, Break, Tree, Lit, Var, Paren, Tails, NoTails}
use Rattle.run_model.specs.GrammarTrees.{MoreTails, Call, Query, Formula, Args, NoArgs, MoreArgs, Item, Absent, Assigns}
use Rattle.run_model.specs.GrammarTrees.{Brackets, NoBrackets, Stmt}
use Rattle.run_model.specs.Grammar.{level, post, prim, Filled, Nothing, UpToI, UpToJ, UpToBy, takes_unnamed, is_j}
use Rattle.run_model.specs.Grammar.{with_item, with_name, item_of, IsTarget, without, named, IsLeft, plain, arrow}
use Rattle.run_model.specs.Grammar.{IsNames, IsExpr, higher, chain, unary, literal, var, paren, call, bracket, IsTails}
use Rattle.run_model.specs.Grammar.{one, again, IsHead, bare, behind, IsArg, expr, formula, IsArgs, none, some}
use Rattle.run_model.specs.Grammar.{IsBefore, first, later, IsItem, empty, value, assigns, IsItems, unnamed, with}
use Rattle.run_model.specs.Grammar.{IsFilled, begin, comma as a_comma, IsLines, start, blank, line, IsScript, ended}
use Rattle.run_model.specs.Grammar.{open_end}
use Rattle.dt_grammar.proofs.Sound.{demand_low}
use Rattle.dt_grammar.specs.Machine.{Head, head_of, query, Frame, Front, Left, InParen, InCall, InItem, InNamed}
use Rattle.dt_grammar.specs.Machine.{InAssign, InStmt, State, Want, Have, NeedWord, HaveWords, demand, close, item_from}
use Rattle.dt_grammar.specs.Machine.{next_item, shut, item, shut_square, comma, break, assign, names_of, tilde, step}
use Rattle.dt_grammar.specs.Machine.{run, init, last_stmt, finish, parsed}
use Rattle.dt_grammar.proofs.TreesRead.{Reads, ReadsChain, cond_true, le_suc, read_chain, read_first, read_higher}
use Rattle.dt_grammar.proofs.TreesRead.{read_lower, read_next, read_paren, read_tail, read_then, read_unary, read_whole}
use Rattle.dt_grammar.proofs.TreesRead.{read_words, run_cons, run_snoc, run_then, summed, whole}

-- Arguments: from the opening parenthesis on, and what may follow.
pub record ReadsArgs (frames : List Frame) (g : Word) (ts : List Token) (args : Args) : Type 0 where
  pub state : State
  pub goes : run (Want (InCall g NoArgs None ∷ frames)) ts ≡ Some state
  pub shuts : step state Shut ≡ Some (Have frames (Call g args))
  pub commas : {before : Args} {o : Option Word} {t : Tree} → args ≡ MoreArgs before o t
      → step state Comma ≡ Some (Want (InCall g args None ∷ frames))

pub record ReadsArg (frames : List Frame) (g : Word) (args : Args) (o : Option Word) (ts : List Token)
    (t : Tree) : Type 0 where
  pub state : State
  pub goes : run (Want (InCall g args o ∷ frames)) ts ≡ Some state
  pub shuts : step state Shut ≡ Some (Have frames (Call g (MoreArgs args o t)))
  pub commas : step state Comma ≡ Some (Want (InCall g (MoreArgs args o t) None ∷ frames))

pub read_arg_expr : (frames : List Frame) (g : Word) (args : Args) (o : Option Word) (ts : List Token) (t : Tree)
    → Reads (InCall g args o ∷ frames) 0 ts t → ReadsArg frames g args o ts t
read_arg_expr frames g args o ts t r = record {
  state = Have r.inner r.last;
  goes = r.goes;
  shuts = ap shut r.closes;
  commas = ap comma r.closes;
}

pub read_arg_formula : (frames : List Frame) (g : Word) (args : Args) (o : Option Word) (us vs : List Token)
    (xs ys : List Word) (l : Tree) → names_of l ≡ Some xs → Reads (InCall g args o ∷ frames) 0 us l → IsNames vs ys
    → ReadsArg frames g args o (us ++ Tilde ∷ vs) (Formula xs ys)
read_arg_formula frames g args o us vs xs ys l e r d = record {
  state = HaveWords g args o xs ys frames;
  goes = subst (λ z. run (Want (InCall g args o ∷ frames)) z ≡ Some (HaveWords g args o xs ys frames))
      (append_assoc us (Tilde ∷ []) vs)
      (run_then (us ++ Tilde ∷ []) vs (Want (InCall g args o ∷ frames)) (NeedWord g args o xs [] frames)
      (Some (HaveWords g args o xs ys frames))
      (read_then (InCall g args o ∷ frames) 0 us l Tilde tilde (NeedWord g args o xs [] frames) r (λ i z. refl)
      (ap (option_map (λ zs. NeedWord g args o zs [] frames)) e))
      (read_words d g args o xs frames));
  shuts = refl;
  commas = refl;
}

pub read_target : {ts : List Token} {o : Option Word} → IsTarget ts o → (frames : List Frame) (g : Word) (args : Args)
    → run (Want (InCall g args None ∷ frames)) ts ≡ Some (Want (InCall g args o ∷ frames))
read_target without frames g args = refl
read_target named frames g args = refl

pub read_some : (frames : List Frame) (g : Word) (us vs ws : List Token) (args : Args) (o : Option Word) (t : Tree)
    → run (Want (InCall g NoArgs None ∷ frames)) us ≡ Some (Want (InCall g args None ∷ frames)) → IsTarget vs o
    → ReadsArg frames g args o ws t → ReadsArgs frames g (us ++ (vs ++ ws)) (MoreArgs args o t)
read_some frames g us vs ws args o t x n r = record {
  state = r.state;
  goes = run_then us (vs ++ ws) (Want (InCall g NoArgs None ∷ frames)) (Want (InCall g args None ∷ frames))
      (Some r.state) x
      (run_then vs ws (Want (InCall g args None ∷ frames)) (Want (InCall g args o ∷ frames)) (Some r.state)
      (read_target n frames g args) r.goes);
  shuts = r.shuts;
  commas = λ e. r.commas;
}

pub read_call : (frames : List Frame) (x : Word) (ts : List Token) (args : Args) → ReadsArgs frames x ts args
    → run (Want frames) (Name x ∷ Open ∷ (ts ++ Shut ∷ [])) ≡ Some (Have frames (Call x args))
read_call frames x ts args r = run_snoc ts Shut (Want (InCall x NoArgs None ∷ frames)) r.state
    (Have frames (Call x args)) r.goes r.shuts

-- Items: from the opening bracket on, and what may follow.
pub record ReadsItems (frames : List Frame) (h : Head) (ts : List Token) (f : Filled) : Type 0 where
  pub state : State
  pub goes : run (Want (InItem h Nothing ∷ frames)) ts ≡ Some state
  pub shuts : step state ShutSquare ≡ Some (Have frames (query h f))
  pub commas : step state Comma ≡ Some (next_item h f frames)

pub record ReadsItem (frames : List Frame) (h : Head) (from : State) (ts : List Token) (f : Filled) : Type 0 where
  pub state : State
  pub goes : run from ts ≡ Some state
  pub shuts : step state ShutSquare ≡ Some (Have frames (query h f))
  pub commas : step state Comma ≡ Some (next_item h f frames)

pub read_items : (frames : List Frame) (h : Head) (us vs : List Token) (from : State) (f : Filled)
    → run (Want (InItem h Nothing ∷ frames)) us ≡ Some from → ReadsItem frames h from vs f
    → ReadsItems frames h (us ++ vs) f
read_items frames h us vs from f e r = record {
  state = r.state;
  goes = run_then us vs (Want (InItem h Nothing ∷ frames)) from (Some r.state) e r.goes;
  shuts = r.shuts;
  commas = r.commas;
}

-- an item that ends in an expression
pub read_item_expr : (frames : List Frame) (h : Head) (g : Frame) (ts : List Token) (t : Tree) (f : Filled)
    → Reads (g ∷ frames) 0 ts t → item g t ≡ Some (h, f)
    → comma (g ∷ frames, t) ≡ option_map (λ i. next_item i.0 i.1 frames) (item g t)
    → ReadsItem frames h (Want (g ∷ frames)) ts f
read_item_expr frames h g ts t f r e same = record {
  state = Have r.inner r.last;
  goes = r.goes;
  shuts = ap shut_square r.closes ∙ ap (option_map (λ i. Have frames (query i.0 i.1))) e;
  commas = ap comma r.closes ∙ same ∙ ap (option_map (λ i. next_item i.0 i.1 frames)) e;
}

-- an item may begin here
unnamed_next : (h : Head) (f : Filled) (frames : List Frame) → takes_unnamed f ≡ true
    → next_item h f frames ≡ Want (InItem h f ∷ frames)
unnamed_next h f frames e = ap (λ b. item_from b h f frames) e

read_name_is : (h : Head) (f : Filled) (frames : List Frame) (x : Word)
    → run (next_item h f frames) (Name x ∷ Is ∷ []) ≡ Some (Want (InNamed h f x ∷ frames))
read_name_is h Nothing frames x = refl
read_name_is h (UpToI a) frames x = refl
read_name_is h (UpToJ a b) frames x = refl
read_name_is h (UpToBy a b c args) frames x = refl

pub read_named : (frames : List Frame) (h : Head) (f : Filled) (x : Word) (ts : List Token) (t : Tree)
    → Reads (InNamed h f x ∷ frames) 0 ts t → ReadsItem frames h (next_item h f frames) (Name x ∷ Is ∷ ts)
    (with_name f x t)
read_named frames h f x ts t r =
    let i = read_item_expr frames h (InNamed h f x) ts t (with_name f x t) r refl refl in
    record {
      state = i.state;
      goes = run_then (Name x ∷ Is ∷ []) ts (next_item h f frames)
          (Want (InNamed h f x ∷ frames)) (Some i.state) (read_name_is h f frames x) i.goes;
      shuts = i.shuts;
      commas = i.commas;
    }

pub read_assigns : (frames : List Frame) (h : Head) (f : Filled) (us vs : List Token) (l r : Tree) → is_j f ≡ true
    → Reads (InItem h f ∷ frames) 0 us l → Reads (InAssign h f l ∷ frames) 0 vs r
    → ReadsItem frames h (Want (InItem h f ∷ frames)) (us ++ Assign ∷ vs) (with_item f (Assigns l r))
read_assigns frames h f us vs l r e x y =
    let i = read_item_expr frames h (InAssign h f l) vs r (with_item f (Assigns l r)) y refl refl in
    record {
      state = i.state;
      goes = subst (λ z. run (Want (InItem h f ∷ frames)) z ≡ Some i.state) (append_assoc us (Assign ∷ []) vs)
          (run_then (us ++ Assign ∷ []) vs (Want (InItem h f ∷ frames)) (Want (InAssign h f l ∷ frames)) (Some i.state)
          (read_then (InItem h f ∷ frames) 0 us l Assign assign (Want (InAssign h f l ∷ frames)) x (λ j z. refl)
          (cond_true _ _ e)) i.goes);
      shuts = i.shuts;
      commas = i.commas;
    }

read_empty : (frames : List Frame) (h : Head) (f : Filled)
    → ReadsItem frames h (Want (InItem h f ∷ frames)) [] (with_item f Absent)
read_empty frames h f = record { state = Want (InItem h f ∷ frames); goes = refl; shuts = refl; commas = refl }

-- what stands before a bracket is read whole
pub record ReadsHead (frames : List Frame) (ts : List Token) (h : Head) : Type 0 where
  pub last : Tree
  pub goes : run (Want frames) ts ≡ Some (Have frames last)
  pub same : head_of last ≡ h

prim_head : {k : ℕ} {ts : List Token} {t : Tree} → IsExpr k ts t → prim ≤ k
    → head_of t ≡ record { tree = t; brackets = NoBrackets }
prim_head (higher {k} d) h = prim_head d (le_suc prim k h)
prim_head (chain d d') h = refl
prim_head (unary p d) h = refl
prim_head (bracket d d') h = absurd (omega arith)
prim_head literal h = refl
prim_head var h = refl
prim_head (call d) h = refl
prim_head (paren d) h = refl

pub read_bracket : (frames : List Frame) (us ts : List Token) (h : Head) (f : Filled) → ReadsHead frames us h
    → ReadsItems frames h ts f → run (Want frames) (us ++ OpenSquare ∷ (ts ++ ShutSquare ∷ []))
    ≡ Some (Have frames (query h f))
read_bracket frames us ts h f w r =
    run_then us (OpenSquare ∷ (ts ++ ShutSquare ∷ [])) (Want frames) (Have frames w.last)
    (Some (Have frames (query h f))) w.goes
    (run_cons (Have frames w.last) OpenSquare (ts ++ ShutSquare ∷ []) (Want (InItem h Nothing ∷ frames))
    (Some (Have frames (query h f))) (ap (λ z. Some (Want (InItem z Nothing ∷ frames))) w.same)
    (run_snoc ts ShutSquare (Want (InItem h Nothing ∷ frames)) r.state (Have frames (query h f)) r.goes r.shuts))

mutual
  pub read : {k : ℕ} {ts : List Token} {t : Tree} → IsExpr k ts t → (frames : List Frame) → demand frames ≤ k
      → Reads frames k ts t
  read (higher {k} {ts} {t} d) frames h = read_higher frames k ts t h (read d frames (le_suc (demand frames) k h))
  read (chain {k} {us} {vs} {t} {rest} d e) frames h =
      read_chain frames k (us ++ vs) t rest h (read_tails e frames us t h (read d frames (le_suc (demand frames) k h)))
  read (unary {ts} {t} p d) frames h = read_unary frames ts p t h (read d (Front p ∷ frames) (omega arith))
  read (literal {v}) frames h = read_whole prim frames (Literal v ∷ []) (Lit v) (omega arith) refl
  read (var {x}) frames h = read_whole prim frames (Name x ∷ []) (Var x) (omega arith) refl
  read (paren {ts} {t} d) frames h = read_whole prim frames (Open ∷ (ts ++ Shut ∷ [])) (Paren t) (omega arith)
      (read_paren frames ts t (read d (InParen ∷ frames) (omega arith)))
  read (call {x} {ts} {args} d) frames h =
      read_whole prim frames (Name x ∷ Open ∷ (ts ++ Shut ∷ [])) (Call x args) (omega arith)
      (read_call frames x ts args (read_args d frames x))
  read (bracket {us} {vs} {t} {bs} {f} d e) frames h =
      let head : Head = record { tree = t; brackets = bs } in
      read_whole post frames (us ++ OpenSquare ∷ (vs ++ ShutSquare ∷ [])) (query head f) (omega arith)
      (read_bracket frames us vs head f (read_head d frames) (read_all e frames head))

  pub read_head : {ts : List Token} {t : Tree} {bs : Brackets} → IsHead ts t bs → (frames : List Frame)
      → ReadsHead frames ts (record { tree = t; brackets = bs })
  read_head (bare {ts} {t} d) frames =
      let low = demand_low frames in
      record {
        last = t;
        goes = whole prim frames ts t (omega arith) (read d frames (omega arith));
        same = prim_head d (omega arith);
      }
  read_head (behind {ts} {t} {bs} d) frames = record {
    last = Query t bs;
    goes = whole post frames ts (Query t bs) (omega arith) (read d frames (demand_low frames));
    same = refl;
  }

  pub read_tails : {k : ℕ} {vs : List Token} {rest : Tails} → IsTails k vs rest
      → (frames : List Frame) (us : List Token) (l : Tree) → demand frames ≤ k → Reads frames (suc k) us l
      → ReadsChain frames k (us ++ vs) l rest
  read_tails (one {vs} {r} op d) frames us l h x =
      read_tail frames us vs op l r NoTails (level op) refl (read_first frames us op l h x)
      (read d (Left l NoTails op ∷ frames) (omega arith))
  read_tails (again {k} {us = ms} {vs} {rest} {r} op d e single d') frames us l h x =
      let before = read_tails d frames us l h x in
      let after = read_tail frames (us ++ ms) vs op l r rest k e
      (read_next frames k (us ++ ms) op l rest e single before)
      (read d' (Left l rest op ∷ frames) (let q = e in omega arith)) in
      subst (λ z. ReadsChain frames k z l (MoreTails rest op r)) (append_assoc us ms (Operator op ∷ vs)) after

  pub read_arg : {ts : List Token} {t : Tree} → IsArg ts t
      → (frames : List Frame) (g : Word) (args : Args) (o : Option Word) → ReadsArg frames g args o ts t
  read_arg (expr {ts} {t} d) frames g args o =
      read_arg_expr frames g args o ts t (read d (InCall g args o ∷ frames) (omega arith))
  read_arg (formula {us} {vs} {xs} {ys} n m) frames g args o =
      let s = summed n (InCall g args o ∷ frames) (omega arith) in
      read_arg_formula frames g args o us vs xs ys s.sum s.same
      (read_lower (InCall g args o ∷ frames) 4 0 us s.sum (omega arith) (omega arith) s.read_so) m

  pub read_args : {ts : List Token} {args : Args} → IsArgs ts args → (frames : List Frame) (g : Word)
      → ReadsArgs frames g ts args
  read_args none frames g = record {
    state = Want (InCall g NoArgs None ∷ frames);
    goes = refl;
    shuts = refl;
    commas = λ e. absurd cc;
  }
  read_args (some {us} {vs} {ws} {args} {o} {t} b n d) frames g =
      read_some frames g us vs ws args o t (read_before b frames g) n (read_arg d frames g args o)

  pub read_before : {ts : List Token} {args : Args} → IsBefore ts args → (frames : List Frame) (g : Word)
      → run (Want (InCall g NoArgs None ∷ frames)) ts ≡ Some (Want (InCall g args None ∷ frames))
  read_before first frames g = refl
  read_before (later {ts} {args} {o} {t} d) frames g =
      let r = read_args d frames g in
      run_snoc ts Comma (Want (InCall g NoArgs None ∷ frames)) r.state
      (Want (InCall g (MoreArgs args o t) None ∷ frames)) r.goes (r.commas refl)

  pub read_item_here : {j : Bool} {ts : List Token} {p : Item} → IsItem j ts p
      → (frames : List Frame) (h : Head) (f : Filled) → is_j f ≡ j
      → ReadsItem frames h (Want (InItem h f ∷ frames)) ts (with_item f p)
  read_item_here empty frames h f e = read_empty frames h f
  read_item_here (value {j} {ts} {t} d) frames h f e =
      read_item_expr frames h (InItem h f) ts t (with_item f (item_of j t)) (read d (InItem h f ∷ frames) (omega arith))
      (ap (λ b. Some (h, with_item f (item_of b t))) e) refl
  read_item_here (assigns {us} {vs} {l} {r} d d') frames h f e =
      read_assigns frames h f us vs l r e (read d (InItem h f ∷ frames) (omega arith))
      (read d' (InAssign h f l ∷ frames) (omega arith))

  pub read_all : {ts : List Token} {f : Filled} → IsItems ts f → (frames : List Frame) (h : Head)
      → ReadsItems frames h ts f
  read_all (unnamed {us} {vs} {f} {x = p} b e d) frames h =
      read_items frames h us vs (Want (InItem h f ∷ frames)) (with_item f p)
      (read_filled b frames h ∙ ap Some (unnamed_next h f frames e)) (read_item_here d frames h f refl)
  read_all (with {us} {vs} {f} {t} x b d) frames h =
      read_items frames h us (Name x ∷ Is ∷ vs) (next_item h f frames) (with_name f x t) (read_filled b frames h)
      (read_named frames h f x vs t (read d (InNamed h f x ∷ frames) (omega arith)))

  pub read_filled : {ts : List Token} {f : Filled} → IsFilled ts f → (frames : List Frame) (h : Head)
      → run (Want (InItem h Nothing ∷ frames)) ts ≡ Some (next_item h f frames)
  read_filled begin frames h = refl
  read_filled (a_comma {ts} {f} d) frames h =
      let r = read_all d frames h in
      run_snoc ts Comma (Want (InItem h Nothing ∷ frames)) r.state (next_item h f frames) r.goes r.commas

-- a statement, and the lines before it
pub record ReadsStmt (ss : List Stmt) (m : ℕ) (ts : List Token) (o : Option Word) (t : Tree) : Type 0 where
  pub inner : List Frame
  pub last : Tree
  pub goes : run (Want (InStmt ss m None ∷ [])) ts ≡ Some (Have inner last)
  pub closes : close 0 inner last ≡ (InStmt ss m o ∷ [], t)

read_left : {ts : List Token} {o : Option Word} → IsLeft ts o → (ss : List Stmt) (m : ℕ)
    → run (Want (InStmt ss m None ∷ [])) ts ≡ Some (Want (InStmt ss m o ∷ []))
read_left (plain without) ss m = refl
read_left (plain named) ss m = refl
read_left arrow ss m = refl

pub read_stmt : {vs ws : List Token} {o : Option Word} {t : Tree} (ss : List Stmt) (m : ℕ) → IsLeft vs o → IsExpr 0 ws t
    → ReadsStmt ss m (vs ++ ws) o t
read_stmt {vs} {ws} {o} {t} ss m n d =
    let r = read d (InStmt ss m o ∷ []) (omega arith) in
    record {
      inner = r.inner;
      last = r.last;
      goes = run_then vs ws (Want (InStmt ss m None ∷ [])) (Want (InStmt ss m o ∷ [])) (Some (Have r.inner r.last))
          (read_left n ss m) r.goes;
      closes = r.closes;
    }

pub read_lines : {ts : List Token} {ss : List Stmt} {m : ℕ} → IsLines ts ss m
    → run init ts ≡ Some (Want (InStmt ss m None ∷ []))
read_lines start = refl
read_lines (blank {ts} {ss} {n} m d) = run_snoc ts (Break m) init (Want (InStmt ss n None ∷ []))
    (Want (InStmt ss m None ∷ [])) (read_lines d) refl
read_lines (line {us} {vs} {ws} {ss} {n} {o} {t} m d l e) =
    let r = read_stmt ss n l e in
    let end = Want (InStmt (ss ++ record { line = n; target = o; expr = t } ∷ []) m None ∷ []) in
    subst (λ z. run init (us ++ z) ≡ Some end) (append_assoc vs ws (Break m ∷ []))
    (run_then us ((vs ++ ws) ++ Break m ∷ []) init (Want (InStmt ss n None ∷ [])) (Some end) (read_lines d)
    (run_snoc (vs ++ ws) (Break m) (Want (InStmt ss n None ∷ [])) (Have r.inner r.last) end r.goes
    (ap (break m) r.closes)))

-- what is spelled so is what the machine parses
pub parsed_complete : {ts : List Token} {ss : List Stmt} → IsScript ts ss → parsed ts ≡ Some ss
parsed_complete (ended d) = ap (option_and_then finish) (read_lines d)
parsed_complete (open_end {us} {vs} {ws} {ss} {n = m} {o} {t} d n e) =
    let r = read_stmt ss m n e in
    ap (option_and_then finish) (run_then us (vs ++ ws) init (Want (InStmt ss m None ∷ [])) (Some (Have r.inner r.last))
    (read_lines d) r.goes) ∙ ap last_stmt r.closes

-- tokens spell at most one script
pub one_script : {ts : List Token} {ss others : List Stmt} → IsScript ts ss → IsScript ts others → ss ≡ others
one_script d e = cc (parsed_complete d, parsed_complete e)
