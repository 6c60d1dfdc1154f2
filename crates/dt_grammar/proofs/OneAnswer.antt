-- Tokens are a script or have one first fault, and not both; and so with the bytes of a script.
use Rattle.std.proofs.Common.{◌≡◌, ℕ, ◌+◌, ◌≤◌, ◌<◌, ◌⊎◌, inl, inr, List, [], ◌∷◌, ◌++◌, length, take, drop}
use Rattle.std.proofs.Common.{take-append-drop, Option, Some, None, option_and_then, refl, sym, ◌∙◌, ap, ap₂, subst}
use Rattle.std.proofs.Common.{arith, append_assoc, append-nil, length-append}
use Rattle.std.proofs.lemmas.Bool.{cases_order}
use Rattle.std.proofs.lemmas.List.{take-append-le, length-take-le}
use Rattle.std.proofs.Math.Seq.{take-append_seam, take-append-add}
use Rattle.dt_tree.specs.declared.fault.ScriptFault.{ScriptFault}
use Rattle.dt_tree.specs.declared.fault.ScriptFault.TheVariants.{Syntax}
use Rattle.dt_tree.specs.declared.tree.Script.{Script}
use Rattle.dt_tree.specs.declared.tree.Stmt as stmt_type
use Rattle.run_model.specs.FirstFault.{IsViable, IsFirstFault}
use Rattle.run_model.specs.Grammar.{IsScript}
use Rattle.run_model.specs.GrammarTrees.{Token, Stmt}
use Rattle.run_model.specs.Misplaced.{misplaced}
use Rattle.run_model.specs.Reading.{IsFaultAt, ungrammatical, stands_wrong, fault_place, IsReadAs, IsRefused, in_tokens}
use Rattle.run_model.specs.Reading.{in_grammar}
use Rattle.run_model.specs.TokenLaws.{OneAnswer}
use Rattle.run_model.specs.TokenView.{plain_tokens}
use Rattle.run_model.specs.Tokens.{unmarked}
use Rattle.run_model.specs.TreeView.{stmt_of, stmts_of, script_of}
use Rattle.dt_grammar.specs.Machine.{State, step, run, init, finish}
use Rattle.dt_grammar.proofs.TreesRead.{run-append}
use Rattle.dt_grammar.proofs.Complete.{one_script}
use Rattle.dt_grammar.proofs.Inverse.{same_tree}
use Rattle.dt_grammar.proofs.Viable.{viable, not_viable, unfinished, spelled}

-- what a script begins with
viable_before : (us vs : List Token) → IsViable (us ++ vs) → IsViable us
viable_before us vs v = (vs ++ v.0, v.1, subst (λ z. IsScript z v.1) (append_assoc us vs v.0) v.2)

viable_take : (n : ℕ) (ts : List Token) → IsViable ts → IsViable (take n ts)
viable_take n ts v = viable_before (take n ts) (drop n ts) (subst IsViable (sym (take-append-drop n ts)) v)

script_viable : (ts : List Token) (ss : List Stmt) → IsScript ts ss → IsViable ts
script_viable ts ss d = ([], ss, subst (λ z. IsScript z ss) (sym (append-nil ts)) d)

-- the first tokens of the first tokens
take_shorter : (n m : ℕ) (ts : List Token) → n ≤ m → m ≤ length ts → take n (take m ts) ≡ take n ts
take_shorter n m ts h l = sym (take-append-le n (take m ts) (drop m ts) (let e = length-take-le m ts l in omega arith))
    ∙ ap (take n) (take-append-drop m ts)

no_later : (ts : List Token) (n m : ℕ) → IsFirstFault ts n → IsFirstFault ts m → n < m → ⊥
no_later ts n m f g h =
    let w = g.within in
    f.after (omega arith) (subst IsViable (take_shorter (n + 1) m ts (omega arith) w)
    (viable_take (n + 1) (take m ts) g.before))

-- one first fault of tokens
pub first_fault_once : (ts : List Token) (n m : ℕ) → IsFirstFault ts n → IsFirstFault ts m → n ≡ m
first_fault_once ts n m f g = elim (cases_order n m) [
  | inl e ↦ e
  | inr r ↦ elim r [ inl a ↦ absurd (no_later ts n m f g a) | inr b ↦ absurd (no_later ts m n g f b) ]
]

at_most : (n l : ℕ) → n ≤ l → (n < l) ⊎ (n ≡ l)
at_most n l h = grind arith

-- tokens that spell a script have no first fault
pub spelled_no_fault : (ts : List Token) (ss : List Stmt) (n : ℕ) → IsScript ts ss → IsFirstFault ts n → ⊥
spelled_no_fault ts ss n d f = elim (at_most n (length ts) f.within) [
  | inl a ↦ f.after a (viable_take (n + 1) ts (script_viable ts ss d))
  | inr b ↦ f.at_end b ss d
]

some_same : {A : Type 0} (r : Option A) (x y : A) → r ≡ Some x → r ≡ Some y → x ≡ y
some_same r x y e f = cc

-- one fault of tokens
pub fault_once : (ts : List Token) (n m : ℕ) → IsFaultAt ts n → IsFaultAt ts m → n ≡ m
fault_once ts n m (ungrammatical f) (ungrammatical g) = first_fault_once ts n m f g
fault_once ts n m (ungrammatical f) (stands_wrong ss d e) = absurd (spelled_no_fault ts ss n d f)
fault_once ts n m (stands_wrong ss d e) (ungrammatical g) = absurd (spelled_no_fault ts ss m d g)
fault_once ts n m (stands_wrong ss d e) (stands_wrong others d' e') =
    some_same (misplaced ts ss) n m e (ap (misplaced ts) (one_script d d') ∙ e')

pub read_no_fault : (ts : List Token) (ss : List Stmt) (n : ℕ) → IsScript ts ss → misplaced ts ss ≡ None
    → IsFaultAt ts n → ⊥
read_no_fault ts ss n d e (ungrammatical f) = spelled_no_fault ts ss n d f
read_no_fault ts ss n d e (stands_wrong others d' e') = let q = ap (misplaced ts) (one_script d d') in cc (e, e', q)

-- each list of tokens spells a script or has a first fault
abbrev IsAnswered : List Token → Type 0
IsAnswered ts = ((ss : List Stmt) × IsScript ts ss) ⊎ ((n : ℕ) × IsFirstFault ts n)

at_end : (ts : List Token) (s : State) → run init ts ≡ Some s → (r : Option (List Stmt)) → finish s ≡ r → IsAnswered ts
at_end ts s e (Some ss) f = inl (ss, spelled ts ss (ap (option_and_then finish) e ∙ f))
at_end ts s e None f = inr (
  length ts,
  record {
    within = omega arith;
    before = viable_take (length ts) ts (viable ts s e);
    after = λ lt. absurd (omega arith);
    at_end = λ same. unfinished ts s e f;
  },
)

run_one_more : (ts : List Token) (x : Token) (s : State) (r : Option State) → run init ts ≡ Some s → step s x ≡ r
    → run init (ts ++ x ∷ []) ≡ r
run_one_more ts x s r e f = run-append ts (x ∷ []) init ∙ ap (option_and_then (λ next. run next (x ∷ []))) e
    ∙ run_last (step s x) ∙ f
  where
    run_last : (o : Option State) → option_and_then (λ next. run next []) o ≡ o
    run_last None = refl
    run_last (Some t) = refl

refused_at : (ts : List Token) (x : Token) (xs : List Token) (s : State) → run init ts ≡ Some s → step s x ≡ None
    → IsFirstFault (ts ++ x ∷ xs) (length ts)
refused_at ts x xs s e f =
    let l = length-append ts (x ∷ xs) in
    let bad = not_viable (ts ++ x ∷ []) (run_one_more ts x s None e f) in
    let cut : take (length ts + 1) (ts ++ x ∷ xs) ≡ ts ++ x ∷ [] = take-append-add ts (x ∷ xs) 1 in
    record {
      within = omega arith;
      before = subst IsViable (sym (take-append_seam ts (x ∷ xs))) (viable ts s e);
      after = λ lt v. bad (subst IsViable cut v);
      at_end = λ same. absurd (omega arith);
    }

answers_step : (x : Token) (xs ts : List Token) (s : State) → run init ts ≡ Some s
    → ((next : State) → run init (ts ++ x ∷ []) ≡ Some next → IsAnswered ((ts ++ x ∷ []) ++ xs)) → (r : Option State)
    → step s x ≡ r → IsAnswered (ts ++ x ∷ xs)
answers_step x xs ts s e goes None f = inr (length ts, refused_at ts x xs s e f)
answers_step x xs ts s e goes (Some next) f =
    subst IsAnswered (append_assoc ts (x ∷ []) xs) (goes next (run_one_more ts x s (Some next) e f))

answers_from : (rest ts : List Token) (s : State) → run init ts ≡ Some s → IsAnswered (ts ++ rest)
answers_from [] ts s e = subst IsAnswered (sym (append-nil ts)) (at_end ts s e (finish s) refl)
answers_from (x ∷ xs) ts s e = answers_step x xs ts s e (λ next f. answers_from xs (ts ++ x ∷ []) next f)
    (step s x) refl

pub each_answered : (ts : List Token) → ((ss : List Stmt) × IsScript ts ss) ⊎ ((n : ℕ) × IsFirstFault ts n)
each_answered ts = answers_from ts [] init refl

-- the bytes of a script
same_stmt : (a b : stmt_type.Stmt) → stmt_of a ≡ stmt_of b → a ≡ b
same_stmt a b e =
    let line : a.line ≡ b.line = ap (λ s. s.line) e in
    let target : a.target ≡ b.target = ap (λ s. s.target) e in
    let expr : a.expr ≡ b.expr = same_tree a.expr b.expr (ap (λ s. s.expr) e) in
    ap₂ (λ l t. record { line = l; target = t; expr = a.expr }) line target
    ∙ ap (λ x. record { line = b.line; target = b.target; expr = x }) expr

same_stmts : (xs ys : List stmt_type.Stmt) → stmts_of xs ≡ stmts_of ys → xs ≡ ys
same_stmts [] [] e = refl
same_stmts (a ∷ xs) (b ∷ ys) e =
    let h : stmt_of a ≡ stmt_of b = cc in
    let t : stmts_of xs ≡ stmts_of ys = cc in
    ap₂ (λ z zs. z ∷ zs) (same_stmt a b h) (same_stmts xs ys t)
same_stmts _ _ e = absurd cc

-- two scripts that are seen alike are equal
pub same_script : (a b : Script) → script_of a ≡ script_of b → a ≡ b
same_script a b e = ap (λ ss. record { stmts = ss }) (same_stmts a.stmts b.stmts e)

-- one script of the tokens
pub one_code_script : (ts : List Token) (a b : Script) → IsScript ts (script_of a) → IsScript ts (script_of b) → a ≡ b
one_code_script ts a b d e = same_script a b (one_script d e)

pub one_reading : OneAnswer → (s : List ℕ) (a b : Script) → IsReadAs s a → IsReadAs s b → a ≡ b
one_reading o s a b r q = one_code_script (plain_tokens r.tokens) a b r.spelled
    (subst (λ us. IsScript (plain_tokens us) (script_of b)) (o.tokens s q.tokens r.tokens q.cut r.cut) q.spelled)

pub one_refusal : OneAnswer → (s : List ℕ) (f g : ScriptFault) → IsRefused s f → IsRefused s g → f ≡ g
one_refusal o s f g (in_tokens x h) (in_tokens y k) = o.fault s f g h k
one_refusal o s f g (in_tokens x h) (in_grammar us n a e) = absurd (o.either s us f a h)
one_refusal o s f g (in_grammar us n a e) (in_tokens y k) = absurd (o.either s us g a k)
one_refusal o s f g (in_grammar us n a e) (in_grammar vs m b h) =
    let same = o.tokens s us vs a b in
    ap₂ (λ z k. Syntax (fault_place (unmarked s) z k)) same
    (fault_once (plain_tokens vs) n m (subst (λ z. IsFaultAt (plain_tokens z) n) same e) h)

pub not_both : OneAnswer → (s : List ℕ) (a : Script) (f : ScriptFault) → IsReadAs s a → IsRefused s f → ⊥
not_both o s a f r (in_tokens x h) = o.either s r.tokens f r.cut h
not_both o s a f r (in_grammar us n b e) =
    read_no_fault (plain_tokens r.tokens) (script_of a) n r.spelled r.right
    (subst (λ z. IsFaultAt (plain_tokens z) n) (o.tokens s us r.tokens b r.cut) e)
