-- No flag of a script is true exactly where its assignments stand right.
use Rattle.std.proofs.Common.{◌≡◌, ◌↔◌, ◌⊎◌, inl, inr, ℕ, Bool, true, false, cond, not, List, [], ◌∷◌, ◌++◌, Option}
use Rattle.std.proofs.Common.{Some, None, length, refl, sym, subst, arith}
use Rattle.std.proofs.lemmas.List.Elements.{All-nil, All-cons, All-head, All-tail}
use Rattle.run_model.specs.Grammar.{is_assign}
use Rattle.run_model.specs.GrammarTrees.{Word, Token, Tree, Lit, Var, Paren, Unary, Chain, Call, Query, Formula, Tails}
use Rattle.run_model.specs.GrammarTrees.{NoTails, MoreTails, Args, NoArgs, MoreArgs, Item, Absent, Given, Assigns}
use Rattle.run_model.specs.GrammarTrees.{AssignsAll, Brackets, NoBrackets, MoreBrackets, Stmt}
use Rattle.run_model.specs.Misplaced.{name_flags, target_flags, names_flags, inner, inner_tails, inner_args, inner_item}
use Rattle.run_model.specs.Misplaced.{inner_brackets, Stage, Free, Assigned, Over, are_pairs, is_empty, j_flags}
use Rattle.run_model.specs.Misplaced.{j_stage, bracket_flags, next_stage, stage, outer_brackets, outer, stmt_flags}
use Rattle.run_model.specs.Misplaced.{flags, marks_from, first_wrong, misplaced}
use Rattle.script_laws.specs.Assignments.{HasNoAssignment, NoneInTails, NoneInArgs, NoneInItem, NoneInBrackets}
use Rattle.script_laws.specs.Assignments.{IsAssignment, AssignsLast, AssignsBeforeEmpty, StandsRight, StandRight}

-- no flag is true
abbrev pub NoneTrue : List Bool → Type 0
NoneTrue [] = Unit {0}
NoneTrue (b ∷ bs) = (b ≡ false) × NoneTrue bs

front : (xs ys : List Bool) → NoneTrue (xs ++ ys) → NoneTrue xs
front [] ys h = tt
front (x ∷ xs) ys h = (h.0, front xs ys h.1)

rear : (xs ys : List Bool) → NoneTrue (xs ++ ys) → NoneTrue ys
rear [] ys h = h
rear (x ∷ xs) ys h = rear xs ys h.1

both : (xs ys : List Bool) → NoneTrue xs → NoneTrue ys → NoneTrue (xs ++ ys)
both [] ys f g = g
both (x ∷ xs) ys f g = (f.0, both xs ys f.1 g)

-- names
right_name : (b : Bool) → NoneTrue (cond b (false ∷ []) [])
right_name true = (refl, tt)
right_name false = tt

right_names : (xs : List Word) → NoneTrue (names_flags xs)
right_names [] = tt
right_names (x ∷ xs) = both (name_flags x false) (names_flags xs) (right_name (is_assign x)) (right_names xs)

right_target : (o : Option Word) → NoneTrue (target_flags o)
right_target None = tt
right_target (Some x) = right_name (is_assign x)

no_call : (b : Bool) → NoneTrue (cond b (true ∷ []) []) → b ≡ false
no_call true h = h.0
no_call false h = refl

right_call : (b : Bool) → b ≡ false → NoneTrue (cond b (true ∷ []) [])
right_call true e = (e, tt)
right_call false e = tt

-- an expression whose flags are all false has no assignment
mutual
  none : (t : Tree) → NoneTrue (inner t) → HasNoAssignment t
  none (Lit v) h = tt
  none (Var x) h = tt
  none (Paren t) h = none t h
  none (Unary p t) h = none t h
  none (Chain t rest) h = (
    none t (front (inner t) (inner_tails rest) h),
    none_tails rest (rear (inner t) (inner_tails rest) h),
  )
  none (Call x args) h = (
    no_call (is_assign x) (front (name_flags x true) (inner_args args) h),
    none_args args (rear (name_flags x true) (inner_args args) h),
  )
  none (Query t bs) h = (
    none t (front (inner t) (inner_brackets bs) h),
    none_brackets bs (rear (inner t) (inner_brackets bs) h),
  )
  none (Formula xs ys) h = tt

  none_tails : (rest : Tails) → NoneTrue (inner_tails rest) → NoneInTails rest
  none_tails NoTails h = tt
  none_tails (MoreTails before op t) h = (
    none_tails before (front (inner_tails before) (inner t) h),
    none t (rear (inner_tails before) (inner t) h),
  )

  none_args : (args : Args) → NoneTrue (inner_args args) → NoneInArgs args
  none_args NoArgs h = tt
  none_args (MoreArgs before o t) h =
      let r = rear (inner_args before) (target_flags o ++ inner t) h in (
        none_args before (front (inner_args before) (target_flags o ++ inner t) h),
        none t (rear (target_flags o) (inner t) r),
      )

  none_item : (x : Item) → NoneTrue (inner_item x) → NoneInItem x
  none_item Absent h = tt
  none_item (Given t) h = none t h
  none_item (Assigns l r) h = let q = rear (inner l) (true ∷ inner r) h in absurd (let e : true ≡ false = q.0 in cc)
  none_item (AssignsAll args) h = absurd (let e : true ≡ false = h.0 in cc)

  none_brackets : (bs : Brackets) → NoneTrue (inner_brackets bs) → NoneInBrackets bs
  none_brackets NoBrackets h = tt
  none_brackets (MoreBrackets before i j by args) h =
      let r = rear (inner_brackets before) (false
      ∷ (inner_item i ++ (inner_item j ++ (inner_item by ++ inner_args args)))) h in
      let s = rear (inner_item i) (inner_item j ++ (inner_item by ++ inner_args args)) r.1 in
      let p = rear (inner_item j) (inner_item by ++ inner_args args) s in (
        none_brackets before (front (inner_brackets before)
            (false ∷ (inner_item i ++ (inner_item j ++ (inner_item by ++ inner_args args)))) h),
        none_item i (front (inner_item i) (inner_item j ++ (inner_item by ++ inner_args args)) r.1),
        none_item j (front (inner_item j) (inner_item by ++ inner_args args) s),
        none_item by (front (inner_item by) (inner_args args) p),
        none_args args (rear (inner_item by) (inner_args args) p),
      )

-- and the flags of an expression without one are all false
mutual
  right : (t : Tree) → HasNoAssignment t → NoneTrue (inner t)
  right (Lit v) h = tt
  right (Var x) h = right_name (is_assign x)
  right (Paren t) h = right t h
  right (Unary p t) h = right t h
  right (Chain t rest) h = both (inner t) (inner_tails rest) (right t h.0) (right_tails rest h.1)
  right (Call x args) h = both (name_flags x true) (inner_args args) (right_call (is_assign x) h.0)
      (right_args args h.1)
  right (Query t bs) h = both (inner t) (inner_brackets bs) (right t h.0) (right_brackets bs h.1)
  right (Formula xs ys) h = both (names_flags xs) (names_flags ys) (right_names xs) (right_names ys)

  right_tails : (rest : Tails) → NoneInTails rest → NoneTrue (inner_tails rest)
  right_tails NoTails h = tt
  right_tails (MoreTails before op t) h = both (inner_tails before) (inner t) (right_tails before h.0) (right t h.1)

  right_args : (args : Args) → NoneInArgs args → NoneTrue (inner_args args)
  right_args NoArgs h = tt
  right_args (MoreArgs before o t) h = both (inner_args before) (target_flags o ++ inner t) (right_args before h.0)
      (both (target_flags o) (inner t) (right_target o) (right t h.1))

  right_item : (x : Item) → NoneInItem x → NoneTrue (inner_item x)
  right_item Absent h = tt
  right_item (Given t) h = right t h
  right_item (Assigns l r) h = absurd h
  right_item (AssignsAll args) h = absurd h

  right_brackets : (bs : Brackets) → NoneInBrackets bs → NoneTrue (inner_brackets bs)
  right_brackets NoBrackets h = tt
  right_brackets (MoreBrackets before i j by args) h =
      both (inner_brackets before) (false ∷ (inner_item i ++ (inner_item j ++ (inner_item by ++ inner_args args))))
      (right_brackets before h.0) (
        refl,
        both (inner_item i) (inner_item j ++ (inner_item by ++ inner_args args)) (right_item i h.1)
            (both (inner_item j) (inner_item by ++ inner_args args) (right_item j h.2)
            (both (inner_item by) (inner_args args) (right_item by h.3) (right_args args h.4))),
      )

-- the brackets of an outermost chain, by how far it has come
abbrev Came : Stage → Brackets → Type 0
Came Free bs = NoneInBrackets bs
Came Assigned bs = AssignsLast bs
Came Over bs = AssignsBeforeEmpty bs

not_false : (b : Bool) → not b ≡ false → b ≡ true
not_false true e = refl
not_false false e = cc

not_true : (b : Bool) → b ≡ true → not b ≡ false
not_true true e = refl
not_true false e = cc

-- j where an assignment may stand
abbrev JCame : Stage → Item → Type 0
JCame Free j = NoneInItem j
JCame Assigned j = IsAssignment j
JCame Over j = ⊥

came_j : (j : Item) → NoneTrue (j_flags j) → JCame (j_stage j) j
came_j Absent h = tt
came_j (Given t) h = none t h
came_j (Assigns l r) h = (none l (front (inner l) (false ∷ inner r) h), none r (rear (inner l) (false ∷ inner r) h).1)
came_j (AssignsAll args) h = (not_false (are_pairs args) h.0, none_args args h.1)

one_more : (s : Stage) (before : Brackets) (i j by : Item) (args : Args) → NoneInBrackets before → NoneInItem i
    → JCame s j → NoneInItem by → NoneInArgs args → Came s (MoreBrackets before i j by args)
one_more Free before i j by args b fi fj fb fa = (b, fi, fj, fb, fa)
one_more Assigned before i j by args b fi fj fb fa = (b, fi, fj, fb, fa)
one_more Over before i j by args b fi fj fb fa = absurd fj

came_step : (s : Stage) (before : Brackets) (i j by : Item) (args : Args) → Came s before
    → NoneTrue (bracket_flags s i j by args) → Came (next_stage s j) (MoreBrackets before i j by args)
came_step Free before i j by args c h =
    let s = rear (inner_item i) (j_flags j ++ (inner_item by ++ inner_args args)) h.1 in
    let p = rear (j_flags j) (inner_item by ++ inner_args args) s in
    one_more (j_stage j) before i j by args c
    (none_item i (front (inner_item i) (j_flags j ++ (inner_item by ++ inner_args args)) h.1))
    (came_j j (front (j_flags j) (inner_item by ++ inner_args args) s))
    (none_item by (front (inner_item by) (inner_args args) p))
    (none_args args (rear (inner_item by) (inner_args args) p))
came_step Assigned before i j by args c h = (c, not_false (is_empty i j by args) h.0)
came_step Over before i j by args c h = absurd (let e : true ≡ false = h.0 in cc)

came : (bs : Brackets) → NoneTrue (outer_brackets bs) → Came (stage bs) bs
came NoBrackets h = tt
came (MoreBrackets before i j by args) h =
    let these = bracket_flags (stage before) i j by args in
    came_step (stage before) before i j by args (came before (front (outer_brackets before) these h))
    (rear (outer_brackets before) these h)

stands : (s : Stage) (bs : Brackets) → Came s bs → NoneInBrackets bs ⊎ (AssignsLast bs ⊎ AssignsBeforeEmpty bs)
stands Free bs c = inl c
stands Assigned bs c = inr (inl c)
stands Over bs c = inr (inr c)

-- the other way: the flags of such brackets are all false
record AtStage (s : Stage) (bs : Brackets) : Type 0 where
  is : stage bs ≡ s
  none_true : NoneTrue (outer_brackets bs)

add_bracket : (s : Stage) (before : Brackets) (i j by : Item) (args : Args) → AtStage s before
    → NoneTrue (bracket_flags s i j by args) → AtStage (next_stage s j) (MoreBrackets before i j by args)
add_bracket s before i j by args a h = record {
  is = subst (λ z. next_stage (stage before) j ≡ next_stage z j) a.is refl;
  none_true = both (outer_brackets before) (bracket_flags (stage before) i j by args) a.none_true
      (subst (λ z. NoneTrue (bracket_flags z i j by args)) (sym a.is) h);
}

free_j : (j : Item) → NoneInItem j → (j_stage j ≡ Free) × NoneTrue (j_flags j)
free_j Absent h = (refl, tt)
free_j (Given t) h = (refl, right t h)
free_j (Assigns l r) h = absurd h
free_j (AssignsAll args) h = absurd h

assigned_j : (j : Item) → IsAssignment j → (j_stage j ≡ Assigned) × NoneTrue (j_flags j)
assigned_j Absent h = absurd h
assigned_j (Given t) h = absurd h
assigned_j (Assigns l r) h = (refl, both (inner l) (false ∷ inner r) (right l h.0) (refl, right r h.1))
assigned_j (AssignsAll args) h = (refl, (not_true (are_pairs args) h.0, right_args args h.1))

free_flags : (i j by : Item) (args : Args) → NoneInItem i → NoneTrue (j_flags j) → NoneInItem by → NoneInArgs args
    → NoneTrue (bracket_flags Free i j by args)
free_flags i j by args fi fj fb fa = (
  refl,
  both (inner_item i) (j_flags j ++ (inner_item by ++ inner_args args)) (right_item i fi)
      (both (j_flags j) (inner_item by ++ inner_args args) fj
      (both (inner_item by) (inner_args args) (right_item by fb) (right_args args fa))),
)

at_free : (bs : Brackets) → NoneInBrackets bs → AtStage Free bs
at_free NoBrackets h = record { is = refl; none_true = tt }
at_free (MoreBrackets before i j by args) h =
    let f = free_j j h.2 in
    subst (λ z. AtStage z (MoreBrackets before i j by args)) f.0
    (add_bracket Free before i j by args (at_free before h.0) (free_flags i j by args h.1 f.1 h.3 h.4))

at_assigned : (bs : Brackets) → AssignsLast bs → AtStage Assigned bs
at_assigned NoBrackets h = absurd h
at_assigned (MoreBrackets before i j by args) h =
    let f = assigned_j j h.2 in
    subst (λ z. AtStage z (MoreBrackets before i j by args)) f.0
    (add_bracket Free before i j by args (at_free before h.0) (free_flags i j by args h.1 f.1 h.3 h.4))

empty_flags : (i j by : Item) (args : Args) → is_empty i j by args ≡ true
    → NoneTrue (bracket_flags Assigned i j by args)
empty_flags Absent Absent Absent NoArgs e = (refl, tt)
empty_flags i j by args e = absurd cc

at_over : (bs : Brackets) → AssignsBeforeEmpty bs → AtStage Over bs
at_over NoBrackets h = absurd h
at_over (MoreBrackets before i j by args) h =
    add_bracket Assigned before i j by args (at_assigned before h.0) (empty_flags i j by args h.1)

chain_right : (bs : Brackets) → NoneInBrackets bs ⊎ (AssignsLast bs ⊎ AssignsBeforeEmpty bs)
    → NoneTrue (outer_brackets bs)
chain_right bs (inl h) = (at_free bs h).none_true
chain_right bs (inr (inl h)) = (at_assigned bs h).none_true
chain_right bs (inr (inr h)) = (at_over bs h).none_true

-- a statement's expression
outer_stands : (t : Tree) → NoneTrue (outer t) → StandsRight t
outer_stands (Query t bs) h = (
  none t (front (inner t) (outer_brackets bs) h),
  stands (stage bs) bs (came bs (rear (inner t) (outer_brackets bs) h)),
)
outer_stands (Lit v) h = none (Lit v) h
outer_stands (Var x) h = none (Var x) h
outer_stands (Paren t) h = none (Paren t) h
outer_stands (Unary p t) h = none (Unary p t) h
outer_stands (Chain t rest) h = none (Chain t rest) h
outer_stands (Call x args) h = none (Call x args) h
outer_stands (Formula xs ys) h = none (Formula xs ys) h

outer_right : (t : Tree) → StandsRight t → NoneTrue (outer t)
outer_right (Query t bs) h = both (inner t) (outer_brackets bs) (right t h.0) (chain_right bs h.1)
outer_right (Lit v) h = right (Lit v) h
outer_right (Var x) h = right (Var x) h
outer_right (Paren t) h = right (Paren t) h
outer_right (Unary p t) h = right (Unary p t) h
outer_right (Chain t rest) h = right (Chain t rest) h
outer_right (Call x args) h = right (Call x args) h
outer_right (Formula xs ys) h = right (Formula xs ys) h

-- a script
script_stands : (ss : List Stmt) → NoneTrue (flags ss) → StandRight ss
script_stands [] h = All-nil (λ s. StandsRight s.expr)
script_stands (s ∷ ss) h =
    let own = front (stmt_flags s) (flags ss) h in
    All-cons (λ x. StandsRight x.expr) s ss (outer_stands s.expr (rear (target_flags s.target) (outer s.expr) own))
    (script_stands ss (rear (stmt_flags s) (flags ss) h))

script_right : (ss : List Stmt) → StandRight ss → NoneTrue (flags ss)
script_right [] h = tt
script_right (s ∷ ss) h =
    both (stmt_flags s) (flags ss)
    (both (target_flags s.target) (outer s.expr) (right_target s.target)
    (outer_right s.expr (All-head (λ x. StandsRight x.expr) s ss h)))
    (script_right ss (All-tail (λ x. StandsRight x.expr) s ss h))

-- no mark stands wrong where no flag is true, and only there where each mark has its flag
none_wrong : (ns : List ℕ) (bs : List Bool) → length ns ≡ length bs → first_wrong ns bs ≡ None → NoneTrue bs
none_wrong ns [] l e = tt
none_wrong [] (b ∷ bs) l e = absurd cc
none_wrong (n ∷ ns) (true ∷ bs) l e = absurd cc
none_wrong (n ∷ ns) (false ∷ bs) l e = (refl, none_wrong ns bs (omega (arith, l)) e)

wrong_none : (ns : List ℕ) (bs : List Bool) → NoneTrue bs → first_wrong ns bs ≡ None
wrong_none [] bs h = refl
wrong_none (n ∷ ns) [] h = refl
wrong_none (n ∷ ns) (true ∷ bs) h = absurd (let e : true ≡ false = h.0 in cc)
wrong_none (n ∷ ns) (false ∷ bs) h = wrong_none ns bs h.1

pub none_misplaced : (ts : List Token) (ss : List Stmt) → length (marks_from 0 ts) ≡ length (flags ss)
    → (misplaced ts ss ≡ None) ↔ StandRight ss
none_misplaced ts ss l = (
  λ e. script_stands ss (none_wrong (marks_from 0 ts) (flags ss) l e),
  λ h. wrong_none (marks_from 0 ts) (flags ss) (script_right ss h),
)
