-- A tree that code holds is known from what it is seen as.
use Rattle.std.proofs.Common.{◌≡◌, ◌⊎◌, inl, inr, List, [], ◌∷◌, ◌++◌, Option, Some, None, option_map, refl, sym, ◌∙◌}
use Rattle.std.proofs.Common.{ap, ap₂}
use Rattle.dt_tree.specs.declared.tree.Expr.{Expr, out-Expr, roll-Expr, roll-out-Expr}
use Rattle.dt_tree.specs.declared.tree.Expr.TheOpen.{Expr-F, Second-F}
use Rattle.dt_tree.specs.declared.tree.Expr.TheOpen as layer
use Rattle.dt_tree.specs.declared.tree.Expr.TheVariants as code
use Rattle.dt_tree.specs.declared.tree.Tail.{Tail}
use Rattle.dt_tree.specs.declared.tree.Arg.{Arg}
use Rattle.dt_tree.specs.declared.tree.Bracket.{Bracket, out-Bracket, roll-Bracket, roll-out-Bracket}
use Rattle.dt_tree.specs.declared.tree.Second.{Second, out-Second, roll-Second, roll-out-Second}
use Rattle.dt_tree.specs.declared.tree.Second.TheVariants as second
use Rattle.run_model.specs.GrammarTrees.{Typed, Null, Infinite, Not, Negate, Tree, Lit, Var, Paren, Unary, Chain, Call}
use Rattle.run_model.specs.GrammarTrees.{Query, Formula, Tails, NoTails, MoreTails, Args, NoArgs, MoreArgs, Item}
use Rattle.run_model.specs.GrammarTrees.{Absent, Given, Assigns, AssignsAll, Brackets, NoBrackets, MoreBrackets}
use Rattle.run_model.specs.TreeView.{tree_of, item_of_second, item_in, bracket_of, tails_of, args_of, brackets_of}
use Rattle.run_model.specs.TreeView.{first_of, second_of}
use Rattle.dt_grammar.proofs.Trees.{tree_of-Lit, tree_of-Null, tree_of-Infinite, tree_of-Name, tree_of-Paren}
use Rattle.dt_grammar.proofs.Trees.{tree_of-Minus, tree_of-Not, tree_of-Chain, tree_of-Call, tree_of-Query}
use Rattle.dt_grammar.proofs.Trees.{tree_of-Formula, tails_of-push, args_of-push, brackets_of-push, bracket_of-roll}
use Rattle.dt_grammar.proofs.Trees.{item_of_second-Value, item_of_second-Assign, item_of_second-AssignAll}

-- one layer of a tree, and the tree that it is seen as
abbrev pub Layer : Type 0
Layer = Expr-F Expr Second Arg Bracket Tail

abbrev pub seen_layer : Layer → Tree
seen_layer (layer.Lit c k) = Lit (Typed c k)
seen_layer layer.Null = Lit Null
seen_layer layer.Infinite = Lit Infinite
seen_layer (layer.Name x) = Var x
seen_layer (layer.Paren t) = Paren (tree_of t)
seen_layer (layer.Minus t) = Unary Negate (tree_of t)
seen_layer (layer.Not t) = Unary Not (tree_of t)
seen_layer (layer.Chain t rest) = Chain (tree_of t) (tails_of rest)
seen_layer (layer.Call x args) = Call x (args_of args)
seen_layer (layer.Query t bs) = Query (tree_of t) (brackets_of bs)
seen_layer (layer.Formula xs ys) = Formula xs ys

pub tree_of-roll : (l : Layer) → tree_of (roll-Expr l) ≡ seen_layer l
tree_of-roll (layer.Lit c k) = ap tree_of (code.rolls-Lit c k) ∙ tree_of-Lit c k
tree_of-roll layer.Null = ap tree_of code.rolls-Null ∙ tree_of-Null
tree_of-roll layer.Infinite = ap tree_of code.rolls-Infinite ∙ tree_of-Infinite
tree_of-roll (layer.Name x) = ap tree_of (code.rolls-Name x) ∙ tree_of-Name x
tree_of-roll (layer.Paren t) = ap tree_of (code.rolls-Paren t) ∙ tree_of-Paren t
tree_of-roll (layer.Minus t) = ap tree_of (code.rolls-Minus t) ∙ tree_of-Minus t
tree_of-roll (layer.Not t) = ap tree_of (code.rolls-Not t) ∙ tree_of-Not t
tree_of-roll (layer.Chain t rest) = ap tree_of (code.rolls-Chain t rest) ∙ tree_of-Chain t rest
tree_of-roll (layer.Call x args) = ap tree_of (code.rolls-Call x args) ∙ tree_of-Call x args
tree_of-roll (layer.Query t bs) = ap tree_of (code.rolls-Query t bs) ∙ tree_of-Query t bs
tree_of-roll (layer.Formula xs ys) = ap tree_of (code.rolls-Formula xs ys) ∙ tree_of-Formula xs ys

abbrev pub SecondLayer : Type 0
SecondLayer = Second-F Expr Second Arg Bracket Tail

abbrev pub seen_second : SecondLayer → Item
seen_second (layer.Value t) = Given (tree_of t)
seen_second (layer.Assign l r) = Assigns (tree_of l) (tree_of r)
seen_second (layer.AssignAll args) = AssignsAll (args_of args)

pub second-roll : (l : SecondLayer) → item_of_second (roll-Second l) ≡ seen_second l
second-roll (layer.Value t) = ap item_of_second (second.rolls-Value t) ∙ item_of_second-Value t
second-roll (layer.Assign l r) = ap item_of_second (second.rolls-Assign l r) ∙ item_of_second-Assign l r
second-roll (layer.AssignAll args) = ap item_of_second (second.rolls-AssignAll args) ∙ item_of_second-AssignAll args

-- the last of a list
snoc_view : {A : Type 0} (xs : List A) → (xs ≡ []) ⊎ ((ys : List A) × (y : A) × (xs ≡ ys ++ y ∷ []))
snoc_view [] = inl refl
snoc_view (x ∷ xs) = elim (snoc_view xs) [
  | inl e ↦ inr ([], x, ap (λ z. x ∷ z) e)
  | inr r ↦ inr (x ∷ r.0, r.1, ap (λ z. x ∷ z) r.2)
]

-- the tree that code holds, of what it is seen as
abbrev mutual
  pub expr_from : Tree → Expr
  expr_from (Lit (Typed c k)) = code.Lit c k
  expr_from (Lit Null) = code.Null
  expr_from (Lit Infinite) = code.Infinite
  expr_from (Var x) = code.Name x
  expr_from (Paren t) = code.Paren (expr_from t)
  expr_from (Unary Negate t) = code.Minus (expr_from t)
  expr_from (Unary Not t) = code.Not (expr_from t)
  expr_from (Chain t rest) = code.Chain (expr_from t) (tails_back rest)
  expr_from (Call x args) = code.Call x (args_back args)
  expr_from (Query t bs) = code.Query (expr_from t) (brackets_back bs)
  expr_from (Formula xs ys) = code.Formula xs ys

  pub tails_back : Tails → List Tail
  tails_back NoTails = []
  tails_back (MoreTails before op t) = tails_back before ++ record { op = op; arg = expr_from t } ∷ []

  pub args_back : Args → List Arg
  args_back NoArgs = []
  args_back (MoreArgs before o t) = args_back before ++ record { name = o; value = expr_from t } ∷ []

  pub first_back : Item → Option Expr
  first_back (Given t) = Some (expr_from t)
  first_back _ = None

  pub second_back : Item → Option Second
  second_back Absent = None
  second_back (Given t) = Some (second.Value (expr_from t))
  second_back (Assigns l r) = Some (second.Assign (expr_from l) (expr_from r))
  second_back (AssignsAll args) = Some (second.AssignAll (args_back args))

  pub brackets_back : Brackets → List Bracket
  brackets_back NoBrackets = []
  brackets_back (MoreBrackets before i j by args) = brackets_back before
      ++ roll-Bracket (record {
        first = first_back i;
        second = second_back j;
        third = first_back by;
        args = args_back args;
      }) ∷ []

opened : (u : Expr) (t : Tree) → tree_of u ≡ t → seen_layer (out-Expr u) ≡ t
opened u t q = sym (tree_of-roll (out-Expr u)) ∙ ap tree_of (roll-out-Expr u) ∙ q

second_opened : (o : Option Second) → item_in (option_map seen_second (option_map out-Second o)) ≡ second_of o
second_opened None = refl
second_opened (Some s) = sym (second-roll (out-Second s)) ∙ ap item_of_second (roll-out-Second s)

second_rolled : (o : Option Second) → option_map roll-Second (option_map out-Second o) ≡ o
second_rolled None = refl
second_rolled (Some s) = ap Some (roll-out-Second s)

pub bracket_opened : (b : Bracket) → bracket_of b
    ≡ (let c = out-Bracket b in record {
      first = first_of c.first;
      second = second_of c.second;
      third = first_of c.third;
      args = args_of c.args;
    })
bracket_opened b = let c = out-Bracket b in ap bracket_of (sym (roll-out-Bracket b))
    ∙ bracket_of-roll c.first c.second c.third c.args

mutual
  back : (t : Tree) (l : Layer) → seen_layer l ≡ t → expr_from t ≡ roll-Expr l
  back (Lit (Typed c k)) (layer.Lit d m) q = let p : code.Lit c k ≡ code.Lit d m =
      ap₂ code.Lit (cc (sym q)) (cc (sym q)) in p ∙ sym (code.rolls-Lit d m)
  back (Lit Null) layer.Null q = sym code.rolls-Null
  back (Lit Infinite) layer.Infinite q = sym code.rolls-Infinite
  back (Var x) (layer.Name y) q = let p : x ≡ y = cc in ap code.Name p ∙ sym (code.rolls-Name y)
  back (Paren t) (layer.Paren u) q = let p : tree_of u ≡ t = cc in
      ap code.Paren (back t (out-Expr u) (opened u t p) ∙ roll-out-Expr u) ∙ sym (code.rolls-Paren u)
  back (Unary Negate t) (layer.Minus u) q = let p : tree_of u ≡ t = cc in
      ap code.Minus (back t (out-Expr u) (opened u t p) ∙ roll-out-Expr u) ∙ sym (code.rolls-Minus u)
  back (Unary Not t) (layer.Not u) q = let p : tree_of u ≡ t = cc in
      ap code.Not (back t (out-Expr u) (opened u t p) ∙ roll-out-Expr u) ∙ sym (code.rolls-Not u)
  back (Chain t tails) (layer.Chain u rest) q =
      let p : tree_of u ≡ t = cc in
      let r : tails_of rest ≡ tails = cc in
      ap₂ code.Chain (back t (out-Expr u) (opened u t p) ∙ roll-out-Expr u) (back_tails tails rest r)
      ∙ sym (code.rolls-Chain u rest)
  back (Call x args) (layer.Call y rest) q =
      let p : x ≡ y = cc in
      let r : args_of rest ≡ args = cc in
      ap₂ code.Call p (back_args args rest r) ∙ sym (code.rolls-Call y rest)
  back (Query t bs) (layer.Query u rest) q =
      let p : tree_of u ≡ t = cc in
      let r : brackets_of rest ≡ bs = cc in
      ap₂ code.Query (back t (out-Expr u) (opened u t p) ∙ roll-out-Expr u) (back_brackets bs rest r)
      ∙ sym (code.rolls-Query u rest)
  back (Formula xs ys) (layer.Formula vs ws) q =
      let p : xs ≡ vs = cc in
      let r : ys ≡ ws = cc in
      ap₂ code.Formula p r ∙ sym (code.rolls-Formula vs ws)
  back _ _ q = absurd cc

  back_tails : (tails : Tails) (rest : List Tail) → tails_of rest ≡ tails → tails_back tails ≡ rest
  back_tails NoTails rest q = elim (snoc_view rest) [
    | inl e ↦ sym e
    | inr r ↦ let p = sym (tails_of-push r.0 r.1) ∙ ap tails_of (sym r.2) ∙ q in absurd cc
  ]
  back_tails (MoreTails before op t) rest q =
      elim (snoc_view rest) [
        | inl e ↦ let p = ap tails_of (sym e) ∙ q in absurd cc
        | inr r ↦
            let p : MoreTails (tails_of r.0) r.1.op (tree_of r.1.arg) ≡ MoreTails before op t =
            sym (tails_of-push r.0 r.1) ∙ ap tails_of (sym r.2) ∙ q in
            let a : tails_of r.0 ≡ before = cc in
            let b : op ≡ r.1.op = cc in
            let c : tree_of r.1.arg ≡ t = cc in
            let d : record { op = op; arg = expr_from t } ≡ r.1 =
            ap₂ (λ o u. record { op = o; arg = u }) b
            (back t (out-Expr r.1.arg) (opened r.1.arg t c) ∙ roll-out-Expr r.1.arg) in
            ap₂ (λ y z. y ++ z ∷ []) (back_tails before r.0 a) d ∙ sym r.2
      ]

  back_args : (args : Args) (rest : List Arg) → args_of rest ≡ args → args_back args ≡ rest
  back_args NoArgs rest q = elim (snoc_view rest) [
    | inl e ↦ sym e
    | inr r ↦ let p = sym (args_of-push r.0 r.1) ∙ ap args_of (sym r.2) ∙ q in absurd cc
  ]
  back_args (MoreArgs before o t) rest q =
      elim (snoc_view rest) [
        | inl e ↦ let p = ap args_of (sym e) ∙ q in absurd cc
        | inr r ↦
            let p : MoreArgs (args_of r.0) r.1.name (tree_of r.1.value) ≡ MoreArgs before o t =
            sym (args_of-push r.0 r.1) ∙ ap args_of (sym r.2) ∙ q in
            let a : args_of r.0 ≡ before = cc in
            let b : o ≡ r.1.name = cc in
            let c : tree_of r.1.value ≡ t = cc in
            let d : record { name = o; value = expr_from t } ≡ r.1 =
            ap₂ (λ n u. record { name = n; value = u }) b
            (back t (out-Expr r.1.value) (opened r.1.value t c) ∙ roll-out-Expr r.1.value) in
            ap₂ (λ y z. y ++ z ∷ []) (back_args before r.0 a) d ∙ sym r.2
      ]

  back_first : (x : Item) (o : Option Expr) → first_of o ≡ x → first_back x ≡ o
  back_first Absent None q = refl
  back_first (Given t) (Some u) q = let p : tree_of u ≡ t = cc in
      ap Some (back t (out-Expr u) (opened u t p) ∙ roll-out-Expr u)
  back_first _ None q = absurd cc
  back_first _ (Some u) q = absurd cc

  back_second : (x : Item) (o : Option SecondLayer) → item_in (option_map seen_second o) ≡ x
      → second_back x ≡ option_map roll-Second o
  back_second Absent None q = refl
  back_second (Given t) (Some (layer.Value u)) q = let p : tree_of u ≡ t = cc in
      ap (λ z. Some (second.Value z)) (back t (out-Expr u) (opened u t p) ∙ roll-out-Expr u)
      ∙ ap Some (sym (second.rolls-Value u))
  back_second (Assigns l r) (Some (layer.Assign u v)) q =
      let p : tree_of u ≡ l = cc in
      let s : tree_of v ≡ r = cc in
      ap₂ (λ y z. Some (second.Assign y z)) (back l (out-Expr u) (opened u l p) ∙ roll-out-Expr u)
      (back r (out-Expr v) (opened v r s) ∙ roll-out-Expr v) ∙ ap Some (sym (second.rolls-Assign u v))
  back_second (AssignsAll args) (Some (layer.AssignAll rest)) q =
      let p : args_of rest ≡ args = cc in
      ap (λ z. Some (second.AssignAll z)) (back_args args rest p) ∙ ap Some (sym (second.rolls-AssignAll rest))
  back_second _ None q = absurd cc
  back_second _ (Some (layer.Value u)) q = absurd cc
  back_second _ (Some (layer.Assign u v)) q = absurd cc
  back_second _ (Some (layer.AssignAll rest)) q = absurd cc

  back_brackets : (bs : Brackets) (rest : List Bracket) → brackets_of rest ≡ bs → brackets_back bs ≡ rest
  back_brackets NoBrackets rest q = elim (snoc_view rest) [
    | inl e ↦ sym e
    | inr r ↦ let p = sym (brackets_of-push r.0 r.1) ∙ ap brackets_of (sym r.2) ∙ q in absurd cc
  ]
  back_brackets (MoreBrackets before i j by args) rest q =
      elim (snoc_view rest) [
        | inl e ↦ let p = ap brackets_of (sym e) ∙ q in absurd cc
        | inr r ↦
            let c = out-Bracket r.1 in
            let p : MoreBrackets (brackets_of r.0) (first_of c.first) (second_of c.second) (first_of c.third)
            (args_of c.args) ≡ MoreBrackets before i j by args =
            ap (λ b. MoreBrackets (brackets_of r.0) b.first b.second b.third b.args) (sym (bracket_opened r.1))
            ∙ sym (brackets_of-push r.0 r.1) ∙ ap brackets_of (sym r.2) ∙ q in
            let e0 : brackets_of r.0 ≡ before = cc in
            let e1 : first_of c.first ≡ i = cc in
            let e2 : second_of c.second ≡ j = cc in
            let e3 : first_of c.third ≡ by = cc in
            let e4 : args_of c.args ≡ args = cc in
            let f1 = back_first i c.first e1 in
            let f2 = back_second j (option_map out-Second c.second) (second_opened c.second ∙ e2)
            ∙ second_rolled c.second in
            let f3 = back_first by c.third e3 in
            let f4 = back_args args c.args e4 in
            let d : roll-Bracket (record {
              first = first_back i;
              second = second_back j;
              third = first_back by;
              args = args_back args;
            }) ≡ r.1 =
            ap₂ (λ x y. roll-Bracket (record { first = x; second = y; third = first_back by; args = args_back args }))
            f1 f2 ∙ ap₂ (λ x y. roll-Bracket (record { first = c.first; second = c.second; third = x; args = y }))
            f3 f4 ∙ roll-out-Bracket r.1 in
            ap₂ (λ y z. y ++ z ∷ []) (back_brackets before r.0 e0) d ∙ sym r.2
      ]

-- the view is undone
pub expr_back : (e : Expr) → expr_from (tree_of e) ≡ e
expr_back e = back (tree_of e) (out-Expr e) (opened e (tree_of e) refl) ∙ roll-out-Expr e

-- two trees that are seen alike are equal
pub same_tree : (d e : Expr) → tree_of d ≡ tree_of e → d ≡ e
same_tree d e q = sym (expr_back d) ∙ ap expr_from q ∙ expr_back e
