-- The flags of a script that code holds, statement by statement.
use Rattle.std.proofs.Common.{◌≡◌, ◌≢◌, ℕ, zero, suc, ◌+◌, ◌<◌, Bool, true, false, not, List, [], ◌∷◌, ◌++◌, length}
use Rattle.std.proofs.Common.{take, get_or, Option, Some, None, map, refl, sym, ◌∙◌, ap, arith, append_assoc}
use Rattle.std.proofs.Common.{append-nil, ◌==◌, eqb-true}
use Rattle.std.specs.Option.{is_some}
use Rattle.std.proofs.lemmas.List.{take_more}
use Rattle.dt_tree.specs.declared.tree.Expr.{Expr}
use Rattle.dt_tree.specs.declared.tree.Expr.TheOpen as layer
use Rattle.dt_tree.specs.declared.tree.Expr.TheVariants as code
use Rattle.dt_tree.specs.declared.tree.Arg.{Arg}
use Rattle.dt_tree.specs.declared.tree.Bracket.{Bracket, out-Bracket}
use Rattle.dt_tree.specs.declared.tree.Second.{Second, out-Second, roll-Second, roll-out-Second}
use Rattle.dt_tree.specs.declared.tree.Second.TheVariants as second
use Rattle.dt_tree.specs.declared.tree.Stmt as stmt_type
use Rattle.run_model.specs.GrammarTrees.{Word, Tree, Query, Args, NoArgs, MoreArgs, Item, Absent, Given, Assigns}
use Rattle.run_model.specs.GrammarTrees.{AssignsAll}
use Rattle.run_model.specs.Misplaced.{Stage, Free, Assigned, target_flags, inner, inner_args, j_stage, j_flags}
use Rattle.run_model.specs.Misplaced.{all_named, are_pairs, is_empty, outer, outer_brackets, bracket_flags, stage}
use Rattle.run_model.specs.Misplaced.{next_stage, stmt_flags, flags}
use Rattle.run_model.specs.TreeView.{ArgTree, args_from, arg_of, tree_of, item_of_second, args_of, brackets_of}
use Rattle.run_model.specs.TreeView.{first_of, second_of, stmt_of, stmts_of}
use Rattle.dt_grammar.proofs.Forms.{is_query, no_query}
use Rattle.dt_grammar.proofs.Inverse.{SecondLayer, second-roll, bracket_opened}
use Rattle.dt_grammar.proofs.Trees.{tree_of-Query, arg_of_is, args_of-push, brackets_of-push, item_of_second-Value}
use Rattle.dt_grammar.proofs.Trees.{item_of_second-Assign, item_of_second-AssignAll}
use Rattle.dt_misplaced.proofs.Parts.{both_parts}

pub stage-Value : (t : Expr) → j_stage (item_of_second (second.Value t)) ≡ Free
stage-Value t = ap j_stage (item_of_second-Value t)

pub stage-Assign : (l r : Expr) → j_stage (item_of_second (second.Assign l r)) ≡ Assigned
stage-Assign l r = ap j_stage (item_of_second-Assign l r)

pub stage-AssignAll : (args : List Arg) → j_stage (item_of_second (second.AssignAll args)) ≡ Assigned
stage-AssignAll args = ap j_stage (item_of_second-AssignAll args)

pub ruleset stages = (stage-Value, stage-Assign, stage-AssignAll)

-- brackets of an outermost chain, one more at the end
pub chain-push : (bs : List Bracket) (x : Bracket)
    → outer_brackets (brackets_of (bs ++ x ∷ []))
    ≡ (let b = out-Bracket x in outer_brackets (brackets_of bs)
    ++ bracket_flags (stage (brackets_of bs)) (first_of b.first) (second_of b.second) (first_of b.third)
    (args_of b.args))
chain-push bs x = ap outer_brackets (brackets_of-push bs x)
    ∙ ap (λ b. outer_brackets (brackets_of bs)
    ++ bracket_flags (stage (brackets_of bs)) b.first b.second b.third b.args) (bracket_opened x)

pub stage-push : (bs : List Bracket) (x : Bracket)
    → stage (brackets_of (bs ++ x ∷ [])) ≡ next_stage (stage (brackets_of bs)) (second_of (out-Bracket x).second)
stage-push bs x = ap stage (brackets_of-push bs x)
    ∙ ap (λ b. next_stage (stage (brackets_of bs)) b.second) (bracket_opened x)

module _ (xs : List Bracket) (i : ℕ) (d : Bracket) (h : i < length xs) (e : d ≡ get_or xs i d) where
  taken : take (i + 1) xs ≡ take i xs ++ d ∷ []
  taken = take_more xs i d h ∙ ap (λ y. take i xs ++ y ∷ []) (sym e)

  pub chain_more : (old mid new : List Bool) (s : Stage) → s ≡ stage (brackets_of (take i xs))
      → mid ≡ old ++ outer_brackets (brackets_of (take i xs))
      → (let b = out-Bracket d in new ≡ mid ++ bracket_flags s (first_of b.first) (second_of b.second)
      (first_of b.third) (args_of b.args)) → new ≡ old ++ outer_brackets (brackets_of (take (i + 1) xs))
  chain_more old mid new s q m n =
      let b = out-Bracket d in
      both_parts old mid new (outer_brackets (brackets_of (take i xs)))
      (bracket_flags s (first_of b.first) (second_of b.second) (first_of b.third) (args_of b.args)) m n
      ∙ ap (λ z. old ++ z) (ap (λ z. outer_brackets (brackets_of (take i xs))
      ++ bracket_flags z (first_of b.first) (second_of b.second) (first_of b.third) (args_of b.args)) q
      ∙ sym (chain-push (take i xs) d) ∙ ap (λ z. outer_brackets (brackets_of z)) (sym taken))

  pub stage_more : (s t : Stage) → s ≡ stage (brackets_of (take i xs))
      → t ≡ next_stage s (second_of (out-Bracket d).second) → t ≡ stage (brackets_of (take (i + 1) xs))
  stage_more s t q n = n ∙ ap (λ z. next_stage z (second_of (out-Bracket d).second)) q ∙ sym (stage-push (take i xs) d)
      ∙ ap (λ z. stage (brackets_of z)) (sym taken)

-- statements, one more at the end
pub stmts-push : (ss : List stmt_type.Stmt) (x : stmt_type.Stmt)
    → flags (stmts_of (ss ++ x ∷ [])) ≡ flags (stmts_of ss) ++ (target_flags x.target ++ outer (tree_of x.expr))
stmts-push [] x = append-nil (target_flags x.target ++ outer (tree_of x.expr))
stmts-push (y ∷ ss) x = ap (λ z. stmt_flags (stmt_of y) ++ z) (stmts-push ss x)
    ∙ sym (append_assoc (stmt_flags (stmt_of y)) (flags (stmts_of ss))
    (target_flags x.target ++ outer (tree_of x.expr)))

-- a statement's expression
pub outer-Query : (t : Expr) (bs : List Bracket)
    → outer (tree_of (code.Query t bs)) ≡ inner (tree_of t) ++ outer_brackets (brackets_of bs)
outer-Query t bs = ap outer (tree_of-Query t bs)

outer_tree : (t : Tree) → is_query t ≡ false → outer t ≡ inner t
outer_tree (Query u bs) e = absurd cc
outer_tree t e = refl

pub outer_other : (e : Expr) → ((t : Expr) (bs : List Bracket) → e ≢ code.Query t bs)
    → outer (tree_of e) ≡ inner (tree_of e)
outer_other e h = outer_tree (tree_of e) (no_query e h)

-- j where an assignment may stand
pub free-Value : (t : Expr) → j_flags (item_of_second (second.Value t)) ≡ inner (tree_of t)
free-Value t = ap j_flags (item_of_second-Value t)

pub free-Assign : (l r : Expr) → j_flags (item_of_second (second.Assign l r)) ≡ inner (tree_of l) ++ false
    ∷ inner (tree_of r)
free-Assign l r = ap j_flags (item_of_second-Assign l r)

pub free-AssignAll : (args : List Arg) → j_flags (item_of_second (second.AssignAll args))
    ≡ not (are_pairs (args_of args)) ∷ inner_args (args_of args)
free-AssignAll args = ap j_flags (item_of_second-AssignAll args)

pub ruleset free = (free-Value, free-Assign, free-AssignAll)

-- names of arguments
named_from : (before : Args) (xs : List ArgTree) → all_named before ≡ false → all_named (args_from before xs) ≡ false
named_from before [] e = e
named_from before (x ∷ xs) e = named_from (MoreArgs before x.0 x.1) xs (step x.0)
  where
    step : (o : Option Word) → all_named (MoreArgs before o x.1) ≡ false
    step None = refl
    step (Some n) = e

unnamed_from : (before : Args) (xs : List Arg) (i : ℕ) (d : Arg) → i < length xs → (get_or xs i d).name ≡ None
    → all_named (args_from before (map arg_of xs)) ≡ false
unnamed_from before [] i d h e = absurd (omega arith)
unnamed_from before (x ∷ xs) zero d h e =
    named_from (MoreArgs before (arg_of x).0 (arg_of x).1) (map arg_of xs)
    (ap (λ a. all_named (MoreArgs before a.0 a.1)) (arg_of_is x)
    ∙ ap (λ o. all_named (MoreArgs before o (tree_of x.value))) e)
unnamed_from before (x ∷ xs) (suc i) d h e =
    unnamed_from (MoreArgs before (arg_of x).0 (arg_of x).1) xs i d (omega arith) e

none_if : (o : Option Word) → is_some o ≡ false → o ≡ None
none_if None e = refl
none_if (Some x) e = absurd cc

some_if : (o : Option Word) → is_some o ≡ true → o ≢ None
some_if None e q = cc
some_if (Some x) e q = cc

pub unnamed_at : (xs : List Arg) (i : ℕ) (d : Arg) → i < length xs → d ≡ get_or xs i d → is_some d.name ≡ false
    → all_named (args_of xs) ≡ false
unnamed_at xs i d h q e = unnamed_from NoArgs xs i d h (sym (ap (λ a. a.name) q) ∙ none_if d.name e)

named_one : (before : Args) (o : Option Word) (t : Tree) → o ≢ None → all_named (MoreArgs before o t) ≡ all_named before
named_one before None t h = absurd (h refl)
named_one before (Some x) t h = refl

pub named_more : (xs : List Arg) (i : ℕ) (d : Arg) → i < length xs → d ≡ get_or xs i d → is_some d.name ≡ true
    → all_named (args_of (take i xs)) ≡ true → all_named (args_of (take (i + 1) xs)) ≡ true
named_more xs i d h q e m = ap (λ z. all_named (args_of z)) (take_more xs i d h ∙ ap (λ y. take i xs ++ y ∷ []) (sym q))
    ∙ ap all_named (args_of-push (take i xs) d)
    ∙ named_one (args_of (take i xs)) d.name (tree_of d.value) (some_if d.name e) ∙ m

-- whether there are arguments
is_none : Args → Bool
is_none NoArgs = true
is_none (MoreArgs before o t) = false

more_from : (before : Args) (o : Option Word) (t : Tree) (xs : List ArgTree)
    → is_none (args_from (MoreArgs before o t) xs) ≡ false
unfolding is_none
more_from before o t [] = refl
more_from before o t (x ∷ xs) = more_from (MoreArgs before o t) x.0 x.1 xs

some_args : (args : List Arg) → (length args == 0) ≡ false → is_none (args_of args) ≡ false
unfolding is_none
some_args [] e = absurd cc
some_args (x ∷ xs) e = more_from NoArgs (arg_of x).0 (arg_of x).1 (map arg_of xs)

pairs_if_some : (a : Args) → is_none a ≡ false → all_named a ≡ are_pairs a
unfolding is_none
pairs_if_some NoArgs e = absurd cc
pairs_if_some (MoreArgs before o t) e = refl

pub pairs_are_named : (args : List Arg) → (length args == 0) ≡ false
    → all_named (args_of args) ≡ are_pairs (args_of args)
pairs_are_named args e = pairs_if_some (args_of args) (some_args args e)

empty_if_none : (a : Args) → is_none a ≡ false → is_empty Absent Absent Absent a ≡ false
unfolding is_none
empty_if_none NoArgs e = absurd cc
empty_if_none (MoreArgs before o t) e = refl

-- an empty bracket
pub with_i : (o : Option Expr) (j by : Item) (args : Args) → is_some o ≡ true → false ≡ is_empty (first_of o) j by args
with_i None j by args e = absurd cc
with_i (Some t) j by args e = refl

with_j_item : (i j by : Item) (args : Args) → j ≢ Absent → false ≡ is_empty i j by args
with_j_item Absent Absent by args h = absurd (h refl)
with_j_item Absent (Given t) by args h = refl
with_j_item Absent (Assigns l r) by args h = refl
with_j_item Absent (AssignsAll x) by args h = refl
with_j_item (Given t) j by args h = refl
with_j_item (Assigns l r) j by args h = refl
with_j_item (AssignsAll x) j by args h = refl

present_layer : (l : SecondLayer) → item_of_second (roll-Second l) ≢ Absent
present_layer (layer.Value t) e = let q = second-roll (layer.Value t) in cc (q, e)
present_layer (layer.Assign l r) e = let q = second-roll (layer.Assign l r) in cc (q, e)
present_layer (layer.AssignAll args) e = let q = second-roll (layer.AssignAll args) in cc (q, e)

present : (s : Second) → item_of_second s ≢ Absent
present s e = present_layer (out-Second s) (ap item_of_second (roll-out-Second s) ∙ e)

pub with_j : (i : Item) (o : Option Second) (by : Item) (args : Args) → is_some o ≡ true
    → false ≡ is_empty i (second_of o) by args
with_j i None by args e = absurd cc
with_j i (Some s) by args e = with_j_item i (item_of_second s) by args (present s)

pub with_by : (i j : Item) (o : Option Expr) (args : Args) → is_some o ≡ true → false ≡ is_empty i j (first_of o) args
with_by i j None args e = absurd cc
with_by Absent Absent (Some t) args e = refl
with_by Absent (Given u) (Some t) args e = refl
with_by Absent (Assigns l r) (Some t) args e = refl
with_by Absent (AssignsAll x) (Some t) args e = refl
with_by (Given u) j (Some t) args e = refl
with_by (Assigns l r) j (Some t) args e = refl
with_by (AssignsAll x) j (Some t) args e = refl

args_alone : (args : List Arg) (b : Bool) → (length args == 0) ≡ b → b ≡ is_empty Absent Absent Absent (args_of args)
args_alone [] true e = refl
args_alone [] false e = absurd cc
args_alone (x ∷ xs) true e = absurd (let q = eqb-true (length (x ∷ xs)) 0 e in omega arith)
args_alone (x ∷ xs) false e = sym (empty_if_none (args_of (x ∷ xs)) (some_args (x ∷ xs) e))

pub by_args : (o : Option Expr) (j : Option Second) (p : Option Expr) (args : List Arg) → is_some o ≡ false
    → is_some j ≡ false → is_some p ≡ false → (length args == 0)
    ≡ is_empty (first_of o) (second_of j) (first_of p) (args_of args)
by_args None None None args e f g = args_alone args (length args == 0) refl
by_args (Some t) j p args e f g = absurd cc
by_args None (Some t) p args e f g = absurd cc
by_args None None (Some t) args e f g = absurd cc
