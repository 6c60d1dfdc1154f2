-- The induction over the fold that gives meanings.
--   Layer             a form with the meanings of its parts
--   Each P xs         P holds of each of these
--   Parts P l         P holds of the parts of a layer, those of brackets left out
--   holds_of_all      what each layer takes over from its parts holds of the meaning of every expression
use Rattle.std.proofs.Common.{List, [], ◌∷◌, map, sym, subst}
use Rattle.dt_tree.specs.declared.tree.Arg.{Arg}
use Rattle.dt_tree.specs.declared.tree.Bracket.{Bracket}
use Rattle.dt_tree.specs.declared.tree.Expr.{Expr}
use Rattle.dt_tree.specs.declared.tree.Expr.TheFolds.{ind-Expr, fold-roll-Expr, fold-roll-Arg, fold-roll-Tail, map-Expr}
use Rattle.dt_tree.specs.declared.tree.Expr.TheOpen.{Expr-F}
use Rattle.dt_tree.specs.declared.tree.Expr.TheOpen as layer
use Rattle.dt_tree.specs.declared.tree.Second.{Second}
use Rattle.dt_tree.specs.declared.tree.Tail.{Tail}
use Rattle.session_model.specs.Meaning.{expr_step, second_step, arg_step, bracket_step, tail_step, meaning, arg_meaning}
use Rattle.session_model.specs.Meaning.{tail_meaning, second_meaning, bracket_meaning}
use Rattle.session_model.specs.Meanings.{Meaning, ArgMeaning, TailMeaning, SecondMeaning, BracketMeaning}

abbrev pub Layer : Type 0
Layer = Expr-F Meaning SecondMeaning ArgMeaning BracketMeaning TailMeaning

abbrev pub Each : {A : Type 0} → (A → Type 0) → List A → Type 0
Each P [] = Unit {0}
Each P (x ∷ xs) = P x × Each P xs

abbrev pub Parts : (Meaning → Type 0) → Layer → Type 0
Parts P (layer.Lit cell kind) = Unit {0}
Parts P layer.Null = Unit {0}
Parts P layer.Infinite = Unit {0}
Parts P (layer.Name name) = Unit {0}
Parts P (layer.Paren inner) = P inner
Parts P (layer.Minus arg) = P arg
Parts P (layer.Not arg) = P arg
Parts P (layer.Chain first rest) = P first × Each (λ t. P t.means) rest
Parts P (layer.Call name args) = Each (λ a. P a.means) args
Parts P (layer.Query head brackets) = P head
Parts P (layer.Formula left right) = Unit {0}

-- a form with the meanings of the parts that it has in a tree
abbrev meant : Expr-F Expr Second Arg Bracket Tail → Layer
meant = map-Expr Expr Second Arg Bracket Tail Meaning SecondMeaning ArgMeaning BracketMeaning TailMeaning meaning
    second_meaning arg_meaning bracket_meaning tail_meaning

module _ (P : Meaning → Type 0) where
  abbrev Said : Expr → Type 0
  Said e = P (meaning e)

  abbrev SaidOfTail : Tail → Type 0
  SaidOfTail t = P (tail_meaning t).means

  abbrev SaidOfArg : Arg → Type 0
  SaidOfArg a = P (arg_meaning a).means

  tails : (ts : List ((t : Tail) × SaidOfTail t)) → Each (λ t. P t.means) (map tail_meaning (map (λ t. t.0) ts))
  tails [] = tt
  tails (t ∷ ts) = (t.1, tails ts)

  args : (xs : List ((a : Arg) × SaidOfArg a)) → Each (λ a. P a.means) (map arg_meaning (map (λ a. a.0) xs))
  args [] = tt
  args (x ∷ xs) = (x.1, args xs)

  abbrev Held : Type 0
  Held = Expr-F ((e : Expr) × Said e) ((s : Second) × Unit {0}) ((a : Arg) × SaidOfArg a) ((b : Bracket) × Unit {0})
      ((t : Tail) × SaidOfTail t)

  abbrev bare : Held → Expr-F Expr Second Arg Bracket Tail
  bare = map-Expr ((e : Expr) × Said e) ((s : Second) × Unit {0}) ((a : Arg) × SaidOfArg a) ((b : Bracket) × Unit {0})
      ((t : Tail) × SaidOfTail t) Expr Second Arg Bracket Tail (λ e. e.0) (λ s. s.0) (λ a. a.0) (λ b. b.0) (λ t. t.0)

  parts : (y : Held) → Parts P (meant (bare y))
  parts (layer.Lit cell kind) = tt
  parts layer.Null = tt
  parts layer.Infinite = tt
  parts (layer.Name name) = tt
  parts (layer.Paren e) = e.1
  parts (layer.Minus e) = e.1
  parts (layer.Not e) = e.1
  parts (layer.Chain e ts) = (e.1, tails ts)
  parts (layer.Call name xs) = args xs
  parts (layer.Query e bs) = e.1
  parts (layer.Formula left right) = tt

  pub holds_of_all : ((l : Layer) → Parts P l → P (expr_step l)) → (e : Expr) → Said e
  holds_of_all step =
      ind-Expr Said (λ s. Unit {0}) SaidOfArg (λ b. Unit {0}) SaidOfTail
      (λ x y is. subst P
      (sym (fold-roll-Expr Meaning SecondMeaning ArgMeaning BracketMeaning TailMeaning expr_step second_step
      arg_step bracket_step tail_step x)) (step (meant x) (subst (λ z. Parts P (meant z)) is (parts y))))
      (λ x y is. tt)
      (λ x y is. subst (λ z. P z.means)
      (sym (fold-roll-Arg Meaning SecondMeaning ArgMeaning BracketMeaning TailMeaning expr_step second_step arg_step
      bracket_step tail_step x)) (subst (λ z. P (meaning z.value)) is y.value.1))
      (λ x y is. tt)
      (λ x y is. subst (λ z. P z.means)
      (sym (fold-roll-Tail Meaning SecondMeaning ArgMeaning BracketMeaning TailMeaning expr_step second_step
      arg_step bracket_step tail_step x)) (subst (λ z. P (meaning z.arg)) is y.arg.1))
