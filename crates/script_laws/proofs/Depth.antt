-- Brackets are closed where an expression ends.
use Rattle.std.proofs.Common.{◌≡◌, ℕ, ◌+◌, ◌-◌, Bool, List, [], ◌∷◌, ◌++◌, Option, refl, sym, ◌∙◌, ap, subst, arith}
use Rattle.dt_base.specs.declared.operators.Op.TheVariants.{Add}
use Rattle.dt_tree.specs.declared.token.Placed.{Placed}
use Rattle.dt_tree.specs.declared.token.Sign.TheVariants as sign
use Rattle.dt_tree.specs.declared.token.Token as token_type
use Rattle.dt_tree.specs.declared.token.Token.TheVariants as token
use Rattle.dt_tree.specs.declared.tree.BinOp.TheVariants.{Arith}
use Rattle.run_model.specs.GrammarTrees.{Word, Prefix, Not, Negate, Token, Name, Operator, Tilde, Assign, Is, Open}
use Rattle.run_model.specs.GrammarTrees.{Shut, OpenSquare, ShutSquare, Comma, Tree, Tails, Args, Item, Brackets}
use Rattle.run_model.specs.Grammar.{prefix_token, Filled, IsTarget, without, named, IsLeft, plain, arrow, IsNames, name}
use Rattle.run_model.specs.Grammar.{names, IsExpr, higher, chain, unary, bracket, literal, var, call, paren, IsTails}
use Rattle.run_model.specs.Grammar.{one, again, IsHead, bare, behind, IsArg, expr, formula, IsArgs, none, some}
use Rattle.run_model.specs.Grammar.{IsBefore, first, later, IsItem, empty, value, assigns, IsItems, unnamed, with}
use Rattle.run_model.specs.Grammar.{IsFilled, begin, comma}
use Rattle.run_model.specs.TokenView.{plain_token, plain_tokens}
use Rattle.run_model.specs.Tokens.{deeper}
use Rattle.run_model.specs.TokenLaws.{BreaksLead}

-- how many brackets are open behind a token, and behind tokens
abbrev pub deep : ℕ → Token → ℕ
deep n Open = n + 1
deep n OpenSquare = n + 1
deep n Shut = n - 1
deep n ShutSquare = n - 1
deep n _ = n

abbrev pub depth : ℕ → List Token → ℕ
depth n [] = n
depth n (x ∷ xs) = depth (deep n x) xs

depth-append : (us vs : List Token) (n : ℕ) → depth n (us ++ vs) ≡ depth (depth n us) vs
depth-append [] vs n = refl
depth-append (x ∷ us) vs n = depth-append us vs (deep n x)

-- parts that leave the number as it is
pub IsFlat : List Token → Type 0
IsFlat ts = (n : ℕ) → depth n ts ≡ n

both : (us vs : List Token) → IsFlat us → IsFlat vs → IsFlat (us ++ vs)
unfolding IsFlat
both us vs f g n = depth-append us vs n ∙ ap (λ k. depth k vs) (f n) ∙ g n

inside : (ts : List Token) → IsFlat ts → IsFlat (Open ∷ (ts ++ Shut ∷ []))
unfolding IsFlat
inside ts f n = depth-append ts (Shut ∷ []) (n + 1) ∙ ap (λ k. k - 1) (f (n + 1)) ∙ omega arith

in_square : (ts : List Token) → IsFlat ts → IsFlat (OpenSquare ∷ (ts ++ ShutSquare ∷ []))
unfolding IsFlat
in_square ts f n = depth-append ts (ShutSquare ∷ []) (n + 1) ∙ ap (λ k. k - 1) (f (n + 1)) ∙ omega arith

flat_target : {ts : List Token} {o : Option Word} → IsTarget ts o → IsFlat ts
unfolding IsFlat
flat_target without n = refl
flat_target named n = refl

flat_left : {ts : List Token} {o : Option Word} → IsLeft ts o → IsFlat ts
unfolding IsFlat
flat_left (plain d) n = flat_target d n
flat_left arrow n = refl

flat_names : {ts : List Token} {xs : List Word} → IsNames ts xs → IsFlat ts
unfolding IsFlat
flat_names name n = refl
flat_names (names {ts} x d) n = both ts (Operator (Arith Add) ∷ Name x ∷ []) (flat_names d) (λ k. refl) n

flat_prefix : (p : Prefix) (ts : List Token) → IsFlat ts → IsFlat (prefix_token p ∷ ts)
unfolding IsFlat
flat_prefix Not ts f n = f n
flat_prefix Negate ts f n = f n

mutual
  unfolding IsFlat

  pub flat : {k : ℕ} {ts : List Token} {t : Tree} → IsExpr k ts t → IsFlat ts
  flat (higher d) n = flat d n
  flat (chain {us = us} {vs} d e) n = both us vs (flat d) (flat_tails e) n
  flat (unary {ts} p d) n = flat_prefix p ts (flat d) n
  flat (bracket {us} {vs} d e) n = both us (OpenSquare ∷ (vs ++ ShutSquare ∷ [])) (flat_head d)
      (in_square vs (flat_items e)) n
  flat literal n = refl
  flat var n = refl
  flat (call {ts = ts} d) n = inside ts (flat_args d) n
  flat (paren {ts} d) n = inside ts (flat d) n

  flat_tails : {k : ℕ} {ts : List Token} {rest : Tails} → IsTails k ts rest → IsFlat ts
  flat_tails (one op d) n = flat d n
  flat_tails (again {us = us} {vs} op d e f d') n = both us (Operator op ∷ vs) (flat_tails d) (flat d') n

  flat_head : {ts : List Token} {t : Tree} {bs : Brackets} → IsHead ts t bs → IsFlat ts
  flat_head (bare d) n = flat d n
  flat_head (behind d) n = flat d n

  flat_arg : {ts : List Token} {t : Tree} → IsArg ts t → IsFlat ts
  flat_arg (expr d) n = flat d n
  flat_arg (formula {us} {vs} a b) n = both us (Tilde ∷ vs) (flat_names a) (flat_names b) n

  flat_args : {ts : List Token} {args : Args} → IsArgs ts args → IsFlat ts
  flat_args none n = refl
  flat_args (some {us} {vs} {ws} b a d) n =
      both us (vs ++ ws) (flat_before b) (both vs ws (flat_target a) (flat_arg d)) n

  flat_before : {ts : List Token} {args : Args} → IsBefore ts args → IsFlat ts
  flat_before first n = refl
  flat_before (later {ts} d) n = both ts (Comma ∷ []) (flat_args d) (λ k. refl) n

  flat_item : {j : Bool} {ts : List Token} {x : Item} → IsItem j ts x → IsFlat ts
  flat_item empty n = refl
  flat_item (value d) n = flat d n
  flat_item (assigns {us} {vs} d e) n = both us (Assign ∷ vs) (flat d) (flat e) n

  flat_items : {ts : List Token} {f : Filled} → IsItems ts f → IsFlat ts
  flat_items (unnamed {us} {vs} b e d) n = both us vs (flat_filled b) (flat_item d) n
  flat_items (with {us} {vs} x b d) n = both us (Name x ∷ Is ∷ vs) (flat_filled b) (flat d) n

  flat_filled : {ts : List Token} {f : Filled} → IsFilled ts f → IsFlat ts
  flat_filled begin n = refl
  flat_filled (comma {ts} d) n = both ts (Comma ∷ []) (flat_items d) (λ k. refl) n

-- the same number over the tokens of a script
same_deep : (n : ℕ) (u : token_type.Token) → deeper n u ≡ deep n (plain_token u)
same_deep n (token.Name x) = refl
same_deep n (token.Word w) = refl
same_deep n (token.Int i) = refl
same_deep n (token.Chr s) = refl
same_deep n (token.Break m) = refl
same_deep n (token.Sign sign.In) = refl
same_deep n (token.Sign sign.Div) = refl
same_deep n (token.Sign sign.Mod) = refl
same_deep n (token.Sign sign.Arrow) = refl
same_deep n (token.Sign sign.Assign) = refl
same_deep n (token.Sign sign.Eq) = refl
same_deep n (token.Sign sign.Ne) = refl
same_deep n (token.Sign sign.Le) = refl
same_deep n (token.Sign sign.Ge) = refl
same_deep n (token.Sign sign.Open) = refl
same_deep n (token.Sign sign.Shut) = refl
same_deep n (token.Sign sign.OpenSquare) = refl
same_deep n (token.Sign sign.ShutSquare) = refl
same_deep n (token.Sign sign.Comma) = refl
same_deep n (token.Sign sign.Semi) = refl
same_deep n (token.Sign sign.Plus) = refl
same_deep n (token.Sign sign.Minus) = refl
same_deep n (token.Sign sign.Times) = refl
same_deep n (token.Sign sign.Lt) = refl
same_deep n (token.Sign sign.Gt) = refl
same_deep n (token.Sign sign.And) = refl
same_deep n (token.Sign sign.Or) = refl
same_deep n (token.Sign sign.Bang) = refl
same_deep n (token.Sign sign.Range) = refl
same_deep n (token.Sign sign.Tilde) = refl
same_deep n (token.Sign sign.Is) = refl

passed : (us rest : List Placed) (n : ℕ) → BreaksLead n (us ++ rest) → BreaksLead (depth n (plain_tokens us)) rest
passed [] rest n b = b
passed (u ∷ us) rest n b = subst (λ k. BreaksLead (depth k (plain_tokens us)) rest) (same_deep n u.token)
    (passed us rest (deeper n u.token) b.1)

-- what is said of breaks, behind tokens that leave no bracket open
pub passed_flat : (us rest : List Placed) (n : ℕ) → IsFlat (plain_tokens us) → BreaksLead n (us ++ rest)
    → BreaksLead n rest
unfolding IsFlat
passed_flat us rest n f b = subst (λ k. BreaksLead k rest) (f n) (passed us rest n b)

pub flat_stmt : {vs ws : List Token} {o : Option Word} {k : ℕ} {t : Tree} → IsLeft vs o → IsExpr k ws t
    → IsFlat (vs ++ ws)
flat_stmt {vs} {ws} l d = both vs ws (flat_left l) (flat d)

pub flat_part : (us : List Placed) (ts : List Token) → plain_tokens us ≡ ts → IsFlat ts → IsFlat (plain_tokens us)
flat_part us ts e f = subst IsFlat (sym e) f
