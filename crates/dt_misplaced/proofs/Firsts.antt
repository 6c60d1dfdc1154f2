-- The first mark whose flag is true, token by token.
use Rattle.std.proofs.Common.{◌≡◌, ℕ, suc, ◌+◌, ◌<◌, ◌≤◌, Bool, true, false, cond, List, ◌∷◌, length, drop, get_or}
use Rattle.std.proofs.Common.{Option, Some, None, sym, ◌∙◌, ap, ap₂, arith}
use Rattle.std.proofs.lemmas.List.{drop_more}
use Rattle.std.proofs.Math.ListN.{drop_of_length-le}
use Rattle.dt_tree.specs.declared.token.Placed.{Placed}
use Rattle.run_model.specs.Misplaced.{is_mark, marks_from, first_wrong}
use Rattle.run_model.specs.TokenView.{plain_token, plain_tokens}

-- what is found from the token at i on, where the flags of the marks before it are used up
abbrev pub left : List Placed → List Bool → ℕ → ℕ → Option ℕ
left us flags i next = first_wrong (marks_from i (plain_tokens (drop i us))) (drop next flags)

abbrev tried : Bool → ℕ → List ℕ → List Bool → Option ℕ
tried b i ns fs = first_wrong (cond b (i ∷ ns) ns) fs

suc_plus : (i : ℕ) → suc i ≡ i + 1
suc_plus i = omega arith

module _ (us : List Placed) (flags : List Bool) (i next : ℕ) (d : Placed) (h : i < length us)
    (e : d ≡ get_or us i d) where
  rest : List ℕ
  rest = marks_from (i + 1) (plain_tokens (drop (i + 1) us))

  here : left us flags i next ≡ tried (is_mark (plain_token d.token)) i rest (drop next flags)
  unfolding rest
  here =
      ap (λ z. first_wrong (marks_from i (plain_tokens z)) (drop next flags))
      (drop_more us i d h ∙ ap (λ y. y ∷ drop (i + 1) us) (sym e))
      ∙ ap (λ n. tried (is_mark (plain_token d.token)) i (marks_from n (plain_tokens (drop (i + 1) us)))
      (drop next flags)) (suc_plus i)

  -- the token is no mark
  pub passed : is_mark (plain_token d.token) ≡ false → left us flags (i + 1) next ≡ left us flags i next
  unfolding rest
  passed m = sym (here ∙ ap (λ b. tried b i rest (drop next flags)) m)

  -- it is a mark, and no flag is left
  pub none_left : is_mark (plain_token d.token) ≡ true → length flags ≤ next → left us flags i next ≡ None
  none_left m l = here ∙ ap₂ (λ b fs. tried b i rest fs) m (drop_of_length-le flags l)

  flag_at : (wrong : Bool) → next < length flags → wrong ≡ get_or flags next wrong
      → drop next flags ≡ wrong ∷ drop (next + 1) flags
  flag_at wrong l w = drop_more flags next wrong l ∙ ap (λ y. y ∷ drop (next + 1) flags) (sym w)

  -- it is a mark that stands wrong
  pub wrong_here : is_mark (plain_token d.token) ≡ true → next < length flags → get_or flags next true ≡ true
      → left us flags i next ≡ Some i
  wrong_here m l w = here ∙ ap₂ (λ b fs. tried b i rest fs) m (flag_at true l (sym w))

  -- it is a mark that stands right
  pub right_here : is_mark (plain_token d.token) ≡ true → next < length flags → get_or flags next false ≡ false
      → left us flags (i + 1) (next + 1) ≡ left us flags i next
  unfolding rest
  right_here m l w = sym (here ∙ ap₂ (λ b fs. tried b i rest fs) m (flag_at false l (sym w)))

-- the tokens end
pub at_end : (us : List Placed) (flags : List Bool) (i next : ℕ) → length us ≤ i → left us flags i next ≡ None
at_end us flags i next h = ap (λ z. first_wrong (marks_from i (plain_tokens z)) (drop next flags))
    (drop_of_length-le us h)
