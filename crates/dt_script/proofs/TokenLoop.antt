-- The loop over the tokens: where it goes on, and where it stops.
use Rattle.std.proofs.Common.{◌≡◌, ℕ, ◌+◌, ◌<◌, List, length, take, get_or, Some, None, ap, sym, ◌∙◌}
use Rattle.dt_tree.specs.declared.token.Placed.{Placed}
use Rattle.run_model.specs.GrammarTrees.{Token}
use Rattle.run_model.specs.FirstFault.{IsFirstFault}
use Rattle.run_model.specs.TokenView.{plain_token, plain_tokens}
use Rattle.dt_grammar.specs.Machine.{State, step, run, init}
use Rattle.dt_grammar.proofs.Loop.{run_more, fault_here}

module _ (us : List Placed) (i : ℕ) (u : Placed) (s : State) (x : Token) (lt : i < length us) (here : u ≡ get_or us i u)
    (same : x ≡ plain_token u.token) (e : run init (plain_tokens (take i us)) ≡ Some s) where
  this_step : step s (plain_token (get_or us i u).token) ≡ step s x
  this_step = ap (λ z. step s (plain_token z.token)) (sym here) ∙ ap (step s) (sym same)

  pub goes_on : (next : State) → Some next ≡ step s x → run init (plain_tokens (take (i + 1) us)) ≡ Some next
  goes_on next f = run_more us i u s lt e ∙ this_step ∙ sym f

  pub stops : None ≡ step s x → IsFirstFault (plain_tokens us) i
  stops f = fault_here us i u s lt e (this_step ∙ sym f)
