-- The machine over the first tokens of a script: where it goes on, where it stops, and where the
-- tokens end.
use Rattle.std.proofs.Common.{◌≡◌, ℕ, ◌+◌, ◌<◌, List, [], ◌∷◌, length, take, take_all, get_or, map, Option, Some, None}
use Rattle.std.proofs.Common.{option_and_then, refl, sym, ◌∙◌, ap, subst, arith}
use Rattle.std.proofs.lemmas.List.{take-map, map_more, length-map}
use Rattle.dt_tree.specs.declared.token.Placed.{Placed}
use Rattle.run_model.specs.GrammarTrees.{Token, Stmt}
use Rattle.run_model.specs.Grammar.{IsScript}
use Rattle.run_model.specs.FirstFault.{IsViable, IsFirstFault}
use Rattle.run_model.specs.TokenView.{plain_token, plain_tokens}
use Rattle.dt_grammar.specs.Machine.{State, step, run, init, finish}
use Rattle.dt_grammar.proofs.TreesRead.{run-append}
use Rattle.dt_grammar.proofs.Viable.{viable, not_viable, unfinished, spelled}

run_last : (r : Option State) → option_and_then (λ next. run next []) r ≡ r
run_last None = refl
run_last (Some s) = refl

abbrev plain : Placed → Token
plain u = plain_token u.token

module _ (us : List Placed) (i : ℕ) (d : Placed) (s : State) (h : i < length us)
    (e : run init (plain_tokens (take i us)) ≡ Some s) where
  pub run_more : run init (plain_tokens (take (i + 1) us)) ≡ step s (plain_token (get_or us i d).token)
  run_more =
      let x = plain_token (get_or us i d).token in
      ap (run init) (map_more plain us i d h) ∙ run-append (map plain (take i us)) (x ∷ []) init
      ∙ ap (option_and_then (λ next. run next (x ∷ []))) e ∙ run_last (step s x)

  pub fault_here : step s (plain_token (get_or us i d).token) ≡ None → IsFirstFault (plain_tokens us) i
  fault_here f = record {
    within = omega (arith, length-map us plain);
    before = subst IsViable (sym (take-map plain i us)) (viable (map plain (take i us)) s e);
    after = λ lt. subst (λ z. IsViable z → ⊥) (sym (take-map plain (i + 1) us))
        (not_viable (map plain (take (i + 1) us)) (run_more ∙ f));
    at_end = λ same. absurd (omega (arith, length-map us plain));
  }

module _ (us : List Placed) (i : ℕ) (s : State) (h : i ≡ length us)
    (e : run init (plain_tokens (take i us)) ≡ Some s) where
  pub run_all : run init (plain_tokens us) ≡ Some s
  run_all = ap (λ z. run init (plain_tokens z)) (sym (take_all i us (omega arith))) ∙ e

  pub fault_at_end : finish s ≡ None → IsFirstFault (plain_tokens us) (length us)
  fault_at_end f = record {
    within = omega (arith, length-map us plain);
    before = subst IsViable (sym (take_all (length us) (map plain us) (omega (arith, length-map us plain))))
        (viable (map plain us) s run_all);
    after = λ lt. absurd (omega (arith, length-map us plain));
    at_end = λ same. unfinished (map plain us) s run_all f;
  }

  pub script_here : (ss : List Stmt) → finish s ≡ Some ss → IsScript (plain_tokens us) ss
  script_here ss f = spelled (plain_tokens us) ss (ap (option_and_then finish) run_all ∙ f)
