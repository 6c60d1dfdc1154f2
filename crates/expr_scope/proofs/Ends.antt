-- How a loop goes on and ends that gives one for each of a list: one was refused, memory is wanting, or all
-- are done. Then the same of the formals of a call.
use Rattle.std.proofs.Common.{rules, ◌≡◌, ◌<◌, ◌≤◌, ◌+◌, ◌++◌, ℕ, Bool, true, false, cond, List, [], ◌∷◌, length, map}
use Rattle.std.proofs.Common.{drop, get_or, Option, Result, Ok, Err, refl, sym, ap, subst, ◌∙◌, add-one, drop-cons}
use Rattle.std.proofs.Common.{arith}
use Rattle.std.proofs.Math.ListN.{drop_of_length-le}
use Rattle.std.specs.Result.{IsErrAnd}
use Rattle.eval_fail.specs.Answers.{AnswersAs, IsNoMemory}
use Rattle.eval_fail.specs.declared.fail.EvalFail.{EvalFail}
use Rattle.eval_fail.specs.declared.fail.EvalFail.TheVariants.{Stop, NoMemory}
use Rattle.dt_base.specs.declared.fault.Fault.{Fault}
use Rattle.dt_tree.specs.declared.tree.Arg.{Arg}
use Rattle.dt_tree.specs.declared.tree.Expr.{the_lemmas}
use Rattle.func_table.specs.declared.formal.Formal.{Formal}
use Rattle.session_model.proofs.InOrder.{each_next, each_refused, each_done, onto}
use Rattle.session_model.specs.Binding.{ArgNames, is_free, place_of, places}
use Rattle.session_model.specs.Expression.{each}
use Rattle.session_model.specs.Meaning.{meaning, arg_meaning}

-- an argument means what its value does
pub argument_means : (a : Arg) → (arg_meaning a).means ≡ meaning a.value
argument_means a = search (rules, the_lemmas)

-- want of memory answers whatever was asked
pub no_memory : {A B : Type 0} (view : B → A) (o : Result A Fault) (e : EvalFail) (r : Result B EvalFail) → IsNoMemory e
    → IsErrAnd r (λ z. z ≡ e) → AnswersAs view o r
no_memory view o e (Ok x) h s = absurd s
no_memory view o (NoMemory x) (Err z) h s = subst (λ w. AnswersAs view o (Err w)) (sym s) tt
no_memory view o (Stop f) (Err z) h s = absurd h

-- ---- One was refused

refused_first : {A B C D : Type 0} (view : C → List B) (seen : D → B) (f : A → Result B Fault)
    (whole : Result (List B) Fault) (done : List B) (x : A) (rest : List A) (e : EvalFail)
    → whole ≡ onto done (each f (x ∷ rest)) → AnswersAs seen (f x) (Err e) → AnswersAs view whole (Err e)
refused_first view seen f whole done x rest (Stop z) h k = each_refused f whole done x rest z h k
refused_first view seen f whole done x rest (NoMemory z) h k = tt

first_refused : {A B C D : Type 0} (view : C → List B) (seen : D → B) (f : A → Result B Fault)
    (whole : Result (List B) Fault) (done : List B) (x : A) (rest : List A) (e : EvalFail) (r : Result C EvalFail)
    → whole ≡ onto done (each f (x ∷ rest)) → AnswersAs seen (f x) (Err e) → IsErrAnd r (λ z. z ≡ e)
    → AnswersAs view whole r
first_refused view seen f whole done x rest e (Ok y) h k s = absurd s
first_refused view seen f whole done x rest e (Err z) h k s =
    subst (λ w. AnswersAs view whole (Err w)) (sym s) (refused_first view seen f whole done x rest e h k)

left_at : {X : Type 0} (xs : List X) (i : ℕ) (x : X) → i < length xs → x ≡ get_or xs i x
    → drop i xs ≡ x ∷ drop (i + 1) xs
left_at xs i x l e = drop-cons xs i x l ∙ rw (add-one i, ← e) refl

left_from : {X : Type 0} (xs : List X) (i : ℕ) (d : X) → i < length xs → drop i xs ≡ get_or xs i d ∷ drop (i + 1) xs
left_from xs i d l = drop-cons xs i d l ∙ rw (add-one i) refl

-- the fault of the one at i is the fault of all
pub each_stopped : {X A B C D : Type 0} (view : C → List B) (seen : D → B) (m : X → A) (f : A → Result B Fault)
    (whole : Result (List B) Fault) (done : List B) (xs : List X) (i : ℕ) (x : X) (e : EvalFail) (r : Result C EvalFail)
    → whole ≡ onto done (each f (map m (drop i xs))) → i < length xs → x ≡ get_or xs i x
    → AnswersAs seen (f (m x)) (Err e) → IsErrAnd r (λ z. z ≡ e) → AnswersAs view whole r
each_stopped view seen m f whole done xs i x e r h l g k s =
    first_refused view seen f whole done (m x) (map m (drop (i + 1) xs)) e r
    (h ∙ ap (λ rest. onto done (each f (map m rest))) (left_at xs i x l g)) k s

-- ---- All are done

pub each_all : {X A B : Type 0} (m : X → A) (f : A → Result B Fault) (whole : Result (List B) Fault) (done : List B)
    (xs : List X) (i : ℕ) → whole ≡ onto done (each f (map m (drop i xs))) → length xs ≤ i → whole ≡ Ok done
each_all m f whole done xs i h l = each_done f whole done
    (h ∙ ap (λ rest. onto done (each f (map m rest))) (drop_of_length-le xs l))

-- ---- The formals of a call, one after another

-- a formal with the place of its argument
abbrev pub placed : ArgNames → ℕ → Formal → Formal × Option ℕ
placed names before p = (p, place_of names before p)

-- how many formals are free with one more
abbrev pub free_with : ArgNames → ℕ → Formal → ℕ
free_with names before p = before + cond (is_free names p) 1 0

one_at_most : (b : Bool) → cond b 1 0 ≤ 1
one_at_most true = omega arith
one_at_most false = omega arith

-- no more of the formals are free than there are
pub free_most : (names : ArgNames) (p : Formal) (before i after : ℕ) → before ≤ i → after ≡ free_with names before p
    → after ≤ i + 1
free_most names p before i after h e =
    let k : cond (is_free names p) 1 0 ≤ 1 = one_at_most (is_free names p) in
    omega (arith, h, e, k)

module _ {B : Type 0} (names : ArgNames) (f : Formal × Option ℕ → Result B Fault) (whole : Result (List B) Fault)
    (done : List B) (ps : List Formal) (i before : ℕ) where
  -- d stands for the formal past the end, which the code never reads
  left_formals : (d : Formal) → whole ≡ onto done (each f (places names before (drop i ps))) → i < length ps
      → whole ≡ onto done
      (each f (placed names before (get_or ps i d) ∷ places names (free_with names before (get_or ps i d))
      (drop (i + 1) ps)))
  left_formals d h l = h ∙ ap (λ rest. onto done (each f (places names before rest))) (left_from ps i d l)

  -- what the formal at i is given was added
  pub formal_at : (new : List B) (d : Formal) (y : B) (after : ℕ)
      → whole ≡ onto done (each f (places names before (drop i ps))) → i < length ps
      → f (placed names before (get_or ps i d)) ≡ Ok y → new ≡ done ++ y ∷ []
      → after ≡ free_with names before (get_or ps i d)
      → whole ≡ onto new (each f (places names after (drop (i + 1) ps)))
  formal_at new d y after h l k n a =
      each_next f whole done (placed names before (get_or ps i d))
      (places names (free_with names before (get_or ps i d)) (drop (i + 1) ps)) y (left_formals d h l) k
      ∙ (ap (λ ys. onto ys (each f (places names (free_with names before (get_or ps i d)) (drop (i + 1) ps)))) (sym n)
      ∙ ap (λ b. onto new (each f (places names b (drop (i + 1) ps)))) (sym a))

  -- its fault is the fault of all
  pub formal_stopped : {C D : Type 0} (view : C → List B) (seen : D → B) (d : Formal) (e : EvalFail)
      (r : Result C EvalFail) → whole ≡ onto done (each f (places names before (drop i ps))) → i < length ps
      → AnswersAs seen (f (placed names before (get_or ps i d))) (Err e) → IsErrAnd r (λ z. z ≡ e)
      → AnswersAs view whole r
  formal_stopped view seen d e r h l k s =
      first_refused view seen f whole done (placed names before (get_or ps i d))
      (places names (free_with names before (get_or ps i d)) (drop (i + 1) ps)) e r (left_formals d h l) k s

  -- all were given
  pub formals_all : whole ≡ onto done (each f (places names before (drop i ps))) → length ps ≤ i → whole ≡ Ok done
  formals_all h l = each_done f whole done
      (h ∙ ap (λ rest. onto done (each f (places names before rest))) (drop_of_length-le ps l))
