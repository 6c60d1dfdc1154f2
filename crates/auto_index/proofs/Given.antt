-- What a statement gives, with an index or without one.
use Rattle.std.proofs.Common.{◌≡◌, ◌∙◌, ℕ, false, List, Option, None, Some, Result, Ok, Err, IfOk, IfErr}
use Rattle.std.proofs.Common.{refl, sym, ap, inl, inr}
use Rattle.std.proofs.lemmas.Bool.{cases_Bool}
use Rattle.auto_index.specs.Added.{keeps, kept_column}
use Rattle.dt_model.specs.Table.{PlainTable}
use Rattle.eval_fail.specs.Answers.{AnswersAs, IsNoMemory}
use Rattle.eval_fail.specs.declared.fail.EvalFail.{EvalFail}
use Rattle.eval_fail.specs.declared.fail.EvalFail.TheVariants as fail
use Rattle.session_model.specs.AutoIndex.{column_added, first_indexed, index_kept, with_added}
use Rattle.session_model.specs.Found.{vars_of}
use Rattle.session_model.specs.Meanings.{BracketMeaning}
use Rattle.session_model.specs.Value.{Alteration, Given, Scene, numbered_table}

some_is : {A : Type 0} {x y : A} → Some x ≡ Some y → x ≡ y
some_is e = cc

-- the column that keeps its index is the one that gets it
pub kept_is : (n : ℕ) (o : Option (List ℕ)) (a : Option Alteration) (c : List ℕ)
    → Some c ≡ kept_column n o a → o ≡ Some c
kept_is n None a c e = cc
kept_is n (Some d) a c e =
    elim (cases_Bool (keeps n d a)) [
      | inl hit ↦ (let at : kept_column n (Some d) a ≡ Some d = rw hit refl in sym (e ∙ at))
      | inr miss ↦ (let at : kept_column n (Some d) a ≡ None = rw miss refl in let bad : Some c ≡ None = e ∙ at in cc)
    ]

kept_alters : (n : ℕ) (t : PlainTable) (d : List ℕ) (g : Given) (o : Option Alteration) → g.alters ≡ o
    → keeps n d o ≡ false → with_added n t (Some d) g ≡ g
kept_alters n t d g None e miss = cc
kept_alters n t d g (Some a) e miss =
    let table : index_kept n d a ≡ a.table = rw miss refl in
    (λ i. with_added n t (Some d) (record g { alters = e i }))
    ∙ ((λ i. record g { alters = Some (record a { table = table i }) }) ∙ (λ i. record g { alters = sym e i }))

-- without such a column nothing changes
pub none_added : (n : ℕ) (t : PlainTable) (o : Option (List ℕ)) (g : Given) → None ≡ kept_column n o g.alters
    → with_added n t o g ≡ g
none_added n t None g e = refl
none_added n t (Some d) g e =
    elim (cases_Bool (keeps n d g.alters)) [
      | inl hit ↦ (let at : kept_column n (Some d) g.alters ≡ Some d = rw hit refl in
          let bad : None ≡ Some d = e ∙ at in cc)
      | inr miss ↦ kept_alters n t d g g.alters refl miss
    ]

-- what is given is also what equals it
pub ok_to : {A B E : Type 0} (view : B → A) (a b : A) (r : Result B E) → a ≡ b → IfOk r (λ x. view x ≡ a)
    → IfOk r (λ x. view x ≡ b)
ok_to view a b (Ok x) e h = h ∙ e
ok_to view a b (Err x) e h = tt

-- the index of the first bracket, where the table of the number is this one
pub first_is : (w : Scene) (n : ℕ) (b : BracketMeaning) (g : Given) (t : PlainTable) → numbered_table w.state n ≡ t
    → first_indexed w n b g ≡ with_added n t (column_added t w.options.auto_index (vars_of w.state) b.first) g
first_is w n b g t e = ap (λ (p : PlainTable).
    with_added n p (column_added p w.options.auto_index (vars_of w.state) b.first) g) e

-- want of memory is the one other answer
pub answers_by : {A B : Type 0} (view : B → A) (o : A) (r : Result B EvalFail) → IfOk r (λ x. view x ≡ o)
    → IfErr r IsNoMemory → AnswersAs view (Ok o) r
answers_by view o (Ok x) given memory = ap Ok (sym given)
answers_by view o (Err (fail.Stop f)) given memory = absurd memory
answers_by view o (Err (fail.NoMemory e)) given memory = tt
