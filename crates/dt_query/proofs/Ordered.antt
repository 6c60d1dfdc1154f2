-- What a bracket means by its parts, and its steps one after another.
use Rattle.std.proofs.Common.{rules, ◌≡◌, Bool, List, map, Option, None, Some, Result, Ok, refl, sym, ◌∙◌, ap}
use Rattle.std.specs.Prelude.{is_some, option_map}
use Rattle.dt_model.specs.Table.{PlainTable}
use Rattle.dt_tree.specs.declared.tree.Arg.{Arg}
use Rattle.dt_tree.specs.declared.tree.Bracket.{Bracket, out-Bracket}
use Rattle.dt_tree.specs.declared.tree.Expr.{the_lemmas}
use Rattle.dt_tree.specs.declared.tree.Second.{Second}
use Rattle.dt_tree.specs.declared.tree.Second.TheVariants as tree
use Rattle.eval_fail.specs.Answers.{AnswersAs}
use Rattle.eval_fail.specs.declared.fail.EvalFail.{EvalFail}
use Rattle.expr_model.specs.Surroundings.{Vars}
use Rattle.session_model.specs.Asked.{Asked, asked}
use Rattle.session_model.specs.Found.{Found, found}
use Rattle.session_model.specs.Meaning.{arg_meaning, bracket_meaning, meaning, second_meaning}
use Rattle.session_model.specs.Meanings.{Answer, AssignsAll, BracketMeaning, Meaning, SecondMeaning}
use Rattle.session_model.specs.Query.{asked_answer, ungrouped}
use Rattle.session_model.specs.Second.{second_answer}
use Rattle.vector_model.specs.Then.{then_do}

-- the parts of a bracket have the meanings of its parts
pub first_meant : (q : Bracket) → (bracket_meaning q).first ≡ option_map meaning (out-Bracket q).first
first_meant q = search (rules, the_lemmas)

pub second_meant : (q : Bracket) → (bracket_meaning q).second ≡ option_map second_meaning (out-Bracket q).second
second_meant q = search (rules, the_lemmas)

-- the call of `:=`
pub all_meant : (args : List Arg) → second_meaning (tree.AssignAll args) ≡ AssignsAll (map arg_meaning args)
all_meant args = search (rules, the_lemmas)

some_meant : {A B : Type 0} (f : A → B) (o : Option A) → is_some (option_map f o) ≡ is_some o
some_meant f None = refl
some_meant f (Some x) = refl

asked_so : {R : Type 0} (view : R → Answer) (b : BracketMeaning) (first : Option Meaning)
    (second : Option SecondMeaning) (t : PlainTable) (vars : Vars) (a : Asked) (r : Found) (chosen : Bool)
    (answer : Result R EvalFail) → b.first ≡ first → b.second ≡ second → is_some first ≡ chosen → asked b ≡ Ok a
    → found a first t vars ≡ Ok r
    → AnswersAs view (then_do (ungrouped a) (λ _. second_answer chosen second t vars r)) answer
    → AnswersAs view (asked_answer b t vars) answer
asked_so view b first second t vars a r chosen answer f s i p k h = rw (p, f, s, i, k) h

-- what the last step answers is what the bracket answers, where those before it gave something
pub in_order : {R : Type 0} (view : R → Answer) (q : Bracket) (t : PlainTable) (vars : Vars) (a : Asked) (r : Found)
    (chosen : Bool) (answer : Result R EvalFail) → chosen ≡ is_some (out-Bracket q).first
    → asked (bracket_meaning q) ≡ Ok a → found a (option_map meaning (out-Bracket q).first) t vars ≡ Ok r
    → AnswersAs view (then_do (ungrouped a)
    (λ _. second_answer chosen (option_map second_meaning (out-Bracket q).second) t vars r)) answer
    → AnswersAs view (asked_answer (bracket_meaning q) t vars) answer
in_order view q t vars a r chosen answer i p k h =
    asked_so view (bracket_meaning q) (option_map meaning (out-Bracket q).first)
    (option_map second_meaning (out-Bracket q).second) t vars a r chosen answer (first_meant q) (second_meant q)
    (some_meant meaning (out-Bracket q).first ∙ sym i) p k h

-- so it gives what its arguments give
pub all_given : {R : Type 0} (view : R → Answer) (chosen : Bool) (s : Second) (args given : List Arg)
    (t : PlainTable) (vars : Vars) (r : Found) (answer : Result R EvalFail) → s ≡ tree.AssignAll args → given ≡ args
    → AnswersAs view (second_answer chosen (Some (AssignsAll (map arg_meaning given))) t vars r) answer
    → AnswersAs view (second_answer chosen (Some (second_meaning s)) t vars r) answer
all_given view chosen s args given t vars r answer q e h =
    let means : second_meaning s ≡ AssignsAll (map arg_meaning given) =
    ap second_meaning q ∙ (all_meant args ∙ ap (λ xs. AssignsAll (map arg_meaning xs)) (sym e)) in
    rw means h
