-- By as the texts in `c`.
use Rattle.std.proofs.Common.{◌≡◌, ℕ, List, [], ◌∷◌, map, Option, None, Some, option_map, Bool, true, false, codes}
use Rattle.std.proofs.Common.{if◌then◌else◌, Result, Ok, refl, sym, ap, subst, ◌∙◌}
use Rattle.std.specs.Str.{bytes_eq}
use Rattle.dt_base.specs.declared.fault.Fault.{Fault}
use Rattle.dt_tree.specs.declared.tree.Arg.{Arg}
use Rattle.eval_fail.specs.Answers.{AnswersAs}
use Rattle.eval_fail.specs.declared.fail.EvalFail.{EvalFail}
use Rattle.func_table.specs.Calls.{is_list}
use Rattle.bracket_forms.specs.Items.{by_call, call_listing, items_of, texts_by}
use Rattle.session_model.specs.Asked.{ByAsked, ByItem, ByList, ByText, bad, by_items, by_listing, by_text}
use Rattle.session_model.specs.Asked.{by_unnamed, listed, wanted}
use Rattle.session_model.specs.Expression.{each}
use Rattle.session_model.specs.Form.{text_in}
use Rattle.session_model.specs.Meaning.{arg_meaning}
use Rattle.session_model.specs.Items.{item_of, arg_texts_from, arg_texts, text_before}
use Rattle.session_model.specs.Meanings.{ArgMeaning}
use Rattle.vector_model.specs.Then.{then_do}

-- texts as the items of by
abbrev as_items : Option (List (List ℕ)) → Option (List ByItem)
as_items o = option_map (map ByText) o

one : (w : List ℕ) (name text : Option (List ℕ)) (o : Option (List (List ℕ))) (r : Result (List ByItem) Fault)
    → r ≡ wanted w (as_items o)
    → then_do (wanted w (by_unnamed name text)) (λ y. then_do r (λ ys. Ok (y ∷ ys)))
    ≡ wanted w (as_items (text_before name text o))
one w None None o r h = refl
one w None (Some t) None r h = ap (λ z. then_do z (λ ys. Ok (ByText t ∷ ys))) h
one w None (Some t) (Some ts) r h = ap (λ z. then_do z (λ ys. Ok (ByText t ∷ ys))) h
one w (Some n) text o r h = refl

each_text : (w : List ℕ) (ms : List ArgMeaning)
    → each (λ i. wanted w (by_text i)) (map item_of ms) ≡ wanted w (as_items (arg_texts_from ms))
each_text w [] = refl
each_text w (m ∷ ms) = one w m.name (text_in m.means.form) (arg_texts_from ms) _ (each_text w ms)

listed_texts : (w : List ℕ) (ms : List ArgMeaning)
    → listed w by_text (map item_of ms) ≡ wanted w (as_items (arg_texts ms))
listed_texts w [] = refl
listed_texts w (m ∷ ms) = each_text w (m ∷ ms)

then_list : (w : List ℕ) (o : Option (List (List ℕ)))
    → then_do (wanted w (as_items o)) (λ xs. Ok (ByList xs)) ≡ texts_by w o
then_list w None = refl
then_list w (Some ts) = refl

texts : (w : List ℕ) (ms : List ArgMeaning)
    → then_do (listed w by_text (map item_of ms)) (λ xs. Ok (ByList xs)) ≡ texts_by w (arg_texts ms)
texts w ms = ap (λ z. then_do z (λ xs. Ok (ByList xs))) (listed_texts w ms) ∙ then_list w (arg_texts ms)

-- arguments of code, as items
split : (args : List Arg) → map item_of (map arg_meaning args) ≡ items_of args
split [] = refl
split (a ∷ args) = ap (λ is. item_of (arg_meaning a) ∷ is) (split args)

-- by as the texts in the items of arguments of code
of_args : (w : List ℕ) (args : List Arg)
    → texts_by w (arg_texts (map arg_meaning args)) ≡ then_do (listed w by_text (items_of args)) (λ xs. Ok (ByList xs))
of_args w args =
    sym (texts w (map arg_meaning args)) ∙ ap (λ is. then_do (listed w by_text is) (λ xs. Ok (ByList xs))) (split args)

-- a call as by: a list its items, `c` its texts
call : (w name : List ℕ) (args : List Arg) → by_call w name args ≡ by_listing w (call_listing name args)
call w name args = by (is_list name) (bytes_eq name (codes "c"))
  where
    by : (b d : Bool)
        → (if b then by_items name (items_of args)
        else texts_by w (if d then arg_texts (map arg_meaning args) else None))
        ≡ (if b then by_items name (items_of args)
        else (if d then then_do (listed w by_text (items_of args)) (λ xs. Ok (ByList xs)) else bad w))
    by true d = refl
    by false true = of_args w args
    by false false = refl

pub called : {B : Type 0} (view : B → ByAsked) (w name : List ℕ) (args : List Arg) (r : Result B EvalFail)
    → AnswersAs view (by_call w name args) r → AnswersAs view (by_listing w (call_listing name args)) r
called view w name args r h = subst (λ (o : Result ByAsked Fault). AnswersAs view o r) (call w name args) h

pub ruleset calls = called
