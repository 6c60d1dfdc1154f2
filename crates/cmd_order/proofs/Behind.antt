-- Arguments without a name, one after another.
use Rattle.std.proofs.Common.{◌≡◌, ◌<◌, ◌+◌, ◌-◌, ◌++◌, ◌∷◌, ◌∙◌, ℕ, zero, suc, true, false, is_none, List, []}
use Rattle.std.proofs.Common.{length, map, drop, get_or, refl, sym, ap, arith}
use Rattle.std.proofs.lemmas.List.{append_assoc, drop_more}
use Rattle.cmd_order.specs.Columns.{forms_behind}
use Rattle.dt_tree.specs.declared.tree.Arg.{Arg}
use Rattle.session_model.specs.Form.{Form}
use Rattle.session_model.specs.Meaning.{arg_meaning}
use Rattle.session_model.specs.Meanings.{ArgMeaning}

-- the next argument
next_argument : (left i : ℕ) (args : List Arg) (a : Arg) → i < length args → a ≡ get_or args i a
    → forms_behind left (map arg_meaning (drop i args))
    ≡ forms_behind left (arg_meaning a ∷ map arg_meaning (drop (i + 1) args))
next_argument left i args a lt at =
    ap (λ (l : List Arg). forms_behind left (map arg_meaning l))
    (drop_more args i a lt ∙ ap (λ (x : Arg). x ∷ drop (i + 1) args) (sym at))

skips_named : (left : ℕ) (a : ArgMeaning) (rest : List ArgMeaning) → is_none a.name ≡ false
    → forms_behind left (a ∷ rest) ≡ forms_behind left rest
skips_named left a rest h = rw h refl

skips_first : (left : ℕ) (a : ArgMeaning) (rest : List ArgMeaning) → 0 < left → is_none a.name ≡ true
    → forms_behind left (a ∷ rest) ≡ forms_behind (left - 1) rest
skips_first zero a rest lt h = absurd (omega arith)
skips_first (suc left) a rest lt h =
    let less : suc left - 1 ≡ left = omega arith in rw (h, less) refl

has_form : (a : ArgMeaning) (rest : List ArgMeaning) → is_none a.name ≡ true
    → forms_behind 0 (a ∷ rest) ≡ a.means.form ∷ forms_behind 0 rest
has_form a rest h = rw h refl

-- it has a name
pub named_more : (done all : List Form) (left i : ℕ) (args : List Arg) (a : Arg) → i < length args
    → a ≡ get_or args i a → is_none (arg_meaning a).name ≡ false
    → done ++ forms_behind left (map arg_meaning (drop i args)) ≡ all
    → done ++ forms_behind left (map arg_meaning (drop (i + 1) args)) ≡ all
named_more done all left i args a lt at h e =
    ap (λ l. done ++ l) (sym (next_argument left i args a lt at
    ∙ skips_named left (arg_meaning a) (map arg_meaning (drop (i + 1) args)) h)) ∙ e

-- it has none, and is one of the first
pub first_more : (done all : List Form) (left i : ℕ) (args : List Arg) (a : Arg) → i < length args
    → a ≡ get_or args i a → is_none (arg_meaning a).name ≡ true → 0 < left
    → done ++ forms_behind left (map arg_meaning (drop i args)) ≡ all
    → done ++ forms_behind (left - 1) (map arg_meaning (drop (i + 1) args)) ≡ all
first_more done all left i args a lt at h some e =
    ap (λ l. done ++ l) (sym (next_argument left i args a lt at
    ∙ skips_first left (arg_meaning a) (map arg_meaning (drop (i + 1) args)) some h)) ∙ e

-- it has none, and stands behind them
pub form_more : (done new all : List Form) (form : Form) (left i : ℕ) (args : List Arg) (a : Arg) → i < length args
    → a ≡ get_or args i a → is_none (arg_meaning a).name ≡ true → left ≡ 0 → form ≡ (arg_meaning a).means.form
    → new ≡ done ++ form ∷ [] → done ++ forms_behind left (map arg_meaning (drop i args)) ≡ all
    → new ++ forms_behind left (map arg_meaning (drop (i + 1) args)) ≡ all
form_more done new all form left i args a lt at h none is e more =
    let rest : List ArgMeaning = map arg_meaning (drop (i + 1) args) in
    let next : forms_behind left (map arg_meaning (drop i args)) ≡ form ∷ forms_behind left rest =
    next_argument left i args a lt at
    ∙ (ap (λ n. forms_behind n (arg_meaning a ∷ rest)) none
    ∙ (has_form (arg_meaning a) rest h
    ∙ (λ j. sym is j ∷ forms_behind (sym none j) rest))) in
    ap (λ l. l ++ forms_behind left rest) e
    ∙ (append_assoc done (form ∷ []) (forms_behind left rest) ∙ (ap (λ l. done ++ l) (sym next) ∙ more))
