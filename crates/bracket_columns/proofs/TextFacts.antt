-- Texts among arguments, and the columns that they name.
use Rattle.std.proofs.Common.{◌≡◌, ◌<◌, ◌++◌, ℕ, List, [], ◌∷◌, length, map, Option, None, Some, IfSome, All, refl, sym}
use Rattle.std.proofs.Common.{ap, ◌∙◌, subst, get_or, Bool, true, false, codes, if◌then◌else◌, ◌+◌, drop, add-one}
use Rattle.std.proofs.Common.{drop-cons, Result, Ok, Err}
use Rattle.std.specs.Str.{bytes_eq}
use Rattle.std.proofs.lemmas.List.{append_assoc, length-append, map-append}
use Rattle.std.proofs.lemmas.List.Elements.{All-get_or}
use Rattle.std.proofs.lemmas.List.Quantifiers.{position-Some}
use Rattle.std.proofs.lemmas.Simd.{map-map}
use Rattle.std.proofs.lemmas.Slice.Eq.{bytes_eq-Decides}
use Rattle.eval_fail.specs.Answers.{AnswersAs}
use Rattle.eval_fail.specs.declared.fail.EvalFail.{EvalFail}
use Rattle.eval_fail.specs.declared.fail.EvalFail.TheVariants as eval
use Rattle.dt_base.specs.declared.fault.Fault.{Fault}
use Rattle.dt_model.specs.Table.{place_of}
use Rattle.dt_model.specs.Vector.{Vector}
use Rattle.bracket_columns.specs.Texts.{answer_by, bare_text, onto_texts, texts_or, unnamed_text}
use Rattle.dt_table.specs.Table.{IsFilled}
use Rattle.dt_tree.specs.declared.tree.Arg.{Arg}
use Rattle.dt_tree.specs.declared.tree.Expr.{Expr}
use Rattle.dt_tree.specs.declared.tree.Expr.TheVariants as tree
use Rattle.expr_model.specs.Surroundings.{Env, column_named}
use Rattle.func_table.specs.Calls.{is_list}
use Rattle.na_vector.specs.Column.{Seen}
use Rattle.na_vector.specs.Frame.{FrameSeen, vectors_of}
use Rattle.session_model.proofs.InOrder.{onto, each_next, each_refused}
use Rattle.session_model.specs.Columns.{known_column, known_columns, list_answer, text_columns, vector_answer}
use Rattle.session_model.specs.Expression.{each}
use Rattle.session_model.specs.Form.{text_in}
use Rattle.session_model.proofs.Forms.{call_listing}
use Rattle.session_model.proofs.Shapes.{listed}
use Rattle.session_model.specs.Items.{item_of, item_texts, item_texts_from, text_before}
use Rattle.session_model.specs.Meaning.{arg_meaning, listing_of, meaning}
use Rattle.session_model.specs.Meanings.{Answer, ArgMeaning, Meaning}
use Rattle.session_model.specs.Shapes.{answer_in, call_shape, form_shape, list_shape, listing_shape, one_vector}
use Rattle.session_model.specs.Shapes.{shape_answer, texts_shape}
use Rattle.session_model.specs.Written.{Item}
use Rattle.vector_model.specs.Then.{then_do}
use Rattle.valued.specs.Valued.{vector_of}

-- ---- Texts of arguments

-- behind none
pub onto_nothing : (o : Option (List (List ℕ))) → o ≡ onto_texts [] o
onto_nothing None = refl
onto_nothing (Some texts) = refl

no_text : (name text : Option (List ℕ)) (o : Option (List (List ℕ))) → None ≡ unnamed_text name text
    → text_before name text o ≡ None
no_text None None o h = refl
no_text None (Some t) o h = cc
no_text (Some n) text o h = refl

one_text : (name text : Option (List ℕ)) (t : List ℕ) (done : List (List ℕ)) (o : Option (List (List ℕ))) → Some t
    ≡ unnamed_text name text → onto_texts done (text_before name text o) ≡ onto_texts (done ++ t ∷ []) o
one_text None None t done o h = cc
one_text None (Some u) t done None h = refl
one_text None (Some u) t done (Some rest) h =
    let e : u ≡ t = cc in
    ap (λ w. Some (done ++ w ∷ rest)) e ∙ ap Some (sym (append_assoc done (t ∷ []) rest))
one_text (Some n) text t done o h = cc

-- an argument that is no bare text
pub text_missing : (whole : Option (List (List ℕ))) (done : List (List ℕ)) (i : Item) (rest : List Item) → whole
    ≡ onto_texts done (item_texts_from (i ∷ rest)) → None ≡ bare_text i → whole ≡ None
text_missing whole done i rest h e = h ∙ ap (onto_texts done) (no_text i.name (text_in i.form) (item_texts_from rest) e)

-- one text more
pub text_next : (whole : Option (List (List ℕ))) (done : List (List ℕ)) (t : List ℕ) (i : Item) (rest : List Item)
    → whole ≡ onto_texts done (item_texts_from (i ∷ rest)) → Some t ≡ bare_text i → whole
    ≡ onto_texts (done ++ t ∷ []) (item_texts_from rest)
text_next whole done t i rest h e = h ∙ one_text i.name (text_in i.form) t done (item_texts_from rest) e

pub ruleset texts = (onto_nothing, text_missing, text_next)

-- ---- A column's name is not empty

pub found_filled : (name : List ℕ) (names : List (List ℕ)) (r : Option ℕ) → r ≡ place_of name names → All IsFilled names
    → IfSome r (λ c. IsFilled name)
found_filled name names None e a = tt
found_filled name names (Some c) e a =
    let found : (c < length names) × (bytes_eq name (get_or names c []) ≡ true)
    × ((k : ℕ) → k < c → bytes_eq name (get_or names k []) ≡ false) =
    position-Some (bytes_eq name) names c [] (sym e) in
    subst IsFilled (sym ((bytes_eq-Decides name (get_or names c [])).0 found.1))
    (All-get_or IsFilled names c [] found.0 a)

-- ---- Columns by their names, one after another

-- what is left of the names at i
left_at : (names : List (List ℕ)) (i : ℕ) (name : List ℕ) → i < length names → name ≡ get_or names i name → drop i names
    ≡ name ∷ drop (i + 1) names
left_at names i name h e = drop-cons names i name h ∙ rw (add-one i, ← e) refl

-- the column of a name
abbrev known_at : Env → List ℕ → Result Vector Fault
known_at s name = known_column name (column_named name s.rows)

-- the next name, before the rest
known_step : (s : Env) (done : List Vector) (names : List (List ℕ)) (i : ℕ) (name : List ℕ)
    (whole : Result (List Vector) Fault) → whole ≡ onto done (known_columns s (drop i names)) → i < length names → name
    ≡ get_or names i name → whole ≡ onto done (each (known_at s) (name ∷ drop (i + 1) names))
known_step s done names i name whole inv h e =
    inv ∙ ap (λ rest. onto done (known_columns s rest)) (left_at names i name h e)

-- the fault of the next name is the fault of all
pub refused : (s : Env) (done : List Vector) (names : List (List ℕ)) (i : ℕ) (name : List ℕ)
    (whole : Result (List Vector) Fault) (fail : EvalFail) → whole ≡ onto done (known_columns s (drop i names))
    → i < length names → name ≡ get_or names i name
    → AnswersAs vector_of (known_column name (column_named name s.rows)) (Err fail)
    → AnswersAs {B = FrameSeen} (λ (f : FrameSeen). vectors_of f.columns) whole (Err fail)
refused s done names i name whole (eval.Stop f) inv h e k =
    each_refused (known_at s) whole done name (drop (i + 1) names) f (known_step s done names i name whole inv h e) k
refused s done names i name whole (eval.NoMemory x) inv h e k = tt

-- the next column was added
pub known_next : (s : Env) (done new : List Seen) (c : Seen) (names : List (List ℕ)) (i : ℕ) (name : List ℕ)
    (whole : Result (List Vector) Fault) → whole ≡ onto (vectors_of done) (known_columns s (drop i names))
    → i < length names → name ≡ get_or names i name → known_column name (column_named name s.rows) ≡ Ok c.vector → new
    ≡ done ++ c ∷ [] → whole ≡ onto (vectors_of new) (known_columns s (drop (i + 1) names))
known_next s done new c names i name whole inv h e k n =
    each_next (known_at s) whole (vectors_of done) name (drop (i + 1) names) c.vector
    (known_step s (vectors_of done) names i name whole inv h e) k
    ∙ ap (λ xs. onto xs (known_columns s (drop (i + 1) names)))
    (sym (ap vectors_of n ∙ map-append (λ (x : Seen). x.vector) done (c ∷ [])))

pub count_next : (done new : List Seen) (c : Seen) (i : ℕ) → length done ≡ i → new ≡ done ++ c ∷ [] → length new ≡ i + 1
count_next done new c i e n = ap length n ∙ (length-append done (c ∷ []) ∙ ap (λ k. k + 1) e)

-- ---- What gives columns as a j

-- a text names a column
pub text_named : {B : Type 0} (view : B → Answer) (o : Option (List ℕ)) (t : List ℕ) (m : Meaning) (s : Env)
    (r : Result B EvalFail) → Some t ≡ o → AnswersAs view (text_columns (t ∷ []) s) r
    → AnswersAs view (then_do (form_shape o m s) (shape_answer s)) r
text_named view None t m s r h a = cc
text_named view (Some u) t m s r h a = let e : t ≡ u = cc in subst (λ w. AnswersAs view (text_columns (w ∷ []) s) r) e a

pub no_text_named : {B : Type 0} (view : B → Answer) (o : Option (List ℕ)) (m : Meaning) (s : Env)
    (r : Result B EvalFail) → None ≡ o → AnswersAs view (then_do (listing_shape m.listing m s) (shape_answer s)) r
    → AnswersAs view (then_do (form_shape o m s) (shape_answer s)) r
no_text_named view None m s r h a = a
no_text_named view (Some u) m s r h a = cc

pub ruleset literals = (text_named, no_text_named)

-- only `c` has texts
call_by : (name : List ℕ) (args : List ArgMeaning) (m : Meaning) (s : Env)
    → answer_by name args (vector_answer m.check m.value) s
    ≡ then_do (call_shape (listing_of name args) m s) (shape_answer s)
call_by name args m s = by (is_list name) (bytes_eq name (codes "c"))
  where
    texts : (o : Option (List (List ℕ))) → texts_or o (vector_answer m.check m.value) s
        ≡ then_do (texts_shape o m s) (shape_answer s)
    texts None = refl
    texts (Some names) = refl

    by : (b d : Bool)
        → (if b then list_answer name args s else texts_or (if d then item_texts (map item_of args) else None)
        (vector_answer m.check m.value) s) ≡ then_do
        (if b then list_shape name (map item_of args) s else
        (if d then texts_shape (item_texts (map item_of args)) m s else one_vector m s)) (shape_answer s)
    by true d = sym (listed name args s)
    by false true = texts (item_texts (map item_of args))
    by false false = refl

call_given : {B : Type 0} (view : B → Answer) (name : List ℕ) (args : List ArgMeaning) (m : Meaning) (s : Env)
    (r : Result B EvalFail) → AnswersAs view (answer_by name args (vector_answer m.check m.value) s) r
    → AnswersAs view (then_do (call_shape (listing_of name args) m s) (shape_answer s)) r
call_given view name args m s r h = subst (λ o. AnswersAs view o r) (call_by name args m s) h

call_listed : (x : List ℕ) (args : List Arg) → (meaning (tree.Call x args)).listing
    ≡ Some (listing_of x (map arg_meaning args))
call_listed x args =
    call_listing x args
    ∙ ap (λ (z : List Item). Some (record { word = x; items = z })) (sym (map-map item_of arg_meaning args))

-- a call gives what its word and its arguments say
pub called : {B : Type 0} (view : B → Answer) (j : Expr) (x name : List ℕ) (items args : List Arg) (s : Env)
    (r : Result B EvalFail) → j ≡ tree.Call x items → name ≡ x → args ≡ items
    → AnswersAs view (answer_by name (map arg_meaning args) (vector_answer (meaning j).check (meaning j).value) s) r
    → AnswersAs view (then_do (listing_shape (meaning j).listing (meaning j) s) (shape_answer s)) r
called view j x name items args s r e n a h =
    let vector : Env → Result Answer Fault = vector_answer (meaning j).check (meaning j).value in
    subst (λ o. AnswersAs view (then_do (listing_shape o (meaning j) s) (shape_answer s)) r)
    (sym (ap (λ t. (meaning t).listing) e ∙ call_listed x items))
    (call_given view x (map arg_meaning items) (meaning j) s r
    (subst (λ o. AnswersAs view o r) (λ i. answer_by (n i) (map arg_meaning (a i)) vector s) h))

-- what is no call is a vector
pub no_call : {B : Type 0} (view : B → Answer) (m : Meaning) (s : Env) (r : Result B EvalFail) → None ≡ m.listing
    → AnswersAs view (vector_answer m.check m.value s) r
    → AnswersAs view (then_do (listing_shape m.listing m s) (shape_answer s)) r
no_call view m s r h a = subst (λ o. AnswersAs view (then_do (listing_shape o m s) (shape_answer s)) r) h a

pub ruleset calls = no_call
