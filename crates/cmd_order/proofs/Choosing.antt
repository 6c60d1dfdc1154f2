-- Columns chosen one after another.
use Rattle.std.proofs.Common.{◌≡◌, ◌<◌, ◌+◌, ◌++◌, ◌∷◌, ◌||◌, ◌∙◌, ℕ, Bool, true, false, not, cond, nat_eq, List, []}
use Rattle.std.proofs.Common.{Some, Result, Ok, Err, All, length, map, drop, get_or, refl, sym, ap, arith, inl, inr}
use Rattle.std.specs.List.{AllByRecursion, IsDistinct, list_any}
use Rattle.std.specs.Str.{bytes_eq}
use Rattle.std.specs.Cmp.Lexicographic.{nat_list_eq_equiv}
use Rattle.std.specs.Cmp.{nat_eq_equiv}
use Rattle.std.proofs.lemmas.Bool.{cases_lt}
use Rattle.std.proofs.lemmas.Bool.Decides.{nat_tests}
use Rattle.std.proofs.lemmas.List.{append_assoc, drop_more, map-append}
use Rattle.std.proofs.lemmas.List.Elements.{All-map, recursion_from_All}
use Rattle.std.proofs.lemmas.List.Folds.{list_any-append}
use Rattle.std.proofs.lemmas.List.Quantifiers.{position-Some}
use Rattle.std.proofs.lemmas.Map.Keys.{IsDistinct-push, apart_from_distinct}
use Rattle.std.proofs.lemmas.Slice.Eq.{bytes_eq-Decides}
use Rattle.cmd_order.specs.Columns.{column_seen, places_of}
use Rattle.dt_base.specs.Fault.{fault}
use Rattle.dt_base.specs.declared.fault.Code.TheVariants.{E12}
use Rattle.dt_base.specs.declared.fault.Fault.{Fault}
use Rattle.dt_model.specs.Table.{name_at, names_at, place_of}
use Rattle.eval_fail.specs.Answers.{AnswersAs, IsStop}
use Rattle.eval_fail.specs.declared.fail.EvalFail.{EvalFail}
use Rattle.eval_fail.specs.declared.fail.EvalFail.TheVariants.{Stop, NoMemory}
use Rattle.row_order.specs.declared.ordering.SortCol.{SortCol}
use Rattle.session_model.specs.OrderColumns.{OrderColumn, column_asked, columns_after, known_column, new_column}
use Rattle.vector_model.specs.Then.{then_do}
use Rattle.written_forms.specs.declared.written.Written.{Written}
use Rattle.written_forms.specs.Seen.{form_seen}

-- ---- A column by its name

pub known_here : (names : List (List ℕ)) (c : OrderColumn) (col : ℕ) → Some col ≡ place_of c.name names
    → known_column names c ≡ Ok (record { name = name_at names col; down = c.down })
known_here names c col e =
    let found : bytes_eq c.name (name_at names col) ≡ true =
    (position-Some (bytes_eq c.name) names col [] (sym e)).1 in
    let same : c.name ≡ name_at names col = (bytes_eq-Decides c.name (name_at names col)).0 found in
    let ok : known_column names c ≡ Ok c = rw (← e) refl in
    ok ∙ ap (λ n. Ok (record { name = n; down = c.down })) same

-- ---- Names and places

-- where no name stands twice, two places have one name just where they are one
pub same_place : (names : List (List ℕ)) (a b : ℕ) → IsDistinct bytes_eq names → a < length names → b < length names
    → bytes_eq (name_at names a) (name_at names b) ≡ nat_eq a b
same_place names a b once la lb =
    elim (cases_lt a b) [
      | inl lt ↦
          (let no : nat_eq a b ≡ false = grind (arith, nat_tests) in
          apart_from_distinct bytes_eq names a b [] once lt lb ∙ sym no)
      | inr ge ↦ (elim (cases_lt b a) [
        | inl gt ↦
            (let no : nat_eq a b ≡ false = grind (arith, nat_tests) in
            nat_list_eq_equiv.symm (name_at names a) (name_at names b)
            ∙ (apart_from_distinct bytes_eq names b a [] once gt la ∙ sym no))
        | inr le ↦
            (let same : a ≡ b = omega arith in
            let yes : nat_eq a b ≡ true = grind (arith, nat_tests) in
            ap (λ k. bytes_eq (name_at names k) (name_at names b)) same
            ∙ (nat_list_eq_equiv.refl (name_at names b) ∙ sym yes))
      ])
    ]

among_places : (names : List (List ℕ)) (c : ℕ) (places : List ℕ) → IsDistinct bytes_eq names → c < length names
    → AllByRecursion (λ p. p < length names) places
    → list_any (bytes_eq (name_at names c)) (names_at names places) ≡ list_any (nat_eq c) places
among_places names c [] once lt h = refl
among_places names c (p ∷ places) once lt h =
    let here = same_place names c p once lt h.0 in
    let rest = among_places names c places once lt h.1 in
    λ i. here i || rest i

among_columns : (names : List (List ℕ)) (s : SortCol) (by : List SortCol) → IsDistinct bytes_eq names
    → s.col < length names → All (λ (k : SortCol). k.col < length names) by
    → list_any (bytes_eq (name_at names s.col)) (names_at names (places_of by)) ≡ list_any (nat_eq s.col) (places_of by)
among_columns names s by once lt h =
    among_places names s.col (places_of by) once lt
    (recursion_from_All (λ p. p < length names) (places_of by)
    (All-map (λ p. p < length names) (λ (k : SortCol). k.col) by h))

-- ---- One column more

not-flip : (a b : Bool) → a ≡ not b → b ≡ not a
not-flip a true h = ap not (sym h)
not-flip a false h = ap not (sym h)

pub chosen_new : (names : List (List ℕ)) (s : SortCol) (by : List SortCol) (added : Bool) → IsDistinct bytes_eq names
    → s.col < length names → All (λ (k : SortCol). k.col < length names) by
    → added ≡ not (list_any (nat_eq s.col) (places_of by)) → added ≡ true
    → new_column (names_at names (places_of by)) (column_seen names s) ≡ Ok (column_seen names s)
chosen_new names s by added once lt h is new =
    let no : list_any (bytes_eq (name_at names s.col)) (names_at names (places_of by)) ≡ false =
    among_columns names s by once lt h
    ∙ (not-flip added (list_any (nat_eq s.col) (places_of by)) is ∙ ap not new) in
    rw no refl

pub chosen_again : (names : List (List ℕ)) (s : SortCol) (by : List SortCol) (added : Bool) (name : List ℕ)
    (e : EvalFail) → IsDistinct bytes_eq names → s.col < length names
    → All (λ (k : SortCol). k.col < length names) by → added ≡ not (list_any (nat_eq s.col) (places_of by))
    → added ≡ false → name ≡ name_at names s.col → IsStop (fault E12 name) e
    → {B : Type 0} (view : B → OrderColumn)
    → AnswersAs view (new_column (names_at names (places_of by)) (column_seen names s)) (Err e)
chosen_again names s by added name (NoMemory e) once lt h is old at stop view = tt
chosen_again names s by added name (Stop f) once lt h is old at stop view =
    let yes : list_any (bytes_eq (name_at names s.col)) (names_at names (places_of by)) ≡ true =
    among_columns names s by once lt h
    ∙ (not-flip added (list_any (nat_eq s.col) (places_of by)) is ∙ ap not old) in
    let refused : new_column (names_at names (places_of by)) (column_seen names s)
    ≡ Err (fault E12 (name_at names s.col)) = rw yes refl in
    refused ∙ (ap (λ n. Err (fault E12 n)) (sym at) ∙ ap Err stop)

-- ---- The set of their places

or_cond : (a b : Bool) → cond a true b ≡ (b || (a || false))
or_cond true true = refl
or_cond true false = refl
or_cond false true = refl
or_cond false false = refl

-- the set and the list gained the same place
pub place_more : (by more : List SortCol) (s : SortCol) (q : ℕ) (was now : Bool) → now ≡ cond (nat_eq s.col q) true was
    → was ≡ list_any (nat_eq q) (places_of by) → more ≡ by ++ s ∷ [] → now ≡ list_any (nat_eq q) (places_of more)
place_more by more s q was now after before e =
    let places : places_of more ≡ places_of by ++ s.col ∷ [] =
    ap places_of e ∙ map-append (λ (k : SortCol). k.col) by (s ∷ []) in
    after ∙ (or_cond (nat_eq s.col q) was ∙ rw
    (places, list_any-append (nat_eq q) (places_of by) (s.col ∷ []), before, nat_eq_equiv.symm s.col q) refl)

pub places_once : (by more : List SortCol) (s : SortCol) (was added : Bool) → IsDistinct nat_eq (places_of by)
    → was ≡ list_any (nat_eq s.col) (places_of by) → added ≡ not was → added ≡ true → more ≡ by ++ s ∷ []
    → IsDistinct nat_eq (places_of more)
places_once by more s was added once before is new e =
    let places : places_of more ≡ places_of by ++ s.col ∷ [] =
    ap places_of e ∙ map-append (λ (k : SortCol). k.col) by (s ∷ []) in
    rw places (IsDistinct-push nat_eq_equiv (places_of by) s.col once
    (sym before ∙ (not-flip added was is ∙ ap not new)))

-- ---- The walk over the arguments

-- columns behind those that are chosen
abbrev pub onto : List OrderColumn → Result (List OrderColumn) Fault → Result (List OrderColumn) Fault
onto done r = then_do r (λ cs. Ok (done ++ cs))

onto_next : (done : List OrderColumn) (c : OrderColumn) (r : Result (List OrderColumn) Fault)
    → onto (done ++ c ∷ []) r ≡ onto done (then_do r (λ cs. Ok (c ∷ cs)))
onto_next done c (Err f) = refl
onto_next done c (Ok cs) = ap Ok (append_assoc done (c ∷ []) cs)

next_form : (forms : List Written) (i : ℕ) (f : Written) → i < length forms → f ≡ get_or forms i f
    → map form_seen (drop i forms) ≡ form_seen f ∷ map form_seen (drop (i + 1) forms)
next_form forms i f lt at =
    ap (map form_seen) (drop_more forms i f lt ∙ ap (λ (x : Written). x ∷ drop (i + 1) forms) (sym at))

pub walk_more : (word : List ℕ) (falls : Bool) (names : List (List ℕ)) (by new : List SortCol)
    (forms : List Written) (i : ℕ) (f : Written) (s : SortCol) (all : Result (List OrderColumn) Fault)
    → i < length forms → f ≡ get_or forms i f
    → onto (map (column_seen names) by)
    (columns_after word falls names (names_at names (places_of by)) (map form_seen (drop i forms))) ≡ all
    → column_asked word falls names (form_seen f) ≡ Ok (column_seen names s)
    → new_column (names_at names (places_of by)) (column_seen names s) ≡ Ok (column_seen names s)
    → new ≡ by ++ s ∷ []
    → onto (map (column_seen names) new)
    (columns_after word falls names (names_at names (places_of new)) (map form_seen (drop (i + 1) forms))) ≡ all
walk_more word falls names by new forms i f s all lt at walk asked fresh e =
    let before : List (List ℕ) = names_at names (places_of by) in
    let rest = map form_seen (drop (i + 1) forms) in
    let c : OrderColumn = column_seen names s in
    let seen : map (column_seen names) new ≡ map (column_seen names) by ++ c ∷ [] =
    ap (map (column_seen names)) e ∙ map-append (column_seen names) by (s ∷ []) in
    let after : names_at names (places_of new) ≡ before ++ c.name ∷ [] =
    ap (λ l. names_at names (places_of l)) e
    ∙ (ap (names_at names) (map-append (λ (k : SortCol). k.col) by (s ∷ []))
    ∙ map-append (name_at names) (places_of by) (s.col ∷ [])) in
    let here : columns_after word falls names before (form_seen f ∷ rest)
    ≡ then_do (columns_after word falls names (before ++ c.name ∷ []) rest) (λ cs. Ok (c ∷ cs)) =
    rw (asked, fresh) refl in
    (λ j. onto (seen j) (columns_after word falls names (after j) rest))
    ∙ (onto_next (map (column_seen names) by) c (columns_after word falls names (before ++ c.name ∷ []) rest)
    ∙ (ap (onto (map (column_seen names) by)) (sym here)
    ∙ (ap (λ l. onto (map (column_seen names) by) (columns_after word falls names before l))
    (sym (next_form forms i f lt at)) ∙ walk)))
