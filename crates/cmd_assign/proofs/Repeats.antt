-- The first old name that stands twice, beside each of them in order.
--   IsBefore k o      place k is not past o, the first that repeats an earlier one
use Rattle.std.proofs.Common.{◌≡◌, ◌+◌, ◌-◌, ◌<◌, ◌≤◌, ◌==◌, ◌++◌, ◌∙◌, ℕ, zero, suc, Bool, true, false, cond, List}
use Rattle.std.proofs.Common.{[], ◌∷◌, Option, None, Some, Result, Ok, Err, find, length, arith, refl, sym, ap}
use Rattle.std.proofs.Common.{get_or, inl, inr, map, subst, take}
use Rattle.std.specs.List.{IsDistinct, range_with_len}
use Rattle.std.specs.Str.{bytes_eq}
use Rattle.std.proofs.lemmas.Bool.{cases_eq, cases_lt, eq-eqb, ne_eqb}
use Rattle.std.proofs.lemmas.List.{get_or_default, map-append, take_more}
use Rattle.dt_base.specs.declared.fault.Fault.{Fault}
use Rattle.dt_model.specs.Table.{first_repeated, is_repeated, name_at, place_of}
use Rattle.dt_table.proofs.Names.{IsDistinct-from_none, miss_from_none}
use Rattle.session_model.proofs.InOrder.{each_next, each_refused, onto}
use Rattle.eval_fail.specs.Answers.{AnswersAs}
use Rattle.eval_fail.specs.declared.fail.EvalFail.{EvalFail}
use Rattle.eval_fail.specs.declared.fail.EvalFail.TheVariants as eval
use Rattle.session_model.specs.Expression.{each}
use Rattle.session_model.specs.Set.{old_name}
use Rattle.cmd_assign.specs.Renames.{is_at, old_name_by, places_of, steps_done}

abbrev pub IsBefore : ℕ → Option ℕ → Type 0
IsBefore k None = Unit {0}
IsBefore k (Some r) = k ≤ r

-- the least number of a range that passes, where one is found
record IsLeast (p : ℕ → Bool) (a end r : ℕ) : Type 0 where
  pub passes : p r ≡ true
  pub within : r < end
  pub before : (j : ℕ) → a ≤ j → j < r → p j ≡ false

least_is : (p : ℕ → Bool) (n a r : ℕ) → find p (range_with_len a n) ≡ Some r → IsLeast p a (a + n) r
least_is p zero a r e = (let n : None ≡ Some r = e in cc)
least_is p (suc n) a r e =
    (elim (p a) as (λ v. p a ≡ v → cond v (Some a) (find p (range_with_len (a + 1) n)) ≡ Some r
    → IsLeast p a (a + suc n) r) [
      | true ↦ λ h s. (let here : a ≡ r = cc in record {
        passes = subst (λ x. p x ≡ true) here h;
        within = omega arith;
        before = λ j le lt. absurd (omega (arith, here));
      })
      | false ↦ λ h s. (let rest = least_is p n (a + 1) r s in record {
        passes = rest.passes;
        within = (let w = rest.within in omega arith);
        before = λ j le lt. (elim (cases_lt a j) [
          | inl more ↦ rest.before j (omega arith) lt
          | inr here ↦ (let same : j ≡ a = omega arith in rw same h)
        ]);
      })
    ]) refl e

-- whether the name at a place repeats an earlier one
pub repeated_is : (old : List (List ℕ)) (o : Option ℕ) (k : ℕ) → o ≡ first_repeated old → k < length old → IsBefore k o
    → is_repeated old k ≡ is_at o k
repeated_is old None k e lt b = miss_from_none (is_repeated old) (length old) 0 (sym e) k (omega arith) (omega arith)
repeated_is old (Some r) k e lt b =
    (let least = least_is (is_repeated old) (length old) 0 r (sym e) in
    elim (cases_eq r k) [
      | inl same ↦ subst (λ x. is_repeated old x ≡ true) same least.passes ∙ sym (eq-eqb r k same)
      | inr other ↦ least.before k (omega arith) (less k r b other) ∙ sym (ne_eqb r k other)
    ])
  where
    less : (k r : ℕ) → k ≤ r → (r ≡ k → ⊥) → k < r
    less k r le n = omega (arith, n)

-- the next place, where it is not that one
pub before_next : (o : Option ℕ) (k : ℕ) → is_at o k ≡ false → IsBefore k o → IsBefore (k + 1) o
before_next None k e b = tt
before_next (Some r) k e b =
    elim (cases_eq r k) [
      | inl same ↦ (let hit : (r == k) ≡ true = eq-eqb r k same in let miss : (r == k) ≡ false = e in cc)
      | inr other ↦ less k r b other
    ]
  where
    less : (k r : ℕ) → k ≤ r → (r ≡ k → ⊥) → k + 1 ≤ r
    less k r le n = omega (arith, n)

-- no place is past all names
pub distinct_at_end : (old : List (List ℕ)) (o : Option ℕ) (k : ℕ) → o ≡ first_repeated old → length old ≤ k
    → IsBefore k o → IsDistinct bytes_eq old
distinct_at_end old None k e le b = IsDistinct-from_none old (sym e)
distinct_at_end old (Some r) k e le b =
    (let w = (least_is (is_repeated old) (length old) 0 r (sym e)).within in absurd (omega arith))

-- ---- What is done for each number below n

module _ {B : Type 0} (f : ℕ → Result B Fault) (whole : Result (List B) Fault) (done : List B) (n k : ℕ) where
  numbers_more : k < n → range_with_len k (n - k) ≡ k ∷ range_with_len (k + 1) (n - (k + 1))
  numbers_more lt = (let e : n - k ≡ suc (n - (k + 1)) = omega arith in rw e refl)

  pub number_next : (y : B) → whole ≡ onto done (each f (range_with_len k (n - k))) → k < n → f k ≡ Ok y → whole
      ≡ onto (done ++ y ∷ []) (each f (range_with_len (k + 1) (n - (k + 1))))
  number_next y h lt e =
      each_next f whole done k (range_with_len (k + 1) (n - (k + 1))) y
      (h ∙ ap (λ l. onto done (each f l)) (numbers_more lt)) e

  pub number_refused : (e : Fault) → whole ≡ onto done (each f (range_with_len k (n - k))) → k < n → f k ≡ Err e → whole
      ≡ Err e
  number_refused e h lt r =
      each_refused f whole done k (range_with_len (k + 1) (n - (k + 1))) e
      (h ∙ ap (λ l. onto done (each f l)) (numbers_more lt)) r

  -- its fault, as an answer
  pub number_stopped : {A C : Type 0} (view : C → B) (told : A → List B) (e : EvalFail)
      → whole ≡ onto done (each f (range_with_len k (n - k))) → k < n → AnswersAs view (f k) (Err e)
      → AnswersAs told whole (Err e)
  number_stopped view told (eval.Stop fault) h lt r = number_refused fault h lt r
  number_stopped view told (eval.NoMemory x) h lt r = tt

-- ---- An old name

-- the name at a place, by what is known of it
pub name_is : (names old : List (List ℕ)) (o : Option ℕ) (k : ℕ) (name : List ℕ) (b : Bool) → o ≡ first_repeated old
    → k < length old → IsBefore k o → name ≡ get_or old k name → b ≡ is_at o k
    → old_name_by names name b ≡ old_name names old k
name_is names old o k name b e lt before at is =
    (let there : name ≡ name_at old k = at ∙ sym (get_or_default old k [] name lt) in
    λ j. old_name_by names (there j) ((is ∙ sym (repeated_is old o k e lt before)) j))

-- a name that is fine stands at no place before
pub not_repeated : (names : List (List ℕ)) (name : List ℕ) (b : Bool) → old_name_by names name b ≡ Ok tt → b ≡ false
not_repeated names name true e = cc
not_repeated names name false e = refl

pub steps_more : (places new : List ℕ) (c : ℕ) → new ≡ places ++ c ∷ [] → steps_done new ≡ steps_done places ++ tt ∷ []
steps_more places new c e = ap steps_done e ∙ map-append (λ (x : ℕ). tt) places (c ∷ [])

pub places_more : (names old : List (List ℕ)) (places new : List ℕ) (k c : ℕ) (name : List ℕ) → k < length old
    → places_of names (take k old) ≡ map Some places → name ≡ get_or old k name → place_of name names ≡ Some c
    → new ≡ places ++ c ∷ [] → places_of names (take (k + 1) old) ≡ map Some new
places_more names old places new k c name lt h at p e =
    (let more : take (k + 1) old ≡ take k old ++ name ∷ [] =
    take_more old k name lt ∙ ap (λ (x : List ℕ). take k old ++ x ∷ []) (sym at) in
    let left : places_of names (take (k + 1) old) ≡ places_of names (take k old) ++ place_of name names ∷ [] =
    ap (places_of names) more ∙ map-append (λ (x : List ℕ). place_of x names) (take k old) (name ∷ []) in
    let right : map Some new ≡ map Some places ++ Some c ∷ [] = ap (map Some) e ∙ map-append Some places (c ∷ []) in
    left ∙ ((λ j. h j ++ p j ∷ []) ∙ sym right))
