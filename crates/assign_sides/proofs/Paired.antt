-- Names beside their values, one more.
use Rattle.std.proofs.Common.{◌≡◌, ◌<◌, ◌+◌, ◌++◌, ◌∙◌, ℕ, List, [], ◌∷◌, length, map, take, get_or, Option, refl}
use Rattle.std.proofs.Common.{option_map}
use Rattle.std.proofs.Common.{sym, ap}
use Rattle.std.proofs.Common.{◌==◌, Ok, Err, Result, IfOk, Vec, Global, inl, inr, arith, length-take}
use Rattle.std.proofs.lemmas.List.{length-map, map-append, take_more}
use Rattle.assign_ref.specs.Seen.{target_seen, targets_seen}
use Rattle.assign_ref.specs.declared.target.Target as code
use Rattle.assign_sides.specs.Seen.{value_seen}
use Rattle.assign_model.specs.Targets.{Target, names_of}
use Rattle.dt_model.specs.Vector.{Vector}
use Rattle.na_vector.specs.Column.{Seen}
use Rattle.eval_fail.specs.Answers.{AnswersAs}
use Rattle.eval_fail.specs.declared.fail.EvalFail.{EvalFail}
use Rattle.session_model.specs.Assigned.{each_target, item_vector, paired, target}
use Rattle.std.proofs.lemmas.Bool.{cases_Bool, eqb-true}
use Rattle.vector_model.specs.Faults.{length_fault}
use Rattle.valued.specs.declared.column.Valued.{Valued}
use Rattle.vector_model.specs.Functions as model

both_more : (names : List (List ℕ)) (vs : List (Option model.Valued)) (n : List ℕ) (v : Option model.Valued)
    → length names ≡ length vs
    → paired (names ++ n ∷ []) (vs ++ v ∷ []) ≡ paired names vs ++ target n (item_vector v) ∷ []
both_more [] [] n v e = refl
both_more [] (x ∷ vs) n v e = absurd (omega (arith, e))
both_more (m ∷ names) [] n v e = absurd (omega (arith, e))
both_more (m ∷ names) (x ∷ vs) n v e =
    ap (λ l. target m (item_vector x) ∷ l) (both_more names vs n v (omega (arith, e)))

same_count : (names : List (List ℕ)) (vs : List (Option Valued)) (k : ℕ) → k < length names → k < length vs
    → length (take k names) ≡ length (map value_seen (take k vs))
same_count names vs k a b =
    let left : length (take k names) ≡ k = rw length-take (omega arith) in
    let right : length (take k vs) ≡ k = rw length-take (omega arith) in
    left ∙ sym (length-map (take k vs) value_seen ∙ right)

pub pair_more : (names : List (List ℕ)) (vs : List (Option Valued)) (k : ℕ) (n : List ℕ) (v : Option Valued)
    → k < length names → k < length vs
    → paired (take (k + 1) names) (map value_seen (take (k + 1) vs))
    ≡ paired (take k names) (map value_seen (take k vs))
    ++ target (get_or names k n) (item_vector (value_seen (get_or vs k v))) ∷ []
pair_more names vs k n v a b =
    rw (take_more names k n a, take_more vs k v b, map-append value_seen (take k vs) (get_or vs k v ∷ []))
    (both_more (take k names) (map value_seen (take k vs)) (get_or names k n) (value_seen (get_or vs k v))
    (same_count names vs k a b))

-- one more target
pub pair_next : (now new : List code.Target) (names : List (List ℕ)) (vs : List (Option Valued)) (k : ℕ)
    (name n : List ℕ) (w : Option Seen) (v : Option Valued)
    → targets_seen now ≡ paired (take k names) (map value_seen (take k vs)) → k < length names → k < length vs
    → name ≡ get_or names k n → option_map (λ (c : Seen). c.vector) w ≡ item_vector (value_seen (get_or vs k v))
    → targets_seen new ≡ targets_seen now ++ target_seen (record { name = name; value = w }) ∷ []
    → targets_seen new ≡ paired (take (k + 1) names) (map value_seen (take (k + 1) vs))
pair_next now new names vs k name n w v h a b at is e =
    let one : target_seen (record { name = name; value = w })
    ≡ target (get_or names k n) (item_vector (value_seen (get_or vs k v))) =
    λ j. record { name = at j; value = is j } in
    e ∙ (ap (λ l. l ++ target_seen (record { name = name; value = w }) ∷ []) h
    ∙ (ap (λ (t : Target). paired (take k names) (map value_seen (take k vs)) ++ t ∷ []) one
    ∙ sym (pair_more names vs k n v a b)))

-- ---- Targets have the names

pub named_all : (names : List (List ℕ)) (v : Option Vector) → names_of (map (λ name. target name v) names) ≡ names
named_all [] v = refl
named_all (n ∷ names) v = ap (λ l. n ∷ l) (named_all names v)

named_pairs : (names : List (List ℕ)) (vs : List (Option model.Valued)) → length vs ≡ length names
    → names_of (paired names vs) ≡ names
named_pairs [] [] e = refl
named_pairs [] (v ∷ vs) e = refl
named_pairs (n ∷ names) [] e = absurd (omega (arith, e))
named_pairs (n ∷ names) (v ∷ vs) e = ap (λ l. n ∷ l) (named_pairs names vs (omega (arith, e)))

named_each : (names : List (List ℕ)) (vs : List (Option model.Valued)) (ts : List Target)
    → each_target names vs ≡ Ok ts → names_of ts ≡ names
named_each names vs ts e =
    elim (cases_Bool (length vs == length names)) [
      | inl same ↦
          (let is : Ok (paired names vs) ≡ Ok ts = rw same at e in
          let targets : paired names vs ≡ ts = cc in
          ap names_of (sym targets) ∙ named_pairs names vs (eqb-true (length vs) (length names) same))
      | inr other ↦
          (let is : Err (length_fault (length vs) (length names)) ≡ Ok ts = rw other at e in cc)
    ]

pub each_named : (names : List (List ℕ)) (vs : List (Option model.Valued))
    (o : Result (Vec code.Target Global) EvalFail)
    → AnswersAs (λ (v : Vec code.Target Global). targets_seen v.items) (each_target names vs) o
    → IfOk o (λ (v : Vec code.Target Global). names_of (targets_seen v.items) ≡ names)
each_named names vs (Ok v) h = named_each names vs (targets_seen v.items) h
each_named names vs (Err e) h = tt
