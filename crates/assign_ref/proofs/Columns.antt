-- Targets beside the parts that they become: names and columns.
use Rattle.std.proofs.Common.{◌≡◌, ◌+◌, ◌<◌, ◌≤◌, ◌==◌, ◌||◌, not, ℕ, zero, suc, true, false, Bool, cond, List, []}
use Rattle.std.proofs.Common.{◌∷◌, ◌++◌, length, map, get_or, None, Some, Option, is_none, is_some, option_map}
use Rattle.std.proofs.Common.{nat_lt, arith, refl, sym, ap, ◌∙◌, subst, inl, inr}
use Rattle.std.specs.List.{AllByRecursion, IsDistinct, filter, list_any, position_or_len}
use Rattle.std.specs.Str.{bytes_eq}
use Rattle.std.proofs.lemmas.Bool.{cases_Bool, cases_eq, cases_lt, ltb-false, ne_eqb, eq-eqb, or_from}
use Rattle.std.proofs.lemmas.List.Folds.{list_any_at}
use Rattle.std.proofs.lemmas.List.Quantifiers.{position-Some}
use Rattle.std.proofs.lemmas.Map.Keys.{apart_from_distinct}
use Rattle.std.specs.Cmp.Lexicographic.{nat_list_eq_equiv}
use Rattle.std.proofs.lemmas.Slice.Eq.{bytes_eq-Decides}
use Rattle.dt_model.specs.Table.{name_at, names_at, place_of}
use Rattle.dt_base.specs.declared.cell.Cell.{Cell}
use Rattle.dt_model.specs.Coercion.{coerced}
use Rattle.dt_model.specs.Vector.{Vector}
use Rattle.dt_table.specs.Change.{PartSeen, Add, added_names, added_vectors, changed, changed_from, cut, goes}
use Rattle.dt_table.specs.Change.{indices_changed, is_delete, is_named, is_of, kept, key_changed, names_changed}
use Rattle.dt_table.specs.Change.{part_at, stays_before, vectors_changed}
use Rattle.dt_table.specs.Table.{IndexSeen}
use Rattle.dt_table.proofs.Moving.{ap2, cut_all, cut_free, names_moved, none_named as none_named_by}
use Rattle.assign_model.specs.Assign.{and_then, values, becomes, begins, begun, column_after, kept_after, value_after}
use Rattle.assign_model.specs.Assign.{vectors_after}
use Rattle.assign_model.specs.Keys.{cut_key, kept_indices}
use Rattle.assign_model.specs.Targets.{Rows, Target, adds, deletes, is_name, names_after, names_of, stays, target_of}
use Rattle.assign_ref.specs.Planned.{delete_part, part_at_column, part_by, part_of, parts_of, value_part, vector_at}
use Rattle.assign_ref.proofs.Written.{put_is_written}

-- ---- Names

pub same_name : (a b : List ℕ) → bytes_eq a b ≡ true → a ≡ b
same_name a b e = (bytes_eq-Decides a b).0 e

pub name_refl : (a : List ℕ) → bytes_eq a a ≡ true
name_refl a = (bytes_eq-Decides a a).1 refl

-- names at two places differ
pub names_apart : (names : List (List ℕ)) (a b : ℕ) → IsDistinct bytes_eq names → a < length names → b < length names
    → (a ≡ b → ⊥) → bytes_eq (name_at names a) (name_at names b) ≡ false
names_apart names a b d x y n =
    elim (cases_lt a b) [
      | inl lt ↦ apart_from_distinct bytes_eq names a b [] d lt y
      | inr ge ↦ (let below : b < a = less a b ge n in
          nat_list_eq_equiv.symm (name_at names a) (name_at names b)
          ∙ apart_from_distinct bytes_eq names b a [] d below x)
    ]
  where
    less : (a b : ℕ) → b ≤ a → (a ≡ b → ⊥) → b < a
    less a b ge n = omega (arith, n)

-- ---- The place of a name

none_passes : {X : Type 0} (p : X → Bool) (xs : List X) (i : ℕ) (d : X) → length xs ≤ position_or_len p xs
    → i < length xs → p (get_or xs i d) ≡ false
none_passes p [] i d le lt = absurd (omega arith)
none_passes p (x ∷ xs) zero d le lt =
    elim (cases_Bool (p x)) [
      | inl hit ↦ (let here : position_or_len p (x ∷ xs) ≡ 0 = rw hit refl in absurd (omega arith))
      | inr miss ↦ miss
    ]
none_passes p (x ∷ xs) (suc i) d le lt =
    elim (cases_Bool (p x)) [
      | inl hit ↦ (let here : position_or_len p (x ∷ xs) ≡ 0 = rw hit refl in absurd (omega arith))
      | inr miss ↦ (let here : position_or_len p (x ∷ xs) ≡ 1 + position_or_len p xs = rw miss refl in
          let rest : length xs ≤ position_or_len p xs = omega arith in none_passes p xs i d rest (omega arith))
    ]

pub none_named : (q : List ℕ) (names : List (List ℕ)) (i : ℕ) → place_of q names ≡ None → i < length names
    → bytes_eq q (name_at names i) ≡ false
none_named q names i e lt =
    none_passes (bytes_eq q) names i [] (past (position_or_len (bytes_eq q) names) (length names) e) lt
  where
    past : (a b : ℕ) → cond (nat_lt a b) (Some a) None ≡ None → b ≤ a
    past a b h = elim (cases_Bool (nat_lt a b)) [
      | inl hit ↦ (let some : Some a ≡ None = rw hit at h in cc)
      | inr miss
          ↦ ltb-false a b miss
    ]

pub place_some : (q : List ℕ) (names : List (List ℕ)) (c : ℕ) → place_of q names ≡ Some c → (c < length names)
    × (bytes_eq q (name_at names c) ≡ true)
place_some q names c e = let found = position-Some (bytes_eq q) names c [] e in (found.0, found.1)

-- a name stands at one place
pub place_is : (q : List ℕ) (names : List (List ℕ)) (i : ℕ) → IsDistinct bytes_eq names → i < length names
    → bytes_eq (name_at names i) q ≡ true → place_of q names ≡ Some i
place_is q names i d lt e = go (place_of q names) refl
  where
    go : (o : Option ℕ) → place_of q names ≡ o → place_of q names ≡ Some i
    go None h = (let miss : bytes_eq q (name_at names i) ≡ false = none_named q names i h lt in
        let hit : bytes_eq q (name_at names i) ≡ true = nat_list_eq_equiv.symm q (name_at names i) ∙ e in cc)
    go (Some c) h =
        (let found = place_some q names c h in
        let same : name_at names i ≡ name_at names c = same_name (name_at names i) q e
        ∙ same_name q (name_at names c) found.1 in
        elim (cases_eq i c) [
          | inl one ↦ h ∙ ap Some (sym one)
          | inr two ↦ (let apart : bytes_eq (name_at names i) (name_at names c)
              ≡ false = names_apart names i c d lt found.0 two in
              let equal : bytes_eq (name_at names i) (name_at names c)
              ≡ true = subst (λ (x : List ℕ). bytes_eq (name_at names i) x ≡ true) same
              (name_refl (name_at names i)) in cc)
        ])

any_none : (q : List ℕ) (names : List (List ℕ)) → ((i : ℕ) → i < length names → bytes_eq q (name_at names i) ≡ false)
    → is_name names q ≡ false
any_none q [] h = refl
any_none q (x ∷ names) h = or_from (bytes_eq q x) (is_name names q) (h 0 (omega arith))
    (any_none q names (λ i lt. h (suc i) (omega arith)))

-- a name is one of them where it has a place
pub is_name_place : (q : List ℕ) (names : List (List ℕ)) → is_name names q ≡ is_some (place_of q names)
is_name_place q names = go (place_of q names) refl
  where
    go : (o : Option ℕ) → place_of q names ≡ o → is_name names q ≡ is_some (place_of q names)
    go None h = any_none q names (λ i lt. none_named q names i h lt) ∙ sym (ap is_some h)
    go (Some c) h = (let found = place_some q names c h in list_any_at (bytes_eq q) names c [] found.0 found.1
        ∙ sym (ap is_some h))

-- ---- The part of a column is that of its target

of_column : (n : ℕ) (rows : Rows) (c i : ℕ) (x old : Vector) → is_of i (part_at_column n rows c x old) ≡ (c == i)
of_column n None c i x old = refl
of_column n (Some rows) c i x old = refl

-- the place of a name, and that of a column
of_place : (names : List (List ℕ)) (q : List ℕ) (i c : ℕ) → IsDistinct bytes_eq names → i < length names
    → place_of q names ≡ Some c → (c == i) ≡ bytes_eq (name_at names i) q
of_place names q i c d lt e =
    elim (cases_Bool (bytes_eq (name_at names i) q)) [
      | inl hit ↦ (let at : Some c ≡ Some i = sym e ∙ place_is q names i d lt hit in let same : c
          ≡ i = cc in eq-eqb c i same ∙ sym hit)
      | inr miss ↦ ne_eqb c i (λ (same : c ≡ i).
          let found = place_some q names c e in
          let hit : bytes_eq (name_at names i) q ≡ true = nat_list_eq_equiv.symm (name_at names i) q
          ∙ subst (λ (k : ℕ). bytes_eq q (name_at names k) ≡ true) same found.1 in
          cc) ∙ sym miss
    ]

of_none : (names : List (List ℕ)) (q : List ℕ) (i : ℕ) → i < length names → place_of q names ≡ None → false
    ≡ bytes_eq (name_at names i) q
of_none names q i lt e = sym (nat_list_eq_equiv.symm (name_at names i) q ∙ none_named q names i e lt)

pub of_target : (n : ℕ) (rows : Rows) (names : List (List ℕ)) (vectors : List Vector) (i : ℕ) (name : List ℕ)
    (value : Option Vector) → IsDistinct bytes_eq names → i < length names
    → is_of i (part_by n rows names vectors name value) ≡ bytes_eq (name_at names i) name
of_target n rows names vectors i name None d lt = go (place_of name names) refl
  where
    go : (o : Option ℕ) → place_of name names ≡ o → is_of i (delete_part (length names) o)
        ≡ bytes_eq (name_at names i) name
    go None h = ne_eqb (length names) i (λ (e : length names ≡ i). absurd (omega arith)) ∙ of_none names name i lt h
    go (Some c) h = of_place names name i c d lt h
of_target n rows names vectors i name (Some x) d lt = go (place_of name names) refl
  where
    go : (o : Option ℕ) → place_of name names ≡ o → is_of i (value_part n rows name x vectors o)
        ≡ bytes_eq (name_at names i) name
    go None h = of_none names name i lt h
    go (Some c) h = of_column n rows c i x (vector_at vectors c) ∙ of_place names name i c d lt h

module _ (n : ℕ) (rows : Rows) (names : List (List ℕ)) (vectors : List Vector) (d : IsDistinct bytes_eq names) where
  pub part_found : (targets : List Target) (i : ℕ) → i < length names
      → part_at i (parts_of n rows names vectors targets) ≡ option_map (λ t. part_of n rows names vectors t)
      (target_of (name_at names i) targets)
  part_found [] i lt = refl
  part_found (t ∷ targets) i lt =
      let of : is_of i (part_of n rows names vectors t) ≡ bytes_eq (name_at names i) t.name = of_target n rows names
      vectors i t.name t.value d lt in
      elim (cases_Bool (bytes_eq (name_at names i) t.name)) [
        | inl hit ↦ rw (of, hit) refl
        | inr miss ↦ rw (of, miss) (part_found targets i lt)
      ]

  -- a part deletes where its target has no value
  delete_value : (name : List ℕ) (value : Option Vector) → is_delete (Some (part_by n rows names vectors name value))
      ≡ is_none value
  delete_value name None = go (place_of name names)
    where
      go : (o : Option ℕ) → is_delete (Some (delete_part (length names) o)) ≡ true
      go None = refl
      go (Some c) = refl
  delete_value name (Some x) = go (place_of name names)
    where
      at : (r : Rows) (c : ℕ) → is_delete (Some (part_at_column n r c x (vector_at vectors c))) ≡ false
      at None c = refl
      at (Some l) c = refl

      go : (o : Option ℕ) → is_delete (Some (value_part n rows name x vectors o)) ≡ false
      go None = refl
      go (Some c) = at rows c

  delete_found : (o : Option Target) → is_delete (option_map (λ t. part_of n rows names vectors t) o) ≡ deletes o
  delete_found None = refl
  delete_found (Some t) = delete_value t.name t.value

  -- the columns that go are those that a target deletes
  pub goes_found : (targets : List Target) (i : ℕ) → i < length names → goes (parts_of n rows names vectors targets) i
      ≡ deletes (target_of (name_at names i) targets)
  goes_found targets i lt = ap is_delete (part_found targets i lt) ∙ delete_found (target_of (name_at names i) targets)

  -- so the same names stay
  pub kept_stay : (targets : List Target) (i : ℕ) (rest : List (List ℕ)) → i + length rest ≤ length names
      → ((k : ℕ) → k < length rest → name_at rest k ≡ name_at names (i + k))
      → kept (parts_of n rows names vectors targets) i rest ≡ filter (stays targets) rest
  kept_stay targets i [] le h = refl
  kept_stay targets i (q ∷ rest) le h =
      let here : q ≡ name_at names i = (let e : i + 0 ≡ i = omega arith in h 0 (omega arith) ∙ ap (name_at names) e) in
      let next : kept (parts_of n rows names vectors targets) (i + 1) rest ≡ filter (stays targets) rest =
      kept_stay targets (i + 1) rest (omega arith) (λ k lt.
      (let e : i + suc k ≡ (i + 1) + k = omega arith in h (suc k) (omega arith) ∙ ap (name_at names) e)) in
      let goes_is : goes (parts_of n rows names vectors targets) i
      ≡ deletes (target_of q targets) = goes_found targets i (omega arith)
      ∙ ap (λ (x : List ℕ). deletes (target_of x targets)) (sym here) in
      elim (cases_Bool (deletes (target_of q targets))) [
        | inl hit ↦ rw (goes_is, hit) next
        | inr miss ↦ rw (goes_is, miss) (ap (λ l. q ∷ l) next)
      ]

  -- ---- The columns

  -- what a target makes of its column
  change_column : (i : ℕ) (x v : Vector) → vector_at vectors i ≡ v
      → changed (Some (part_at_column n rows i x (vector_at vectors i))) v ≡ becomes n rows x v
  change_column i x v e = rw e (go rows)
    where
      go : (r : Rows) → changed (Some (part_at_column n r i x v)) v ≡ becomes n r x v
      go None = refl
      go (Some l) = ap (λ (cells : List Cell). record { kind = v.kind; cells = cells })
          (put_is_written l (values (length l) (coerced v.kind x)) v.cells)

  found_name : (q : List ℕ) (targets : List Target) (t : Target) → target_of q targets ≡ Some t → bytes_eq q t.name
      ≡ true
  found_name q [] t e = cc
  found_name q (u ∷ targets) t e =
      elim (cases_Bool (bytes_eq q u.name)) [
        | inl hit ↦ (let one : Some u ≡ Some t = rw hit at e in let same : u
            ≡ t = cc in subst (λ (x : Target). bytes_eq q x.name ≡ true) same hit)
        | inr miss ↦ (let rest : target_of q targets ≡ Some t = rw miss at e in found_name q targets t rest)
      ]

  -- the column at place i, by what its target is
  column_step : (targets : List Target) (i : ℕ) (q : List ℕ) (v : Vector) (kept_rest after_rest : List Vector)
      → i < length names → q ≡ name_at names i → vector_at vectors i ≡ v → kept_rest ≡ after_rest
      → cond (goes (parts_of n rows names vectors targets) i) kept_rest
      (changed (part_at i (parts_of n rows names vectors targets)) v ∷ kept_rest)
      ≡ and_then (column_after n rows (target_of q targets) v) after_rest
  column_step targets i q v kept_rest after_rest lt here at next = go (target_of q targets) refl
    where
      made : (t : Target) (value : Option Vector) → t.value ≡ value → target_of q targets ≡ Some t
          → cond (goes (parts_of n rows names vectors targets) i) kept_rest
          (changed (part_at i (parts_of n rows names vectors targets)) v ∷ kept_rest)
          ≡ and_then (value_after n rows value v) after_rest
      made t None e f =
          (let out : goes (parts_of n rows names vectors targets) i ≡ true = goes_found targets i lt
          ∙ (ap (λ (x : List ℕ). deletes (target_of x targets)) (sym here) ∙ (ap deletes f ∙ ap is_none e)) in
          rw out next)
      made t (Some x) e f =
          (let stay : goes (parts_of n rows names vectors targets) i ≡ false = goes_found targets i lt
          ∙ (ap (λ (y : List ℕ). deletes (target_of y targets)) (sym here) ∙ (ap deletes f ∙ ap is_none e)) in
          let hit : bytes_eq (name_at names i) t.name ≡ true = subst (λ (y : List ℕ). bytes_eq y t.name ≡ true) here
          (found_name q targets t f) in
          let place : place_of t.name names ≡ Some i = place_is t.name names i d lt hit in
          let one : part_of n rows names vectors t ≡ part_at_column n rows i x (vector_at vectors i) = rw (e, place)
          refl in
          let found : part_at i (parts_of n rows names vectors targets)
          ≡ Some (part_at_column n rows i x (vector_at vectors i)) = part_found targets i lt
          ∙ (ap (λ (y : List ℕ). option_map (λ t. part_of n rows names vectors t) (target_of y targets))
          (sym here) ∙ (ap (option_map (λ t. part_of n rows names vectors t)) f ∙ ap Some one)) in
          rw (stay, found, change_column i x v at, next) refl)

      go : (o : Option Target) → target_of q targets ≡ o → cond (goes (parts_of n rows names vectors targets) i)
          kept_rest (changed (part_at i (parts_of n rows names vectors targets)) v ∷ kept_rest)
          ≡ and_then (column_after n rows o v) after_rest
      go None f =
          (let found : part_at i (parts_of n rows names vectors targets) ≡ None = part_found targets i lt
          ∙ (ap (λ (y : List ℕ). option_map (λ t. part_of n rows names vectors t) (target_of y targets))
          (sym here) ∙ ap (option_map (λ t. part_of n rows names vectors t)) f) in
          rw (found, next) refl)
      go (Some t) f = made t t.value refl f

  pub kept_columns : (targets : List Target) (i : ℕ) (rest : List (List ℕ)) (vs : List Vector)
      → i + length rest ≤ length names → length rest ≡ length vs
      → ((k : ℕ) → k < length rest → name_at rest k ≡ name_at names (i + k))
      → ((k : ℕ) → k < length vs → vector_at vs k ≡ vector_at vectors (i + k))
      → kept (parts_of n rows names vectors targets) i (changed_from (parts_of n rows names vectors targets) i vs)
      ≡ kept_after n rows targets rest vs
  kept_columns targets i [] [] le e h hv = refl
  kept_columns targets i [] (v ∷ vs) le e h hv = absurd (omega arith)
  kept_columns targets i (q ∷ rest) [] le e h hv = absurd (omega arith)
  kept_columns targets i (q ∷ rest) (v ∷ vs) le e h hv =
      let zero_more : i + 0 ≡ i = omega arith in
      let here : q ≡ name_at names i = h 0 (omega arith) ∙ ap (name_at names) zero_more in
      let at : v ≡ vector_at vectors i = hv 0 (omega arith) ∙ ap (vector_at vectors) zero_more in
      column_step targets i q v _ _ (omega arith) here (sym at)
      (kept_columns targets (i + 1) rest vs (omega arith) (omega arith)
      (λ k lt. (let s : i + suc k ≡ (i + 1) + k = omega arith in h (suc k) (omega arith) ∙ ap (name_at names) s))
      (λ k lt. (let s : i + suc k ≡ (i + 1) + k = omega arith in hv (suc k) (omega arith) ∙ ap (vector_at vectors) s)))

  -- ---- New columns

  no_name : (r : Rows) (c : ℕ) (x old : Vector) (ps : List PartSeen) → added_names (part_at_column n r c x old ∷ ps)
      ≡ added_names ps
  no_name None c x old ps = refl
  no_name (Some l) c x old ps = refl

  no_vector : (r : Rows) (c : ℕ) (x old : Vector) (ps : List PartSeen)
      → added_vectors (part_at_column n r c x old ∷ ps) ≡ added_vectors ps
  no_vector None c x old ps = refl
  no_vector (Some l) c x old ps = refl

  added_none : (o : Option ℕ) (ps : List PartSeen) → added_names (delete_part (length names) o ∷ ps) ≡ added_names ps
  added_none None ps = refl
  added_none (Some c) ps = refl

  added_no : (o : Option ℕ) (ps : List PartSeen) → added_vectors (delete_part (length names) o ∷ ps) ≡ added_vectors ps
  added_no None ps = refl
  added_no (Some c) ps = refl

  -- whether a target adds a column
  adds_none : (t : Target) → t.value ≡ None → adds names t ≡ false
  adds_none t e = rw e refl

  adds_place : (t : Target) (x : Vector) → t.value ≡ Some x → adds names t ≡ not (is_some (place_of t.name names))
  adds_place t x e = rw (e, is_name_place t.name names) refl

  name_step : (t : Target) (ps : List PartSeen) (ts : List Target) → added_names ps
      ≡ names_of (filter (adds names) ts) → added_names (part_of n rows names vectors t ∷ ps)
      ≡ names_of (filter (adds names) (t ∷ ts))
  name_step t ps ts so = go t.value refl
    where
      at : (x : Vector) (o : Option ℕ) → t.value ≡ Some x → place_of t.name names ≡ o
          → added_names (part_of n rows names vectors t ∷ ps) ≡ names_of (filter (adds names) (t ∷ ts))
      at x None e h =
          (let one : part_of n rows names vectors t ≡ Add t.name (begins n rows x) = rw (e, h) refl in
          let more : adds names t ≡ true = adds_place t x e ∙ rw h refl in
          rw (one, more) (ap (λ l. t.name ∷ l) so))
      at x (Some c) e h =
          (let one : part_of n rows names vectors t ≡ part_at_column n rows c x (vector_at vectors c) = rw (e, h) refl
          in
          let more : adds names t ≡ false = adds_place t x e ∙ rw h refl in
          rw (one, more) (no_name rows c x (vector_at vectors c) ps ∙ so))

      go : (value : Option Vector) → t.value ≡ value → added_names (part_of n rows names vectors t ∷ ps)
          ≡ names_of (filter (adds names) (t ∷ ts))
      go None e =
          (let one : part_of n rows names vectors t ≡ delete_part (length names) (place_of t.name names) = rw e refl in
          rw (one, adds_none t e) (added_none (place_of t.name names) ps ∙ so))
      go (Some x) e = at x (place_of t.name names) e refl

  vector_step : (t : Target) (ps : List PartSeen) (ts : List Target) → added_vectors ps
      ≡ map (λ u. begun n rows u.value) (filter (adds names) ts) → added_vectors (part_of n rows names vectors t ∷ ps)
      ≡ map (λ u. begun n rows u.value) (filter (adds names) (t ∷ ts))
  vector_step t ps ts so = go t.value refl
    where
      at : (x : Vector) (o : Option ℕ) → t.value ≡ Some x → place_of t.name names ≡ o
          → added_vectors (part_of n rows names vectors t ∷ ps)
          ≡ map (λ u. begun n rows u.value) (filter (adds names) (t ∷ ts))
      at x None e h =
          (let one : part_of n rows names vectors t ≡ Add t.name (begins n rows x) = rw (e, h) refl in
          let more : adds names t ≡ true = adds_place t x e ∙ rw h refl in
          let begin : begun n rows t.value ≡ begins n rows x = rw e refl in
          rw (one, more, begin) (ap (λ l. begins n rows x ∷ l) so))
      at x (Some c) e h =
          (let one : part_of n rows names vectors t ≡ part_at_column n rows c x (vector_at vectors c) = rw (e, h) refl
          in
          let more : adds names t ≡ false = adds_place t x e ∙ rw h refl in
          rw (one, more) (no_vector rows c x (vector_at vectors c) ps ∙ so))

      go : (value : Option Vector) → t.value ≡ value → added_vectors (part_of n rows names vectors t ∷ ps)
          ≡ map (λ u. begun n rows u.value) (filter (adds names) (t ∷ ts))
      go None e =
          (let one : part_of n rows names vectors t ≡ delete_part (length names) (place_of t.name names) = rw e refl in
          rw (one, adds_none t e) (added_no (place_of t.name names) ps ∙ so))
      go (Some x) e = at x (place_of t.name names) e refl

  pub added_found : (targets : List Target) → added_names (parts_of n rows names vectors targets)
      ≡ names_of (filter (adds names) targets)
  added_found [] = refl
  added_found (t ∷ targets) = name_step t (parts_of n rows names vectors targets) targets (added_found targets)

  pub begun_found : (targets : List Target) → added_vectors (parts_of n rows names vectors targets)
      ≡ map (λ t. begun n rows t.value) (filter (adds names) targets)
  begun_found [] = refl
  begun_found (t ∷ targets) = vector_step t (parts_of n rows names vectors targets) targets (begun_found targets)

  -- ---- All columns

  pub names_found : (targets : List Target) → names_changed (parts_of n rows names vectors targets) names
      ≡ names_after names targets
  names_found targets = ap2 (λ (a b : List (List ℕ)). a ++ b)
      (kept_stay targets 0 names (omega arith) (λ k lt. (let e : k ≡ 0 + k = omega arith in ap (name_at names) e)))
      (added_found targets)

  pub vectors_found : (targets : List Target) → length names ≡ length vectors
      → vectors_changed (parts_of n rows names vectors targets) vectors ≡ vectors_after n rows targets names vectors
  vectors_found targets each = ap2 (λ (a b : List Vector). a ++ b)
      (kept_columns targets 0 names vectors (omega arith) each
      (λ k lt. (let e : k ≡ 0 + k = omega arith in ap (name_at names) e))
      (λ k lt. (let e : k ≡ 0 + k = omega arith in ap (vector_at vectors) e))) (begun_found targets)

  -- ---- Key and indices

  -- a column is named by a part where its name is a target's
  pub named_found : (targets : List Target) (c : ℕ) → c < length names
      → is_named (parts_of n rows names vectors targets) c ≡ is_name (names_of targets) (name_at names c)
  named_found [] c lt = refl
  named_found (t ∷ targets) c lt = ap2 (λ (a b : Bool). a || b) (of_target n rows names vectors c t.name t.value d lt)
      (named_found targets c lt)

  any_found : (targets : List Target) (cols : List ℕ) → AllByRecursion (λ c. c < length names) cols
      → list_any (is_named (parts_of n rows names vectors targets)) cols
      ≡ list_any (is_name (names_of targets)) (names_at names cols)
  any_found targets [] h = refl
  any_found targets (c ∷ cols) h = ap2 (λ (a b : Bool). a || b) (named_found targets c h.0) (any_found targets cols h.1)

  cut_found : (targets : List Target) (key : List ℕ) → AllByRecursion (λ c. c < length names) key
      → names_at names (cut (parts_of n rows names vectors targets) key)
      ≡ cut_key (names_of targets) (names_at names key)
  cut_found targets [] h = refl
  cut_found targets (c ∷ key) h =
      let rest = cut_found targets key h.1 in
      elim (cases_Bool (is_name (names_of targets) (name_at names c))) [
        | inl hit ↦ rw (named_found targets c h.0, hit) refl
        | inr miss ↦ rw (named_found targets c h.0, miss) (ap (λ l. name_at names c ∷ l) rest)
      ]

  pub key_found : (targets : List Target) (key : List ℕ) → AllByRecursion (λ c. c < length names) key
      → names_at (names_changed (parts_of n rows names vectors targets) names)
      (key_changed (parts_of n rows names vectors targets) key) ≡ cut_key (names_of targets) (names_at names key)
  key_found targets key h =
      let ps = parts_of n rows names vectors targets in
      names_moved ps names (added_names ps) (cut ps key) (cut_free ps key) (cut_all (λ c. c < length names) ps key h)
      ∙ cut_found targets key h

  pub indices_found : (targets : List Target) (xs : List IndexSeen)
      → AllByRecursion (λ x. AllByRecursion (λ c. c < length names) x.cols) xs
      → map (λ x. names_at (names_changed (parts_of n rows names vectors targets) names) x.cols)
      (indices_changed (parts_of n rows names vectors targets) xs)
      ≡ kept_indices (names_of targets) (map (λ x. names_at names x.cols) xs)
  indices_found targets [] h = refl
  indices_found targets (x ∷ xs) h =
      let ps = parts_of n rows names vectors targets in
      let rest = indices_found targets xs h.1 in
      let same : list_any (is_named ps) x.cols ≡ list_any (is_name (names_of targets)) (names_at names x.cols) =
      any_found targets x.cols h.0 in
      elim (cases_Bool (list_any (is_name (names_of targets)) (names_at names x.cols))) [
        | inl hit ↦ rw (same, hit) rest
        | inr miss ↦ (let free : list_any (is_named ps) x.cols ≡ false = same ∙ miss in
            let moved_is : names_at (names_changed ps names) (map (stays_before ps) x.cols)
            ≡ names_at names x.cols = names_moved ps names (added_names ps) x.cols (none_named_by ps x.cols free)
            h.0 in
            rw (same, miss) (ap2 (λ (a : List (List ℕ)) (l : List (List (List ℕ))). a ∷ l) moved_is rest))
      ]
