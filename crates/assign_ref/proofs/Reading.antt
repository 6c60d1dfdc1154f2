-- Targets as the code has them, and as the definitions do.
use Rattle.std.proofs.Common.{◌≡◌, ◌<◌, ◌+◌, ◌||◌, ◌++◌, ◌∷◌, ℕ, Bool, true, false, List, [], All, length, get_or}
use Rattle.std.proofs.Common.{take, drop, ap, sym, ◌∙◌, refl, subst, Some, slice_get}
use Rattle.std.proofs.lemmas.List.{at_drop_more, get_or-map, length-map, map-append, take-map, take_more}
use Rattle.std.proofs.lemmas.List.Elements.{All-get_or}
use Rattle.dt_base.specs.declared.warns.Warns.{Warns}
use Rattle.dt_base.specs.Warns.{both_warns, no_warns}
use Rattle.dt_model.specs.Vector.{Vector}
use Rattle.dt_table.specs.declared.change.Part.{Part}
use Rattle.dt_table.specs.Change.{PartSeen, part_seen, parts_seen}
use Rattle.dt_table.proofs.Moving.{ap2}
use Rattle.assign_ref.specs.Values.{allowance, part_allowance, part_warns, parts_warns}
use Rattle.std.proofs.lemmas.Option.{slice_get_within, get_or_from_slice_get}
use Rattle.dt_model.specs.Table.{is_repeated, name_at}
use Rattle.na_vector.specs.Column.{Seen}
use Rattle.na_vector.specs.Frame.{vectors_of}
use Rattle.assign_ref.specs.Planned.{part_of, parts_of, vector_at}
use Rattle.assign_model.specs.Targets.{Rows, is_name, names_of}
use Rattle.assign_model.specs.Targets as model
use Rattle.assign_ref.specs.Seen.{target_seen, targets_seen}
use Rattle.assign_ref.specs.declared.target.Target.{Target}

names_taken : (ts : List Target) (k : ℕ) → names_of (targets_seen (take k ts)) ≡ take k (names_of (targets_seen ts))
names_taken ts k = ap names_of (sym (take-map target_seen k ts))
    ∙ sym (take-map (λ (t : model.Target). t.name) k (targets_seen ts))

name_of_target : (ts : List Target) (k : ℕ) (d : Target) → k < length ts → name_at (names_of (targets_seen ts)) k
    ≡ (get_or ts k d).name
name_of_target ts k d lt =
    let within : k < length (targets_seen ts) = rw (length-map ts target_seen) lt in
    get_or-map (λ (t : model.Target). t.name) (targets_seen ts) k (target_seen d) [] within
    ∙ ap (λ (t : model.Target). t.name) (get_or-map target_seen ts k d (target_seen d) lt)

-- the name at a place, among those before it
pub repeated_at : (ts : List Target) (k : ℕ) (q : List ℕ) (d : Target) → k < length ts → q ≡ (get_or ts k d).name
    → is_name (names_of (targets_seen (take k ts))) q ≡ is_repeated (names_of (targets_seen ts)) k
repeated_at ts k q d lt e =
    let same : q ≡ name_at (names_of (targets_seen ts)) k = e ∙ sym (name_of_target ts k d lt) in
    rw (names_taken ts k, same) refl

-- the vector of a column that is there
pub vector_there : (columns : List Seen) (c : ℕ) (x : Seen) → slice_get columns c ≡ Some x
    → vector_at (vectors_of columns) c ≡ x.vector
vector_there columns c x e =
    get_or-map (λ (k : Seen). k.vector) columns c x _ (slice_get_within columns c x e)
    ∙ ap (λ (k : Seen). k.vector) (get_or_from_slice_get columns c x x e)

-- ---- One target of all

pub target_read : (P : model.Target → Type 0) (ts : List Target) (k : ℕ) (d : Target) → k < length ts
    → All P (targets_seen ts) → P (target_seen (get_or ts k d))
target_read P ts k d lt h =
    let within : k < length (targets_seen ts) = rw (length-map ts target_seen) lt in
    subst P (get_or-map target_seen ts k d (target_seen d) lt)
    (All-get_or P (targets_seen ts) k (target_seen d) within h)

both_assoc : (a b c : Warns) → both_warns (both_warns a b) c ≡ both_warns a (both_warns b c)
both_assoc a b c = rw (
  or_assoc a.w01 b.w01 c.w01,
  or_assoc a.w02 b.w02 c.w02,
  or_assoc a.w03 b.w03 c.w03,
  or_assoc
      a.w04 b.w04 c.w04,
  or_assoc a.w05 b.w05 c.w05,
  or_assoc a.w06 b.w06 c.w06,
) refl
  where
    or_assoc : (x y z : Bool) → ((x || y) || z) ≡ (x || (y || z))
    or_assoc true y z = refl
    or_assoc false y z = refl

pub both_none : (w : Warns) → both_warns w no_warns ≡ w
both_none w = rw (or_none w.w01, or_none w.w02, or_none w.w03, or_none w.w04, or_none w.w05, or_none w.w06) refl
  where
    or_none : (x : Bool) → (x || false) ≡ x
    or_none true = refl
    or_none false = refl

module _ (n : ℕ) (rows : Rows) (names : List (List ℕ)) (vectors : List Vector) where
  -- one more part
  pub parts_more : (parts : List Part) (p : Part) (ts : List Target) (k : ℕ) (d : Target) → k < length ts
      → part_seen p ≡ part_of n rows names vectors (target_seen (get_or ts k d)) → parts_seen parts
      ≡ parts_of n rows names vectors (targets_seen (take k ts)) → parts_seen (parts ++ p ∷ [])
      ≡ parts_of n rows names vectors (targets_seen (take (k + 1) ts))
  parts_more parts p ts k d lt e so =
      let next : targets_seen (take (k + 1) ts) ≡ targets_seen (take k ts) ++ target_seen (get_or ts k d) ∷ [] = ap
      targets_seen (take_more ts k d lt) ∙ map-append target_seen (take k ts) (get_or ts k d ∷ []) in
      map-append part_seen parts (p ∷ [])
      ∙ (ap2 (λ (a : List PartSeen) (x : PartSeen). a ++ x ∷ []) so e
      ∙ sym (ap (parts_of n rows names vectors) next ∙ map-append (part_of n rows names vectors)
      (targets_seen (take k ts)) (target_seen (get_or ts k d) ∷ [])))

  -- and its warnings
  pub warns_more : (a b total : Warns) (ts : List Target) (k : ℕ) (d : Target) → k < length ts → b
      ≡ part_warns rows names vectors (target_seen (get_or ts k d)).name (target_seen (get_or ts k d)).value
      → both_warns a (parts_warns rows names vectors (targets_seen (drop k ts))) ≡ total
      → both_warns (both_warns a b) (parts_warns rows names vectors (targets_seen (drop (k + 1) ts))) ≡ total
  warns_more a b total ts k d lt e so =
      let here : parts_warns rows names vectors (targets_seen (drop k ts))
      ≡ both_warns b (parts_warns rows names vectors (targets_seen (drop (k + 1) ts))) =
      at_drop_more (λ (l : List Target). parts_warns rows names vectors (targets_seen l)) ts k d lt
      ∙ ap (λ (w : Warns). both_warns w (parts_warns rows names vectors (targets_seen (drop (k + 1) ts)))) (sym e)
      in
      both_assoc a b (parts_warns rows names vectors (targets_seen (drop (k + 1) ts)))
      ∙ (ap (both_warns a) (sym here) ∙ so)

  -- and its touches
  pub allowed_more : (ts : List Target) (k : ℕ) (d : Target) → k < length ts
      → allowance n rows names (targets_seen (drop k ts)) ≡ part_allowance n rows names
      (target_seen (get_or ts k d)).name (target_seen (get_or ts k d)).value + allowance n rows names
      (targets_seen (drop (k + 1) ts))
  allowed_more ts k d lt = at_drop_more (λ (l : List Target). allowance n rows names (targets_seen l)) ts k d lt
