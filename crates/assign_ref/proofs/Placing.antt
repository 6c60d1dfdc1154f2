-- Values that are put at chosen rows.
use Rattle.std.proofs.Common.{◌≡◌, ◌<◌, ◌==◌, ℕ, zero, suc, Bool, List, [], ◌∷◌, All, length, map, get_or, set}
use Rattle.std.proofs.Common.{replicate, None, Some, Option, arith, refl, sym, ap, ◌∙◌, subst, inl, inr}
use Rattle.std.specs.List.{range_with_len}
use Rattle.std.proofs.lemmas.Bool.{cases_Bool, eqb-false, eqb-true}
use Rattle.std.proofs.lemmas.List.{map-set, length-replicate, get_or-replicate}
use Rattle.std.proofs.lemmas.List.Elements.{All-from_get_or, All-head, All-replicate, All-set, All-tail}
use Rattle.std.proofs.lemmas.List.FromFn.{fill_by_all, get_or-map-range_with_len, length-map-range_with_len}
use Rattle.std.proofs.lemmas.Simd.{map-map}
use Rattle.dt_base.specs.declared.cell.Cell.{Cell}
use Rattle.dt_base.specs.declared.cell.Cell.TheVariants as is
use Rattle.dt_model.specs.Vector.{IsWithin, Vector, cell_at, gathered, picked}
use Rattle.dt_table.specs.Table.{put_in_order}
use Rattle.assign_model.specs.Assign.{begins, values}
use Rattle.assign_model.specs.Targets.{Rows, rows_assigned}
use Rattle.assign_ref.specs.Values.{HasLength, place_of_value, value_places}
use Rattle.assign_ref.proofs.Written.{put_is_written}

pub map_put : {X Y : Type 0} (f : X → Y) (at : List ℕ) (vs old : List X) → map f (put_in_order at vs old)
    ≡ put_in_order at (map f vs) (map f old)
map_put f [] vs old = refl
map_put f (p ∷ at) [] old = refl
map_put {Y = Y} f (p ∷ at) (v ∷ vs) old = map_put f at vs (set old p v)
    ∙ ap (λ (l : List Y). put_in_order at (map f vs) l) (map-set f old p v)

put_within : {X : Type 0} (P : X → Type 0) (at : List ℕ) (vs old : List X) → All P vs → All P old
    → All P (put_in_order at vs old)
put_within P [] vs old h k = k
put_within P (p ∷ at) [] old h k = k
put_within P (p ∷ at) (v ∷ vs) old h k = put_within P at vs (set old p v) (All-tail P v vs h)
    (All-set P old p v (All-head P v vs h) k)

map_none : (cells : List Cell) (n : ℕ) → map (picked cells) (replicate n None) ≡ replicate n is.Na
map_none cells zero = refl
map_none cells (suc n) = ap (λ (l : List Cell). is.Na ∷ l) (map_none cells n)

-- the place at k, as the code makes it
pub value_at : (one : Bool) (n k : ℕ) (d : Option ℕ) → k < n → get_or (value_places one n) k d
    ≡ Some (place_of_value one k)
value_at one n k d lt = get_or-map-range_with_len (λ i. Some (place_of_value one i)) 0 n k k d lt (omega arith)

pub places_long : (one : Bool) (n : ℕ) → length (value_places one n) ≡ n
places_long one n = length-map-range_with_len (λ i. Some (place_of_value one i)) 0 n

-- the cells at the places are the values
cells_there : (v : Vector) (n : ℕ) → HasLength n v → map (picked v.cells) (value_places (length v.cells == 1) n)
    ≡ values n v
cells_there v n h =
    elim (cases_Bool (length v.cells == 1)) [
      | inl hit ↦ rw hit (map-map (picked v.cells) (λ (i : ℕ). Some 0) (range_with_len 0 n)
          ∙ sym (fill_by_all (λ i. cell_at v.cells 0) (replicate n (cell_at v.cells 0)) n is.Na (length-replicate n _)
          (λ k lt. get_or-replicate n k _ _ lt)))
      | inr miss ↦ (let long : length v.cells ≡ n = elim h [ inl a ↦ absurd (eqb-false _ _ miss a) | inr b ↦ b ] in
          rw miss (map-map (picked v.cells) (λ i. Some i) (range_with_len 0 n)
          ∙ sym (fill_by_all (cell_at v.cells) v.cells n is.Na long (λ k lt. refl))))
    ]

-- so the gathered column is the new one
pub gathered_begins : (v : Vector) (n : ℕ) (at : List ℕ) → HasLength (length at) v
    → gathered v (put_in_order at (value_places (length v.cells == 1) (length at)) (replicate n None))
    ≡ begins n (Some at) v
gathered_begins v n at h =
    ap (λ (l : List Cell). record { kind = v.kind; cells = l })
    (map_put (picked v.cells) at (value_places (length v.cells == 1) (length at)) (replicate n None)
    ∙ (ap (λ (l : List Cell). put_in_order at l (map (picked v.cells) (replicate n None))) (cells_there v (length at) h)
    ∙ (ap (λ (l : List Cell). put_in_order at (values (length at) v) l) (map_none v.cells n)
    ∙ put_is_written at (values (length at) v) (replicate n is.Na))))

-- each place is one of the value's
pub places_within : (v : Vector) (n : ℕ) (at : List ℕ) → HasLength (length at) v
    → All (IsWithin (length v.cells)) (put_in_order at (value_places (length v.cells == 1) (length at))
    (replicate n None))
places_within v n at h =
    put_within (IsWithin (length v.cells)) at (value_places (length v.cells == 1) (length at)) (replicate n None)
    (All-from_get_or (IsWithin (length v.cells)) (value_places (length v.cells == 1) (length at)) None (λ k lt.
    let within : k < length at = rw (sym (places_long (length v.cells == 1) (length at))) lt in
    subst (IsWithin (length v.cells)) (sym (value_at (length v.cells == 1) (length at) k None within)) (one k within)))
    (All-replicate (IsWithin (length v.cells)) n None tt)
  where
    one : (k : ℕ) → k < length at → IsWithin (length v.cells) (Some (place_of_value (length v.cells == 1) k))
    one k lt = elim (cases_Bool (length v.cells == 1)) [
      | inl hit ↦ (let e : length v.cells ≡ 1 = eqb-true _ _ hit in rw hit (omega arith))
      | inr miss ↦ (let long : length v.cells ≡ length at = elim h
          [ inl a ↦ absurd (eqb-false _ _ miss a) | inr b ↦ b ] in rw miss (omega arith))
    ]

values_long : (n : ℕ) (x : Vector) → HasLength n x → length (values n x) ≡ n
values_long n x h =
    elim (cases_Bool (length x.cells == 1)) [
      | inl hit ↦ rw hit (length-replicate n (cell_at x.cells 0))
      | inr miss ↦ (let long : length x.cells ≡ n = elim h [ inl a ↦ absurd (eqb-false _ _ miss a) | inr b ↦ b ] in rw
          miss long)
    ]

-- a new column has a cell for each row
pub begins_long : (n : ℕ) (rows : Rows) (x : Vector) → HasLength (rows_assigned n rows) x
    → length (begins n rows x).cells ≡ n
begins_long n None x h = values_long n x h
begins_long n (Some at) x h = length-map-range_with_len _ 0 (length (replicate n is.Na)) ∙ length-replicate n is.Na
