-- The best of the first cells of a list, one cell after another, and of all of them.
use Rattle.std.proofs.Common.{◌≡◌, ◌∙◌, ◌+◌, ◌<◌, ℕ, Bool, true, false, not, ◌&&◌, List, length, map, All, Option, None}
use Rattle.std.proofs.Common.{Some, refl, ap, sym, subst, below_more, arith, if◌then◌else◌}
use Rattle.std.specs.List.{list_any, position_or_len, slice_get}
use Rattle.std.proofs.lemmas.List.{get_or_default}
use Rattle.std.proofs.lemmas.List.Elements.{All-map}
use Rattle.std.proofs.lemmas.List.Folds.{find_at, list_any_at, list_any_none}
use Rattle.std.proofs.lemmas.List.Sums.{position_or_len_is}
use Rattle.std.proofs.lemmas.Option.{slice_get-get_or, slice_get_past}
use Rattle.dt_base.specs.declared.cell.Cell.{Cell}
use Rattle.dt_base.specs.declared.cell.Cell.TheVariants as is
use Rattle.dt_model.specs.Coercion.{is_na}
use Rattle.dt_model.specs.Vector.{cell_at}
use Rattle.vector_model.specs.Functions.{is_unbeaten, winner}
use Rattle.vec_funcs.specs.Sides.{standing, after}
use Rattle.vec_funcs.proofs.Orders.{Picks}

-- the cell at b is not NA, none of the first i beats it, and it beats each one before it
pub record Unbeaten (beats : Cell → Cell → Bool) (cells : List Cell) (i b : ℕ) : Type 0 where
  pub within : b < i
  pub known : is_na (cell_at cells b) ≡ false
  pub unbeaten : (k : ℕ) → k < i → beats (cell_at cells k) (cell_at cells b) ≡ false
  pub first : (k : ℕ) → k < b → is_na (cell_at cells k) ≡ false → beats (cell_at cells b) (cell_at cells k) ≡ true

-- the best of the first i cells; there is none where each is NA
abbrev pub IsBest : (Cell → Cell → Bool) → List Cell → ℕ → Option ℕ → Type 0
IsBest beats cells i None = (k : ℕ) → k < i → is_na (cell_at cells k) ≡ true
IsBest beats cells i (Some b) = Unbeaten beats cells i b

-- a test that would not be true if it were, is not
not_both : (v : Bool) → (v ≡ true → v ≡ false) → v ≡ false
not_both true h = h refl
not_both false h = refl

-- a test that cannot be false is true
not_false : (v : Bool) → (v ≡ false → v ≡ true) → v ≡ true
not_false true h = refl
not_false false h = h refl

module _ (ranked : Cell → Bool) (beats : Cell → Cell → Bool) (o : Picks ranked beats)
    (cells : List Cell) (typed : All (λ c. ranked c ≡ not (is_na c)) cells) where
  abbrev at : ℕ → Cell
  at k = cell_at cells k

  has_rank_at : (k : ℕ) → k < length cells → is_na (at k) ≡ false → ranked (at k) ≡ true
  has_rank_at k lt h = typed k is.Na lt ∙ ap not h

  no_rank_at : (k : ℕ) → k < length cells → is_na (at k) ≡ true → ranked (at k) ≡ false
  no_rank_at k lt h = typed k is.Na lt ∙ ap not h

  beats_not_itself : (c : Cell) → beats c c ≡ false
  beats_not_itself c = not_both (beats c c) (o.one_way c c)

  -- what beats another cell is not NA
  known_where_beats : (k : ℕ) (c : Cell) → k < length cells → beats (at k) c ≡ true → is_na (at k) ≡ false
  known_where_beats k c lt h =
      not_both (is_na (at k)) (λ e. let no : beats (at k) c ≡ false = o.beats_none (at k) c (no_rank_at k lt e) in cc)

  -- the first cell that is not NA
  first_known : (i : ℕ) → i < length cells → ((k : ℕ) → k < i → is_na (at k) ≡ true) → is_na (at i) ≡ false →
      Unbeaten beats cells (i + 1) i
  first_known i lt none h =
      let P : ℕ → Type 0 = λ k. beats (at k) (at i) ≡ false in
      record {
        within = omega arith;
        known = h;
        unbeaten = below_more P i
            (λ k d. o.beats_none (at k) (at i) (no_rank_at k (omega arith) (none k d)))
            (beats_not_itself (at i));
        first = λ k d e. (let no : is_na (at k) ≡ true = none k d in cc);
      }

  -- the cell at i beats the best so far
  better : (i b : ℕ) → i < length cells → Unbeaten beats cells i b → beats (at i) (at b) ≡ true
      → Unbeaten beats cells (i + 1) i
  better i b lt u h =
      let P : ℕ → Type 0 = λ k. beats (at k) (at i) ≡ false in
      let in_list : b < length cells = omega (arith, u.within) in
      record {
        within = omega arith;
        known = known_where_beats i (at b) lt h;
        unbeaten = below_more P i
            (λ k d. o.chain (at k) (at b) (at i) (has_rank_at b in_list u.known) (u.unbeaten k d)
            (o.one_way (at i) (at b) h))
            (beats_not_itself (at i));
        first = λ k d e. not_false (beats (at i) (at k))
            (λ f. let no : beats (at i) (at b) ≡ false =
            o.chain (at i) (at k) (at b) (has_rank_at k (omega arith) e) f (u.unbeaten k d) in cc);
      }

  -- it does not
  no_better : (i b : ℕ) → Unbeaten beats cells i b → beats (at i) (at b) ≡ false → Unbeaten beats cells (i + 1) b
  no_better i b u h =
      let P : ℕ → Type 0 = λ k. beats (at k) (at b) ≡ false in
      record {
        within = omega (arith, u.within);
        known = u.known;
        unbeaten = below_more P i u.unbeaten h;
        first = u.first;
      }

  -- one more cell, by the test of the code
  more_none : (i : ℕ) (v : Bool) → i < length cells → ((k : ℕ) → k < i → is_na (at k) ≡ true) → is_na (at i) ≡ v →
      IsBest beats cells (i + 1) (if not v then Some i else None)
  more_none i true lt none h = let P : ℕ → Type 0 = λ k. is_na (at k) ≡ true in below_more P i none h
  more_none i false lt none h = first_known i lt none h

  more_some : (i b : ℕ) (v : Bool) → i < length cells → Unbeaten beats cells i b → beats (at i) (at b) ≡ v →
      IsBest beats cells (i + 1) (if v then Some i else Some b)
  more_some i b true lt u h = better i b lt u h
  more_some i b false lt u h = no_better i b u h

  after_more : (i : ℕ) (best : Option ℕ) → i < length cells → IsBest beats cells i best →
      IsBest beats cells (i + 1) (after beats cells i best)
  after_more i None lt h = more_none i (is_na (at i)) lt h refl
  after_more i (Some b) lt h = more_some i b (beats (at i) (at b)) lt h refl

  -- a loop's step
  pub next_best : (i : ℕ) (best next : Option ℕ) → i < length cells → IsBest beats cells i best →
      next ≡ after beats cells i best → IsBest beats cells (i + 1) next
  next_best i best next lt h e =
      let P : Option ℕ → Type 0 = λ o. IsBest beats cells (i + 1) o in subst P (sym e) (after_more i best lt h)

  -- ---- The best of all cells

  na_is_beaten : (c : Cell) → is_na c ≡ true → is_unbeaten beats cells c ≡ false
  na_is_beaten c h = ap (λ v. not v && not (list_any (λ d. beats d c) cells)) h

  -- a cell before the best one is NA, or is beaten by it
  beaten_before : (b k : ℕ) (v : Bool) → b < length cells → Unbeaten beats cells (length cells) b → k < b →
      is_na (at k) ≡ v → is_unbeaten beats cells (at k) ≡ false
  beaten_before b k true lt u d h = na_is_beaten (at k) h
  beaten_before b k false lt u d h =
      let found = list_any_at (λ x. beats x (at k)) cells b is.Na lt (u.first k d h) in
      ap (λ v. not v && not (list_any (λ x. beats x (at k)) cells)) h ∙ ap not found

  -- the best one is not
  unbeaten_here : (b : ℕ) → Unbeaten beats cells (length cells) b → is_unbeaten beats cells (at b) ≡ true
  unbeaten_here b u =
      let none = list_any_none (λ x. beats x (at b)) cells
      (λ k d lt. ap (λ x. beats x (at b)) (get_or_default cells k d is.Na lt) ∙ u.unbeaten k lt) in
      ap (λ v. not v && not (list_any (λ x. beats x (at b)) cells)) u.known ∙ ap not none

  place_is : (b : ℕ) → Unbeaten beats cells (length cells) b → position_or_len (is_unbeaten beats cells) cells ≡ b
  place_is b u =
      position_or_len_is (is_unbeaten beats cells) cells b is.Na (omega (arith, u.within))
      (λ k d. beaten_before b k (is_na (at k)) u.within u d refl)
      (λ lt. unbeaten_here b u)

  no_place : ((k : ℕ) → k < length cells → is_na (at k) ≡ true)
      → position_or_len (is_unbeaten beats cells) cells ≡ length cells
  no_place none =
      position_or_len_is (is_unbeaten beats cells) cells (length cells) is.Na (omega arith)
      (λ k d. na_is_beaten (at k) (none k d))
      (λ lt. absurd (omega arith))

  -- it is the winner
  pub found : (best : Option ℕ) → IsBest beats cells (length cells) best → winner beats cells ≡ standing cells best
  found None none =
      find_at (is_unbeaten beats cells) cells ∙ ap (slice_get cells) (no_place none)
      ∙ slice_get_past cells (length cells) (omega arith)
  found (Some b) u =
      find_at (is_unbeaten beats cells) cells ∙ ap (slice_get cells) (place_is b u)
      ∙ slice_get-get_or cells b is.Na u.within

-- each word has a rank unless it is NA
pub typed_words : {X : Type 0} (ranked : Cell → Bool) (cell : X → Cell) →
    ((x : X) → ranked (cell x) ≡ not (is_na (cell x))) → (xs : List X)
    → All (λ c. ranked c ≡ not (is_na c)) (map cell xs)
typed_words ranked cell h xs = All-map (λ c. ranked c ≡ not (is_na c)) cell xs (λ k d lt. h _)
