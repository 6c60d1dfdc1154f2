-- The rows that were found, as a table of their own, and its key.
use Rattle.std.proofs.Common.{◌≡◌, ◌∙◌, ◌<◌, ap, ℕ, Bool, true, List, length, map, All, get_or, Option, None, Some}
use Rattle.std.proofs.Common.{[], Ok, IfSome, subst, sym, arith}
use Rattle.std.specs.Global.{Vec}
use Rattle.std.proofs.lemmas.List.{get_or-map, length-map}
use Rattle.std.proofs.lemmas.List.Elements.{recursion_from_All}
use Rattle.std.proofs.lemmas.List.FromFn.{length-map-range_with_len}
use Rattle.bracket_rows.proofs.Plain.{plain_vectors, vectors_read}
use Rattle.bracket_rows.proofs.WhatIsMet.{found_count, found_names}
use Rattle.bracket_rows.specs.Found.{AreFound, AreRows, KeepsOrder, StandAsBefore, found_by, found_of, places_in}
use Rattle.bracket_rows.specs.declared.found.Found.{Found}
use Rattle.dt_base.specs.declared.warns.Warns.{Warns}
use Rattle.dt_model.specs.Table.{ColumnHead, PlainTable, TableLimit, first_repeated, past_limit, row_at, table_of}
use Rattle.dt_model.specs.Vector.{Vector, IsWithin, gathered}
use Rattle.dt_query.specs.Rows.{IsOfFound, found_table}
use Rattle.dt_table.proofs.Plain.{heads_named, plain_names, plain_rows, vectors_count}
use Rattle.dt_table.proofs.Reordering.{rising_turned}
use Rattle.dt_table.specs.Plain.{plain}
use Rattle.dt_table.specs.Table.{HasTrueKey, IsTable, TableSeen}
use Rattle.expr_model.specs.Surroundings.{columns_in}
use Rattle.na_vector.specs.Frame.{FrameSeen, IsFrame, vectors_of}
use Rattle.order_model.proofs.Truth.{fewer_true}
use Rattle.order_model.specs.Keys.{taken}
use Rattle.order_model.specs.Order.{rising}
use Rattle.order_model.specs.Places.{IsTrueKey}
use Rattle.session_model.specs.Value.{new_table, checked_table, unless_past}

-- they have a name for each column
pub found_width : (t : TableSeen) (f : Found) (g : FrameSeen) → IsTable t
    → vectors_of g.columns ≡ (found_of t f).columns.vectors → length t.names ≡ length g.columns
found_width t f g h e = sym (found_count t f h) ∙ (sym (ap length e) ∙ vectors_count g.columns)

-- a new table of them, with the names of the table, is what the definition says
pub found_means : (t : TableSeen) (f : Found) (g : FrameSeen) (names : List (List ℕ)) → IsTable t → names ≡ t.names
    → vectors_of g.columns ≡ (found_of t f).columns.vectors → g.rows ≡ length (found_of t f).places
    → new_table names g.rows (vectors_of g.columns) ≡ found_table (found_of t f)
found_means t f g names h n v r = λ j. new_table ((n ∙ sym (found_names t f h)) j) (r j) (v j)

-- ---- A new table has the columns that it is made of

within_limits : (l : Option TableLimit) (t p : PlainTable) → unless_past l t ≡ Ok p → p ≡ t
within_limits None t p e = cc
within_limits (Some l) t p e = cc

made_of : (once : Option ℕ) (names : List (List ℕ)) (n : ℕ) (vs : List Vector) (p : PlainTable)
    → checked_table once names n vs ≡ Ok p → p ≡ table_of names n vs
made_of None names n vs p e = within_limits (past_limit n (length vs)) (table_of names n vs) p e
made_of (Some c) names n vs p e = cc

-- its names
new_names : (u : TableSeen) (names : List (List ℕ)) (g : FrameSeen) → IsTable u → length names ≡ length g.columns
    → plain u ≡ table_of names g.rows (vectors_of g.columns) → u.names ≡ names
new_names u names g h w e =
    sym (plain_names u h) ∙ (ap (λ (p : PlainTable). map (λ (x : ColumnHead). x.name) p.columns) e
    ∙ heads_named names (vectors_of g.columns) (w ∙ sym (vectors_count g.columns)))

new_vectors : (u : TableSeen) (names : List (List ℕ)) (g : FrameSeen) → IsTable u → IsFrame g.columns g.rows
    → length names ≡ length g.columns → plain u ≡ table_of names g.rows (vectors_of g.columns)
    → vectors_of u.frame.columns ≡ vectors_of g.columns
new_vectors u names g h f w e =
    sym (plain_vectors u h) ∙ (ap (λ (p : PlainTable). (columns_in p).vectors) e
    ∙ vectors_read names [] g.columns g.rows w f.one_length)

new_rows : (u : TableSeen) (names : List (List ℕ)) (g : FrameSeen)
    → plain u ≡ table_of names g.rows (vectors_of g.columns) → u.frame.rows ≡ g.rows
new_rows u names g e =
    sym (plain_rows u) ∙ (ap (λ (p : PlainTable). length p.rows) e
    ∙ length-map-range_with_len (row_at (vectors_of g.columns)) 0 g.rows)

-- so the rows that were found are the new table's
pub of_found : (t u : TableSeen) (f : Found) (g : FrameSeen) → IsTable t → IsTable u → IsFrame g.columns g.rows
    → vectors_of g.columns ≡ (found_of t f).columns.vectors → g.rows ≡ length (found_of t f).places
    → new_table t.names g.rows (vectors_of g.columns) ≡ Ok (plain u) → IsOfFound t f u
of_found t u f g h k frame vectors rows e =
    let width : length t.names ≡ length g.columns = found_width t f g h vectors in
    let made : plain u ≡ table_of t.names g.rows (vectors_of g.columns) =
    made_of (first_repeated t.names) t.names g.rows (vectors_of g.columns) (plain u) e in
    record {
      names = new_names u t.names g k width made;
      vectors = new_vectors u t.names g k frame width made ∙ vectors;
      rows = new_rows u t.names g made ∙ rows;
    }

-- ---- Rows that stand as they stood have the key

rows_within : (n : ℕ) (rows : List ℕ) → All (IsWithin n) (map Some rows) → All (λ r. r < n) rows
rows_within n rows h k d lt =
    let long : length (map Some rows) ≡ length rows = length-map rows Some in
    let at : get_or (map Some rows) k (Some d) ≡ Some (get_or rows k d) = get_or-map Some rows k d (Some d) lt in
    subst (IsWithin n) at (h k (Some d) (omega (arith, long, lt)))

true_over : (t : TableSeen) (vs : List Vector) (n : ℕ) (o : Option (Vec (Option ℕ))) (past logical : Bool)
    (warns : Warns) → IsTable t → IfSome o (λ v. AreRows t v.items) → IfSome o (λ v. StandAsBefore v.items)
    → vs ≡ (found_by (plain t) (places_in o) past logical warns).columns.vectors
    → n ≡ length (found_by (plain t) (places_in o) past logical warns).places → HasTrueKey n vs t.key
true_over t vs n None past logical warns h a s v r =
    let own : vs ≡ vectors_of t.frame.columns = v ∙ plain_vectors t h in
    let all : n ≡ t.frame.rows =
    r ∙ (length-map-range_with_len Some 0 (length (plain t).rows) ∙ plain_rows t) in
    rw (own, all) h.true_key
true_over t vs n (Some p) past logical warns h a s v r =
    let ws : List Vector = vectors_of t.frame.columns in
    let within : All (λ q. q < t.frame.rows) s.rows =
    rows_within t.frame.rows s.rows (subst (All (IsWithin t.frame.rows)) s.same a.within) in
    let turned : vs ≡ map (λ (c : Vector). gathered c (map Some s.rows)) ws =
    v ∙ (λ j. map (λ (c : Vector). gathered c (s.same j)) (plain_vectors t h j)) in
    let range : All (λ c. c < length ws) t.key =
    subst (λ w. All (λ c. c < w) t.key) (h.named ∙ sym (vectors_count t.frame.columns)) h.key.in_range in
    let by : rising vs t.key ≡ map (taken s.rows) (rising ws t.key) =
    ap (λ l. rising l t.key) turned
    ∙ rising_turned ws s.rows t.key (recursion_from_All (λ c. c < length ws) t.key range) in
    let long : n ≡ length s.rows = r ∙ (ap length s.same ∙ length-map s.rows Some) in
    let fewer : IsTrueKey (map (taken s.rows) (rising ws t.key)) (length s.rows) =
    fewer_true (rising ws t.key) t.frame.rows s.rows h.true_key.rises s.rise within in
    record { rises = subst (IsTrueKey (rising vs t.key)) (sym long) (subst (λ b. IsTrueKey b (length s.rows)) (sym by) fewer) }

-- the key of a table is true of the rows that a logical i leaves
pub key_stays : (t u : TableSeen) (f : Found) → IsTable t → AreFound t f → KeepsOrder f → IsOfFound t f u
    → f.logical ≡ true → HasTrueKey u.frame.rows (vectors_of u.frame.columns) t.key
key_stays t u f h a k o l =
    true_over t (vectors_of u.frame.columns) u.frame.rows f.positions f.past f.logical f.warns h a (k l) o.vectors
    o.rows
