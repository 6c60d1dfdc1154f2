-- What an expression meets over the rows that were found.
use Rattle.std.proofs.Common.{◌≡◌, ◌∙◌, sym, ap, ℕ, length, map, Bool, Option, None, Some, Result, Ok, Err, IfOk}
use Rattle.std.specs.Global.{Vec}
use Rattle.std.proofs.lemmas.List.{length-map}
use Rattle.std.proofs.lemmas.List.FromFn.{length-map-range_with_len}
use Rattle.bracket_rows.proofs.Plain.{plain_vectors}
use Rattle.bracket_rows.specs.Found.{IsAround, found_by, found_of, met_frame, met_places, places_in}
use Rattle.bracket_rows.specs.declared.around.Surroundings.{Surroundings}
use Rattle.bracket_rows.specs.declared.found.Found.{Found}
use Rattle.dt_base.specs.declared.warns.Warns.{Warns}
use Rattle.dt_model.specs.Vector.{Vector, gathered}
use Rattle.dt_table.proofs.Plain.{plain_names, plain_rows, vectors_count}
use Rattle.dt_table.specs.Plain.{plain}
use Rattle.dt_table.specs.Table.{IsTable, TableSeen}
use Rattle.expr_scope.specs.Scope.{columns_of}
use Rattle.expr_model.specs.Surroundings.{Vars, columns_in, in_rows}
use Rattle.na_vector.specs.Frame.{FrameSeen, vectors_of}
use Rattle.row_model.specs.Rows.{Places, all_rows}
use Rattle.session_model.specs.Found.{rows_env}

-- ---- The rows that were found

by_names : (t : TableSeen) (o : Option Places) (past logical : Bool) (warns : Warns) → IsTable t
    → (found_by (plain t) o past logical warns).columns.names ≡ t.names
by_names t None past logical warns h = plain_names t h
by_names t (Some places) past logical warns h = plain_names t h

-- their columns have the table's names
pub found_names : (t : TableSeen) (f : Found) → IsTable t → (found_of t f).columns.names ≡ t.names
found_names t f h = by_names t (places_in f.positions) f.past f.logical f.warns h

own_count : (t : TableSeen) → IsTable t → length (columns_in (plain t)).vectors ≡ length t.names
own_count t h = ap length (plain_vectors t h) ∙ (vectors_count t.frame.columns ∙ sym h.named)

by_count : (t : TableSeen) (o : Option Places) (past logical : Bool) (warns : Warns) → IsTable t
    → length (found_by (plain t) o past logical warns).columns.vectors ≡ length t.names
by_count t None past logical warns h = own_count t h
by_count t (Some places) past logical warns h =
    length-map (columns_in (plain t)).vectors (λ (v : Vector). gathered v places) ∙ own_count t h

-- as many as names
pub found_count : (t : TableSeen) (f : Found) → IsTable t → length (found_of t f).columns.vectors ≡ length t.names
found_count t f h = by_count t (places_in f.positions) f.past f.logical f.warns h

-- without i they are the table's own
pub own_vectors : (t : TableSeen) → IsTable t → vectors_of t.frame.columns ≡ (columns_in (plain t)).vectors
own_vectors t h = sym (plain_vectors t h)

-- each cell of a chosen row is the table's
pub chosen_vectors : (t : TableSeen) (places : Places) → IsTable t
    → map (λ v. gathered v places) (vectors_of t.frame.columns)
    ≡ map (λ v. gathered v places) (columns_in (plain t)).vectors
chosen_vectors t places h = ap (map (λ v. gathered v places)) (sym (plain_vectors t h))

-- all rows are as many as there are
pub own_rows : (t : TableSeen) → all_rows t.frame.rows ≡ all_rows (length (plain t).rows)
own_rows t = ap all_rows (sym (plain_rows t))

pub own_rows-count : (t : TableSeen) → t.frame.rows ≡ length (all_rows (length (plain t).rows))
own_rows-count t = sym (length-map-range_with_len Some 0 (length (plain t).rows) ∙ plain_rows t)

-- the columns that were gathered are those of the rows that were found
pub gathered_found : {E : Type 0} (t : TableSeen) (f : Found) (v : Vec (Option ℕ)) (places : Places) (own : FrameSeen)
    (r : Result FrameSeen E) → IsTable t → f.positions ≡ Some v → places ≡ v.items → own ≡ t.frame
    → IfOk r (λ (g : FrameSeen). vectors_of g.columns ≡ map (λ v. gathered v places) (vectors_of own.columns))
    → IfOk r (λ (g : FrameSeen). vectors_of g.columns ≡ (found_of t f).columns.vectors)
gathered_found t f v places own (Ok g) h e p o k =
    k
    ∙ ((λ j. map (λ (c : Vector). gathered c (p j)) (vectors_of (o j).columns))
    ∙ (chosen_vectors t v.items h
    ∙ ap (λ (q : Option (Vec (Option ℕ))). (found_by (plain t) (places_in q) f.past f.logical f.warns).columns.vectors) (sym e)))
gathered_found t f v places own (Err x) h e p o k = tt

pub ruleset founds = (own_vectors, chosen_vectors, own_rows, own_rows-count)

-- ---- What is met

-- a name for each column
pub around_named : (t : TableSeen) (f : Found) (s : Surroundings) → IsTable t → IsAround t f s → length t.names
    ≡ length (met_frame t s).columns
around_named t f s h a =
    sym (found_count t f h)
    ∙ (sym (ap length a.vectors) ∙ vectors_count (met_frame t s).columns)

-- the surroundings are those of the rows that were found
pub around_env : (t : TableSeen) (f : Found) (s : Surroundings) (vars : Vars) → IsTable t → IsAround t f s
    → in_rows (columns_of t.names (met_frame t s)) (met_places f s) vars ≡ rows_env (found_of t f) vars
around_env t f s vars h a =
    λ j. in_rows (record { names = sym (found_names t f h) j; vectors = a.vectors j }) (a.places j) vars

pub ruleset around = (around_named, around_env)
