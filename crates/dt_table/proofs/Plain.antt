-- A table beside its plain reading: its rows, its columns, its names.
use Rattle.std.proofs.Common.{◌≡◌, ℕ, suc, List, [], ◌∷◌, length, map, refl, sym, ap, ◌∙◌, arith}
use Rattle.std.proofs.lemmas.List.{length-map}
use Rattle.std.proofs.lemmas.List.FromFn.{length-map-range_with_len}
use Rattle.dt_model.specs.Table.{ColumnHead, heads_of, row_at}
use Rattle.dt_model.specs.Vector.{Vector}
use Rattle.dt_table.specs.Plain.{plain}
use Rattle.dt_table.specs.Table.{TableSeen, IsTable}
use Rattle.na_vector.specs.Column.{Seen}
use Rattle.na_vector.specs.Frame.{vectors_of}

pub heads_named : (names : List (List ℕ)) (vectors : List Vector) → length names ≡ length vectors
    → map (λ (h : ColumnHead). h.name) (heads_of names vectors) ≡ names
heads_named [] [] e = refl
heads_named [] (v ∷ vectors) e = refl
heads_named (name ∷ names) [] e = absurd (omega (arith, e))
heads_named (name ∷ names) (v ∷ vectors) e = ap (λ rest. name ∷ rest) (heads_named names vectors (omega (arith, e)))

pub heads_count : (names : List (List ℕ)) (vectors : List Vector) → length names ≡ length vectors
    → length (heads_of names vectors) ≡ length names
heads_count [] [] e = refl
heads_count [] (v ∷ vectors) e = refl
heads_count (name ∷ names) [] e = absurd (omega (arith, e))
heads_count (name ∷ names) (v ∷ vectors) e = ap suc (heads_count names vectors (omega (arith, e)))

pub vectors_count : (columns : List Seen) → length (vectors_of columns) ≡ length columns
vectors_count columns = length-map columns (λ (c : Seen). c.vector)

pub plain_rows : (t : TableSeen) → length (plain t).rows ≡ t.frame.rows
plain_rows t = length-map-range_with_len (row_at (vectors_of t.frame.columns)) 0 t.frame.rows

pub plain_width : (t : TableSeen) → IsTable t → length (plain t).columns ≡ length t.names
plain_width t h = heads_count t.names (vectors_of t.frame.columns) (h.named ∙ sym (vectors_count t.frame.columns))

pub plain_columns : (t : TableSeen) → IsTable t → length (plain t).columns ≡ length t.frame.columns
plain_columns t h = plain_width t h ∙ h.named

pub plain_names : (t : TableSeen) → IsTable t → map (λ (h : ColumnHead). h.name) (plain t).columns ≡ t.names
plain_names t h = heads_named t.names (vectors_of t.frame.columns) (h.named ∙ sym (vectors_count t.frame.columns))

pub ruleset counts = (plain_rows, plain_width, plain_columns)
