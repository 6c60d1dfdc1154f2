-- A table that is copied, read row by row.
use Rattle.std.proofs.Common.{◌≡◌, ◌+◌, ℕ, List, map, length, refl, sym, ap, ◌∙◌, suc, pred, [], ◌∷◌}
use Rattle.std.proofs.lemmas.List.{length-map}
use Rattle.dt_model.specs.Table.{heads_of, rows_of, names_at}
use Rattle.dt_model.specs.Vector.{Vector}
use Rattle.dt_table.specs.Plain.{plain}
use Rattle.dt_table.specs.Table.{TableSeen, IsTable, IsCopy}
use Rattle.na_vector.specs.Frame.{vectors_of}
use Rattle.session_model.specs.Value.{copied}

heads_length : (names : List (List ℕ)) (vs : List Vector) → length names ≡ length vs → length (heads_of names vs) ≡ length names
heads_length [] [] e = refl
heads_length [] (v ∷ vs) e = refl
heads_length (n ∷ names) [] e = sym e
heads_length (n ∷ names) (v ∷ vs) e = ap suc (heads_length names vs (ap pred e))

pub copied_plain : (t c : TableSeen) → IsTable t → IsCopy t c → plain c ≡ copied (plain t)
copied_plain t c i k =
    let width : length (heads_of t.names (vectors_of t.frame.columns)) ≡ length t.names = heads_length t.names (vectors_of t.frame.columns) (i.named ∙ sym (length-map t.frame.columns (λ x. x.vector))) in
    (λ j. record {
      columns = heads_of (k.names j) (k.vectors j);
      rows = rows_of (k.rows j) (k.vectors j);
      key = names_at (k.names j) (k.key j);
      indices = map (λ x. names_at (k.names j) x.cols) (k.indices j);
      slots = (k.slots ∙ ap (λ n. n + 1024) (sym width)) j;
    })
