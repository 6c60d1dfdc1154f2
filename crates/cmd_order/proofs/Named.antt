-- Columns by the names that arguments write.
use Rattle.std.proofs.Common.{◌≡◌, ◌∷◌, ◌∙◌, ℕ, false, List, [], Ok, map, refl, ap, sym}
use Rattle.cmd_order.specs.Columns.{column_seen, places_of}
use Rattle.dt_model.specs.Table.{names_at}
use Rattle.dt_table.proofs.Plain.{plain_names}
use Rattle.dt_table.specs.Plain.{plain}
use Rattle.dt_table.specs.Table.{IsTable, TableSeen}
use Rattle.row_order.specs.declared.ordering.SortCol.{SortCol}
use Rattle.session_model.specs.Form.{Form}
use Rattle.session_model.specs.OrderColumns.{distinct_columns}
use Rattle.session_model.specs.Orders.{column_name, columns_named}
use Rattle.vector_model.specs.Then.{then_do}

-- the columns of the plain table have the names of the table
pub columns_named-plain : (word : List ℕ) (t : TableSeen) (forms : List Form) → IsTable t
    → columns_named word (plain t) forms
    ≡ then_do (distinct_columns word false t.names forms) (λ cs. Ok (map column_name cs))
columns_named-plain word t forms h =
    ap (λ names. then_do (distinct_columns word false names forms) (λ cs. Ok (map column_name cs))) (plain_names t h)

names_seen : (names : List (List ℕ)) (by : List SortCol)
    → map column_name (map (column_seen names) by) ≡ names_at names (places_of by)
names_seen names [] = refl
names_seen names (s ∷ by) = ap (λ l. column_name (column_seen names s) ∷ l) (names_seen names by)

pub named_places : (word : List ℕ) (t : TableSeen) (forms : List Form) (by : List SortCol) (places : List ℕ)
    → IsTable t → distinct_columns word false t.names forms ≡ Ok (map (column_seen t.names) by)
    → places ≡ places_of by → columns_named word (plain t) forms ≡ Ok (names_at t.names places)
named_places word t forms by places h e is =
    columns_named-plain word t forms h
    ∙ (ap (λ r. then_do r (λ cs. Ok (map column_name cs))) e
    ∙ ap Ok (names_seen t.names by ∙ ap (names_at t.names) (sym is)))
