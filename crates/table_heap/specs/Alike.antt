-- That a heap and a state are alike, name by name.
--   SameAt h s o p    o in the heap is p in the state: equal cells, or the same plain table
--   Alike h s         so at each name; one Id where one number; as many tables live as the state has
use Rattle.std.specs.Prelude.{◌≡◌, ◌↔◌, ℕ, List, Option, None, Some, count_by, is_some}
use Rattle.std.specs.FinMap as finite
use Rattle.dt_model.specs.State as model
use Rattle.dt_table.specs.Table.{TableSeen}
use Rattle.dt_table.specs.Plain.{plain}
use Rattle.table_heap.specs.declared.bound.Id.{Id}
use Rattle.table_heap.specs.declared.bound.Bound.{Bound}
use Rattle.table_heap.specs.declared.bound.Bound.TheVariants.{Table, Vector}
use Rattle.table_heap.specs.Seen.{HeapSeen, IsTableAt}

-- a table that the Id has in the heap and the number in the state
abbrev pub SameTable : HeapSeen → model.State → Id → ℕ → Type 0
SameTable h s id k = (t : TableSeen) × IsTableAt h id t × (finite.get s.tables k ≡ Some (plain t))

-- the name is bound on neither side, or to equal vectors, or to tables that read the same
abbrev pub SameAt : HeapSeen → model.State → Option Bound → Option model.Bound → Type 0
SameAt h s None None = Unit {0}
SameAt h s (Some (Vector column)) (Some (model.Vector v)) = column.vector ≡ v
SameAt h s (Some (Table id)) (Some (model.Table k)) = SameTable h s id k
SameAt h s _ _ = ⊥

-- the same names with the same vectors and tables; two names have one Id exactly where the state
-- binds them to one number; and as many places are filled as the state has tables
pub record Alike (h : HeapSeen) (s : model.State) : Type 0 where
  pub same : (q : List ℕ) → SameAt h s (finite.get h.held.bounds q) (finite.get s.names q)
  pub one :
      (p q : List ℕ) (i j : Id) →
      finite.get h.held.bounds p ≡ Some (Table i) →
      finite.get h.held.bounds q ≡ Some (Table j) →
      (i ≡ j) ↔ (finite.get s.names p ≡ finite.get s.names q)
  pub live : count_by is_some h.held.slots ≡ finite.len s.tables
