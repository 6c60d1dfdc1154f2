-- A table that is altered, as it prints.
use Rattle.std.proofs.Common.{◌≡◌, ◌∙◌, ℕ, Bool, true, false, cond, if◌then◌else◌, [], Option, None, Some, option_map}
use Rattle.std.proofs.Common.{refl, ap, sym, subst}
use Rattle.std.proofs.lemmas.Bool.{eqb-true}
use Rattle.std.proofs.lemmas.Cmp.{nat_cmp_total, eq_by_cmp_equiv}
use Rattle.std.specs.Cmp.{unsigned_ties}
use Rattle.std.specs.FinMap.{get, get-insert}
use Rattle.std.specs.Ordering.{eq_by_cmp, nat_cmp}
use Rattle.dt_model.specs.State.{State}
use Rattle.dt_model.specs.Table.{PlainTable, no_table}
use Rattle.dt_table.specs.Change.{ChangeSeen}
use Rattle.dt_table.specs.Plain.{plain, plain_changed}
use Rattle.dt_table.specs.Table.{IndexSeen, TableSeen}
use Rattle.session_model.specs.Effect.{tabled}
use Rattle.session_model.specs.Statement.{altered_table, shown_text}
use Rattle.session_model.specs.Value.{numbered_table, printed_plain, printed_value}
use Rattle.stmt_change.specs.Altered.{plain_altered}
use Rattle.stmt_change.specs.Places.{table_at}
use Rattle.stmt_change.specs.declared.change.Altered.{Altered}
use Rattle.stmt_value.specs.Values.{IsAlteredIn, plain_given, plain_value}
use Rattle.stmt_value.specs.declared.given.Given.{Given}
use Rattle.stmt_value.specs.declared.given.Value.{Value}
use Rattle.stmt_value.specs.declared.given.Value.TheVariants as value
use Rattle.table_heap.specs.Altered.{indexed, table_altered, table_with}
use Rattle.table_heap.specs.Seen.{HeapSeen}
use Rattle.table_heap.specs.State.{state_of}

-- ---- A table of a state, once one has become another

abbrev read : Option PlainTable → PlainTable
read o = elim o [ Some u ↦ u | None ↦ no_table ]

-- it is what it became
became : (s : State) (n : ℕ) (t : PlainTable) → numbered_table (tabled s (Some (n, t))) n ≡ t
became s n t =
    ap read (get-insert nat_cmp_total s.tables n t n
    ∙ ap (λ c. cond c (Some t) (get s.tables n)) ((eq_by_cmp_equiv nat_cmp_total).refl n))

-- one that prints as it did leaves all tables as they print
prints_as : (s : State) (n k : ℕ) (u : PlainTable) → printed_plain u ≡ printed_plain (numbered_table s n)
    → printed_plain (numbered_table (tabled s (Some (n, u))) k) ≡ printed_plain (numbered_table s k)
prints_as s n k u e =
    ap (λ o. printed_plain (read o)) (get-insert nat_cmp_total s.tables n u k) ∙ go (eq_by_cmp nat_cmp k n) refl
  where
    go : (c : Bool) → eq_by_cmp nat_cmp k n ≡ c
        → printed_plain (read (cond c (Some u) (get s.tables k))) ≡ printed_plain (numbered_table s k)
    go true h = e ∙ ap (λ m. printed_plain (numbered_table s m)) (sym (eqb-true k n (unsigned_ties k n ∙ h)))
    go false h = refl

-- ---- A value that alters a table

-- an index does not show
index_hidden : (t : TableSeen) (x : Option IndexSeen) → printed_plain (table_altered t x None) ≡ printed_plain (plain t)
index_hidden t None = refl
index_hidden t (Some x) = refl

pub unaltered : (h : HeapSeen) (v : Value) (a : Altered) → a.parts ≡ None
    → numbered_table (state_of h) a.id.number ≡ plain (table_at h a.id)
    → printed_value (state_of h) (plain_value v)
    ≡ printed_value (tabled (state_of h) (altered_table (Some (plain_altered h a)))) (plain_value v)
unaltered h (value.Named id) a none own =
    sym (prints_as (state_of h) a.id.number id.number (table_altered (table_at h a.id) a.index a.parts)
    (ap (λ p. printed_plain (table_altered (table_at h a.id) a.index p)) none
    ∙ (index_hidden (table_at h a.id) a.index ∙ ap printed_plain (sym own))))
unaltered h (value.New t) a none own = refl
unaltered h (value.Cells c) a none own = refl
unaltered h (value.Kept c) a none own = refl
unaltered h value.Null a none own = refl

changed_shows : (t : TableSeen) (x : Option IndexSeen) (ch : ChangeSeen)
    → printed_plain (plain_changed t ch) ≡ printed_plain (table_altered t x (Some ch))
changed_shows t None ch = refl
changed_shows t (Some x) ch = refl

-- a table whose columns are changed prints as it is then
pub changed_prints : (h : HeapSeen) (v : Value) (a : Altered) (ch : ChangeSeen) → a.parts ≡ Some ch
    → IsAlteredIn h v (Some a)
    → printed_plain (plain_changed (table_at h a.id) ch)
    ≡ printed_value (tabled (state_of h) (altered_table (Some (plain_altered h a)))) (plain_value v)
changed_prints h v a ch some r =
    let own : v ≡ value.Named a.id = (let q = r.0 in rw some at q) in
    changed_shows (table_at h a.id) a.index ch
    ∙ (ap (λ p. printed_plain (table_altered (table_at h a.id) a.index p)) (sym some)
    ∙ (sym (ap printed_plain (became (state_of h) a.id.number (table_altered (table_at h a.id) a.index a.parts)))
    ∙ ap (λ w. printed_value (tabled (state_of h) (altered_table (Some (plain_altered h a)))) (plain_value w)) (sym own)))

-- a value that is shown, and what it alters
pub shown_altered : (h : HeapSeen) (g : Given) (a : Altered) → g.shown ≡ true → g.altered ≡ Some a
    → printed_value (tabled (state_of h) (altered_table (Some (plain_altered h a)))) (plain_value g.value)
    ≡ shown_text (state_of h) (plain_given h g)
shown_altered h g a p e =
    λ j. if sym p j
    then printed_value (tabled (state_of h) (altered_table (option_map (plain_altered h) (sym e j))))
    (plain_value g.value)
    else []
