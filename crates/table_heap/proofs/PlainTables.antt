-- The tables of a state, from those at the places of a heap.
use Rattle.std.proofs.Common.{◌≡◌, ◌≤◌, ◌<◌, ◌+◌, ◌∙◌, ℕ, zero, suc, Bool, true, false, cond, [], ◌∷◌, length, Option}
use Rattle.std.proofs.Common.{Some, None, refl, sym, subst, inl, inr, arith}
use Rattle.std.specs.Ordering.{nat_cmp, eq_by_cmp}
use Rattle.std.specs.FinMap.{find, get-from_entries}
use Rattle.std.proofs.lemmas.Bool.{cases_lt}
use Rattle.std.proofs.lemmas.Cmp.{nat_cmp_total}
use Rattle.dt_model.specs.Table.{PlainTable}
use Rattle.dt_table.specs.Plain.{plain}
use Rattle.dt_table.specs.PlainTables.{IsPlainTable}
use Rattle.dt_table.specs.Table.{IsTable}
use Rattle.dt_table.proofs.PlainTables.{plain_table}
use Rattle.table_heap.specs.declared.bound.Numbered.{Numbered}
use Rattle.table_heap.specs.Seen.{Held, Slots, slot_at}
use Rattle.table_heap.specs.State.{numbered_tables, state_in}
use Rattle.table_heap.specs.Tables.{HasPlainTables, HoldTables}
use Rattle.table_heap.proofs.Slots.{none_some, same_some}

-- so far: at the first n places
abbrev pub HoldTablesTo : Slots → ℕ → Type 0
HoldTablesTo slots n = (k : ℕ) (x : Numbered) → k < n → slot_at slots k ≡ Some x → IsTable x.table

-- one more place
pub more_tables : (slots : Slots) (n m : ℕ) → m ≡ n + 1 → HoldTablesTo slots n
    → ((x : Numbered) → slot_at slots n ≡ Some x → IsTable x.table) → HoldTablesTo slots m
more_tables slots n m e h here k x lt at =
    elim (cases_lt k n) [
      | inl less ↦ h k x less at
      | inr ge ↦ (let same : k ≡ n = omega arith in here x (rw (← same) at))
    ]

-- past the end there is none
within : (slots : Slots) (k : ℕ) (x : Numbered) → slot_at slots k ≡ Some x → k < length slots
within [] k x e = absurd (none_some e)
within (o ∷ rest) zero x e = omega arith
within (o ∷ rest) (suc k) x e = let more = within rest k x e in omega arith

-- at all places
pub all_tables : (slots : Slots) (n : ℕ) → length slots ≤ n → HoldTablesTo slots n → HoldTables slots
all_tables slots n long h k x at = let lt : k < length slots = within slots k x at in h k x (omega arith) at

here_or_later : (c : Bool) (here : PlainTable) (later : Option PlainTable) (t : PlainTable) → IsPlainTable here
    → (later ≡ Some t → IsPlainTable t) → cond c (Some here) later ≡ Some t → IsPlainTable t
here_or_later true here later t p q e = subst IsPlainTable (same_some e) p
here_or_later false here later t p q e = q e

-- a table that is found under a number stands at a place
found_plain : (slots : Slots) (n : ℕ) (t : PlainTable) → HoldTables slots → find nat_cmp n (numbered_tables slots)
    ≡ Some t → IsPlainTable t
found_plain [] n t h e = absurd (none_some e)
found_plain (None ∷ rest) n t h e = found_plain rest n t (λ k. h (suc k)) e
found_plain (Some y ∷ rest) n t h e = here_or_later (eq_by_cmp nat_cmp n y.number) (plain y.table)
    (find nat_cmp n (numbered_tables rest)) t (plain_table y.table (h zero y refl))
    (found_plain rest n t (λ k. h (suc k))) e

pub plain_tables : (h : Held) → HoldTables h.slots → HasPlainTables (state_in h)
plain_tables h all n t e = found_plain h.slots n t all (sym (get-from_entries nat_cmp_total _ _) ∙ e)
