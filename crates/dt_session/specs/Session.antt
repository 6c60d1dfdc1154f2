-- What contracts see of a session.
--   SessionSeen     names and tables, and the two options
--   heaped h o      the state of names and tables, with these options
--   state_of s      the state that a session stands for
--   IsAlike s       the session is alike to its state
use Rattle.std.specs.Prelude.{◌≡◌, refl}
use Rattle.std.specs.Coded.{Coded, code_by, coded×}
use Rattle.func_table.specs.declared.options.Options.{Options}
use Rattle.func_table.specs.contracts.options.Options as options
use Rattle.session_model.specs.Session.{SessionState}
use Rattle.table_heap.specs.Alike.{Alike}
use Rattle.table_heap.specs.Seen.{HeapSeen, heap_code}
use Rattle.table_heap.specs.State as heap

-- names and tables, and the two options
pub record SessionSeen : Type 0 where
  pub heap : HeapSeen
  pub options : Options

-- a session is stored as the pair of both
abbrev pub session_code : Coded SessionSeen
session_code =
    code_by (HeapSeen × Options)
    (coded× heap_code options.the_row.coded)
    (λ s. (s.heap, s.options))
    (λ p. record { heap = p.0; options = p.1 })
    (λ _. refl)

-- the state of names and tables, with the options
abbrev pub heaped : HeapSeen → Options → SessionState
heaped h options = record { state = heap.state_of h; options = options }

-- the state that a session stands for: that of its names and tables, and its options
abbrev pub state_of : SessionSeen → SessionState
state_of s = heaped s.heap s.options

-- Names and tables are alike on both sides, and the options are the same.
pub record IsAlike (s : SessionSeen) : Type 0 where
  pub heap : Alike s.heap (state_of s).state
  pub options : s.options ≡ (state_of s).options
