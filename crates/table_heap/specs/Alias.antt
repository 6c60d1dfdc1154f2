-- What a look finds, and what `alias` and `remove` answer.
--   looked l            what a look has found, plainly
--   IsLookAt h l        a table that it has found is live
--   aliased s to o      the state after `to` is bound to the table o, if it is one
--   alias_answer o      whether o is a table
--   remove_answer o     whether there is o
use Rattle.std.specs.Prelude.{ℕ, List, Option, None, Some, Result, Ok, Err}
use Rattle.dt_model.specs.State as model
use Rattle.table_heap.specs.declared.bound.Look.{Look}
use Rattle.table_heap.specs.declared.bound.Look.TheVariants.{Absent, Table, Vector}
use Rattle.table_heap.specs.declared.fails.AliasFail.{AliasFail}
use Rattle.table_heap.specs.declared.fails.AliasFail.TheVariants as fail
use Rattle.table_heap.specs.declared.fails.NotThere.{NotThere}
use Rattle.table_heap.specs.Seen.{HeapSeen, IsAt}

-- what a look has found, plainly
abbrev pub looked : Look → Option model.Bound
looked Absent = None
looked (Table id) = Some (model.Table id.number)
looked (Vector column) = Some (model.Vector column.now.vector)

-- a table that a look has found is live
abbrev pub IsLookAt : HeapSeen → Look → Type 0
IsLookAt h Absent = Unit {0}
IsLookAt h (Table id) = IsAt h id
IsLookAt h (Vector _) = Unit {0}

-- the name is bound to the same table; where there is no table, to what it was
abbrev pub aliased : model.State → List ℕ → Option model.Bound → model.State
aliased s to None = s
aliased s to (Some (model.Vector _)) = s
aliased s to (Some (model.Table k)) = model.bound_to s to (model.Table k)

-- an alias needs a table
abbrev pub alias_answer : Option model.Bound → Result (Unit {0}) AliasFail
alias_answer None = Err fail.NotThere
alias_answer (Some (model.Vector _)) = Err fail.NotTable
alias_answer (Some (model.Table _)) = Ok tt

-- a removal needs a name that is bound
abbrev pub remove_answer : Option model.Bound → Result (Unit {0}) NotThere
remove_answer None = Err (record {})
remove_answer (Some _) = Ok tt
