-- What contracts see of the arguments of a call that names a table.
--   expression_seen o     what an expression that is lent means, if there is one
--   means o               what the value of an argument means, if there is one
--   table_seen h id       the number and the plain table of an Id
use Rattle.std.specs.Borrow.{Bor}
use Rattle.std.specs.Prelude.{ℕ, Option, option_map}
use Rattle.dt_model.specs.Table.{PlainTable}
use Rattle.dt_table.specs.Plain.{plain}
use Rattle.dt_tree.specs.declared.tree.Expr.{Expr}
use Rattle.session_model.specs.Meaning.{meaning}
use Rattle.session_model.specs.Meanings.{ArgMeaning, Meaning}
use Rattle.stmt_change.specs.Places.{table_at}
use Rattle.table_heap.specs.declared.bound.Id.{Id}
use Rattle.table_heap.specs.Seen.{HeapSeen}

-- what an expression that is lent means
abbrev pub expression_seen : Option (Bor Expr) → Option Meaning
expression_seen o = option_map (λ e. meaning e.now) o

-- what the value of an argument means
abbrev pub means : Option ArgMeaning → Option Meaning
means o = option_map (λ (a : ArgMeaning). a.means) o

-- the number and the plain table of an Id
abbrev pub table_seen : HeapSeen → Id → ℕ × PlainTable
table_seen h id = (id.number, plain (table_at h id))
