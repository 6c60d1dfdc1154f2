-- What contracts see of a column beside a value.
--   is_member o          the operator is `%in%`
--   probe_seen names p   what the probe is, where these are the names of the columns
--   index_column adds c  the column of an index, if one is added
--   is_description f     the function tells of a table, if it is one
--   leads c cols         the column c is the first of these
--   leads_index c x      it is the first of the index, if there is one
use Rattle.std.specs.Prelude.{ℕ, ◌==◌, Bool, true, false, List, [], ◌∷◌, Option, None, Some, if◌then◌else◌}
use Rattle.dt_model.specs.Table.{name_at}
use Rattle.dt_table.specs.Table.{IndexSeen}
use Rattle.func_table.specs.Calls.{kind_of}
use Rattle.func_table.specs.declared.func.Func.{Func}
use Rattle.func_table.specs.declared.func.Kind.{Kind}
use Rattle.func_table.specs.declared.func.Kind.TheVariants as kind
use Rattle.keys_index.specs.declared.probes.Probe.{Probe}
use Rattle.keys_index.specs.declared.probes.ProbeOp.{ProbeOp}
use Rattle.keys_index.specs.declared.probes.ProbeOp.TheVariants.{Equal, Member}
use Rattle.session_model.specs.Items.{bare_item}
use Rattle.session_model.specs.Meaning.{meaning}
use Rattle.session_model.specs.Written as written

-- `%in%`, and not `==`
abbrev pub is_member : ProbeOp → Bool
is_member Equal = false
is_member Member = true

-- the column by its name, and the value by its meaning
abbrev pub probe_seen : List (List ℕ) → Probe → written.Probe
probe_seen names p = record {
  column = name_at names p.col;
  member = is_member p.op;
  right = bare_item (meaning p.right.now);
}

-- what is told of a table
abbrev pub is_told : Kind → Bool
is_told kind.Description = true
is_told _ = false

-- what is no function tells of none
abbrev pub is_description : Option Func → Bool
is_description None = false
is_description (Some f) = is_told (kind_of f)

-- the column, where an index is added
abbrev pub index_column : Bool → ℕ → Option ℕ
index_column adds c = if adds then Some c else None

-- the first of these columns is c
abbrev pub leads : ℕ → List ℕ → Bool
leads c [] = false
leads c (d ∷ rest) = d == c

-- so is the first of the index
abbrev pub leads_index : ℕ → Option IndexSeen → Bool
leads_index c None = false
leads_index c (Some x) = leads c x.cols
