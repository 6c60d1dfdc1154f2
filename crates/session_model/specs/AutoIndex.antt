-- The index that a statement adds by itself.
--   probe_in t m         the column of a table and the value beside it that i is, if it is that
--   adds_index ..        whether the column gets an index, by names, types, lengths and the option alone
--   column_added ..      the column that a bracket gives an index
--   indexed_given ..     what a chain of brackets gives, with the index that it adds to its table
-- A statement that succeeds adds an index of one column where all of this holds: it is a chain of brackets
-- behind the bare name of a table; the i of the first bracket is `c == e` or `c %in% e`, with a column c; e
-- names no column, and none of .N, .I, .GRP and .SD; the type of e is not above that of c, and for `==` e has
-- one cell; the option datatable.auto.index is on; and neither the key nor an index begins with c. It stands
-- behind all other indices. An assignment of the statement to c would drop it at once, and leaves none.
use Rattle.std.specs.Prelude.{ℕ, ◌==◌, nat_le, not, Bool, false, ◌&&◌, ◌||◌, if◌then◌else◌, List, [], ◌∷◌}
use Rattle.std.specs.Prelude.{length, is_none, Option, None, Some, Result, Ok, slice_get}
use Rattle.std.specs.List.{list_all, list_any}
use Rattle.std.specs.Str.{bytes_eq}
use Rattle.dt_base.specs.declared.cell.ColType.{ColType}
use Rattle.dt_base.specs.declared.cell.ColType.TheVariants as ty
use Rattle.dt_base.specs.declared.fault.Fault.{Fault}
use Rattle.dt_model.specs.Table.{ColumnHead, PlainTable, place_of}
use Rattle.func_table.specs.Special.{special_of}
use Rattle.vector_model.specs.Functions.{Valued}
use Rattle.assign_model.specs.Assign.{names_in as columns_of}
use Rattle.expr_model.specs.Surroundings.{Vars}
use Rattle.session_model.specs.Form.{Form, BareName}
use Rattle.session_model.specs.Found.{vars_of, whole_rows}
use Rattle.session_model.specs.Indices.{begins_with, with_index}
use Rattle.session_model.specs.Meanings.{BracketMeaning, Meaning}
use Rattle.session_model.specs.Value.{Alteration, Value, Numbered, Given, Scene, numbered_table}
use Rattle.session_model.specs.Written.{Probe}

-- ---- The probe

-- the name is no column, and none that has a meaning of its own in a bracket
abbrev pub is_apart : List (List ℕ) → List ℕ → Bool
is_apart columns name = is_none (place_of name columns) && is_none (special_of name)

-- the value beside a column names nothing of the table
abbrev pub names_nothing : List (List ℕ) → List (List ℕ) → Bool
names_nothing columns mentions = list_all (is_apart columns) mentions

abbrev pub apart : List (List ℕ) → Probe → Option Probe
apart columns p = if names_nothing columns p.right.mentions then Some p else None

abbrev pub of_column : List (List ℕ) → Probe → Option Probe
of_column columns p = if is_none (place_of p.column columns) then None else apart columns p

abbrev pub probe_at : List (List ℕ) → Option Probe → Option Probe
probe_at columns None = None
probe_at columns (Some p) = of_column columns p

abbrev pub probe_in : PlainTable → Meaning → Option Probe
probe_in t i = probe_at (columns_of t) i.probe

-- ---- Whether its column gets an index

-- types rise from Lgl to Int to Chr
abbrev pub type_place : ColType → ℕ
type_place ty.Lgl = 0
type_place ty.Int = 1
type_place ty.Chr = 2

abbrev pub is_within : ColType → Option ColumnHead → Bool
is_within kind None = false
is_within kind (Some head) = nat_le (type_place kind) (type_place head.kind)

abbrev pub head_at : List ColumnHead → Option ℕ → Option ColumnHead
head_at heads None = None
head_at heads (Some c) = slice_get heads c

-- `kind` and `cells` are the type and the length of the value beside the column
abbrev pub adds_index : PlainTable → Probe → ColType → ℕ → Bool → Bool
adds_index t p kind cells auto =
    auto && (is_within kind (head_at t.columns (place_of p.column (columns_of t)))
    && ((p.member || cells == 1) && not (begins_with p.column t)))

-- the value has this type and these cells, over all rows
abbrev pub column_valued : PlainTable → Bool → Probe → Result ColType Fault → Result Valued Fault → Option (List ℕ)
column_valued t auto p (Ok kind) (Ok v) =
    if adds_index t p kind (length v.vector.cells) auto then Some p.column else None
column_valued t auto p _ _ = None

abbrev pub column_probed : PlainTable → Bool → Vars → Option Probe → Option (List ℕ)
column_probed t auto vars None = None
column_probed t auto vars (Some p) =
    column_valued t auto p (p.right.check (whole_rows t vars)) (p.right.value (whole_rows t vars))

abbrev pub column_added : PlainTable → Bool → Vars → Option Meaning → Option (List ℕ)
column_added t auto vars None = None
column_added t auto vars (Some i) = column_probed t auto vars (probe_in t i)

-- ---- The index, with what the statement alters

-- the table of this number, as it is altered, gets it, unless the column is assigned to
abbrev pub index_kept : ℕ → List ℕ → Alteration → PlainTable
index_kept n c a =
    if a.number == n && not (list_any (bytes_eq c) a.names) then with_index (c ∷ []) a.table else a.table

abbrev pub indexed_alteration : ℕ → PlainTable → List ℕ → Option Alteration → Alteration
indexed_alteration n t c None = record { number = n; names = []; table = with_index (c ∷ []) t }
indexed_alteration n t c (Some a) = record a { table = index_kept n c a }

abbrev pub with_added : ℕ → PlainTable → Option (List ℕ) → Given → Given
with_added n t None g = g
with_added n t (Some c) g = record g { alters = Some (indexed_alteration n t c g.alters) }

-- the first bracket behind the table of this number
abbrev pub first_indexed : Scene → ℕ → BracketMeaning → Given → Given
first_indexed w n b g =
    with_added n (numbered_table w.state n)
    (column_added (numbered_table w.state n) w.options.auto_index (vars_of w.state) b.first) g

-- what stands before the brackets is the bare name of a table
abbrev pub head_indexed : Scene → Option Value → BracketMeaning → Given → Given
head_indexed w (Some (Numbered n)) b g = first_indexed w n b g
head_indexed w _ b g = g

abbrev pub named_value : Form → Result Given Fault → Option Value
named_value (BareName name) (Ok g) = Some g.value
named_value _ _ = None

abbrev pub indexed_given : Meaning → List BracketMeaning → Scene → Given → Given
indexed_given head [] w g = g
indexed_given head (b ∷ rest) w g = head_indexed w (named_value head.form (head.gives w)) b g
