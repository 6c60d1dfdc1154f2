-- The column that gets an index, by its place and by its name.
use Rattle.std.proofs.Common.{◌≡◌, ℕ, Bool, true, false, if◌then◌else◌, List, None, Some, Result, Ok, Err}
use Rattle.std.proofs.Common.{option_map, refl, sym}
use Rattle.std.specs.Result.{result_ok}
use Rattle.auto_index.specs.Added.{IsFree, IsNew, cell_count}
use Rattle.dt_base.specs.declared.cell.ColType.{ColType}
use Rattle.dt_base.specs.declared.fault.Fault.{Fault}
use Rattle.dt_model.specs.Table.{PlainTable, name_at}
use Rattle.dt_table.specs.Table.{TableSeen}
use Rattle.keys_index.specs.Probes.{index_column}
use Rattle.session_model.specs.AutoIndex.{adds_index, column_valued}
use Rattle.session_model.specs.Written.{Probe}
use Rattle.vector_model.specs.Functions.{Valued}

some_one : {A : Type 0} {x y : A} → Some x ≡ Some y → x ≡ y
some_one e = cc

-- by the type and the length of the value
pub valued_by : (t : PlainTable) (auto : Bool) (p : Probe) (rk : Result ColType Fault) (rv : Result Valued Fault)
    (kind : ColType) (cells : ℕ) → Some kind ≡ result_ok rk → Some cells ≡ option_map cell_count (result_ok rv)
    → column_valued t auto p rk rv ≡ (if adds_index t p kind cells auto then Some p.column else None)
valued_by t auto p (Err f) rv kind cells a b = cc
valued_by t auto p (Ok k) (Err f) kind cells a b = cc
valued_by t auto p (Ok k) (Ok v) kind cells a b =
    λ i. if adds_index t p (some_one (sym a) i) (some_one (sym b) i) auto then Some p.column else None

-- the column by its name
pub named_index : (names : List (List ℕ)) (adds : Bool) (c : ℕ)
    → option_map (name_at names) (index_column adds c) ≡ (if adds then Some (name_at names c) else None)
named_index names true c = refl
named_index names false c = refl

pub new_index : (t : TableSeen) (adds : Bool) (c : ℕ) → IsFree t c → IsNew t (index_column adds c)
new_index t true c h = h
new_index t false c h = tt
