-- The rows that a logical i chooses stand as they stood.
use Rattle.std.proofs.Common.{◌≡◌, ◌+◌, sym, ℕ, zero, suc, ◌==◌, Bool, true, false, List, [], length, Ok}
use Rattle.std.proofs.Common.{◌<◌, refl, arith, get_or, Err, subst}
use Rattle.std.specs.Prelude.{if◌then◌else◌}
use Rattle.std.proofs.Math.Dec.{eqb-suc-zero}
use Rattle.std.specs.List.{filter, range_with_len}
use Rattle.std.specs.List.Sorted.{IsStrictlyIncreasing}
use Rattle.std.proofs.lemmas.List.FromFn.{get_or-range_with_len, length-range_with_len}
use Rattle.std.proofs.lemmas.List.Kept.{IsStrictlyIncreasing-filter}
use Rattle.bracket_rows.specs.Found.{StandAsBefore}
use Rattle.dt_base.specs.declared.cell.Cell.{Cell}
use Rattle.dt_base.specs.declared.cell.ColType.{ColType}
use Rattle.dt_base.specs.declared.cell.ColType.TheVariants as ty
use Rattle.dt_model.specs.Vector.{Vector, cell_at}
use Rattle.row_model.specs.Rows.{Places, all_or_none, all_rows, chosen, chosen_by, is_true, rows_where, true_rows}
use Rattle.session_model.specs.Found.{is_logical, of_columns}
use Rattle.vector_model.specs.Faults.{length_fault}

rising_range : (n : ℕ) → IsStrictlyIncreasing (range_with_len 0 n)
rising_range n k lt =
    let short : k + 1 < n = rw length-range_with_len at lt in
    let one : get_or (range_with_len 0 n) k 0 ≡ 0 + k = get_or-range_with_len 0 n k 0 (omega arith) in
    let two : get_or (range_with_len 0 n) (k + 1) 0 ≡ 0 + (k + 1) = get_or-range_with_len 0 n (k + 1) 0 short in
    omega arith

where_stand : (test : ℕ → Bool) (n : ℕ) → StandAsBefore (rows_where test n)
where_stand test n = record {
  rows = filter test (range_with_len 0 n);
  same = refl;
  rise = IsStrictlyIncreasing-filter test (range_with_len 0 n) (rising_range n);
}

all_stand : (n : ℕ) → StandAsBefore (all_rows n)
all_stand n = record { rows = range_with_len 0 n; same = refl; rise = rising_range n }

none_stand : StandAsBefore []
none_stand = record { rows = []; same = refl; rise = λ k lt. absurd (omega arith) }

one_for_all : (n : ℕ) (b : Bool) → StandAsBefore (if b then all_rows n else [])
one_for_all n true = all_stand n
one_for_all n false = none_stand

-- a cell for each row, or one for all
by_tests : (n : ℕ) (cells : List Cell) (each one : Bool) (places : Places)
    → (if each then Ok (true_rows cells)
    else (if one then Ok (all_or_none n (cell_at cells 0)) else Err (length_fault (length cells) n))) ≡ Ok places
    → StandAsBefore places
by_tests n cells true one places e = subst StandAsBefore (let s : true_rows cells ≡ places = cc in s)
    (where_stand (λ p. is_true (cell_at cells p)) (length cells))
by_tests n cells false true places e =
    subst StandAsBefore (let s : all_or_none n (cell_at cells 0) ≡ places = cc in s) (one_for_all n (is_true (cell_at cells 0)))
by_tests n cells false false places e = cc

-- by the type of i
by_kind : (kind : ColType) (n : ℕ) (cells : List Cell) (places : Places) → chosen_by kind n cells ≡ Ok places
    → is_logical kind ≡ true → StandAsBefore places
by_kind ty.Lgl n cells places e l = by_tests n cells (length cells == n) (length cells == 1) places e
by_kind ty.Int n cells places e l = cc
by_kind ty.Chr n cells places e l = cc

in_columns : (width : ℕ) (places : Places) → StandAsBefore places → StandAsBefore (of_columns width places)
in_columns zero places s = none_stand
in_columns (suc width) places s = rw (eqb-suc-zero width) s

-- the rows that a logical chooses
pub logical_stand : (n width : ℕ) (v : Vector) (places kept : Places) → chosen n v ≡ Ok places
    → kept ≡ of_columns width places → is_logical v.kind ≡ true → StandAsBefore kept
logical_stand n width v places kept e k l = subst StandAsBefore (sym k)
    (in_columns width places (by_kind v.kind n v.cells places e l))
