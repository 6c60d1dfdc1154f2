-- The answers of three families of operations, each for one table of cells.
--   arithmetic_answer table a b   on the numbers of two vectors
--   comparison_answer test a b    a test of the order of their cells in the common type
--   logic_answer table a b        on two logical vectors
use Rattle.std.specs.Prelude.{ℤ, Bool, Option, Some, Result}
use Rattle.std.specs.declared.cmp.Ordering.{Ordering}
use Rattle.dt_base.specs.declared.cell.Cell.{Cell}
use Rattle.dt_base.specs.declared.cell.ColType.TheVariants as ty
use Rattle.dt_model.specs.Coercion.{common}
use Rattle.dt_model.specs.Operations.{Outcome, OpFault, number, compared, tested, arithmetic_type, logic_type}
use Rattle.dt_model.specs.Operations.{over_cells, typed}
use Rattle.dt_model.specs.Vector.{Vector}

abbrev pub arithmetic_answer : (Option ℤ → Option ℤ → Outcome) → Vector → Vector → Result Vector OpFault
arithmetic_answer table a b =
    typed (arithmetic_type a.kind b.kind) (over_cells (λ x y. table (number x) (number y)) a.cells b.cells)

abbrev pub comparison_answer : (Ordering → Bool) → Vector → Vector → Result Vector OpFault
comparison_answer test a b =
    typed (Some ty.Lgl) (over_cells (λ x y. tested test (compared (common a.kind b.kind) x y)) a.cells b.cells)

abbrev pub logic_answer : (Cell → Cell → Outcome) → Vector → Vector → Result Vector OpFault
logic_answer table a b = typed (logic_type a.kind b.kind) (over_cells table a.cells b.cells)
