-- What contracts see of what is given to a call.
--   operand_of o    the plain value of an operand
--   slot_of s       a slot with the plain value
--   copied_cells o  the cells that are touched when the operand is made a value of its own
use Rattle.std.specs.Prelude.{ℕ, length}
use Rattle.dt_base.specs.Warns.{no_warns}
use Rattle.expr_scope.specs.declared.operands.Operand.{Operand}
use Rattle.expr_scope.specs.declared.operands.Operand.TheVariants.{Own, Lent}
use Rattle.func_table.specs.declared.slot.Slot.{Slot}
use Rattle.func_table.specs.declared.slot.Slot.TheVariants.{Given, Flag, Absent}
use Rattle.valued.specs.Valued.{valued_of}
use Rattle.vector_model.specs.Functions as model

-- the value, or the vector that is lent, without warnings
abbrev pub operand_of : Operand → model.Valued
operand_of (Own v) = valued_of v
operand_of (Lent c) = record { vector = c.now.vector; warns = no_warns }

-- a slot with the plain value
abbrev pub slot_of : Slot Operand → Slot model.Valued
slot_of (Given v) = Given (operand_of v)
slot_of (Flag b) = Flag b
slot_of Absent = Absent

-- what is lent is copied, cell by cell
abbrev pub copied_cells : Operand → ℕ
copied_cells (Own v) = 0
copied_cells (Lent c) = length c.now.vector.cells
