-- How many cells the value of an expression may touch.
--   is_integer e         an integer as a literal
--   is_literal e         a literal, with `-` before an integer allowed
--   cells_meant e s      the cells that e stands for, where the cost of its value is promised
--   allowance e s        how many cells its value may touch, where that is promised
--   cost_meant e s       how many cells are touched to have it, if what is lent is copied
--   sign_cells e, all_signs args   the cells that `-` reads, of a literal or of some
--   Within o old new     the counter has grown by no more than o; where nothing is promised, as it may
--   Touched n old new    the counter has grown, by no more than n
--   tail_allowance x t s how many cells a two-sided operator may touch behind the value x, where the
--                        cost of its right side is promised
--   IsMadeCell o         the operand is a value of one cell, of its own
-- A name, a literal and `c` of literals are promised for; nothing else is.
use Rattle.std.specs.Prelude.{◌≡◌, ◌≤◌, ◌+◌, ◌*◌, ℕ, Bool, true, false, List, [], ◌∷◌, length}
use Rattle.std.specs.Prelude.{Option, None, Some, Result, Ok, Err, option_map, if◌then◌else◌}
use Rattle.std.specs.List.{list_all}
use Rattle.eval_fail.specs.declared.fail.EvalFail.{EvalFail}
use Rattle.dt_base.specs.declared.cell.Cell.TheVariants as is
use Rattle.dt_base.specs.declared.cell.ColType.TheVariants as ty
use Rattle.dt_base.specs.declared.fault.Fault.{Fault}
use Rattle.dt_model.specs.Vector.{Vector}
use Rattle.dt_tree.specs.declared.tree.Arg.{Arg}
use Rattle.dt_tree.specs.declared.tree.Bracket.{Bracket}
use Rattle.dt_tree.specs.declared.tree.Expr.{Expr, out-Expr}
use Rattle.dt_tree.specs.declared.tree.Expr.TheOpen.{Expr-F}
use Rattle.dt_tree.specs.declared.tree.Second.{Second}
use Rattle.dt_tree.specs.declared.tree.Tail.{Tail}
use Rattle.expr_scope.specs.Slots.{copied_cells}
use Rattle.expr_scope.specs.declared.operands.Operand.{Operand}
use Rattle.expr_scope.specs.declared.operands.Operand.TheVariants.{Own, Lent}
use Rattle.expr_model.specs.Surroundings.{Env, name_vector}
use Rattle.func_table.specs.declared.func.Arity.{Arity}
use Rattle.func_table.specs.declared.func.Arity.TheVariants.{Unnamed}
use Rattle.func_table.specs.Calls.{arity_of, func_of}
use Rattle.session_model.specs.Meaning.{value_in}
use Rattle.valued.specs.declared.column.Valued.{Valued}
use Rattle.vector_model.specs.Functions as model

-- an integer as a literal
abbrev pub integer_at : Expr-F Expr Second Arg Bracket Tail → Bool
integer_at (Expr-F.Lit (is.Int n) ty.Int) = true
integer_at _ = false

abbrev pub is_integer : Expr → Bool
is_integer e = integer_at (out-Expr e)

-- a literal, with `-` before an integer allowed
abbrev pub literal_at : Expr-F Expr Second Arg Bracket Tail → Bool
literal_at (Expr-F.Lit cell kind) = true
literal_at (Expr-F.Minus arg) = is_integer arg
literal_at _ = false

abbrev pub is_literal : Expr → Bool
is_literal e = literal_at (out-Expr e)

abbrev pub is_literal_argument : Arg → Bool
is_literal_argument a = is_literal a.value

abbrev pub are_literals : List Arg → Bool
are_literals args = list_all is_literal_argument args

-- `-` reads the cell behind it; a literal as it stands reads none
abbrev pub signs_at : Expr-F Expr Second Arg Bracket Tail → ℕ
signs_at (Expr-F.Minus arg) = 1
signs_at _ = 0

abbrev pub sign_cells : Expr → ℕ
sign_cells e = signs_at (out-Expr e)

-- the same of all arguments
abbrev pub all_signs : List Arg → ℕ
all_signs [] = 0
all_signs (a ∷ args) = sign_cells a.value + all_signs args

-- the cells of a vector
abbrev pub vector_cells : Result Vector Fault → Option ℕ
vector_cells (Ok v) = Some (length v.cells)
vector_cells (Err f) = None

-- one cell for each of the arguments that `c` joins, where all are literals
abbrev pub joined_cells : Arity → List Arg → Option ℕ
joined_cells Unnamed args = if are_literals args then Some (length args) else None
joined_cells _ args = None

abbrev pub call_cells : Option Arity → List Arg → Option ℕ
call_cells None args = None
call_cells (Some arity) args = joined_cells arity args

-- the cells of a vector by its name; one for a literal; one for each literal in `c`
abbrev pub cells_at : Expr-F Expr Second Arg Bracket Tail → Env → Option ℕ
cells_at (Expr-F.Lit cell kind) s = Some 1
cells_at (Expr-F.Name name) s = vector_cells (name_vector s name)
cells_at (Expr-F.Minus arg) s = if is_integer arg then Some 1 else None
cells_at (Expr-F.Call name args) s = call_cells (option_map arity_of (func_of name)) args
cells_at _ s = None

abbrev pub cells_meant : Expr → Env → Option ℕ
cells_meant e s = cells_at (out-Expr e) s

-- twice so many, and two more
abbrev pub allowance : Expr → Env → Option ℕ
allowance e s = option_map (λ k. 2 * k + 2) (cells_meant e s)

-- ---- What is touched on the way there

-- `c` touches each cell that it joins, and `-` the cell behind it
abbrev pub joined_cost : Arity → List Arg → Option ℕ
joined_cost Unnamed args = if are_literals args then Some (length args + all_signs args) else None
joined_cost _ args = None

abbrev pub call_cost : Option Arity → List Arg → Option ℕ
call_cost None args = None
call_cost (Some arity) args = joined_cost arity args

-- of `c` so many; of any other each cell once
abbrev pub cost_at : Expr-F Expr Second Arg Bracket Tail → Env → Option ℕ
cost_at (Expr-F.Lit cell kind) s = Some 1
cost_at (Expr-F.Name name) s = vector_cells (name_vector s name)
cost_at (Expr-F.Minus arg) s = if is_integer arg then Some 1 else None
cost_at (Expr-F.Call name args) s = call_cost (option_map arity_of (func_of name)) args
cost_at _ s = None

abbrev pub cost_meant : Expr → Env → Option ℕ
cost_meant e s = cost_at (out-Expr e) s

-- the counter has grown by no more than the number
abbrev pub Within : Option ℕ → ℕ → ℕ → Type 0
Within None old new = Unit {0}
Within (Some n) old new = new ≤ old + n

-- the counter has grown, by no more than the number
abbrev pub Touched : ℕ → ℕ → ℕ → Type 0
Touched n old new = (old ≤ new) × (new ≤ old + n)

-- the cells of a value; a fault has none
abbrev pub value_cells : Result model.Valued Fault → ℕ
value_cells (Ok v) = length v.vector.cells
value_cells (Err f) = 0

-- each cell of both sides once, beside what the value of the right side may touch
abbrev pub tail_allowance : model.Valued → Tail → Env → Option ℕ
tail_allowance left t s =
    option_map (λ k. k + (length left.vector.cells + value_cells (value_in t.arg s))) (cost_meant t.arg s)

-- a value of one cell, of its own
abbrev pub IsMadeCell : Operand → Type 0
IsMadeCell (Own v) = length v.column.vector.cells ≡ 1
IsMadeCell (Lent c) = ⊥

abbrev pub IsOneCell : Valued → Type 0
IsOneCell v = length v.column.vector.cells ≡ 1

-- what is touched when an answer is made a value of its own; a fault is not copied
abbrev pub still_touched : Result Operand EvalFail → ℕ
still_touched (Ok o) = copied_cells o
still_touched (Err e) = 0
