use Rattle.std.proofs.Common.{◌≡◌, ◌+◌, ◌++◌, All, length, map, drop}
use Rattle.dt_table.specs.Table.{IsFilled}
use Rattle.expr_scope.specs.Scope.{env_of}
use Rattle.session_model.specs.Columns.{item_names}
use Rattle.session_model.specs.Meaning.{arg_meaning}
use Rattle.bracket_columns.proofs.names.item_names.Given as goal

abbrev pub invariant-loop-i : goal.invariant-loop-i
invariant-loop-i g l =
    (item_names (env_of g.V.Vars.bound l.s) 1 (map arg_meaning l.args)
    ≡ l.names.items ++ item_names (env_of g.V.Vars.bound l.s) (l.i + 1) (map arg_meaning (drop l.i l.args)))
    × All IsFilled l.names.items × (length l.names.items ≡ l.i)
