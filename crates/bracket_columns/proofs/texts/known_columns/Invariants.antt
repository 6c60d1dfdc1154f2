use Rattle.std.proofs.Common.{◌≡◌, ◌<◌, All, drop, length, take}
use Rattle.dt_table.specs.Table.{IsFilled}
use Rattle.expr_scope.specs.Scope.{env_of}
use Rattle.na_vector.specs.Frame.{vectors_of}
use Rattle.session_model.proofs.InOrder.{onto}
use Rattle.session_model.specs.Columns.{known_columns}
use Rattle.bracket_columns.proofs.texts.known_columns.Given as goal

abbrev pub invariant-loop-name : goal.invariant-loop-name
invariant-loop-name g l =
    (known_columns (env_of g.V.Vars.bound l.s) l.names
    ≡ onto (vectors_of l.frame.columns) (known_columns (env_of g.V.Vars.bound l.s) (drop l.name-index l.names)))
    × (0 < l.name-index → l.frame.rows ≡ l.s.count)
    × (length l.frame.columns ≡ l.name-index)
    × All IsFilled (take l.name-index l.names)
