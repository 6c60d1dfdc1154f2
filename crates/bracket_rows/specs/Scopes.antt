-- What is so of the scopes of a bracket.
--   IsOverRows s    its number of rows is that of its columns, and no column lacks a name
use Rattle.std.specs.Prelude.{◌≡◌, All}
use Rattle.dt_table.specs.Table.{IsFilled}
use Rattle.expr_scope.specs.declared.scope.Scope.{Scope}

-- the number of rows is that of the columns, and each column has a name
pub record IsOverRows {V : Type 0} (s : Scope V) : Type 0 where
  pub count : s.count ≡ s.wide.now.rows
  pub filled : All IsFilled s.names.now
