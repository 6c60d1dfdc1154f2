use Rattle.std.proofs.Common.{◌∙◌}
use Rattle.bracket_rows.proofs.WhatIsMet.{around_env}
use Rattle.bracket_rows.proofs.around.Surroundings.scope.Goals as goal
use Rattle.expr_scope.specs.Scope.{columns_of}
use Rattle.expr_model.specs.Surroundings.{in_rows}

pub returns-clause-env : goal.returns-clause-env
returns-clause-env g c =
    c.scope_over.ensures.env
    ∙ ((λ j. in_rows (columns_of (c.names.ensures.names j) (c.frame.ensures j)) (c.places.ensures j)
    (g.V.Vars.bound c.args.vars.now))
    ∙ around_env c.args.x.now c.args.found.now c.args.self.now (g.V.Vars.bound c.args.vars.now) c.names.ensures.table
    c.requires)
