use Rattle.std.proofs.Common.{◌∙◌}
use Rattle.expr_scope.specs.Scope.{columns_of}
use Rattle.expr_model.specs.Surroundings.{in_rows}
use Rattle.bracket_rows.proofs.Plain.{whole_env}
use Rattle.bracket_rows.proofs.scopes.whole_scope.Goals as goal

pub returns-clause-env : goal.returns-clause-env
returns-clause-env g c =
    c.scope_over.ensures.env
    ∙ ((λ j. in_rows (columns_of (c.names.ensures.names j) (c.frame.ensures.frame j)) c.args.all.now
    (g.V.Vars.bound c.args.vars.now))
    ∙ whole_env c.args.x.now (g.V.Vars.bound c.args.vars.now) c.args.all.now c.names.ensures.table c.requires.all)
