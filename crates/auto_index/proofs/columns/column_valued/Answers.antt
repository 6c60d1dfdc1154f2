use Rattle.std.proofs.Common.{◌∙◌, option_map, sym, ap, subst}
use Rattle.dt_model.specs.Table.{name_at}
use Rattle.dt_table.specs.Plain.{plain}
use Rattle.expr_scope.specs.Scope.{env_of}
use Rattle.keys_index.specs.Probes.{probe_seen}
use Rattle.session_model.specs.AutoIndex.{adds_index}
use Rattle.session_model.specs.Meaning.{check_of, value_in}
use Rattle.auto_index.specs.Added.{IsNew}
use Rattle.auto_index.proofs.Valuing.{named_index, new_index, valued_by}
use Rattle.auto_index.proofs.columns.column_valued.Goals as goal

pub returns-clause-column : goal.returns-clause-column
returns-clause-column g c =
    let t = c.args.t.now in
    let p = probe_seen t.names c.args.p.now in
    let env = env_of g.V.Vars.bound c.args.s.now in
    let adds = adds_index (plain t) p c.in-Some.kind c.in-Some-2.len c.args.auto in
    ap (option_map (name_at t.names)) c.auto_index_for.ensures
    ∙ (named_index t.names adds c.args.p.now.col
    ∙ sym (valued_by (plain t) c.args.auto p (check_of c.args.p.now.right.now env) (value_in c.args.p.now.right.now env)
    c.in-Some.kind c.in-Some-2.len (sym c.in-Some.is ∙ c.in_ok-kind.ensures)
    (sym c.in-Some-2.is ∙ c.in_ok-len.ensures)))

pub returns-clause-new : goal.returns-clause-new
returns-clause-new g c =
    let t = c.args.t.now in
    let p = probe_seen t.names c.args.p.now in
    let adds = adds_index (plain t) p c.in-Some.kind c.in-Some-2.len c.args.auto in
    subst (IsNew t) (sym c.auto_index_for.ensures) (new_index t adds c.args.p.now.col c.requires.free)
