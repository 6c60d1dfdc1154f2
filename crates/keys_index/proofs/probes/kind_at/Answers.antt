use Rattle.std.proofs.Common.{◌∙◌, sym, ap, rules, Some}
use Rattle.dt_base.specs.declared.cell.ColType.{ColType}
use Rattle.dt_model.specs.Table.{ColumnHead, name_at}
use Rattle.keys_index.proofs.Probing.{head_named}
use Rattle.keys_index.proofs.probes.kind_at.Goals as goal

pub returns : goal.returns
returns c =
    let head : ColType → ColumnHead = λ k. record { name = name_at c.args.t.now.names c.args.col; kind = k } in
    head_named c.args.t.now c.args.col c.col.result.now c.frame.ensures.table c.requires (search rules)
    ∙ ap (λ k. Some (head k)) (sym c.kind.ensures)
