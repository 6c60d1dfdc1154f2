use Rattle.std.proofs.Common.{◌∷◌, [], map, sym, ap, ◌∙◌, arith}
use Rattle.std.proofs.lemmas.List.{map-append}
use Rattle.cmd_order.proofs.Behind.{first_more, form_more, named_more}
use Rattle.written_forms.specs.Seen.{form_seen}
use Rattle.cmd_order.proofs.arguments.forms_behind.Goals as goal
use Rattle.cmd_order.proofs.arguments.forms_behind.Goals.{else-is_unnamed, then-is_unnamed+else-left-eq0}
use Rattle.cmd_order.proofs.arguments.forms_behind.Goals.{then-is_unnamed+then-left-eq0+in_ok-add}

pub loop-arg-preserved : goal.loop-arg-preserved
loop-arg-preserved c =
    elim c.if-is_unnamed.branch [
      | then-is_unnamed+then-left-eq0+in_ok-add w ↦
          rw (w.forms-is, w.left-is)
          (form_more _ _ _ _ c.loop-arg.left c.loop-arg.arg-index c.args.args.now c.arg-item.result (omega arith)
          c.arg-item.is (sym c.is_unnamed.ensures ∙ w.if-is_unnamed.true) w.if-left-eq0.true w.argument_form.ensures
          (ap (map form_seen) w.in_ok-add.ensures
          ∙ map-append form_seen c.loop-arg.forms.items (w.argument_form.result ∷ [])) c.loop-arg.invariant)
      | then-is_unnamed+else-left-eq0 w ↦
          rw (w.forms-is, w.left-is)
          (first_more _ _ c.loop-arg.left c.loop-arg.arg-index c.args.args.now c.arg-item.result (omega arith)
          c.arg-item.is (sym c.is_unnamed.ensures ∙ w.if-is_unnamed.true) (omega arith) c.loop-arg.invariant)
      | else-is_unnamed w ↦
          rw (w.forms-is, w.left-is)
          (named_more _ _ c.loop-arg.left c.loop-arg.arg-index c.args.args.now c.arg-item.result (omega arith)
          c.arg-item.is (sym c.is_unnamed.ensures ∙ w.if-is_unnamed.false) c.loop-arg.invariant)
    ]
