use Rattle.std.proofs.Common.{◌∙◌, ◌+◌, ℕ, Option, Vec, Global, [], ◌∷◌, ap, arith, drop, length, map, length-append}
use Rattle.std.proofs.lemmas.List.{map-append}
use Rattle.func_table.specs.declared.formal.Formal.{Formal}
use Rattle.func_table.specs.declared.slot.Slot.{Slot}
use Rattle.session_model.proofs.InOrder.{in_order}
use Rattle.session_model.specs.Expression.{arg_at, names_in, slot_at}
use Rattle.session_model.specs.Meaning.{arg_meaning}
use Rattle.session_model.specs.Meanings.{ArgMeaning, Meaning}
use Rattle.valued.specs.Valued.{valued_of}
use Rattle.valued.specs.declared.column.Valued.{Valued}
use Rattle.expr_scope.proofs.NextOne.{each_at}
use Rattle.expr_scope.proofs.Ends.{no_memory, each_stopped, each_all, formal_at, formal_stopped, formals_all, free_most}
use Rattle.expr_scope.specs.Slots.{slot_of}
use Rattle.expr_scope.specs.declared.operands.Operand.{Operand}
use Rattle.expr_value.proofs.Touched.{costs, integer_literal, literals_joined, literals_next, ones_more, sign_read}
use Rattle.expr_value.proofs.Touched.{signs_done, signs_next}
use Rattle.expr_value.specs.Touches.{all_signs}
use Rattle.expr_value.proofs.values.+eval.Goals as goal
use Rattle.expr_scope.specs.Scope.{env_of}

pub eval_each-returns-clause-touches : goal.eval_each-returns-clause-touches
eval_each-returns-clause-touches g t c lit =
    literals_joined c.in_ok-values.values.items c.as_slice.result.now (length c.args.args.now)
    (all_signs c.args.args.now) c.args.steps.now c.values_of_each.new.steps c.combined.new.steps
    (c.in_ok-values.ensures.literals lit) c.as_slice.ensures.value c.in_ok-values.ensures.count
    (c.in_ok-values.ensures.read lit) c.combined.ensures.touches

pub values_of_each-loop-a-preserved : goal.values_of_each-loop-a-preserved
values_of_each-loop-a-preserved g t c = (
  each_at arg_meaning (λ (m : ArgMeaning). m.means.value (env_of g.V.Vars.bound c.args.s.now)) _
      (map valued_of c.loop-a.done.items) (map valued_of c.add.new.list.items)
      c.args.args.now c.loop-a.a-index c.a-item.result (valued_of c.in_ok-value.value)
      c.loop-a.invariant.0 c.loop-a-test.true c.a-item.is c.in_ok-value.ensures.answer
      (ap (map valued_of) c.in_ok-add.ensures.ok ∙ map-append valued_of c.loop-a.done.items (c.in_ok-value.value ∷ [])),
  ap length c.in_ok-add.ensures.ok
      ∙ (length-append c.loop-a.done.items (c.in_ok-value.value ∷ []) ∙ ap (λ k. k + 1) c.loop-a.invariant.1),
  λ lit. (literals_next c.args.args.now c.loop-a.a-index c.a-item.result c.loop-a-test.true c.a-item.is
      (c.loop-a.invariant.2 lit)).1,
  λ lit. ones_more c.loop-a.done.items c.add.new.list.items c.in_ok-value.value (c.loop-a.invariant.3 lit)
      (c.in_ok-value.ensures.literal
      (literals_next c.args.args.now c.loop-a.a-index c.a-item.result c.loop-a-test.true c.a-item.is
      (c.loop-a.invariant.2 lit)).0) c.in_ok-add.ensures.ok,
  λ lit. signs_next c.args.args.now c.loop-a.a-index c.a-item.result _ _ _ _ c.loop-a-test.true c.a-item.is
      (c.loop-a.invariant.4 lit) (c.in_ok-value.ensures.read (literals_next c.args.args.now c.loop-a.a-index
      c.a-item.result c.loop-a-test.true c.a-item.is (c.loop-a.invariant.2 lit)).0),
)

pub values_of_each-returns-in_err-value-clause-answer : goal.values_of_each-returns-in_err-value-clause-answer
values_of_each-returns-in_err-value-clause-answer g t c =
    each_stopped (λ (v : Vec Valued Global). map valued_of v.items) valued_of arg_meaning
    (λ (a : ArgMeaning). a.means.value (env_of g.V.Vars.bound c.args.s.now)) _
    (map valued_of c.loop-a.done.items) c.args.args.now c.loop-a.a-index c.a-item.result c.in_err-value.field-0.0
    c.from_residual.result
    c.loop-a.invariant.0 c.loop-a-test.true c.a-item.is c.in_err-value.ensures.answer c.from_residual.ensures.1

pub values_of_each-returns-in_err-value-clause-read : goal.values_of_each-returns-in_err-value-clause-read
values_of_each-returns-in_err-value-clause-read g t c = λ lit.
    signs_done _ (all_signs (drop (c.loop-a.a-index + 1) c.args.args.now)) _ _
    (signs_next c.args.args.now c.loop-a.a-index c.a-item.result _ _ _ _ c.loop-a-test.true c.a-item.is
    (c.loop-a.invariant.4 lit) (c.in_err-value.ensures.read (literals_next c.args.args.now c.loop-a.a-index
    c.a-item.result c.loop-a-test.true c.a-item.is (c.loop-a.invariant.2 lit)).0))

pub values_of_each-returns-in_err-add-clause-answer : goal.values_of_each-returns-in_err-add-clause-answer
values_of_each-returns-in_err-add-clause-answer g t c =
    no_memory (λ (v : Vec Valued Global). map valued_of v.items)
    _ c.in_err-add.field-0.0 c.from_residual-in_err-add.result c.in_err-add.ensures.err
    c.from_residual-in_err-add.ensures.1

pub values_of_each-returns-in_err-add-clause-read : goal.values_of_each-returns-in_err-add-clause-read
values_of_each-returns-in_err-add-clause-read g t c = λ lit.
    signs_done _ (all_signs (drop (c.loop-a.a-index + 1) c.args.args.now)) _ _
    (signs_next c.args.args.now c.loop-a.a-index c.a-item.result _ _ _ _ c.loop-a-test.true c.a-item.is
    (c.loop-a.invariant.4 lit) (c.in_ok-value.ensures.read (literals_next c.args.args.now c.loop-a.a-index
    c.a-item.result c.loop-a-test.true c.a-item.is (c.loop-a.invariant.2 lit)).0))

pub values_of_each-returns-clause-answer : goal.values_of_each-returns-clause-answer
values_of_each-returns-clause-answer g t c =
    each_all arg_meaning (λ (a : ArgMeaning). a.means.value (env_of g.V.Vars.bound c.args.s.now)) _
    (map valued_of c.loop-a.done.items) c.args.args.now c.loop-a.a-index
    c.loop-a.invariant.0 c.loop-a-test.false

pub values_of_each-returns-clause-literals : goal.values_of_each-returns-clause-literals
values_of_each-returns-clause-literals g t c = c.loop-a.invariant.3

pub values_of_each-returns-clause-read : goal.values_of_each-returns-clause-read
values_of_each-returns-clause-read g t c = λ lit.
    signs_done _ (all_signs (drop c.loop-a.a-index c.args.args.now)) _ _ (c.loop-a.invariant.4 lit)

pub eval_formals-returns-in_err-add-clause-answer : goal.eval_formals-returns-in_err-add-clause-answer
eval_formals-returns-in_err-add-clause-answer g t c =
    no_memory (λ (v : Vec (Slot Operand) Global). map slot_of v.items)
    _ c.in_err-add.field-0.0 c.from_residual-in_err-add.result c.in_err-add.ensures.err
    c.from_residual-in_err-add.ensures.1

pub eval_formals-returns-clause-answer : goal.eval_formals-returns-clause-answer
eval_formals-returns-clause-answer g t c =
    formals_all (names_in (map arg_meaning c.args.args.now))
    (λ (x : Formal × Option ℕ). slot_at (λ (m : Meaning). m.value (env_of g.V.Vars.bound c.args.s.now)) x.0
    (arg_at (map arg_meaning c.args.args.now) x.1)) _
    (map slot_of c.loop-p.done.items) c.args.ps.now c.loop-p.p-index c.loop-p.before c.loop-p.invariant.1
    c.loop-p-test.false

pub eval_formals-loop-p-init : goal.eval_formals-loop-p-init
eval_formals-loop-p-init g t c = grind (arith, in_order)

pub eval_kind-returns-in-Table-clause-touches : goal.eval_kind-returns-in-Table-clause-touches
eval_kind-returns-in-Table-clause-touches g t c = grind (arith, costs)

pub eval_kind-returns-in-Command-clause-touches : goal.eval_kind-returns-in-Command-clause-touches
eval_kind-returns-in-Command-clause-touches g t c = grind (arith, costs)

pub eval_kind-returns-in-Description-clause-touches : goal.eval_kind-returns-in-Description-clause-touches
eval_kind-returns-in-Description-clause-touches g t c = grind (arith, costs)

pub eval_bound-returns-in_err-bind-clause-touches : goal.eval_bound-returns-in_err-bind-clause-touches
eval_bound-returns-in_err-bind-clause-touches g t c = grind (arith, costs)

pub eval_bound-returns-in-Columns-clause-touches : goal.eval_bound-returns-in-Columns-clause-touches
eval_bound-returns-in-Columns-clause-touches g t c = grind (arith, costs)

pub eval_bound-returns-in-Unnamed-clause-touches : goal.eval_bound-returns-in-Unnamed-clause-touches
eval_bound-returns-in-Unnamed-clause-touches g t c = grind (arith, costs)

pub eval_call-returns-in_err-eval_kind-in-Some-clause-touches
    : goal.eval_call-returns-in_err-eval_kind-in-Some-clause-touches
eval_call-returns-in_err-eval_kind-in-Some-clause-touches g t c = grind (arith, costs)

pub eval_call-returns-in_ok-eval_kind-in-Some-clause-touches
    : goal.eval_call-returns-in_ok-eval_kind-in-Some-clause-touches
eval_call-returns-in_ok-eval_kind-in-Some-clause-touches g t c = grind (arith, costs)

pub eval_operand-returns-in-Call-clause-touches : goal.eval_operand-returns-in-Call-clause-touches
eval_operand-returns-in-Call-clause-touches g t c = grind (arith, costs)

pub eval_operand-returns-in-Minus-clause-touches : goal.eval_operand-returns-in-Minus-clause-touches
eval_operand-returns-in-Minus-clause-touches g t c = grind (arith, costs)

pub eval_formals-loop-p-preserved : goal.eval_formals-loop-p-preserved
eval_formals-loop-p-preserved g t c = (
  free_most (names_in (map arg_meaning c.args.args.now))
      _ c.loop-p.before c.loop-p.p-index c.next-before.result c.loop-p.invariant.0 c.next-before.ensures,
  formal_at (names_in (map arg_meaning c.args.args.now))
      (λ (x : Formal × Option ℕ). slot_at (λ (m : Meaning). m.value (env_of g.V.Vars.bound c.args.s.now)) x.0
      (arg_at (map arg_meaning c.args.args.now) x.1)) _
      (map slot_of c.loop-p.done.items) c.args.ps.now c.loop-p.p-index c.loop-p.before
      (map slot_of c.add.new.list.items) _ (slot_of c.in_ok-slot.slot) c.next-before.result
      c.loop-p.invariant.1 c.loop-p-test.true c.in_ok-slot.ensures.answer
      (ap (map slot_of) c.in_ok-add.ensures.ok ∙ map-append slot_of c.loop-p.done.items (c.in_ok-slot.slot ∷ []))
      c.next-before.ensures,
)

pub eval_formals-returns-in_err-slot-clause-answer : goal.eval_formals-returns-in_err-slot-clause-answer
eval_formals-returns-in_err-slot-clause-answer g t c =
    formal_stopped (names_in (map arg_meaning c.args.args.now))
    (λ (x : Formal × Option ℕ). slot_at (λ (m : Meaning). m.value (env_of g.V.Vars.bound c.args.s.now)) x.0
    (arg_at (map arg_meaning c.args.args.now) x.1)) _
    (map slot_of c.loop-p.done.items) c.args.ps.now c.loop-p.p-index c.loop-p.before
    (λ (v : Vec (Slot Operand) Global). map slot_of v.items)
    slot_of _ c.in_err-slot.field-0.0 c.from_residual.result
    c.loop-p.invariant.1 c.loop-p-test.true c.in_err-slot.ensures.answer c.from_residual.ensures.1

pub eval_sign-returns-in_err-signed-clause-read : goal.eval_sign-returns-in_err-signed-clause-read
eval_sign-returns-in_err-signed-clause-read g t c = λ whole.
    sign_read c.args.e.now c.in_ok-value.value c.args.steps.now c.eval_operand.new.steps c.signed.new.steps whole
    (c.in_ok-value.ensures.literal (integer_literal c.args.e.now whole))
    (c.in_ok-value.ensures.read (integer_literal c.args.e.now whole)) c.signed.ensures.touches
