use Rattle.std.proofs.Common.{ℕ, Option, Vec, Global, Err, arith, map, sym, ap, subst, ◌∙◌}
use Rattle.eval_fail.specs.Answers.{AnswersAs}
use Rattle.dt_base.specs.declared.cell.ColType.{ColType}
use Rattle.expr_scope.specs.Scope.{env_of}
use Rattle.expr_scope.proofs.NextOne.{each_at}
use Rattle.expr_scope.proofs.Ends.{argument_means, no_memory, each_stopped, each_all, formal_at, formal_stopped}
use Rattle.expr_scope.proofs.Ends.{formals_all, free_most}
use Rattle.expr_check.proofs.checks.+check.Goals as goal
use Rattle.func_table.specs.declared.formal.Formal.{Formal}
use Rattle.func_table.specs.declared.slot.Slot.{Slot}
use Rattle.session_model.proofs.InOrder.{in_order, onto_nothing}
use Rattle.session_model.specs.Expression.{arg_at, names_in, slot_at}
use Rattle.session_model.specs.Meaning.{arg_meaning}
use Rattle.session_model.specs.Meanings.{ArgMeaning, Meaning}

pub kinds_of_each-loop-a-init : goal.kinds_of_each-loop-a-init
kinds_of_each-loop-a-init g t c = rw c.new-done.ensures.items (onto_nothing _)

pub kinds_of_each-loop-a-preserved : goal.kinds_of_each-loop-a-preserved
kinds_of_each-loop-a-preserved g t c =
    each_at arg_meaning (λ (a : ArgMeaning). a.means.check (env_of g.V.Vars.bound c.args.s.now))
    _ c.loop-a.done.items c.add.new.list.items
    c.args.args.now c.loop-a.a-index c.a-item.result c.in_ok-kind.kind c.loop-a.invariant c.loop-a-test.true c.a-item.is
    (ap (λ (m : Meaning). m.check (env_of g.V.Vars.bound c.args.s.now)) (argument_means c.a-item.result)
    ∙ c.in_ok-kind.ensures.answer) c.in_ok-add.ensures.ok

pub kinds_of_each-returns-in_err-kind-clause-answer : goal.kinds_of_each-returns-in_err-kind-clause-answer
kinds_of_each-returns-in_err-kind-clause-answer g t c =
    each_stopped (λ (v : Vec ColType Global). v.items) (λ (x : ColType). x) arg_meaning
    (λ (a : ArgMeaning). a.means.check (env_of g.V.Vars.bound c.args.s.now)) _
    c.loop-a.done.items c.args.args.now c.loop-a.a-index c.a-item.result c.in_err-kind.field-0.0 c.from_residual.result
    c.loop-a.invariant c.loop-a-test.true c.a-item.is
    (subst (λ (m : Meaning). AnswersAs (λ (x : ColType). x) (m.check (env_of g.V.Vars.bound c.args.s.now))
    (Err c.in_err-kind.field-0.0)) (sym (argument_means c.a-item.result)) c.in_err-kind.ensures.answer)
    c.from_residual.ensures.1

pub kinds_of_each-returns-in_err-add-clause-answer : goal.kinds_of_each-returns-in_err-add-clause-answer
kinds_of_each-returns-in_err-add-clause-answer g t c =
    no_memory (λ (v : Vec ColType Global). v.items)
    _ c.in_err-add.field-0.0 c.from_residual-in_err-add.result c.in_err-add.ensures.err
    c.from_residual-in_err-add.ensures.1

pub kinds_of_each-returns-clause-answer : goal.kinds_of_each-returns-clause-answer
kinds_of_each-returns-clause-answer g t c =
    each_all arg_meaning (λ (a : ArgMeaning). a.means.check (env_of g.V.Vars.bound c.args.s.now))
    _ c.loop-a.done.items c.args.args.now c.loop-a.a-index
    c.loop-a.invariant c.loop-a-test.false

pub check_formals-returns-in_err-add-clause-answer : goal.check_formals-returns-in_err-add-clause-answer
check_formals-returns-in_err-add-clause-answer g t c =
    no_memory (λ (v : Vec (Slot ColType) Global). v.items)
    _ c.in_err-add.field-0.0 c.from_residual-in_err-add.result c.in_err-add.ensures.err
    c.from_residual-in_err-add.ensures.1

pub check_formals-returns-clause-answer : goal.check_formals-returns-clause-answer
check_formals-returns-clause-answer g t c =
    formals_all (names_in (map arg_meaning c.args.args.now))
    (λ (x : Formal × Option ℕ). slot_at (λ (m : Meaning). m.check (env_of g.V.Vars.bound c.args.s.now)) x.0
    (arg_at (map arg_meaning c.args.args.now) x.1)) _
    c.loop-p.done.items c.args.ps.now c.loop-p.p-index c.loop-p.before c.loop-p.invariant.1 c.loop-p-test.false

pub check_formals-loop-p-init : goal.check_formals-loop-p-init
check_formals-loop-p-init g t c = grind (arith, in_order)

pub check_formals-loop-p-preserved : goal.check_formals-loop-p-preserved
check_formals-loop-p-preserved g t c = (
  free_most (names_in (map arg_meaning c.args.args.now))
      _ c.loop-p.before c.loop-p.p-index c.next-before.result c.loop-p.invariant.0 c.next-before.ensures,
  formal_at (names_in (map arg_meaning c.args.args.now))
      (λ (x : Formal × Option ℕ). slot_at (λ (m : Meaning). m.check (env_of g.V.Vars.bound c.args.s.now)) x.0
      (arg_at (map arg_meaning c.args.args.now) x.1)) _
      c.loop-p.done.items c.args.ps.now c.loop-p.p-index c.loop-p.before c.add.new.list.items _ c.in_ok-slot.slot
      c.next-before.result
      c.loop-p.invariant.1 c.loop-p-test.true c.in_ok-slot.ensures.answer c.in_ok-add.ensures.ok c.next-before.ensures,
)

pub check_formals-returns-in_err-slot-clause-answer : goal.check_formals-returns-in_err-slot-clause-answer
check_formals-returns-in_err-slot-clause-answer g t c =
    formal_stopped (names_in (map arg_meaning c.args.args.now))
    (λ (x : Formal × Option ℕ). slot_at (λ (m : Meaning). m.check (env_of g.V.Vars.bound c.args.s.now)) x.0
    (arg_at (map arg_meaning c.args.args.now) x.1)) _
    c.loop-p.done.items c.args.ps.now c.loop-p.p-index c.loop-p.before (λ (v : Vec (Slot ColType) Global). v.items)
    (λ (x : Slot ColType). x) _ c.in_err-slot.field-0.0 c.from_residual.result
    c.loop-p.invariant.1 c.loop-p-test.true c.in_err-slot.ensures.answer c.from_residual.ensures.1
