use Rattle.std.proofs.Common.{◌≡◌, ◌∙◌, ◌-◌, ◌+◌, ℕ, List, Err, subst, sym, length}
use Rattle.std.specs.Global.{Vec}
use Rattle.std.specs.List.{range_with_len}
use Rattle.eval_fail.specs.Answers.{AnswersAs}
use Rattle.session_model.proofs.InOrder.{onto}
use Rattle.session_model.specs.Expression.{each}
use Rattle.session_model.specs.Set.{old_name, old_names}
use Rattle.cmd_assign.proofs.Refused.{refused_same}
use Rattle.cmd_assign.proofs.Repeats.{before_next, distinct_at_end, name_is, not_repeated, number_next, number_stopped}
use Rattle.cmd_assign.proofs.Repeats.{places_more, steps_more}
use Rattle.cmd_assign.proofs.rename_call.places_until.Goals as goal
use Rattle.cmd_assign.specs.Renames.{steps_done}

-- the fault of this old name is the first of all
pub returns-in_err-place-clause-answer : goal.returns-in_err-place-clause-answer
returns-in_err-place-clause-answer c =
    let names : List (List ℕ) = c.args.table.now.names in
    let old : List (List ℕ) = c.args.old.now in
    let k : ℕ = c.loop-k.k in
    let e = c.in_err-place.field-0.0 in
    refused_same (λ (v : Vec ℕ). steps_done v.items) (old_names names old) e c.from_residual.result
    (number_stopped (old_name names old) (old_names names old) (steps_done c.loop-k.places.items) (length old) k
    (λ (x : ℕ). tt) (λ (v : Vec ℕ). steps_done v.items) e c.loop-k.invariant.so_far c.loop-k-test.true
    (subst (λ o. AnswersAs (λ (x : ℕ). tt) o (Err e))
    (name_is names old c.args.repeated k c.as_str.result.now c.is_at.result c.requires c.loop-k-test.true
    c.loop-k.invariant.before (rw c.as_str.ensures c.index-old-k.is) c.is_at.ensures)
    c.in_err-place.ensures.answer))
    c.from_residual.ensures.1

-- one more old name that is fine
pub loop-k-preserved : goal.loop-k-preserved
loop-k-preserved c =
    let names : List (List ℕ) = c.args.table.now.names in
    let old : List (List ℕ) = c.args.old.now in
    let k : ℕ = c.loop-k.k in
    let name : List ℕ = c.as_str.result.now in
    record {
      so_far =
          subst (λ d. old_names names old
          ≡ onto d (each (old_name names old) (range_with_len (k + 1) (length old - (k + 1)))))
          (sym (steps_more c.loop-k.places.items c.add_place.new.places.items c.in_ok-place.place
          c.in_ok-add_place.ensures))
          (number_next (old_name names old) (old_names names old) (steps_done c.loop-k.places.items) (length old) k tt
          c.loop-k.invariant.so_far c.loop-k-test.true
          (sym (name_is names old c.args.repeated k name c.is_at.result c.requires c.loop-k-test.true
          c.loop-k.invariant.before (rw c.as_str.ensures c.index-old-k.is) c.is_at.ensures)
          ∙ c.in_ok-place.ensures.answer));
      places =
          places_more names old c.loop-k.places.items c.add_place.new.places.items k c.in_ok-place.place name
          c.loop-k-test.true c.loop-k.invariant.places (rw c.as_str.ensures c.index-old-k.is)
          c.in_ok-place.ensures.place c.in_ok-add_place.ensures;
      before =
          before_next c.args.repeated k
          (sym c.is_at.ensures ∙ not_repeated names name c.is_at.result c.in_ok-place.ensures.answer)
          c.loop-k.invariant.before;
    }

-- there is no further old name
pub returns-clause-distinct : goal.returns-clause-distinct
returns-clause-distinct c =
    distinct_at_end c.args.old.now c.args.repeated c.loop-k.k c.requires c.loop-k-test.false c.loop-k.invariant.before
