-- What is given behind an assignment.
use Rattle.std.proofs.Common.{◌≡◌, ◌∙◌, IfOk, Result, Ok, Err, ap, sym}
use Rattle.dt_base.specs.declared.warns.Warns.{Warns}
use Rattle.dt_base.specs.Warns.{both_warns}
use Rattle.dt_query.specs.Answers.{plain_answer, plain_outcome}
use Rattle.dt_query.specs.declared.answer.Answer.{Answer}
use Rattle.dt_query.specs.declared.answer.Outcome.TheVariants as outcome
use Rattle.dt_table.specs.Change.{ChangeSeen}
use Rattle.dt_table.specs.Table.{TableSeen}
use Rattle.session_model.specs.Query.{altered, given_after, is_shown, value_after}
use Rattle.stmt_value.specs.Values.{assigned_given, head_of, plain_given, plain_value}
use Rattle.stmt_value.specs.declared.given.Given.{Given}
use Rattle.table_heap.specs.Seen.{HeapSeen}

-- what is given behind an assignment is what is given where the table before it is assigned to
pub after_assigned : {E : Type 0} (h : HeapSeen) (v : Given) (a : Answer) (parts : ChangeSeen) (warns : Warns) (r : Result Given E) → a.outcome ≡ outcome.Assigned parts → warns ≡ both_warns v.warns a.warns → IfOk r (λ g. plain_given h g ≡ assigned_given h v.value parts warns) → IfOk r (λ g. given_after (plain_given h v) (plain_answer (head_of h v.value) a) ≡ Ok (plain_given h g))
after_assigned h v a parts warns (Err e) o w p = tt
after_assigned h v a parts warns (Ok g) o w p =
    let t : TableSeen = head_of h v.value in
    let e : given_after (plain_given h v) (plain_answer t a) ≡ Ok (assigned_given h v.value parts warns) =
    (λ j. Ok (record {
      value = value_after (plain_value v.value) (plain_outcome t (o j));
      warns = sym w j;
      alters = altered (plain_value v.value) (plain_outcome t (o j));
      shown = is_shown (plain_outcome t (o j));
    })) in
    e ∙ ap Ok (sym p)
