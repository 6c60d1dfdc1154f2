use Rattle.std.proofs.Common.{◌≡◌, ◌&&◌, not, drop}
use Rattle.std.specs.List.{find}
use Rattle.bracket_forms.specs.Items.{by_seen}
use Rattle.func_table.specs.Special.{argument_of}
use Rattle.session_model.specs.Asked.{is_on, wants_join}
use Rattle.written_forms.specs.Texts.{lent_texts}
use Rattle.bracket_forms.proofs.wanting.first_barred.Given as goal

abbrev pub invariant-loop-w : goal.invariant-loop-w
invariant-loop-w l =
    find (λ w. wants_join (by_seen l.q.by) (argument_of w) && not (is_on (argument_of w))) (lent_texts l.q.words.items)
    ≡ find (λ w. wants_join (by_seen l.q.by) (argument_of w) && not (is_on (argument_of w)))
    (lent_texts (drop l.w-index l.q.words.items))
