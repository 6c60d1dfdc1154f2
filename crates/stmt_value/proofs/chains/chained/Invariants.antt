use denote.Shadow.{shadow}
use denote.Text.{Utf8}
use Rattle.std.proofs.Common.{◌≡◌, map, drop}
use Rattle.session_model.specs.Meaning.{bracket_meaning}
use Rattle.session_model.specs.Query.{chained}
use Rattle.stmt_value.specs.Values.{plain_given, IsGivenIn}
use Rattle.table_heap.specs.Seen.{HeapSeen}
use Rattle.table_heap.specs.State.{state_of}
use Rattle.stmt_value.proofs.chains.chained.Given as goal

abbrev pub invariant-loop-bracket : goal.invariant-loop-bracket
invariant-loop-bracket g l =
    let h : HeapSeen = l.setting.heap.now in
    (chained (state_of h) l.fn.word (plain_given h l.fn.given) (map bracket_meaning l.brackets) ≡ chained (state_of h) l.called (plain_given h l.whole) (map bracket_meaning (drop l.bracket-index l.brackets)))
    × IsGivenIn h l.whole
    × shadow (Utf8 l.called)
