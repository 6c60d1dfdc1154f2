use Rattle.std.proofs.Common.{◌≡◌, ◌∙◌, ap, sym, map, string_bytes, length}
use Rattle.std.specs.Vec.Iter.{into_iter_items, into_iter_len}
use Rattle.std.proofs.lemmas.Iterator.{items_from_collect}
use Rattle.std.proofs.lemmas.Iterator.Adapters.{YieldsList-from_skip, YieldsList-from_vec}
use Rattle.std.proofs.lemmas.List.{drop-map}
use Rattle.std.proofs.lemmas.Result.{IfOk-weaker}
use Rattle.dt_cli.proofs.ending.words_after_name.Goals as goal

pub returns : goal.returns
returns c =
    let all : into_iter_len c.args.all ≡ length (into_iter_items c.args.all) = c.args.all.rest.ok.0 in
    IfOk-weaker c.collect.result _ _
    (λ v e. ap (map string_bytes) e ∙ sym (drop-map string_bytes 1 (into_iter_items c.args.all)))
    (items_from_collect _ c.collect.ensures.ran
    (YieldsList-from_skip 1 (YieldsList-from_vec (into_iter_items c.args.all)
    (ap into_iter_items c.skip.ensures.source) (ap into_iter_len c.skip.ensures.source ∙ all))
    c.skip.ensures.count))
