-- A number that is capped on the way is capped at the end.
use Rattle.std.proofs.Common.{◌≡◌, ℕ, ◌+◌, ◌-◌, ◌*◌, ◌<◌, min, List, [], ◌∷◌, length, get_or, drop, ap, sym, ◌∙◌, arith}
use Rattle.std.proofs.lemmas.List.{drop_more}
use Rattle.run_model.specs.First.{value_after}

pub capped : (ds : List ℕ) (c n : ℕ) → min c (value_after (min c n) ds) ≡ min c (value_after n ds)
capped [] c n = omega arith
capped (d ∷ ds) c n =
    let same : min c (10 * min c n + (d - 48)) ≡ min c (10 * n + (d - 48)) = omega arith in
    sym (capped ds c (10 * min c n + (d - 48))) ∙ ap (λ m. min c (value_after m ds)) same
    ∙ capped ds c (10 * n + (d - 48))

pub more : (ds : List ℕ) (i : ℕ) (c n : ℕ) → i < length ds →
    min c (value_after (min c (10 * n + (get_or ds i 0 - 48))) (drop (i + 1) ds)) ≡ min c (value_after n (drop i ds))
more ds i c n within = capped (drop (i + 1) ds) c (10 * n + (get_or ds i 0 - 48))
    ∙ ap (λ xs. min c (value_after n xs)) (sym (drop_more ds i 0 within))
