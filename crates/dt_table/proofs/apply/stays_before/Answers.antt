use Rattle.std.proofs.Common.{◌≡◌, ◌+◌, ◌≤◌, ◌==◌, ℕ, suc, ◌∷◌, List, drop, arith, sym}
use Rattle.std.proofs.Common.{ap, ◌∙◌, subst}
use Rattle.std.specs.List.{IsDistinct}
use Rattle.dt_table.specs.Change.{PartSeen, cols_of, part_seen, parts_seen, stays_before}
use Rattle.dt_table.proofs.AllParts.{once_past}
use Rattle.dt_table.proofs.Counting.{part_read, stay_all, stay_less, stay_most, stay_same}
use Rattle.dt_table.proofs.apply.stays_before.Goals as goal
use Rattle.dt_table.proofs.apply.stays_before.Goals.{then-goes_before, else-goes_before}
use Rattle.std.proofs.lemmas.List.{drop_all}

-- a column that goes was counted
pub overflow_sub-place : goal.overflow_sub-place
overflow_sub-place c =
    let k = c.loop-part.part-index in
    let p : PartSeen = part_seen c.part-item.result in
    let rest : List PartSeen = parts_seen (drop (k + 1) c.args.parts.now) in
    let read : parts_seen (drop k c.args.parts.now) ≡ p ∷ rest = part_read c.args.parts.now k c.part-item.result
    (omega arith) c.part-item.is in
    let once : IsDistinct (λ (a b : ℕ). a == b) (cols_of (p ∷ rest)) = subst
    (λ (l : List PartSeen). IsDistinct (λ (a b : ℕ). a == b) (cols_of l)) read c.loop-part.invariant.once in
    let less : suc (stays_before (p ∷ rest) c.args.c) ≡ stays_before rest c.args.c = stay_less p rest c.args.c once
    (sym c.goes_before.ensures ∙ c.if-goes_before.true) in
    let same : stays_before (parts_seen (drop k c.args.parts.now)) c.args.c
    ≡ stays_before (p ∷ rest) c.args.c = ap (λ (l : List PartSeen). stays_before l c.args.c) read in
    let most : stays_before rest c.args.c ≤ c.args.c = stay_most rest c.args.c in
    let so = c.loop-part.invariant.place in
    omega arith

-- one part more is counted
pub loop-part-preserved : goal.loop-part-preserved
loop-part-preserved c =
    let k = c.loop-part.part-index in
    let p : PartSeen = part_seen c.part-item.result in
    let rest : List PartSeen = parts_seen (drop (k + 1) c.args.parts.now) in
    let read : parts_seen (drop k c.args.parts.now) ≡ p ∷ rest = part_read c.args.parts.now k c.part-item.result
    (omega arith) c.part-item.is in
    let once : IsDistinct (λ (a b : ℕ). a == b) (cols_of (p ∷ rest)) = subst
    (λ (l : List PartSeen). IsDistinct (λ (a b : ℕ). a == b) (cols_of l)) read c.loop-part.invariant.once in
    let same : stays_before (parts_seen (drop k c.args.parts.now)) c.args.c
    ≡ stays_before (p ∷ rest) c.args.c = ap (λ (l : List PartSeen). stays_before l c.args.c) read in
    let most : stays_before rest c.args.c ≤ c.args.c = stay_most rest c.args.c in
    let so = c.loop-part.invariant.place in
    record {
      place =
          elim c.if-goes_before.branch [
            | then-goes_before w ↦ (let less : suc (stays_before (p ∷ rest) c.args.c)
                ≡ stays_before rest c.args.c = stay_less p rest c.args.c once
                (sym c.goes_before.ensures ∙ w.if-goes_before.true) in let is = w.place-is in omega arith)
            | else-goes_before w ↦ (let alike : stays_before (p ∷ rest) c.args.c
                ≡ stays_before rest c.args.c = stay_same p rest c.args.c once
                (sym c.goes_before.ensures ∙ w.if-goes_before.false) in let is = w.place-is in omega arith)
          ];
      once = once_past p rest once;
    }

-- all parts are counted
pub returns : goal.returns
returns c =
    let none : stays_before (parts_seen (drop c.loop-part.part-index c.args.parts.now)) c.args.c ≡ c.args.c =
    ap (λ l. stays_before (parts_seen l) c.args.c) (drop_all c.loop-part.part-index c.args.parts.now (omega arith))
    ∙ stay_all c.args.c in
    let so = c.loop-part.invariant.place in
    omega arith
