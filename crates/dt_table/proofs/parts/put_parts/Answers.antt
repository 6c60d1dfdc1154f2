use Rattle.std.proofs.Common.{◌≡◌, ◌+◌, ◌<◌, ◌∷◌, length, drop, arith, rules, ◌∙◌, subst, ◌==◌, ℕ, All, List, []}
use Rattle.std.specs.List.{IsDistinct}
use Rattle.std.proofs.lemmas.List.{length-map}
use Rattle.dt_table.specs.Change.{PartSeen, added_names, cols_of, parts_seen, written_cells}
use Rattle.dt_table.specs.Parts.{FitsNow, part_in}
use Rattle.dt_table.proofs.AllParts.{count_more, fits_after, left_more, names_more, once_past, parts_here}
use Rattle.dt_table.proofs.AllParts.{vectors_more, written_more}
use Rattle.dt_table.proofs.parts.put_parts.Goals as goal

-- one more part is made
pub loop-k-preserved : goal.loop-k-preserved
loop-k-preserved g c =
    let all = parts_seen c.args.parts.now.items in
    let now = parts_seen c.loop-k.parts.items in
    let k = c.loop-k.k in
    let place : c.loop-k.k < length c.args.parts.now.items = search rules in
    let within : k < length all = rw length-map place in
    let p = part_in now k in
    let rest = drop (k + 1) all in
    let here : drop k all ≡ p ∷ rest = parts_here c.args.none all now k within c.loop-k.invariant.left in
    let once : IsDistinct (λ (a b : ℕ). a == b) (cols_of (p ∷ rest)) = subst
    (λ (l : List PartSeen). IsDistinct (λ (a b : ℕ). a == b) (cols_of l)) here c.loop-k.invariant.once in
    let fits : All (FitsNow c.loop-k.frame) (p ∷ rest) = subst (λ (l : List PartSeen). All (FitsNow c.loop-k.frame) l)
    here c.loop-k.invariant.fits in
    let count : length (added_names (drop k all)) ≡ length (added_names (p ∷ [])) + length (added_names rest) =
    count_more p (drop k all) rest here in
    let written : written_cells (drop k all) ≡ written_cells (p ∷ []) + written_cells rest = written_more p
    (drop k all) rest here in
    let columns = c.loop-k.invariant.columns in
    let room = c.loop-k.invariant.room in
    let touches = c.loop-k.invariant.touches in
    let fell = c.put_next.ensures.put.spare in
    let took = c.put_next.ensures.room in
    let tick = c.put_next.ensures.touches in
    record {
      vectors = vectors_more p (drop k all) rest c.loop-k.frame c.put_next.new.frame _ here c.put_next.ensures.put
          c.loop-k.invariant.vectors;
      rows = c.put_next.ensures.put.rows ∙ c.loop-k.invariant.rows;
      names = names_more p (drop k all) rest c.loop-k.names.items c.put_next.new.names.items _ here
          c.put_next.ensures.names c.loop-k.invariant.names;
      left = left_more c.args.none all now _ k within c.loop-k.invariant.left c.put_next.ensures.left;
      fits = fits_after p rest c.loop-k.frame c.put_next.new.frame c.put_next.ensures.put once fits;
      once = once_past p rest once;
      columns = omega arith;
      room = omega arith;
      touches = omega arith;
    }
