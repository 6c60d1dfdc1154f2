use Rattle.std.proofs.Common.{◌≡◌, ◌≤◌, ◌<◌, ◌+◌, ◌∷◌, [], length, drop, get_or, arith, ap, sym, ◌∙◌, subst}
use Rattle.std.proofs.lemmas.List.{drop-set-lt, length-set, map-append}
use Rattle.std.proofs.lemmas.List.Elements.{All-push, All-same}
use Rattle.na_vector.specs.Frame.{vectors_of}
use Rattle.dt_table.specs.Change.{FitsPart, part_seen, parts_seen}
use Rattle.dt_table.proofs.Putting.{same_at, same_past}
use Rattle.assign_ref.specs.Planned.{part_of}
use Rattle.assign_ref.specs.Seen.{rows_seen, target_seen, targets_seen}
use Rattle.assign_ref.specs.Values.{FitsTarget, allowance, part_allowance, part_warns}
use Rattle.assign_ref.specs.declared.target.Target.{Target}
use Rattle.assign_ref.proofs.Reading.{allowed_more, parts_more, target_read, warns_more}
use Rattle.assign_ref.proofs.change.parts_of.Goals as goal

-- the target is as it was
pub part_of-requires-clause-fits : goal.part_of-requires-clause-fits
part_of-requires-clause-fits g c =
    let within : c.loop-k.k < length c.args.targets.now = omega (arith, c.loop-k.invariant.count) in
    let same : get_or c.loop-k.targets c.loop-k.k c.index-targets-k.result
    ≡ get_or c.args.targets.now c.loop-k.k c.index-targets-k.result = same_at c.loop-k.targets c.args.targets.now
    c.loop-k.k c.index-targets-k.result c.loop-k.invariant.left in
    subst (λ (t : Target). FitsTarget c.args.t.now.names c.args.t.now.frame.rows (rows_seen c.args.rows)
    (target_seen t)) (sym same)
    (target_read (FitsTarget c.args.t.now.names c.args.t.now.frame.rows (rows_seen c.args.rows)) c.args.targets.now
    c.loop-k.k c.index-targets-k.result within c.requires.fits)

-- one more part
pub loop-k-preserved : goal.loop-k-preserved
loop-k-preserved g c =
    let t = c.args.t.now in
    let k = c.loop-k.k in
    let d = c.index-targets-k.result in
    let there : k < length c.loop-k.targets = omega (arith, c.loop-k.invariant.count) in
    let within : k < length c.args.targets.now = omega (arith, c.loop-k.invariant.count) in
    let same : get_or c.loop-k.targets k d ≡ get_or c.args.targets.now k d = same_at c.loop-k.targets
    c.args.targets.now k d c.loop-k.invariant.left in
    let part : part_seen c.in_ok-part.part ≡ part_of t.frame.rows (rows_seen c.args.rows) t.names
    (vectors_of t.frame.columns) (target_seen (get_or c.args.targets.now k d)) =
    c.in_ok-part.ensures.part ∙ ap (λ (x : Target). part_of t.frame.rows (rows_seen c.args.rows) t.names
    (vectors_of t.frame.columns) (target_seen x)) same in
    let more : c.in_ok-part.more ≡ part_warns (rows_seen c.args.rows) t.names (vectors_of t.frame.columns)
    (target_seen (get_or c.args.targets.now k d)).name (target_seen (get_or c.args.targets.now k d)).value =
    c.in_ok-part.ensures.warns ∙ ap (λ (x : Target). part_warns (rows_seen c.args.rows) t.names
    (vectors_of t.frame.columns) (target_seen x).name (target_seen x).value) same in
    let added = c.in_ok-add.ensures in
    record {
      parts = ap parts_seen added ∙ parts_more t.frame.rows (rows_seen c.args.rows) t.names
          (vectors_of t.frame.columns) c.loop-k.parts.items c.in_ok-part.part c.args.targets.now k d within part
          c.loop-k.invariant.parts;
      fits = All-same (FitsPart t) _ _ (ap parts_seen added
          ∙ map-append part_seen c.loop-k.parts.items (c.in_ok-part.part ∷ []))
          (All-push (FitsPart t) (parts_seen c.loop-k.parts.items) (part_seen c.in_ok-part.part)
          c.loop-k.invariant.fits c.in_ok-part.ensures.fits);
      warns = rw c.both-warns.ensures (warns_more t.frame.rows (rows_seen c.args.rows) t.names
          (vectors_of t.frame.columns) c.loop-k.warns c.in_ok-part.more _ c.args.targets.now k d within more
          c.loop-k.invariant.warns);
      touches = (let so = c.loop-k.invariant.touches in
          let one : allowance t.frame.rows (rows_seen c.args.rows) t.names (targets_seen (drop k c.args.targets.now))
          ≡ part_allowance t.frame.rows (rows_seen c.args.rows) t.names
          (target_seen (get_or c.args.targets.now k d)).name (target_seen (get_or c.args.targets.now k d)).value +
          allowance t.frame.rows (rows_seen c.args.rows) t.names (targets_seen (drop (k + 1) c.args.targets.now))
          = allowed_more t.frame.rows (rows_seen c.args.rows) t.names (vectors_of t.frame.columns)
          c.args.targets.now k d within in
          let tick : c.part_of.new.steps ≤ c.loop-k.steps + part_allowance t.frame.rows (rows_seen c.args.rows)
          t.names (target_seen (get_or c.args.targets.now k d)).name
          (target_seen (get_or c.args.targets.now k d)).value = subst
          (λ (x : Target). c.part_of.new.steps ≤ c.loop-k.steps + part_allowance t.frame.rows
          (rows_seen c.args.rows) t.names (target_seen x).name (target_seen x).value) same
          c.part_of.ensures.touches in
          omega arith);
      left = drop-set-lt (k + 1) c.loop-k.targets k _ (omega arith)
          ∙ same_past c.loop-k.targets c.args.targets.now k d there within c.loop-k.invariant.left;
      count = length-set c.loop-k.targets k _ ∙ c.loop-k.invariant.count;
    }
