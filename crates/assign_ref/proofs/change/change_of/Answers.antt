use Rattle.std.proofs.Common.{◌≡◌, List, All, None, ap, sym, ◌∙◌, subst}
use Rattle.na_vector.specs.Frame.{vectors_of}
use Rattle.dt_table.specs.Change.{part_names, parts_seen}
use Rattle.assign_model.specs.Targets.{assign_fault}
use Rattle.assign_ref.specs.Planned.{parts_of}
use Rattle.assign_ref.specs.Seen.{rows_seen, targets_seen}
use Rattle.assign_ref.specs.Values.{FitsTarget, parts_warns}
use Rattle.assign_ref.specs.declared.target.Target.{Target}
use Rattle.assign_ref.proofs.Assigning.{is_assigned, is_fitting, targets_fit}
use Rattle.assign_ref.proofs.Naming.{parts_named}
use Rattle.assign_ref.proofs.change.change_of.Goals as goal

-- each target has a value that goes with the rows
pub parts_of-requires-clause-fits : goal.parts_of-requires-clause-fits
parts_of-requires-clause-fits g c =
    let t = c.args.t.now in
    subst (λ (l : List Target). All (FitsTarget t.names t.frame.rows (rows_seen c.args.rows)) (targets_seen l))
    (c.deref.ensures.value ∙ sym c.deref_mut.ensures.value)
    (targets_fit t.names t.frame.rows (rows_seen c.args.rows) (targets_seen c.deref.result.now)
    c.in_ok-check_all.ensures.targets)

-- the parts are those of the targets
pub returns-clause-fits : goal.returns-clause-fits
returns-clause-fits g c =
    let t = c.args.t.now in
    let none : assign_fault t.names t.frame.rows t.slots (rows_seen c.args.rows) (targets_seen c.args.targets.items)
    ≡ None = subst (λ (l : List Target). assign_fault t.names t.frame.rows t.slots (rows_seen c.args.rows)
    (targets_seen l) ≡ None) c.deref.ensures.value c.in_ok-check_all.ensures.ok in
    let parts : parts_seen c.in_ok-parts.parts.items ≡ parts_of t.frame.rows (rows_seen c.args.rows) t.names
    (vectors_of t.frame.columns) (targets_seen c.args.targets.items) =
    c.in_ok-parts.ensures.parts ∙ ap (λ (l : List Target). parts_of t.frame.rows (rows_seen c.args.rows) t.names
    (vectors_of t.frame.columns) (targets_seen l)) c.deref_mut.ensures.value in
    is_fitting t (rows_seen c.args.rows) (targets_seen c.args.targets.items) (parts_seen c.in_ok-parts.parts.items)
    c.names.ensures.table c.requires.filled none parts c.in_ok-parts.ensures.fits

pub returns-clause-names : goal.returns-clause-names
returns-clause-names g c =
    let t = c.args.t.now in
    let parts : parts_seen c.in_ok-parts.parts.items ≡ parts_of t.frame.rows (rows_seen c.args.rows) t.names
    (vectors_of t.frame.columns) (targets_seen c.args.targets.items) =
    c.in_ok-parts.ensures.parts ∙ ap (λ (l : List Target). parts_of t.frame.rows (rows_seen c.args.rows) t.names
    (vectors_of t.frame.columns) (targets_seen l)) c.deref_mut.ensures.value in
    let fit : All (FitsTarget t.names t.frame.rows (rows_seen c.args.rows)) (targets_seen c.args.targets.items) =
    subst (λ (l : List Target). All (FitsTarget t.names t.frame.rows (rows_seen c.args.rows)) (targets_seen l))
    c.deref.ensures.value (targets_fit t.names t.frame.rows (rows_seen c.args.rows)
    (targets_seen c.deref.result.now) c.in_ok-check_all.ensures.targets) in
    ap (part_names t.names) parts
    ∙ parts_named t.frame.rows (rows_seen c.args.rows) t.names (vectors_of t.frame.columns)
    (targets_seen c.args.targets.items) fit

pub returns-clause-change : goal.returns-clause-change
returns-clause-change g c =
    let t = c.args.t.now in
    let none : assign_fault t.names t.frame.rows t.slots (rows_seen c.args.rows) (targets_seen c.args.targets.items)
    ≡ None = subst (λ (l : List Target). assign_fault t.names t.frame.rows t.slots (rows_seen c.args.rows)
    (targets_seen l) ≡ None) c.deref.ensures.value c.in_ok-check_all.ensures.ok in
    let parts : parts_seen c.in_ok-parts.parts.items ≡ parts_of t.frame.rows (rows_seen c.args.rows) t.names
    (vectors_of t.frame.columns) (targets_seen c.args.targets.items) =
    c.in_ok-parts.ensures.parts ∙ ap (λ (l : List Target). parts_of t.frame.rows (rows_seen c.args.rows) t.names
    (vectors_of t.frame.columns) (targets_seen l)) c.deref_mut.ensures.value in
    let warns : c.in_ok-parts.warns ≡ parts_warns (rows_seen c.args.rows) t.names (vectors_of t.frame.columns)
    (targets_seen c.args.targets.items) =
    c.in_ok-parts.ensures.warns ∙ ap (λ (l : List Target). parts_warns (rows_seen c.args.rows) t.names
    (vectors_of t.frame.columns) (targets_seen l)) c.deref_mut.ensures.value in
    is_assigned t (rows_seen c.args.rows) (targets_seen c.args.targets.items) (parts_seen c.in_ok-parts.parts.items)
    c.in_ok-parts.warns c.names.ensures.table none parts warns
