use Rattle.std.proofs.Common.{◌∙◌, ◌<◌, ℕ, List, All, IfSome, Option, Vec, Global, ap, sym, subst}
use Rattle.bracket_assign.proofs.Rows.{there_within}
use Rattle.bracket_rows.specs.Found.{AreRows}
use Rattle.session_model.specs.Assigned.{rows_there}
use Rattle.bracket_assign.proofs.assignments.changed.Goals as goal

-- the rows that are there are rows of the table
pub assigned_by-requires-in-Some : goal.assigned_by-requires-in-Some
assigned_by-requires-in-Some g c =
    let t = c.args.x.now in
    let found : AreRows t c.in-Some.positions.items =
    subst (λ (o : Option (Vec (Option ℕ) Global)). IfSome o (λ (v : Vec (Option ℕ) Global). AreRows t v.items))
    c.in-Some.is c.requires in
    subst (λ (l : List ℕ). All (λ row. row < t.frame.rows) l)
    (sym (c.deref-in-Some.ensures.value ∙ (c.in_ok-rows-in-Some.ensures ∙ ap rows_there c.deref.ensures.value)))
    (there_within t.frame.rows c.in-Some.positions.items found.within)
