use Rattle.std.proofs.Common.{◌≡◌, length, arith, ◌∙◌}
use Rattle.na_vector.proofs.Permuting.{permuted_length, permuted_within, permuted_rows, permuted_touches}
use Rattle.na_vector.proofs.Permuting.{permuted_at_most}
use Rattle.dt_table.proofs.keys.rows_in_order.Goals as goal

-- each place is one of the rows, and there are as many
pub gather-requires-clause-places : goal.gather-requires-clause-places
gather-requires-clause-places g c = permuted_within _ _ _ c.requires (c.deref.ensures.value ∙ c.in_ok-places.ensures)

pub gather-requires-clause-short : goal.gather-requires-clause-short
gather-requires-clause-short g c =
    let long : length c.deref.result.now ≡ c.args.frame.now.rows =
    permuted_length _ _ _ c.requires (c.deref.ensures.value ∙ c.in_ok-places.ensures) in
    let short = c.rows.ensures.frame.short in omega arith

pub returns-in_err-gather-clause-at_most : goal.returns-in_err-gather-clause-at_most
returns-in_err-gather-clause-at_most g c =
    permuted_at_most _ _ _ _ _ (permuted_length _ _ _ c.requires (c.deref.ensures.value ∙ c.in_ok-places.ensures))
    c.gather.ensures.at_most

-- so there are as many rows
pub returns-clause-rows : goal.returns-clause-rows
returns-clause-rows g c =
    c.in_ok-gather.ensures.rows ∙ permuted_rows _ _ _
    (permuted_length _ _ _ c.requires (c.deref.ensures.value ∙ c.in_ok-places.ensures)) c.rows.ensures.frame.none

pub returns-clause-touches : goal.returns-clause-touches
returns-clause-touches g c =
    permuted_touches _ _ _ _ _ (permuted_length _ _ _ c.requires (c.deref.ensures.value ∙ c.in_ok-places.ensures))
    c.in_ok-gather.ensures.touches

pub returns-clause-at_most : goal.returns-clause-at_most
returns-clause-at_most g c =
    permuted_at_most _ _ _ _ _ (permuted_length _ _ _ c.requires (c.deref.ensures.value ∙ c.in_ok-places.ensures))
    c.gather.ensures.at_most
