use Rattle.std.proofs.Common.{refl}
use Rattle.dt_print.proofs.Tables.{empty_put}
use Rattle.dt_print.proofs.table.empty_table.Goals as goal

-- the words, the number of columns, and the names
pub returns : goal.returns
returns c =
    empty_put c.args.names.now _ _ _ _ _ _ c.in_ok-out.ensures.items refl c.in_ok-push_number.ensures.text
    c.in_ok-extend_from_slice.ensures.items c.in_ok-push_joined.ensures c.in_ok-push.ensures.items
