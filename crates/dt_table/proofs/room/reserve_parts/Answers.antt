use Rattle.std.proofs.Common.{◌≡◌, ℕ, List, All, length, take, arith, subst, sym}
use Rattle.std.proofs.lemmas.List.{take_all}
use Rattle.dt_table.specs.declared.change.Part.{Part}
use Rattle.dt_table.specs.Change.{HasRoom, part_seen, parts_seen}
use Rattle.dt_table.specs.Parts.{IsColumnOf, IsRoomier}
use Rattle.dt_table.proofs.OnePart.{IsRoomier-trans, part_read, parts_push, rooms_kept, roomier_length}
use Rattle.dt_table.proofs.room.reserve_parts.Goals as goal

-- there are as many columns as before
pub reserve_part-requires : goal.reserve_part-requires
reserve_part-requires c =
    let long : length c.loop-part.frame.columns ≡ length c.args.frame.now.columns = roomier_length c.args.frame.now
    c.loop-part.frame c.loop-part.invariant.more in
    subst (λ (n : ℕ). IsColumnOf n (part_seen c.part-item.result)) (sym long)
    (part_read (IsColumnOf (length c.args.frame.now.columns)) c.args.parts.now c.loop-part.part-index
    c.part-item.result c.loop-part-test.true c.part-item.is c.requires)

-- one more part has room
pub loop-part-preserved : goal.loop-part-preserved
loop-part-preserved c =
    let more : IsRoomier c.loop-part.frame c.reserve_part.new.frame = c.in_ok-reserve_part.ensures.more in
    record {
      room = parts_push (HasRoom c.reserve_part.new.frame.columns) c.args.parts.now c.loop-part.part-index
          c.part-item.result c.loop-part-test.true c.part-item.is
          (rooms_kept c.loop-part.frame c.reserve_part.new.frame
          (parts_seen (take c.loop-part.part-index c.args.parts.now)) more c.loop-part.invariant.room)
          c.in_ok-reserve_part.ensures.room;
      more = IsRoomier-trans c.args.frame.now c.loop-part.frame c.reserve_part.new.frame c.loop-part.invariant.more
          more;
      columns = (let a = c.loop-part.invariant.columns in let b = more.spare in omega arith);
    }

-- all parts have room
pub returns-clause-room : goal.returns-clause-room
returns-clause-room c =
    subst (λ (l : List Part). All (HasRoom c.loop-part.frame.columns) (parts_seen l))
    (take_all c.loop-part.part-index c.args.parts.now c.loop-part-test.false) c.loop-part.invariant.room
