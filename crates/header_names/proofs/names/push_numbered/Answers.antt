use Rattle.std.proofs.Common.{◌≡◌, ◌++◌, ◌∷◌, []}
use Rattle.header_names.proofs.NameFacts.{taken_new}
use Rattle.header_names.proofs.names.push_numbered.Goals as goal
use Rattle.run_model.specs.CsvNames.{numbered}

-- the name with this number stands now, as those with the lesser ones did
pub note-requires : goal.note-requires
note-requires c =
    let more : c.push.new.self ≡ c.args.names.now ++ numbered c.args.base c.in_ok-number.number ∷ [] =
    (let p = c.in_ok-push.ensures in let n = c.in_ok-name.ensures in let s = c.as_str.ensures in cc) in
    taken_new c.in_ok-number.number c.args.base c.args.names.now c.push.new.self more c.in_ok-number.ensures.taken
