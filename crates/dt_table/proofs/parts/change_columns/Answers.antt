use Rattle.std.proofs.Common.{◌≡◌, length, rules, ◌∙◌, ap}
use Rattle.na_vector.specs.Frame.{vectors_of}
use Rattle.dt_table.specs.Change.{parts_seen, vectors_changed}
use Rattle.dt_table.proofs.Changing.{made_length, mid_length, mid_vectors, names_made, vectors_made}
use Rattle.dt_table.proofs.parts.change_columns.Goals as goal

-- the columns before any goes: as many as names
pub drop_columns-requires-clause-each : goal.drop_columns-requires-clause-each
drop_columns-requires-clause-each g c =
    let ps = parts_seen c.args.parts.items in
    mid_length ps c.args.names.now.items _ c.args.frame.now.columns _ c.requires.each c.put_parts.ensures.names
    (mid_vectors ps c.args.names.now.items c.args.frame.now.columns _ c.requires.each c.requires.width c.requires.once
    c.put_parts.ensures.vectors)

pub returns-clause-names : goal.returns-clause-names
returns-clause-names g c =
    let ps = parts_seen c.args.parts.items in
    let wide : c.len-width.result ≡ length c.args.names.now.items = search rules in
    names_made ps (parts_seen c.deref.result.now) c.len-width.result c.args.names.now.items
    c.put_parts.new.names.items _ wide c.requires.once c.put_parts.ensures.names
    (ap parts_seen c.deref.ensures.value ∙ c.put_parts.ensures.left) c.drop_columns.ensures.names

pub returns-clause-vectors : goal.returns-clause-vectors
returns-clause-vectors g c =
    let ps = parts_seen c.args.parts.items in
    let wide : c.len-width.result ≡ length c.args.frame.now.columns = search (rules, c.requires.each) in
    vectors_made ps (parts_seen c.deref.result.now) c.len-width.result c.args.frame.now.columns
    c.put_parts.new.frame.columns _ wide c.requires.once
    (mid_vectors ps c.args.names.now.items c.args.frame.now.columns _ c.requires.each c.requires.width c.requires.once
    c.put_parts.ensures.vectors)
    (ap parts_seen c.deref.ensures.value ∙ c.put_parts.ensures.left) c.drop_columns.ensures.columns

pub returns-clause-rows : goal.returns-clause-rows
returns-clause-rows g c =
    let ps = parts_seen c.args.parts.items in
    let wide : c.len-width.result ≡ length c.args.frame.now.columns = search (rules, c.requires.each) in
    let made : vectors_of c.drop_columns.new.frame.columns ≡ vectors_changed ps (vectors_of c.args.frame.now.columns) =
    vectors_made ps (parts_seen c.deref.result.now) c.len-width.result c.args.frame.now.columns
    c.put_parts.new.frame.columns _ wide c.requires.once
    (mid_vectors ps c.args.names.now.items c.args.frame.now.columns _ c.requires.each c.requires.width c.requires.once
    c.put_parts.ensures.vectors)
    (ap parts_seen c.deref.ensures.value ∙ c.put_parts.ensures.left) c.drop_columns.ensures.columns in
    rw (
      ← c.put_parts.ensures.rows,
      ← made_length ps c.args.names.now.items c.args.frame.now.columns _ c.requires.each
          made,
    ) c.drop_columns.ensures.rows
