use Rattle.std.proofs.Common.{◌≡◌, ◌++◌, ◌∷◌, [], replicate, rules, FitsSigned, w64}
use Rattle.std.proofs.lemmas.Int.{to_z-of_z}
use Rattle.csv_edge.proofs.FillingFacts.{missing_to_lgl, missing_to_int}
use Rattle.csv_edge.proofs.filling.first_told.Goals as goal
use Rattle.dt_base.specs.declared.limits.TheConstants.{NA_WORD}

-- the field is a truth word
pub returns-in-Some : goal.returns-in-Some
returns-in-Some c =
    let same : c.as_bytes.result.now ≡ c.args.field.now = search rules in
    let word = rw same at c.in-Some.ensures in
    missing_to_lgl c.args.count c.in-Some.word c.in_ok-first_lgl.field-0 c.args.field.now c.requires word.0 word.1
    word.2 c.in_ok-first_lgl.ensures

-- or else an integer
pub returns-in-Some-int_word : goal.returns-in-Some-int_word
returns-in-Some-int_word c =
    let first : c.as_bytes.result.now ≡ c.args.field.now = search rules in
    let second : c.as_bytes-2.result.now ≡ c.args.field.now = search rules in
    let word = rw second at c.in-Some-int_word.ensures in
    let fits : FitsSigned w64 c.in-Some-int_word.word = search rules in
    let made : c.in_ok-first_int.field-0.items ≡ replicate c.args.count NA_WORD ++ c.in-Some-int_word.word ∷ [] =
    simp to_z-of_z at c.in_ok-first_int.ensures in
    missing_to_int c.args.count c.in-Some-int_word.word c.in_ok-first_int.field-0 c.args.field.now
    (rw first at c.in_default.ensures) word.0 word.1 made
