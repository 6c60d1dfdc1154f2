use Rattle.std.proofs.Common.{◌≡◌, [], true, get_or, refl, sym, ap, ◌∙◌, arith}
use Rattle.std.proofs.lemmas.List.{take_all}
use Rattle.std.proofs.lemmas.List.Folds.{list_all_more, list_all_at}
use Rattle.std.specs.List.{list_all}
use Rattle.std.specs.Str.{is_utf8}
use Rattle.csv.specs.Records.{fields_of}
use Rattle.header_names.proofs.FieldFacts.{field_found, field_absent}
use Rattle.csv_edge.proofs.RowFacts.{column_grown, column_same}
use Rattle.csv_edge.proofs.columns.push_row.Goals as goal

pub bounds-columns-c : goal.bounds-columns-c
bounds-columns-c c =
    let found = field_found (fields_of c.args.row.now) c.loop-field.c c.in-Some.field.now
    (sym c.in-Some.ensures.value) in
    omega (arith, found.0)

-- a field that is not UTF-8
pub returns-then-not-branch-clause-text : goal.returns-then-not-branch-clause-text
returns-then-not-branch-clause-text c =
    let fields = fields_of c.args.row.now in
    let found = field_found fields c.loop-field.c c.in-Some.field.now (sym c.in-Some.ensures.value) in
    sym (list_all_at is_utf8 fields c.loop-field.c [] found.0
    (ap is_utf8 (sym found.1) ∙ (sym c.in_ok-take.ensures.text ∙ c.if-not-branch.true)))

pub loop-field-smaller : goal.loop-field-smaller
loop-field-smaller c =
    let found = field_found (fields_of c.args.row.now) c.loop-field.c c.in-Some.field.now
    (sym c.in-Some.ensures.value) in
    omega (arith, found.0)

-- the column at this place gained the field, which is UTF-8
pub loop-field-preserved : goal.loop-field-preserved
loop-field-preserved c =
    let fields = fields_of c.args.row.now in
    let found = field_found fields c.loop-field.c c.in-Some.field.now (sym c.in-Some.ensures.value) in
    let text : is_utf8 (get_or fields c.loop-field.c []) ≡ true = ap is_utf8 (sym found.1)
    ∙ (sym c.in_ok-take.ensures.text ∙ c.if-not-branch.false) in record {
      within = omega (arith, found.0);
      text = rw (list_all_more is_utf8 fields c.loop-field.c [] found.0, c.loop-field.invariant.text, text) refl;
      grown = column_grown c.args.again c.args.columns.now c.loop-field.columns c.loop-field.c c.index-columns-c.result
          c.take.new.column fields c.in-Some.field.now
          (omega (arith, found.0)) found.1 (c.in_ok-take.ensures.gains c.if-not-branch.false)
          c.loop-field.invariant.grown c.loop-field.invariant.same;
      same = column_same c.args.columns.now c.loop-field.columns c.loop-field.c c.take.new.column
          c.loop-field.invariant.same;
    }

-- no field is left
pub returns-clause-text : goal.returns-clause-text
returns-clause-text c =
    let fields = fields_of c.args.row.now in
    let none = field_absent fields c.loop-field.c (sym c.in_default.ensures.value) in
    sym (ap (list_all is_utf8) (sym (take_all c.loop-field.c fields none)) ∙ c.loop-field.invariant.text)

pub returns-clause-fields : goal.returns-clause-fields
returns-clause-fields c = λ all k d h.
    let none = field_absent (fields_of c.args.row.now) c.loop-field.c (sym c.in_default.ensures.value) in
    c.loop-field.invariant.grown k d (omega (arith, none, h))
