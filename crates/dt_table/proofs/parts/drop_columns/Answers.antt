use Rattle.std.proofs.Common.{◌≡◌, ◌+◌, ◌-◌, ◌<◌, ◌≤◌, length, arith, sym, ◌∙◌, ap, [], true, false}
use Rattle.std.proofs.lemmas.List.Edits.{length-remove}
use Rattle.dt_base.specs.declared.cell.ColType.TheVariants as ty
use Rattle.na_vector.specs.Column.{Seen}
use Rattle.na_vector.specs.Frame.{rows_with}
use Rattle.dt_table.specs.Change.{goes, parts_seen}
use Rattle.dt_table.proofs.Keeping.{goes_down, stays_down, within_left, rows_with_again}
use Rattle.dt_table.proofs.parts.drop_columns.Goals as goal

abbrev none : Seen
none = record { vector = record { kind = ty.Lgl; cells = [] }; spare = 0 }

-- the place behind the last that is not looked at
pub loop-c-preserved-then-goes : goal.loop-c-preserved-then-goes
loop-c-preserved-then-goes c =
    let parts = parts_seen c.args.parts.now in
    let d = c.loop-c.c - 1 in
    let next : c.loop-c.c ≡ d + 1 = omega arith in
    let wide : c.args.width ≤ length c.args.frame.now.columns = omega (arith, c.requires.each) in
    let out : goes parts d ≡ true = sym c.goes.ensures ∙ c.if-goes.true in
    let within : d < length c.loop-c.frame.columns = within_left parts c.loop-c.c d c.args.width
    c.args.frame.now.columns c.loop-c.frame.columns next c.loop-c.invariant.bound wide c.loop-c.invariant.columns in
    let less : length c.drop_column.new.frame.columns ≤ length c.loop-c.frame.columns = rw
    c.drop_column.ensures.columns (omega (arith, length-remove c.loop-c.frame.columns d within)) in
    record {
      names = goes_down parts c.loop-c.c d c.args.width c.args.names.now.items c.loop-c.names.items _ [] next
          c.loop-c.invariant.bound c.requires.width out c.loop-c.invariant.names c.drop_column.ensures.names;
      columns = goes_down parts c.loop-c.c d c.args.width c.args.frame.now.columns c.loop-c.frame.columns _ none next
          c.loop-c.invariant.bound wide out c.loop-c.invariant.columns c.drop_column.ensures.columns;
      rows = c.drop_column.ensures.rows ∙ (ap (rows_with (length c.drop_column.new.frame.columns))
          c.loop-c.invariant.rows ∙ rows_with_again (length c.loop-c.frame.columns) _ c.args.frame.now.rows less);
      bound = omega (arith, c.loop-c.invariant.bound);
    }

pub loop-c-preserved : goal.loop-c-preserved
loop-c-preserved c =
    let parts = parts_seen c.args.parts.now in
    let d = c.loop-c.c - 1 in
    let next : c.loop-c.c ≡ d + 1 = omega arith in
    let wide : c.args.width ≤ length c.args.frame.now.columns = omega (arith, c.requires.each) in
    let not : goes parts d ≡ false = sym c.goes.ensures ∙ c.if-goes.false in
    record {
      names = stays_down parts c.loop-c.c d c.args.width c.args.names.now.items _ [] next c.loop-c.invariant.bound
          c.requires.width not c.loop-c.invariant.names;
      columns = stays_down parts c.loop-c.c d c.args.width c.args.frame.now.columns _ none next
          c.loop-c.invariant.bound wide not c.loop-c.invariant.columns;
      rows = c.loop-c.invariant.rows;
      bound = omega (arith, c.loop-c.invariant.bound);
    }
