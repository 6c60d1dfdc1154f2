use Rattle.std.proofs.Common.{◌≡◌, ◌∙◌, ap, not, refl}
use Rattle.std.specs.Cmp.Lexicographic.{slice_cmp, texts_ties}
use Rattle.std.specs.Ordering.{nat_cmp, is_eq, is_ne}
use Rattle.std.specs.declared.cmp.Ordering.{Ordering}
use Rattle.std.specs.declared.cmp.Ordering.TheVariants.{Less, Equal, Greater}
use Rattle.na_ops.proofs.compare.NotEqualComparison.texts.Goals as goal

not-is_eq : (o : Ordering) → not (is_eq o) ≡ is_ne o
not-is_eq Less = refl
not-is_eq Equal = refl
not-is_eq Greater = refl

pub returns : goal.returns
returns c = c.ne.ensures ∙ ap not (texts_ties c.args.x.now c.args.y.now)
    ∙ not-is_eq (slice_cmp nat_cmp c.args.x.now c.args.y.now)
