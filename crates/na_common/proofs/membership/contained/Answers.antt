use Rattle.std.proofs.Common.{◌≡◌, IfOk, map, subst}
use Rattle.dt_base.specs.declared.cell.ColType.TheVariants as ty
use Rattle.dt_model.specs.Coercion.{brought}
use Rattle.dt_model.specs.Operations.{contained}
use Rattle.na_common.specs.Brought.{among}
use Rattle.na_words.specs.Shown.{shown, vector_from}
use Rattle.na_common.proofs.membership.contained.Goals as goal

-- the words are those of the two columns, and the type is their common one
pub returns-clause-answer : goal.returns-clause-answer
returns-clause-answer g c =
    let e : vector_from ty.Lgl (map (among c.common_of-kind.result
    (map (brought c.common_of-kind.result) (shown c.words_of-right.result).cells))
    (shown c.words_of-left.result).cells) ≡ contained c.args.a.now.vector c.args.b.now.vector =
    λ i. vector_from ty.Lgl (map (among (c.common_of-kind.ensures i)
    (map (brought (c.common_of-kind.ensures i)) (c.words_of-right.ensures.vector i).cells))
    (c.words_of-left.ensures.vector i).cells)
    in subst (λ v. IfOk c.contained_as.result (λ r. r.vector ≡ v)) e c.contained_as.ensures
