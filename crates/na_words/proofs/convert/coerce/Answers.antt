use Rattle.std.proofs.Common.{◌≡◌, subst, sym, IfOk}
use Rattle.dt_base.specs.declared.cell.ColType.TheVariants as ty
use Rattle.dt_model.specs.Coercion.{coercion_warns}
use Rattle.na_words.proofs.convert.coerce.Goals as goal

pub returns-in-Lgl-clause-warns : goal.returns-in-Lgl-clause-warns
returns-in-Lgl-clause-warns g c =
    subst (λ t. IfOk c.coerced_words.result (λ r. r.1 ≡ coercion_warns t c.args.a.now.vector)) (sym c.in-Lgl.is)
    (subst (λ v. IfOk c.coerced_words.result (λ r. r.1 ≡ coercion_warns ty.Lgl v)) c.words_of-words.ensures.vector
    c.coerced_words.ensures.warns)

pub returns-in-Int-clause-warns : goal.returns-in-Int-clause-warns
returns-in-Int-clause-warns g c =
    subst (λ t. IfOk c.coerced_words-in-Int.result (λ r. r.1 ≡ coercion_warns t c.args.a.now.vector)) (sym c.in-Int.is)
    (subst (λ v. IfOk c.coerced_words-in-Int.result (λ r. r.1 ≡ coercion_warns ty.Int v))
    c.words_of-words.ensures.vector c.coerced_words-in-Int.ensures.warns)

pub returns-in-Chr-clause-warns : goal.returns-in-Chr-clause-warns
returns-in-Chr-clause-warns g c =
    subst (λ t. IfOk c.coerced_words-in-Chr.result (λ r. r.1 ≡ coercion_warns t c.args.a.now.vector)) (sym c.in-Chr.is)
    (subst (λ v. IfOk c.coerced_words-in-Chr.result (λ r. r.1 ≡ coercion_warns ty.Chr v))
    c.words_of-words.ensures.vector c.coerced_words-in-Chr.ensures.warns)
