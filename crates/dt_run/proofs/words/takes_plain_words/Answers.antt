-- The law, by the word's first byte.
use Rattle.std.proofs.Common.{[], ◌∷◌}
use Rattle.dt_run.specs.Words.{TakesPlainWords}
use Rattle.dt_run.proofs.Takes.{alone, after_check}
use Rattle.dt_run.proofs.words.takes_plain_words.Goals as goal

law : TakesPlainWords
law [] h = absurd h
law (b ∷ rest) h = (alone b rest h, after_check b rest h)

pub returns : goal.returns
returns c = law
