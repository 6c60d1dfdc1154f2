use Rattle.std.proofs.Common.{take, IsUtf8, sym, ap, subst, ◌∙◌}
use Rattle.dt_tokens.proofs.Ascii.{word_is_text}
use Rattle.dt_tokens.proofs.word.word_at.Goals as goal

pub text_of-requires : goal.text_of-requires
text_of-requires c = subst IsUtf8 (sym (c.split_at.ensures.front
    ∙ ap (λ n. take n c.args.rest.now) c.run_end-len.ensures.value))
    (word_is_text c.args.rest.now c.requires.some c.requires.ascii)
