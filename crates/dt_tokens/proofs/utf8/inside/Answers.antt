use Rattle.std.proofs.Common.{take, drop, IsUtf8, sym, ap, subst, ◌∙◌}
use Rattle.dt_tokens.proofs.Utf8Texts.{inside_text}
use Rattle.dt_tokens.proofs.utf8.inside.Goals as goal

pub text_of-requires : goal.text_of-requires
text_of-requires c =
    let r = c.requires in
    let e = c.split_at-3.ensures.front ∙ ap (take c.args.n)
    (c.split_at-2.ensures.back ∙ ap (drop 1) c.split_at.ensures.back) in
    subst IsUtf8 (sym e) (inside_text c.args.s.now c.args.at c.args.n r.text r.at r.within r.front r.back)
