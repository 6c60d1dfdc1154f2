use Rattle.std.proofs.Common.{IsUtf8, subst, sym, arith}
use Rattle.dt_tokens.proofs.Utf8Texts.{meaning_done}
use Rattle.dt_tokens.proofs.text.meaning.Goals as goal

pub string_of-requires : goal.string_of-requires
string_of-requires c =
    let l = c.loop-i in
    meaning_done c.as_bytes-bytes.result.now l.out.items l.begun l.i l.escaped (omega arith) l.invariant.value
    (subst IsUtf8 (sym c.as_bytes-bytes.ensures.value) c.utf8.inner)
