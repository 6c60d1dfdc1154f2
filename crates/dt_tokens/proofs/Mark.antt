-- Behind a byte order mark a text goes on in UTF-8.
use Rattle.std.proofs.Common.{◌≡◌, ℕ, true, List, drop, nat_eq, IsUtf8, refl}
use Rattle.std.specs.List.{starts_with}
use Rattle.std.proofs.lemmas.Slice.Eq.{starts_is}
use Rattle.std.proofs.lemmas.Bool.Decides.{Decides-eqb}
use Rattle.std.proofs.lemmas.Str.{IsUtf8-past_char}
use lib.Utf8
use Rattle.run_model.specs.Tokens.{mark}

pub unmarked_text : (s : List ℕ) → IsUtf8 s → starts_with nat_eq s mark ≡ true → IsUtf8 (drop 3 s)
unfolding lib.Utf8.encode
unmarked_text s u h = IsUtf8-past_char s (drop 3 s) 65279 u
    ((starts_is Decides-eqb s mark (starts_with nat_eq s mark) refl).0 h)
