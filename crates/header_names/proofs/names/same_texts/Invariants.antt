use Rattle.std.proofs.Common.{◌≡◌, drop}
use Rattle.std.specs.Cmp.Lexicographic.{pointwise}
use Rattle.std.specs.Str.{bytes_eq}
use Rattle.csv.specs.Records.{fields_of}
use Rattle.header_names.proofs.names.same_texts.Given as goal

-- the rest answers as the whole does
abbrev pub invariant-loop-i : goal.invariant-loop-i
invariant-loop-i l =
    pointwise bytes_eq (drop l.i l.names) (drop l.i (fields_of l.header))
    ≡ pointwise bytes_eq l.names (fields_of l.header)
