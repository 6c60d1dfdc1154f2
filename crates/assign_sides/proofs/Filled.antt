-- Names none of which is empty.
use Rattle.std.proofs.Common.{◌≡◌, ℕ, true, false, All, List, [], ◌∷◌, arith}
use Rattle.std.specs.List.{AllByRecursion, list_any}
use Rattle.std.specs.Str.{bytes_eq}
use Rattle.std.proofs.lemmas.List.Elements.{All-from_recursion}
use Rattle.dt_table.specs.Table.{IsFilled}

each_filled : (names : List (List ℕ)) → list_any (bytes_eq []) names ≡ false → AllByRecursion IsFilled names
each_filled [] e = tt
each_filled ([] ∷ names) e = (let n : true ≡ false = e in cc)
each_filled ((b ∷ bs) ∷ names) e = (omega arith, each_filled names e)

pub filled_names : (names : List (List ℕ)) → list_any (bytes_eq []) names ≡ false → All IsFilled names
filled_names names e = All-from_recursion IsFilled names (each_filled names e)
