-- Examples of the definitions, each computed.
use Rattle.std.proofs.Common.{◌≡◌, ℕ, List, [], ◌∷◌, None, Some, pos, true, false, refl, codes}
use Rattle.dt_base.specs.declared.cell.Cell.TheVariants.{Na, Lgl, Int}
use Rattle.dt_base.specs.declared.cell.ColType.TheVariants as ty
use Rattle.dt_model.specs.Vector.{Vector, gathered}
use Rattle.dt_model.specs.Table.{place_of, first_repeated, names_at}
use Rattle.na_vector.specs.Frame.{FrameSeen}
use Rattle.dt_table.specs.declared.make.MakeFail.TheVariants.{Duplicate, TooManyRows, TooManyCells, TooManyColumns}
use Rattle.dt_table.specs.Make.{refusal, limit_refusal}
use Rattle.dt_table.specs.Plain.{plain}
use Rattle.dt_table.specs.Table.{TableSeen, made}

-- ---- names

abbrev abca : List (List ℕ)
abca = codes "a" ∷ codes "b" ∷ codes "c" ∷ codes "a" ∷ codes "b" ∷ []

first_a : place_of (codes "a") abca ≡ Some 0
first_a = refl

place_c : place_of (codes "c") abca ≡ Some 2
place_c = refl

no_such : place_of (codes "ab") abca ≡ None
no_such = refl

least_repeated : first_repeated abca ≡ Some 3
least_repeated = refl

none_repeated : first_repeated (codes "a" ∷ codes "A" ∷ codes "aa" ∷ []) ≡ None
none_repeated = refl

two_names : names_at abca (2 ∷ 1 ∷ []) ≡ codes "c" ∷ codes "b" ∷ []
two_names = refl

-- ---- limits

just_enough : limit_refusal 16777216 4 ≡ None
just_enough = refl

too_many_rows : limit_refusal 16777217 4096 ≡ Some TooManyRows
too_many_rows = refl

too_many_cells : limit_refusal 16777216 5 ≡ Some TooManyCells
too_many_cells = refl

too_many_columns : limit_refusal 0 4097 ≡ Some TooManyColumns
too_many_columns = refl

-- ---- the table with the columns 1, NA and TRUE, FALSE

abbrev ints : Vector
ints = record { kind = ty.Int; cells = Int (pos 1) ∷ Na ∷ [] }

abbrev lgls : Vector
lgls = record { kind = ty.Lgl; cells = Lgl true ∷ Lgl false ∷ [] }

abbrev two : FrameSeen
two = record {
  columns = record { vector = ints; spare = 0 } ∷ record { vector = lgls; spare = 6 } ∷ [];
  rows = 2;
  spare = 2;
}

duplicate : refusal (codes "a" ∷ codes "a" ∷ []) two ≡ Some (Duplicate 1)
duplicate = refl

abbrev ab : TableSeen
ab = made (codes "a" ∷ codes "b" ∷ []) two 0

two_rows : (plain ab).rows ≡ (Int (pos 1) ∷ Lgl true ∷ []) ∷ (Na ∷ Lgl false ∷ []) ∷ []
two_rows = refl

two_heads : (plain ab).columns ≡ record { name = codes "a"; kind = ty.Int } ∷ record
    { name = codes "b"; kind = ty.Lgl } ∷ []
two_heads = refl

own_slots : (plain ab).slots ≡ 1026
own_slots = refl

key_by_name : (plain (record ab { key = 1 ∷ 0 ∷ [] })).key ≡ codes "b" ∷ codes "a" ∷ []
key_by_name = refl

turned : gathered ints (Some 1 ∷ None ∷ Some 0 ∷ Some 0 ∷ [])
    ≡ record { kind = ty.Int; cells = Na ∷ Na ∷ Int (pos 1) ∷ Int (pos 1) ∷ [] }
turned = refl
