-- Examples of the definitions, each computed.
use Rattle.std.proofs.Common.{◌≡◌, ℤ, pos, negsuc, List, [], ◌∷◌, Result, Ok, Err, true, false, refl, codes}
use Rattle.dt_base.specs.Fault.{fault}
use Rattle.dt_base.specs.Warns.{no_warns}
use Rattle.dt_base.specs.declared.cell.Cell.{Cell}
use Rattle.dt_base.specs.declared.cell.Cell.TheVariants.{Na, Lgl, Int, Text}
use Rattle.dt_base.specs.declared.cell.ColType.TheVariants as ty
use Rattle.dt_base.specs.declared.fault.Code.TheVariants.{E04, E06}
use Rattle.dt_base.specs.declared.fault.Fault.{Fault}
use Rattle.dt_base.specs.declared.warns.Warns.{Warns}
use Rattle.dt_model.specs.Vector.{Vector}
use Rattle.vector_model.specs.Functions.{Valued, plain, warned, sum_type, sum_value, min_type, min_value, max_type}
use Rattle.vector_model.specs.Functions.{max_value, any_type, any_value, all_type, all_value, first_type, first_value}
use Rattle.vector_model.specs.Functions.{last_type, last_value, length_type, length_value}

abbrev lgls : List Cell → Vector
lgls cells = record { kind = ty.Lgl; cells = cells }

abbrev ints : List Cell → Vector
ints cells = record { kind = ty.Int; cells = cells }

abbrev texts : List Cell → Vector
texts cells = record { kind = ty.Chr; cells = cells }

abbrev one_int : ℤ → Result Valued Fault
one_int n = plain ty.Int (Int n ∷ [])

abbrev int_na : Result Valued Fault
int_na = plain ty.Int (Na ∷ [])

-- the warning W03 alone
abbrev of_nothing : Warns
of_nothing = record no_warns { w03 = true }

-- 2^63 - 1
abbrev greatest : ℤ
greatest = pos 9223372036854775807

-- sum
sum_meets_na : sum_value false (ints (Int (pos 1) ∷ Na ∷ Int (pos 3) ∷ [])) ≡ int_na
sum_meets_na = refl

sum_without_na : sum_value true (ints (Int (pos 1) ∷ Na ∷ Int (pos 3) ∷ [])) ≡ one_int (pos 4)
sum_without_na = refl

sum_of_truth : sum_value true (lgls (Lgl true ∷ Na ∷ Lgl false ∷ Lgl true ∷ [])) ≡ one_int (pos 2)
sum_of_truth = refl

sum_of_nothing : sum_value false (lgls []) ≡ one_int (pos 0)
sum_of_nothing = refl

sum_of_na_left_out : sum_value true (ints (Na ∷ Na ∷ [])) ≡ one_int (pos 0)
sum_of_na_left_out = refl

sum_to_the_greatest : sum_value false (ints (Int (pos 9223372036854775806) ∷ Int (pos 1) ∷ [])) ≡ one_int greatest
sum_to_the_greatest = refl

sum_past_the_greatest : sum_value false (ints (Int greatest ∷ Int (pos 1) ∷ [])) ≡ Err (fault E06 (codes "sum"))
sum_past_the_greatest = refl

sum_past_and_back : sum_value false (ints (Int greatest ∷ Int (pos 1) ∷ Int (negsuc 0) ∷ [])) ≡ one_int greatest
sum_past_and_back = refl

sum_past_the_least : sum_value false (ints (Int (negsuc 9223372036854775806) ∷ Int (negsuc 0) ∷ []))
    ≡ Err (fault E06 (codes "sum"))
sum_past_the_least = refl

-- NA is met before the total is looked at
sum_past_with_na : sum_value false (ints (Int greatest ∷ Int (pos 1) ∷ Na ∷ [])) ≡ int_na
sum_past_with_na = refl

sum_of_texts : sum_value false (texts (Na ∷ [])) ≡ Err (fault E04 (codes "sum"))
sum_of_texts = refl

sum_type_of_truth : sum_type ty.Lgl ≡ Ok ty.Int
sum_type_of_truth = refl

sum_type_of_texts : sum_type ty.Chr ≡ Err (fault E04 (codes "sum"))
sum_type_of_texts = refl

-- min and max
min_of_integers : min_value false (ints (Int (pos 3) ∷ Int (negsuc 1) ∷ Int (pos 2) ∷ [])) ≡ one_int (negsuc 1)
min_of_integers = refl

max_of_integers : max_value false (ints (Int (negsuc 4) ∷ Int (negsuc 1) ∷ Int (negsuc 2) ∷ [])) ≡ one_int (negsuc 1)
max_of_integers = refl

min_of_truth : min_value false (lgls (Lgl true ∷ Lgl false ∷ [])) ≡ one_int (pos 0)
min_of_truth = refl

max_of_truth : max_value true (lgls (Lgl false ∷ Na ∷ Lgl true ∷ [])) ≡ one_int (pos 1)
max_of_truth = refl

-- texts go by their bytes, and not by their length: B, then aa, then b
min_of_texts : min_value false (texts (Text (codes "b") ∷ Text (codes "aa") ∷ Text (codes "B") ∷ []))
    ≡ plain ty.Chr (Text (codes "B") ∷ [])
min_of_texts = refl

max_of_texts : max_value false (texts (Text (codes "aa") ∷ Text (codes "b") ∷ Text (codes "B") ∷ []))
    ≡ plain ty.Chr (Text (codes "b") ∷ [])
max_of_texts = refl

min_meets_na : min_value false (ints (Int (pos 1) ∷ Na ∷ [])) ≡ int_na
min_meets_na = refl

max_without_na : max_value true (ints (Na ∷ Int (pos 1) ∷ Na ∷ [])) ≡ one_int (pos 1)
max_without_na = refl

min_of_nothing : min_value false (ints []) ≡ warned of_nothing ty.Int (Na ∷ [])
min_of_nothing = refl

max_of_no_truth : max_value false (lgls []) ≡ warned of_nothing ty.Int (Na ∷ [])
max_of_no_truth = refl

min_of_na_left_out : min_value true (texts (Na ∷ Na ∷ [])) ≡ warned of_nothing ty.Chr (Na ∷ [])
min_of_na_left_out = refl

min_type_of_truth : min_type ty.Lgl ≡ Ok ty.Int
min_type_of_truth = refl

max_type_of_texts : max_type ty.Chr ≡ Ok ty.Chr
max_type_of_texts = refl

-- any and all
any_of_na_and_true : any_value (lgls (Na ∷ Lgl true ∷ [])) ≡ plain ty.Lgl (Lgl true ∷ [])
any_of_na_and_true = refl

any_of_na_and_false : any_value (lgls (Lgl false ∷ Na ∷ [])) ≡ plain ty.Lgl (Na ∷ [])
any_of_na_and_false = refl

any_of_nothing : any_value (lgls []) ≡ plain ty.Lgl (Lgl false ∷ [])
any_of_nothing = refl

any_of_integers : any_value (ints (Int (pos 1) ∷ [])) ≡ Err (fault E04 (codes "any"))
any_of_integers = refl

all_of_na_and_false : all_value (lgls (Na ∷ Lgl false ∷ [])) ≡ plain ty.Lgl (Lgl false ∷ [])
all_of_na_and_false = refl

all_of_na_and_true : all_value (lgls (Lgl true ∷ Na ∷ [])) ≡ plain ty.Lgl (Na ∷ [])
all_of_na_and_true = refl

all_of_nothing : all_value (lgls []) ≡ plain ty.Lgl (Lgl true ∷ [])
all_of_nothing = refl

any_type_of_integers : any_type ty.Int ≡ Err (fault E04 (codes "any"))
any_type_of_integers = refl

all_type_of_texts : all_type ty.Chr ≡ Err (fault E04 (codes "all"))
all_type_of_texts = refl

-- first, last and length
first_of_texts : first_value (texts (Text (codes "x") ∷ Na ∷ [])) ≡ plain ty.Chr (Text (codes "x") ∷ [])
first_of_texts = refl

last_of_texts : last_value (texts (Text (codes "x") ∷ Na ∷ [])) ≡ plain ty.Chr (Na ∷ [])
last_of_texts = refl

first_of_no_truth : first_value (lgls []) ≡ plain ty.Lgl []
first_of_no_truth = refl

last_of_nothing : last_value (ints []) ≡ plain ty.Int []
last_of_nothing = refl

length_with_na : length_value (texts (Na ∷ Text [] ∷ [])) ≡ one_int (pos 2)
length_with_na = refl

length_of_nothing : length_value (lgls []) ≡ one_int (pos 0)
length_of_nothing = refl

first_type_of_truth : first_type ty.Lgl ≡ Ok ty.Lgl
first_type_of_truth = refl

last_type_of_texts : last_type ty.Chr ≡ Ok ty.Chr
last_type_of_texts = refl

length_type_of_texts : length_type ty.Chr ≡ Ok ty.Int
length_type_of_texts = refl
