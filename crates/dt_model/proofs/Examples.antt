-- Examples of the definitions, each computed.
use Rattle.std.proofs.Common.{◌≡◌, Some, None, pos, negsuc, true, false, refl, codes}
use Rattle.dt_model.specs.Spelling.{integer_of, truth_of, field_truth}

-- integers
plain_integer : integer_of (codes "42") ≡ Some (pos 42)
plain_integer = refl

plus_integer : integer_of (codes "+5") ≡ Some (pos 5)
plus_integer = refl

minus_zero : integer_of (codes "-0") ≡ Some (pos 0)
minus_zero = refl

leading_zeros : integer_of (codes "-007") ≡ Some (negsuc 6)
leading_zeros = refl

greatest : integer_of (codes "9223372036854775807") ≡ Some (pos 9223372036854775807)
greatest = refl

past_greatest : integer_of (codes "9223372036854775808") ≡ None
past_greatest = refl

least : integer_of (codes "-9223372036854775807") ≡ Some (negsuc 9223372036854775806)
least = refl

past_least : integer_of (codes "-9223372036854775808") ≡ None
past_least = refl

no_integer : integer_of (codes "") ≡ None
no_integer = refl

sign_alone : integer_of (codes "+") ≡ None
sign_alone = refl

blank_after : integer_of (codes "1 ") ≡ None
blank_after = refl

two_signs : integer_of (codes "-+1") ≡ None
two_signs = refl

-- truth values
letter_true : truth_of (codes "T") ≡ Some true
letter_true = refl

word_false : truth_of (codes "False") ≡ Some false
word_false = refl

other_case : truth_of (codes "tRUE") ≡ None
other_case = refl

letter_in_file : field_truth (codes "F") ≡ None
letter_in_file = refl

word_in_file : field_truth (codes "true") ≡ Some true
word_in_file = refl
