-- The definitions of fault and warning lines: each code once, and the two codes of two forms twice.
use Rattle.std.proofs.Common.{◌≡◌, ◌++◌, refl, ℕ, List, [], true}
use Rattle.std.specs.Prelude.{codes}
use Rattle.std.specs.Fmt.{digits}
use Rattle.dt_base.specs.declared.fault.Code.{Code}
use Rattle.dt_base.specs.declared.fault.Code.TheVariants as code
use Rattle.dt_base.specs.Warns.{no_warns}
use Rattle.run_model.specs.Messages.{printed_fault, printed_warns}

-- the line of a fault of these four parts
abbrev told : ℕ → Code → List ℕ → ℕ → ℕ → List ℕ
told line c what n m = printed_fault line (record { code = c; what = what; n = n; m = m })

e01 : told 1 code.E01 [] 6 0 ≡ codes "Error E01 at line 1: syntax at byte 6\n"
unfolding digits
e01 = refl

e02 : told 2 code.E02 (codes "x") 0 0 ≡ codes "Error E02 at line 2: unknown name 'x'\n"
unfolding digits
e02 = refl

e03 : told 2 code.E03 (codes "nosuch") 0 0 ≡ codes "Error E03 at line 2: unknown column 'nosuch'\n"
unfolding digits
e03 = refl

e04 : told 1 code.E04 (codes "+") 0 0 ≡ codes "Error E04 at line 1: wrong type in +\n"
unfolding digits
e04 = refl

e05 : told 1 code.E05 [] 2 3 ≡ codes "Error E05 at line 1: length 2 where 3 is wanted\n"
unfolding digits
e05 = refl

e06 : told 4 code.E06 (codes "sum") 0 0 ≡ codes "Error E06 at line 4: integer overflow in sum\n"
unfolding digits
e06 = refl

e06_in_a_group : told 2 code.E06 (codes "sum") 1 2
    ≡ codes "Error E06 at line 2: integer overflow in sum (group 1, expression 2)\n"
unfolding digits
e06_in_a_group = refl

e07 : told 1 code.E07 [] 0 0 ≡ codes "Error E07 at line 1: more than 16777216 rows\n"
unfolding digits
e07 = refl

e08 : told 1 code.E08 [] 0 0 ≡ codes "Error E08 at line 1: more than 67108864 cells\n"
unfolding digits
e08 = refl

e09 : told 1026 code.E09 [] 1025 0 ≡ codes "Error E09 at line 1026: more than 1025 columns\n"
unfolding digits
e09 = refl

e10 : told 3 code.E10 [] 0 0 ≡ codes "Error E10 at line 3: no key\n"
unfolding digits
e10 = refl

e11 : told 4 code.E11 [] 9 7 ≡ codes "Error E11 at line 4: join of 9 rows where 7 are permitted\n"
unfolding digits
e11 = refl

e12 : told 1 code.E12 (codes "a") 0 0 ≡ codes "Error E12 at line 1: duplicate name 'a'\n"
unfolding digits
e12 = refl

e13 : told 1 code.E13 [] 0 0 ≡ codes "Error E13 at line 1: positive and negative positions mixed\n"
unfolding digits
e13 = refl

e14 : told 7 code.E14 (codes "x") 2 0 ≡ codes "Error E14 at line 7: bad interval in x, row 2\n"
unfolding digits
e14 = refl

e15 : told 0 code.E15 (codes "s.dq") 0 0 ≡ codes "Error E15 at line 0: no file 's.dq'\n"
unfolding digits
e15 = refl

e16 : told 0 code.E16 (codes "s.dq") 1048576 0 ≡ codes "Error E16 at line 0: file 's.dq' is longer than 1048576 bytes\n"
unfolding digits
e16 = refl

e17 : told 1 code.E17 [] 3 0 ≡ codes "Error E17 at line 1: record 3 has another number of fields\n"
unfolding digits
e17 = refl

e18 : told 1 code.E18 [] 2 0 ≡ codes "Error E18 at line 1: not UTF-8 in record 2\n"
unfolding digits
e18 = refl

e18_of_the_script : told 0 code.E18 [] 0 0 ≡ codes "Error E18 at line 0: not UTF-8 in the script\n"
unfolding digits
e18_of_the_script = refl

e19 : told 1 code.E19 (codes "by") 0 0 ≡ codes "Error E19 at line 1: bad argument 'by'\n"
unfolding digits
e19 = refl

e20 : told 1 code.E20 (codes "v") 0 0 ≡ codes "Error E20 at line 1: 'v' is not a table\n"
unfolding digits
e20 = refl

e21 : told 9 code.E21 [] 0 0 ≡ codes "Error E21 at line 9: brackets nested deeper than 64\n"
unfolding digits
e21 = refl

e22 : told 1 code.E22 [] 0 0 ≡ codes "Error E22 at line 1: number out of range\n"
unfolding digits
e22 = refl

e23 : told 1 code.E23 [] 0 0 ≡ codes "Error E23 at line 1: y has no key of two columns\n"
unfolding digits
e23 = refl

e24 : told 1 code.E24 [] 0 0 ≡ codes "Error E24 at line 1: columns differ\n"
unfolding digits
e24 = refl

-- no warning, one, and all of them by their numbers
no_warning : printed_warns 3 no_warns ≡ []
no_warning = refl

repaired : printed_warns 1 (record no_warns { w06 = true }) ≡ codes "Warning W06 at line 1: column names repaired\n"
unfolding digits
repaired = refl

all_six : printed_warns 12 (record { w01 = true; w02 = true; w03 = true; w04 = true; w05 = true; w06 = true })
    ≡ codes "Warning W01 at line 12: integer became TRUE\nWarning W02 at line 12: text became NA\n"
    ++ codes "Warning W03 at line 12: min or max of nothing\nWarning W04 at line 12: dcast counts duplicates\n"
    ++ codes "Warning W05 at line 12: melt joins several types\nWarning W06 at line 12: column names repaired\n"
unfolding digits
all_six = refl
