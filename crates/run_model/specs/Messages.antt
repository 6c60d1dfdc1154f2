-- The lines that tell a fault and warnings, as lists of bytes.
--   code_name c           the three letters of a code
--   fault_text f          what a fault says
--   printed_fault line f  its line
--   warn_name w, warn_text w      the three letters of a warning, and what it says
--   warn_line line w      its line
--   printed_warns line s  the lines of a set of warnings
use Rattle.std.specs.Prelude.{ℕ, ◌==◌, if◌then◌else◌, List, [], ◌∷◌, ◌++◌, codes, decimal, filter}
use Rattle.std.specs.List.{flat_map}
use Rattle.dt_base.specs.declared.fault.Fault.{Fault}
use Rattle.dt_base.specs.declared.fault.Code.{Code}
use Rattle.dt_base.specs.declared.fault.Code.TheVariants.{E01, E02, E03, E04, E05, E06, E07, E08, E09, E10, E11, E12}
use Rattle.dt_base.specs.declared.fault.Code.TheVariants.{E13, E14, E15, E16, E17, E18, E19, E20, E21, E22, E23, E24}
use Rattle.dt_base.specs.declared.warns.Warn.{Warn}
use Rattle.dt_base.specs.declared.warns.Warn.TheVariants.{W01, W02, W03, W04, W05, W06}
use Rattle.dt_base.specs.declared.warns.Warns.{Warns}
use Rattle.dt_base.specs.Warns.{has_warn}

-- the letters of a code
abbrev pub code_name : Code → List ℕ
code_name E01 = codes "E01"
code_name E02 = codes "E02"
code_name E03 = codes "E03"
code_name E04 = codes "E04"
code_name E05 = codes "E05"
code_name E06 = codes "E06"
code_name E07 = codes "E07"
code_name E08 = codes "E08"
code_name E09 = codes "E09"
code_name E10 = codes "E10"
code_name E11 = codes "E11"
code_name E12 = codes "E12"
code_name E13 = codes "E13"
code_name E14 = codes "E14"
code_name E15 = codes "E15"
code_name E16 = codes "E16"
code_name E17 = codes "E17"
code_name E18 = codes "E18"
code_name E19 = codes "E19"
code_name E20 = codes "E20"
code_name E21 = codes "E21"
code_name E22 = codes "E22"
code_name E23 = codes "E23"
code_name E24 = codes "E24"

-- Where in a grouped query a sum overflowed: the group and the expression, both counted from 1. A
-- fault outside groups has group 0, and tells neither.
abbrev pub group_text : ℕ → ℕ → List ℕ
group_text group expression =
    if group == 0 then []
    else codes " (group " ++ decimal group ++ codes ", expression " ++ decimal expression ++ codes ")"

-- What was not UTF-8: a record of a file, counted from 1, or the script, which has number 0.
abbrev pub encoding_text : ℕ → List ℕ
encoding_text n =
    if n == 0 then codes "not UTF-8 in the script"
    else codes "not UTF-8 in record " ++ decimal n

-- what a fault says: its code's words, with its name and its numbers; a name stands as it is
abbrev pub text_of : Code → List ℕ → ℕ → ℕ → List ℕ
text_of E01 what n m = codes "syntax at byte " ++ decimal n
text_of E02 what n m = codes "unknown name '" ++ what ++ codes "'"
text_of E03 what n m = codes "unknown column '" ++ what ++ codes "'"
text_of E04 what n m = codes "wrong type in " ++ what
text_of E05 what n m = codes "length " ++ decimal n ++ codes " where " ++ decimal m ++ codes " is wanted"
text_of E06 what n m = codes "integer overflow in " ++ what ++ group_text n m
text_of E07 what n m = codes "more than 16777216 rows"
text_of E08 what n m = codes "more than 67108864 cells"
text_of E09 what n m = codes "more than " ++ decimal n ++ codes " columns"
text_of E10 what n m = codes "no key"
text_of E11 what n m = codes "join of " ++ decimal n ++ codes " rows where " ++ decimal m ++ codes " are permitted"
text_of E12 what n m = codes "duplicate name '" ++ what ++ codes "'"
text_of E13 what n m = codes "positive and negative positions mixed"
text_of E14 what n m = codes "bad interval in " ++ what ++ codes ", row " ++ decimal n
text_of E15 what n m = codes "no file '" ++ what ++ codes "'"
text_of E16 what n m = codes "file '" ++ what ++ codes "' is longer than " ++ decimal n ++ codes " bytes"
text_of E17 what n m = codes "record " ++ decimal n ++ codes " has another number of fields"
text_of E18 what n m = encoding_text n
text_of E19 what n m = codes "bad argument '" ++ what ++ codes "'"
text_of E20 what n m = codes "'" ++ what ++ codes "' is not a table"
text_of E21 what n m = codes "brackets nested deeper than 64"
text_of E22 what n m = codes "number out of range"
text_of E23 what n m = codes "y has no key of two columns"
text_of E24 what n m = codes "columns differ"

-- what a fault says
abbrev pub fault_text : Fault → List ℕ
fault_text f = text_of f.code f.what f.n f.m

-- what stands before the words of a fault or a warning: its kind, its letters and the line's number
abbrev pub line_start : List ℕ → List ℕ → ℕ → List ℕ
line_start kind name line = kind ++ name ++ codes " at line " ++ decimal line ++ codes ": "

-- the line of a fault
abbrev pub printed_fault : ℕ → Fault → List ℕ
printed_fault line f = line_start (codes "Error ") (code_name f.code) line ++ fault_text f ++ codes "\n"

-- the letters of a warning
abbrev pub warn_name : Warn → List ℕ
warn_name W01 = codes "W01"
warn_name W02 = codes "W02"
warn_name W03 = codes "W03"
warn_name W04 = codes "W04"
warn_name W05 = codes "W05"
warn_name W06 = codes "W06"

-- what a warning says
abbrev pub warn_text : Warn → List ℕ
warn_text W01 = codes "integer became TRUE"
warn_text W02 = codes "text became NA"
warn_text W03 = codes "min or max of nothing"
warn_text W04 = codes "dcast counts duplicates"
warn_text W05 = codes "melt joins several types"
warn_text W06 = codes "column names repaired"

-- the line of a warning
abbrev pub warn_line : ℕ → Warn → List ℕ
warn_line line w = line_start (codes "Warning ") (warn_name w) line ++ warn_text w ++ codes "\n"

-- all warnings, by their numbers
abbrev pub all_warnings : List Warn
all_warnings = W01 ∷ W02 ∷ W03 ∷ W04 ∷ W05 ∷ W06 ∷ []

-- the lines of a set of warnings: each of the set once, in the order of their numbers
abbrev pub printed_warns : ℕ → Warns → List ℕ
printed_warns line s = flat_map (warn_line line) (filter (has_warn s) all_warnings)
