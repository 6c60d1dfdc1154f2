-- The limits as numbers, each computed: clauses name them, so nothing else sees their values.
use Rattle.std.proofs.Common.{◌≡◌, pos, negsuc, refl}
use Rattle.dt_base.specs.declared.limits.TheConstants.{MAX_SCRIPT_BYTES, MAX_FILE_BYTES, MAX_ROWS, MAX_CELLS}
use Rattle.dt_base.specs.declared.limits.TheConstants.{MAX_COLUMNS, SPARE_COLUMNS, MAX_NESTING, MAX_INTEGER, NA_WORD}

script_limit : MAX_SCRIPT_BYTES ≡ 1048576
script_limit = refl

file_limit : MAX_FILE_BYTES ≡ 67108864
file_limit = refl

row_limit : MAX_ROWS ≡ 16777216
row_limit = refl

cell_limit : MAX_CELLS ≡ 67108864
cell_limit = refl

column_limit : MAX_COLUMNS ≡ 4096
column_limit = refl

spare_limit : SPARE_COLUMNS ≡ 1024
spare_limit = refl

nesting_limit : MAX_NESTING ≡ 64
nesting_limit = refl

integer_limit : MAX_INTEGER ≡ pos 9223372036854775807
integer_limit = refl

na_word : NA_WORD ≡ negsuc 9223372036854775807
na_word = refl
