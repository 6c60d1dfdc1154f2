-- Examples of the definitions, each computed. An expression stands by its meaning, which is made of
-- the meanings of its parts.
use Rattle.std.proofs.Common.{◌≡◌, ℕ, ℤ, pos, negsuc, Bool, true, false, cond, List, [], ◌∷◌, Option, None, Some}
use Rattle.std.proofs.Common.{Result, Ok, Err, refl, codes}
use Rattle.std.specs.Fmt.{signed_decimal}
use Rattle.std.specs.Str.{bytes_eq}
use Rattle.dt_base.specs.Fault.{fault}
use Rattle.dt_base.specs.Warns.{no_warns}
use Rattle.dt_base.specs.declared.cell.Cell.{Cell}
use Rattle.dt_base.specs.declared.cell.Cell.TheVariants as is
use Rattle.dt_base.specs.declared.cell.ColType.{ColType}
use Rattle.dt_base.specs.declared.cell.ColType.TheVariants as ty
use Rattle.dt_base.specs.declared.fault.Code.TheVariants.{E02, E03, E04, E06, E07, E19, E20}
use Rattle.dt_base.specs.declared.fault.Fault.{Fault}
use Rattle.dt_base.specs.declared.operators.Op.TheVariants.{Add, Sub, Div, Mod, Gt, Or}
use Rattle.dt_model.specs.Table.{PlainTable}
use Rattle.dt_model.specs.Vector.{Vector as Cells}
use Rattle.dt_tree.specs.declared.tree.BinOp.{BinOp}
use Rattle.dt_tree.specs.declared.tree.BinOp.TheVariants.{Arith, In, Range}
use Rattle.dt_tree.specs.declared.tree.Expr.TheOpen.{Expr-F}
use Rattle.vector_model.specs.Functions.{Valued, plain, warned}
use Rattle.expr_model.specs.Functions.{type_of, value_of}
use Rattle.vector_model.specs.Faults.{length_fault}
use Rattle.expr_model.specs.Surroundings.{Var, Table, Vector, Env}
use Rattle.session_model.specs.Meaning.{expr_step}
use Rattle.session_model.specs.Meanings.{Meaning, ArgMeaning, TailMeaning}

-- ---- Expressions and surroundings

abbrev check_of : Meaning → Env → Result ColType Fault
check_of e s = e.check s

abbrev value_in : Meaning → Env → Result Valued Fault
value_in e s = e.value s

abbrev Lit : Cell → ColType → Meaning
Lit cell kind = expr_step (Expr-F.Lit cell kind)

abbrev Null : Meaning
Null = expr_step Expr-F.Null

abbrev Infinite : Meaning
Infinite = expr_step Expr-F.Infinite

abbrev Name : List ℕ → Meaning
Name name = expr_step (Expr-F.Name name)

abbrev Paren : Meaning → Meaning
Paren e = expr_step (Expr-F.Paren e)

abbrev Minus : Meaning → Meaning
Minus e = expr_step (Expr-F.Minus e)

abbrev Not : Meaning → Meaning
Not e = expr_step (Expr-F.Not e)

abbrev Chain : Meaning → List TailMeaning → Meaning
Chain first rest = expr_step (Expr-F.Chain first rest)

abbrev Call : List ℕ → List ArgMeaning → Meaning
Call name args = expr_step (Expr-F.Call name args)

abbrev Query : Meaning → Meaning
Query head = expr_step (Expr-F.Query head [])

abbrev int : ℤ → Meaning
int n = Lit (is.Int n) ty.Int

abbrev neg : ℤ → Meaning
neg n = Minus (int n)

abbrev text : List ℕ → Meaning
text t = Lit (is.Text t) ty.Chr

abbrev lgl : Bool → Meaning
lgl b = Lit (is.Lgl b) ty.Lgl

abbrev na : Meaning
na = Lit is.Na ty.Lgl

abbrev two : Meaning → BinOp → Meaning → Meaning
two l o r = Chain l (record { op = o; means = r } ∷ [])

abbrev unnamed : Meaning → ArgMeaning
unnamed e = record { name = None; means = e }

abbrev named : List ℕ → Meaning → ArgMeaning
named w e = record { name = Some w; means = e }

abbrev combine : List ArgMeaning → Meaning
combine args = Call (codes "c") args

abbrev lgls : List Cell → Cells
lgls cells = record { kind = ty.Lgl; cells = cells }

abbrev ints : List Cell → Cells
ints cells = record { kind = ty.Int; cells = cells }

abbrev n : ℕ → Cell
n k = is.Int (pos k)

abbrev m : ℕ → Cell
m k = is.Int (negsuc k)

-- D of one column v and two rows; u is a vector
abbrev d : PlainTable
d = record {
  columns = record { name = codes "v"; kind = ty.Int } ∷ [];
  rows = (n 1 ∷ []) ∷ (n 2 ∷ []) ∷ [];
  key = [];
  indices = [];
  slots = 1025;
}

abbrev script_names : List ℕ → Option Var
script_names q =
    cond (bytes_eq q (codes "D")) (Some (Table d))
    (cond (bytes_eq q (codes "u")) (Some (Vector (ints (n 7 ∷ []))))
    (cond (bytes_eq q (codes "a")) (Some (Vector (ints (n 8 ∷ [])))) None))

abbrev outside : Env
outside = record {
  inside = false;
  rows = record { names = []; vectors = [] };
  single = record { names = []; vectors = [] };
  places = [];
  count = 0;
  group = 0;
  sd = [];
  vars = script_names;
}

-- the columns a and b of three rows
abbrev bracket : Env
bracket = record {
  inside = true;
  rows = record {
    names = codes "a" ∷ codes "b" ∷ [];
    vectors = ints (n 5 ∷ is.Na ∷ m 6 ∷ []) ∷ lgls (is.Lgl true ∷ is.Na ∷ is.Lgl false ∷ []) ∷ [];
  };
  single = record { names = []; vectors = [] };
  places = Some 0 ∷ Some 1 ∷ None ∷ [];
  count = 3;
  group = 0;
  sd = [];
  vars = script_names;
}

-- ---- Operators in a bracket

abbrev a : Meaning
a = Name (codes "a")

-- a > 0L | b
a_positive_or_b : value_in (two (two a (Arith Gt) (int (pos 0))) (Arith Or) (Name (codes "b"))) bracket
    ≡ plain ty.Lgl (is.Lgl true ∷ is.Na ∷ is.Lgl false ∷ [])
a_positive_or_b = refl

-- a %/% 2L
halves : value_in (two a (Arith Div) (int (pos 2))) bracket ≡ plain ty.Int (n 2 ∷ is.Na ∷ m 3 ∷ [])
halves = refl

-- a %% -3L
remainders : value_in (two a (Arith Mod) (neg (pos 3))) bracket ≡ plain ty.Int (m 0 ∷ is.Na ∷ m 0 ∷ [])
remainders = refl

-- c(3L, 0L, 9L)
three_places : value_in (combine (unnamed (int (pos 3)) ∷ unnamed (int (pos 0)) ∷ unnamed (int (pos 9)) ∷ [])) bracket
    ≡ plain ty.Int (n 3 ∷ n 0 ∷ n 9 ∷ [])
three_places = refl

-- -7L:-5L
rising : value_in (two (neg (pos 7)) Range (neg (pos 5))) outside ≡ plain ty.Int (m 6 ∷ m 5 ∷ m 4 ∷ [])
rising = refl

-- 1L:-1L
falling : value_in (two (int (pos 1)) Range (neg (pos 1))) outside ≡ plain ty.Int (n 1 ∷ n 0 ∷ m 0 ∷ [])
falling = refl

-- c(1L, 2L) + c(1L, 2L, 3L)
other_lengths : value_in (two (combine (unnamed (int (pos 1)) ∷ unnamed (int (pos 2)) ∷ [])) (Arith Add)
    (combine (unnamed (int (pos 1)) ∷ unnamed (int (pos 2)) ∷ unnamed (int (pos 3)) ∷ []))) outside
    ≡ Err (length_fault 3 2)
other_lengths = refl

-- the lengths do not concern the types
other_lengths_check : check_of (two (combine (unnamed (int (pos 1)) ∷ unnamed (int (pos 2)) ∷ [])) (Arith Add)
    (combine (unnamed (int (pos 1)) ∷ unnamed (int (pos 2)) ∷ unnamed (int (pos 3)) ∷ []))) outside ≡ Ok ty.Int
other_lengths_check = refl

-- 1L + "a" - TRUE
text_in_a_sum : check_of (Chain (int (pos 1)) (record { op = Arith Add; means = text (codes "a") } ∷ record
    { op = Arith Sub; means = lgl true } ∷ [])) outside ≡ Err (fault E04 (codes "+"))
text_in_a_sum = refl

-- 9223372036854775807L + 1L
past_the_greatest : value_in (two (int (pos 9223372036854775807)) (Arith Add) (int (pos 1))) outside
    ≡ Err (fault E06 (codes "+"))
past_the_greatest = refl

-- a %in% NA
member_of_na : value_in (two a In na) bracket ≡ plain ty.Lgl (is.Lgl false ∷ is.Lgl true ∷ is.Lgl false ∷ [])
member_of_na = refl

-- NA:3L, c(1L, 2L):3L, "a":3L, 1L:16777217L
range_of_na : value_in (two na Range (int (pos 3))) outside ≡ Err (fault E19 (codes ":"))
range_of_na = refl

range_of_two : value_in (two (combine (unnamed (int (pos 1)) ∷ unnamed (int (pos 2)) ∷ [])) Range (int (pos 3)))
    outside ≡ Err (length_fault 2 1)
range_of_two = refl

range_of_text : check_of (two (text (codes "a")) Range (int (pos 3))) outside ≡ Err (fault E04 (codes ":"))
range_of_text = refl

range_too_long : value_in (two (int (pos 1)) Range (int (pos 16777217))) outside ≡ Err (fault E07 [])
range_too_long = refl

-- -"a", !1L, !b
minus_of_text : check_of (Minus (text (codes "a"))) outside ≡ Err (fault E04 (codes "-"))
minus_of_text = refl

not_of_integer : check_of (Not (int (pos 1))) outside ≡ Err (fault E04 (codes "!"))
not_of_integer = refl

not_of_b : value_in (Not (Name (codes "b"))) bracket ≡ plain ty.Lgl (is.Lgl false ∷ is.Na ∷ is.Lgl true ∷ [])
not_of_b = refl

-- ---- Names

-- a column comes before a vector of the script, which comes before a fault
column_first : value_in a bracket ≡ plain ty.Int (n 5 ∷ is.Na ∷ m 6 ∷ [])
column_first = refl

no_column_outside : value_in a outside ≡ plain ty.Int (n 8 ∷ [])
no_column_outside = refl

vector_in_a_bracket : value_in (Name (codes "u")) bracket ≡ plain ty.Int (n 7 ∷ [])
vector_in_a_bracket = refl

unknown_column : check_of (Name (codes "z")) bracket ≡ Err (fault E03 (codes "z"))
unknown_column = refl

unknown_name : check_of (Name (codes "z")) outside ≡ Err (fault E02 (codes "z"))
unknown_name = refl

table_as_a_vector : check_of (Name (codes "D")) bracket ≡ Err (fault E04 (codes "D"))
table_as_a_vector = refl

rows_counted : value_in (Name (codes ".N")) bracket ≡ plain ty.Int (n 3 ∷ [])
rows_counted = refl

rows_numbered : value_in (Name (codes ".I")) bracket ≡ plain ty.Int (n 1 ∷ n 2 ∷ is.Na ∷ [])
rows_numbered = refl

no_group : check_of (Name (codes ".GRP")) bracket ≡ Err (fault E03 (codes ".GRP"))
no_group = refl

rows_themselves : check_of (Name (codes ".SD")) bracket ≡ Err (fault E04 (codes ".SD"))
rows_themselves = refl

count_outside : check_of (Name (codes ".N")) outside ≡ Err (fault E02 (codes ".N"))
count_outside = refl

-- a column of the shared row comes before one of the rows
shared_row_first : value_in a (record bracket {
  single = record
      { names = codes "a" ∷ []; vectors = ints (n 4 ∷ []) ∷ [] };
}) ≡ plain ty.Int (n 4 ∷ [])
shared_row_first = refl

-- ---- Functions

-- fifelse(c(TRUE, NA, FALSE), c(1L, 2L, 3L), 0L)
choice : value_in (Call (codes "fifelse") (unnamed (combine
    (unnamed (lgl true) ∷ unnamed na ∷ unnamed (lgl false) ∷ [])) ∷ unnamed
    (combine (unnamed (int (pos 1)) ∷ unnamed (int (pos 2)) ∷ unnamed (int (pos 3)) ∷ [])) ∷ unnamed (int (pos 0)) ∷
    [])) outside ≡ plain ty.Int (n 1 ∷ is.Na ∷ n 0 ∷ [])
unfolding value_of
choice = refl

-- c(u, "z"), and c(TRUE, 1L, "a"), whose cells all are brought to texts at once
text_joins : value_in (combine (unnamed (Name (codes "u")) ∷ unnamed (text (codes "z")) ∷ [])) outside
    ≡ plain ty.Chr (is.Text (signed_decimal (pos 7)) ∷ is.Text (codes "z") ∷ [])
text_joins = refl

one_type_for_all : value_in (combine (unnamed (lgl true) ∷ unnamed (int (pos 1)) ∷ unnamed (text (codes "a")) ∷ []))
    outside ≡ plain ty.Chr (is.Text (codes "TRUE") ∷ is.Text (signed_decimal (pos 1)) ∷ is.Text (codes "a") ∷ [])
one_type_for_all = refl

-- as.integer("q"), with a warning that stays in a sum
conversion_warns : value_in (two (Call (codes "as.integer") (unnamed (text (codes "q")) ∷ [])) (Arith Add)
    (int (pos 1))) outside ≡ warned (record no_warns { w02 = true }) ty.Int (is.Na ∷ [])
unfolding value_of
conversion_warns = refl

-- sum(a), sum(na.rm = TRUE, a), sum(a, na.rm = 1L), sum("a", na.rm = 3L), sum("a")
sum_meets_na : value_in (Call (codes "sum") (unnamed a ∷ [])) bracket ≡ plain ty.Int (is.Na ∷ [])
unfolding value_of
sum_meets_na = refl

sum_without_na : value_in (Call (codes "sum") (named (codes "na.rm") (lgl true) ∷ unnamed a ∷ [])) bracket
    ≡ plain ty.Int (m 1 ∷ [])
unfolding value_of
sum_without_na = refl

no_flag : check_of (Call (codes "sum") (unnamed a ∷ named (codes "na.rm") (int (pos 1)) ∷ [])) bracket
    ≡ Err (fault E19 (codes "na.rm"))
no_flag = refl

form_before_type : check_of (Call (codes "sum") (unnamed (text (codes "a")) ∷ named (codes "na.rm") (int (pos 3)) ∷
    [])) outside ≡ Err (fault E19 (codes "na.rm"))
form_before_type = refl

sum_of_text : check_of (Call (codes "sum") (unnamed (text (codes "a")) ∷ [])) outside ≡ Err (fault E04 (codes "sum"))
unfolding type_of
sum_of_text = refl

-- sum(z, foo = 1L): the binding comes before the arguments
binding_first : check_of (Call (codes "sum") (unnamed (Name (codes "z")) ∷ named (codes "foo") (int (pos 1)) ∷ []))
    bracket ≡ Err (fault E19 (codes "foo"))
binding_first = refl

-- c(), c(a = 1L), sum(NULL), Inf
nothing_to_combine : check_of (combine []) outside ≡ Err (fault E19 (codes "c"))
nothing_to_combine = refl

named_in_c : check_of (combine (named (codes "a") (int (pos 1)) ∷ [])) outside ≡ Err (fault E19 (codes "a"))
named_in_c = refl

null_in_a_sum : check_of (Call (codes "sum") (unnamed Null ∷ [])) outside ≡ Err (fault E04 (codes "NULL"))
null_in_a_sum = refl

infinite : check_of Infinite outside ≡ Err (fault E04 (codes "Inf"))
infinite = refl

-- nosuch(), list(z), print(z), cumsum(1L)
unknown_function : check_of (Call (codes "nosuch") []) outside ≡ Err (fault E02 (codes "nosuch"))
unknown_function = refl

list_is_no_vector : check_of (Call (codes "list") (unnamed (Name (codes "z")) ∷ [])) bracket
    ≡ Err (fault E04 (codes "list"))
list_is_no_vector = refl

table_function : check_of (Call (codes "fread") []) outside ≡ Err (fault E04 (codes "fread"))
table_function = refl

command_in_an_expression : check_of (Call (codes "print") (unnamed (Name (codes "z")) ∷ [])) bracket
    ≡ Err (fault E19 (codes "print"))
command_in_an_expression = refl

-- nrow(D), names(D), nrow((D)), nrow(z), nrow(u), and nrow(a) of a column a
rows_of_d : value_in (Call (codes "nrow") (unnamed (Name (codes "D")) ∷ [])) outside ≡ plain ty.Int (n 2 ∷ [])
rows_of_d = refl

names_of_d : value_in (Call (codes "names") (named (codes "D") (Name (codes "D")) ∷ [])) bracket
    ≡ plain ty.Chr (is.Text (codes "v") ∷ [])
names_of_d = refl

in_parentheses : check_of (Call (codes "nrow") (unnamed (Paren (Name (codes "D"))) ∷ [])) outside
    ≡ Err (fault E19 (codes "D"))
in_parentheses = refl

unbound_table : check_of (Call (codes "nrow") (unnamed (Name (codes "z")) ∷ [])) bracket ≡ Err (fault E02 (codes "z"))
unbound_table = refl

vector_as_a_table : check_of (Call (codes "nrow") (unnamed (Name (codes "a")) ∷ [])) bracket
    ≡ Err (fault E20 (codes "a"))
vector_as_a_table = refl

-- z + y: the left fault is the first; sum(1L + "a") + z: the inner one is
left_first : check_of (two (Name (codes "z")) (Arith Add) (Name (codes "y"))) bracket ≡ Err (fault E03 (codes "z"))
left_first = refl

inner_first : check_of (Call (codes "sum") (unnamed (two (int (pos 1)) (Arith Add) (text (codes "a"))) ∷ [])) bracket
    ≡ Err (fault E04 (codes "+"))
inner_first = refl

-- D[]
query : check_of (Query (Name (codes "D"))) outside ≡ Err (fault E04 (codes "["))
query = refl
