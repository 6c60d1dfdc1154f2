-- Examples of what brackets give, each computed. A bracket stands by its meaning, over a table of the
-- columns a = 5, NA, -7 and b = TRUE, NA, FALSE; of the script's names x is 2, 3, and D a table.
use Rattle.std.proofs.Common.{◌≡◌, ℕ, ℤ, pos, negsuc, true, false, cond, List, [], ◌∷◌, Option, None, Some, Result}
use Rattle.std.proofs.Common.{Ok, Err, refl, codes}
use Rattle.std.specs.Str.{bytes_eq}
use Rattle.dt_base.specs.Fault.{fault}
use Rattle.dt_base.specs.Warns.{no_warns}
use Rattle.dt_base.specs.declared.cell.Cell.{Cell}
use Rattle.dt_base.specs.declared.cell.Cell.TheVariants as is
use Rattle.dt_base.specs.declared.cell.ColType.{ColType}
use Rattle.dt_base.specs.declared.cell.ColType.TheVariants as ty
use Rattle.dt_base.specs.declared.fault.Code.TheVariants.{E02, E03, E06, E12, E13, E19}
use Rattle.dt_base.specs.declared.fault.Fault.{Fault}
use Rattle.dt_base.specs.declared.operators.Op.TheVariants.{Add, Div, Mod, Gt, Eq, Or}
use Rattle.dt_model.specs.Table.{PlainTable, ColumnHead}
use Rattle.dt_tree.specs.declared.tree.BinOp.{BinOp}
use Rattle.dt_tree.specs.declared.tree.BinOp.TheVariants.{Arith}
use Rattle.dt_tree.specs.declared.tree.Expr.TheOpen.{Expr-F}
use Rattle.vector_model.specs.Faults.{length_fault, unbuilt}
use Rattle.expr_model.specs.Surroundings.{Var, Table, Vector}
use Rattle.session_model.specs.Meaning.{expr_step}
use Rattle.session_model.specs.Meanings.{Answer, Meaning, ArgMeaning, TailMeaning, Computes, BracketMeaning}
use Rattle.session_model.specs.Meanings as gives
use Rattle.session_model.specs.Query.{bracket_answer}
use Rattle.session_model.specs.Served.{bracket_served}

-- ---- Trees, by their meanings

abbrev name : List ℕ → Meaning
name q = expr_step (Expr-F.Name q)

abbrev int : ℤ → Meaning
int n = expr_step (Expr-F.Lit (is.Int n) ty.Int)

abbrev text : List ℕ → Meaning
text t = expr_step (Expr-F.Lit (is.Text t) ty.Chr)

abbrev minus : Meaning → Meaning
minus e = expr_step (Expr-F.Minus e)

abbrev not_before : Meaning → Meaning
not_before e = expr_step (Expr-F.Not e)

abbrev call : List ℕ → List ArgMeaning → Meaning
call q args = expr_step (Expr-F.Call q args)

abbrev two : Meaning → BinOp → Meaning → Meaning
two l o r = expr_step (Expr-F.Chain l (record { op = o; means = r } ∷ []))

abbrev item : Meaning → ArgMeaning
item e = record { name = None; means = e }

abbrev named : List ℕ → Meaning → ArgMeaning
named q e = record { name = Some q; means = e }

abbrev bracket : Option Meaning → Option Meaning → BracketMeaning
bracket i None = record { first = i; second = None; third = None; args = [] }
bracket i (Some j) = record { first = i; second = Some (Computes j); third = None; args = [] }

abbrev list_of : List ArgMeaning → Meaning
list_of items = call (codes ".") items

abbrev combine : List ArgMeaning → Meaning
combine items = call (codes "c") items

-- ---- The table, and the script's names

abbrev n : ℕ → Cell
n k = is.Int (pos k)

abbrev m : ℕ → Cell
m k = is.Int (negsuc k)

abbrev head : List ℕ → ColType → ColumnHead
head q t = record { name = q; kind = t }

abbrev new : List ColumnHead → List (List Cell) → PlainTable
new heads rows = record { columns = heads; rows = rows; key = []; indices = []; slots = 1026 }

abbrev two_heads : List ColumnHead
two_heads = head (codes "a") ty.Int ∷ head (codes "b") ty.Lgl ∷ []

abbrev first_row : List Cell
first_row = n 5 ∷ is.Lgl true ∷ []

abbrev second_row : List Cell
second_row = is.Na ∷ is.Na ∷ []

abbrev third_row : List Cell
third_row = m 6 ∷ is.Lgl false ∷ []

abbrev d : PlainTable
d = new two_heads (first_row ∷ second_row ∷ third_row ∷ [])

abbrev vars : List ℕ → Option Var
vars q =
    cond (bytes_eq q (codes "D")) (Some (Table d))
    (cond (bytes_eq q (codes "x")) (Some (Vector (record { kind = ty.Int; cells = n 2 ∷ n 3 ∷ [] }))) None)

abbrev answer : Option Meaning → Option Meaning → Result Answer Fault
answer i j = bracket_answer (bracket i j) d vars

abbrev table : PlainTable → Result Answer Fault
table t = Ok (record { outcome = gives.Table t; warns = no_warns })

abbrev rows : List (List Cell) → Result Answer Fault
rows cells = table (new two_heads cells)

abbrev vector : ColType → List Cell → Result Answer Fault
vector t cells = Ok (record { outcome = gives.Vector (record { kind = t; cells = cells }); warns = no_warns })

-- ---- i

-- D[]
nothing : answer None None ≡ Ok (record { outcome = gives.Same; warns = no_warns })
nothing = refl

-- D[a > 0L | b]: NA is not TRUE
logical : answer (Some (two (two (name (codes "a")) (Arith Gt) (int (pos 0))) (Arith Or) (name (codes "b")))) None
    ≡ rows (first_row ∷ [])
logical = refl

-- D[!b], D[c(3L, 0L, 9L)], D[-1L]
negated : answer (Some (not_before (name (codes "b")))) None ≡ rows (third_row ∷ [])
negated = refl

places : answer (Some (combine (item (int (pos 3)) ∷ item (int (pos 0)) ∷ item (int (pos 9)) ∷ []))) None
    ≡ rows (third_row ∷ second_row ∷ [])
places = refl

left_out : answer (Some (minus (int (pos 1)))) None ≡ rows (second_row ∷ third_row ∷ [])
left_out = refl

-- D[c(-1L, 2L)], D[x == 2L]
mixed : answer (Some (combine (item (minus (int (pos 1))) ∷ item (int (pos 2)) ∷ []))) None ≡ Err (fault E13 [])
mixed = refl

other_length : answer (Some (two (name (codes "x")) (Arith Eq) (int (pos 2)))) None ≡ Err (length_fault 2 3)
other_length = refl

-- D[x], D[a], D[D], D[!D], D["t"], D[.N]
variable : answer (Some (name (codes "x"))) None ≡ rows (second_row ∷ third_row ∷ [])
variable = refl

no_variable : answer (Some (name (codes "a"))) None ≡ Err (fault E02 (codes "a"))
no_variable = refl

join : answer (Some (name (codes "D"))) None ≡ Err unbuilt
join = refl

anti_join : answer (Some (not_before (name (codes "D")))) None ≡ Err unbuilt
anti_join = refl

text_join : answer (Some (text (codes "t"))) None ≡ Err unbuilt
text_join = refl

last_row : answer (Some (name (codes ".N"))) None ≡ rows (third_row ∷ [])
last_row = refl

-- ---- j

-- D[, .(q = a %/% 2L, r = a %% -3L, .N)]
computed : answer None (Some (list_of (named (codes "q") (two (name (codes "a")) (Arith Div) (int (pos 2))) ∷ named
    (codes "r") (two (name (codes "a")) (Arith Mod) (minus (int (pos 3)))) ∷ item (name (codes ".N")) ∷ [])))
    ≡ table (record {
      columns = head (codes "q") ty.Int ∷ head (codes "r") ty.Int ∷ head (codes "N") ty.Int ∷ [];
      rows = (n 2 ∷ m 0 ∷ n 3 ∷ []) ∷ (is.Na ∷ is.Na ∷ n 3 ∷ []) ∷ (m 3 ∷ m 0 ∷ n 3 ∷ []) ∷ [];
      key = [];
      indices = [];
      slots = 1027;
    })
computed = refl

-- D[c(3L, 9L), a], D[c(3L, 9L), .I], D[, x]
chosen_column : answer (Some (combine (item (int (pos 3)) ∷ item (int (pos 9)) ∷ []))) (Some (name (codes "a")))
    ≡ vector ty.Int (m 6 ∷ is.Na ∷ [])
chosen_column = refl

row_numbers : answer (Some (combine (item (int (pos 3)) ∷ item (int (pos 9)) ∷ []))) (Some (name (codes ".I")))
    ≡ vector ty.Int (n 3 ∷ is.Na ∷ [])
row_numbers = refl

script_vector : answer None (Some (name (codes "x"))) ≡ vector ty.Int (n 2 ∷ n 3 ∷ [])
script_vector = refl

-- D[, c("b", "a")], D[, "z"], D[, c("a", "a")]
texts : answer None (Some (combine (item (text (codes "b")) ∷ item (text (codes "a")) ∷ [])))
    ≡ table (record {
      columns = head (codes "b") ty.Lgl ∷ head (codes "a") ty.Int ∷ [];
      rows = (is.Lgl true ∷ n 5 ∷ []) ∷ (is.Na ∷ is.Na ∷ []) ∷ (is.Lgl false ∷ m 6 ∷ []) ∷ [];
      key = [];
      indices = [];
      slots = 1026;
    })
texts = refl

unknown_text : answer None (Some (text (codes "z"))) ≡ Err (fault E03 (codes "z"))
unknown_text = refl

repeated_text : answer None (Some (combine (item (text (codes "a")) ∷ item (text (codes "a")) ∷ [])))
    ≡ Err (fault E12 (codes "a"))
repeated_text = refl

-- D[, .()], D[, .(a, x)]
no_items : answer None (Some (list_of [])) ≡ Err (fault E19 (codes "."))
no_items = refl

unequal_items : answer None (Some (list_of (item (name (codes "a")) ∷ item (name (codes "x")) ∷ [])))
    ≡ Err (length_fault 2 3)
unequal_items = refl

-- ---- The order of faults

-- D[c(-1L, 2L), z]: i's value comes before j
i_first : answer (Some (combine (item (minus (int (pos 1))) ∷ item (int (pos 2)) ∷ []))) (Some (name (codes "z")))
    ≡ Err (fault E13 [])
i_first = refl

-- D[, .(9223372036854775807L + 1L, z)]: all types come before all values
types_first : answer None (Some (list_of (item (two (int (pos 9223372036854775807)) (Arith Add) (int (pos 1))) ∷ item
    (name (codes "z")) ∷ []))) ≡ Err (fault E03 (codes "z"))
types_first = refl

values_then : answer None (Some (list_of (item (two (int (pos 9223372036854775807)) (Arith Add) (int (pos 1))) ∷ item
    (name (codes "a")) ∷ []))) ≡ Err (fault E06 (codes "+"))
values_then = refl

-- ---- What is served: not .SD in a bracket, nor a list as i

row_table : bracket_served (bracket None (Some (name (codes ".SD")))) ≡ false
row_table = refl

list_as_i : bracket_served (bracket (Some (list_of (item (int (pos 1)) ∷ []))) None) ≡ false
list_as_i = refl

list_as_j : bracket_served (bracket None (Some (list_of (item (int (pos 1)) ∷ [])))) ≡ true
list_as_j = refl
