-- Examples of what a bracket is asked by its arguments, each computed.
use Rattle.std.proofs.Common.{◌≡◌, ℕ, ℤ, pos, Bool, true, false, List, [], ◌∷◌, Option, None, Some, Result, Ok, Err}
use Rattle.std.proofs.Common.{refl, codes}
use Rattle.dt_base.specs.declared.cell.Cell.{Cell}
use Rattle.dt_base.specs.declared.cell.Cell.TheVariants as is
use Rattle.dt_base.specs.declared.cell.ColType.{ColType}
use Rattle.dt_base.specs.declared.cell.ColType.TheVariants as ty
use Rattle.dt_base.specs.declared.fault.Fault.{Fault}
use Rattle.dt_base.specs.declared.joins.Cmp.TheVariants as cmp
use Rattle.dt_base.specs.declared.joins.NoMatch.TheVariants as no_match
use Rattle.dt_base.specs.declared.joins.Roll.TheVariants as roll
use Rattle.dt_base.specs.declared.operators.Op.TheVariants as op
use Rattle.dt_tree.specs.declared.tree.BinOp.{BinOp}
use Rattle.dt_tree.specs.declared.tree.BinOp.TheVariants.{Arith}
use Rattle.dt_tree.specs.declared.tree.Expr.TheOpen.{Expr-F}
use Rattle.vector_model.specs.Then.{then_do}
use Rattle.session_model.specs.Asked.{Asked, ByText, ByList, asked, bad, first_barred, first_wanting, nothing_asked}
use Rattle.session_model.specs.Meaning.{expr_step}
use Rattle.session_model.specs.Meanings.{Meaning, ArgMeaning, TailMeaning, SecondMeaning, Computes, BracketMeaning}

abbrev Lit : Cell → ColType → Meaning
Lit cell kind = expr_step (Expr-F.Lit cell kind)

abbrev Null : Meaning
Null = expr_step Expr-F.Null

abbrev Infinite : Meaning
Infinite = expr_step Expr-F.Infinite

abbrev Name : List ℕ → Meaning
Name name = expr_step (Expr-F.Name name)

abbrev Paren : Meaning → Meaning
Paren e = expr_step (Expr-F.Paren e)

abbrev Minus : Meaning → Meaning
Minus e = expr_step (Expr-F.Minus e)

abbrev Chain : Meaning → List TailMeaning → Meaning
Chain first rest = expr_step (Expr-F.Chain first rest)

abbrev Call : List ℕ → List ArgMeaning → Meaning
Call name args = expr_step (Expr-F.Call name args)

abbrev int : ℤ → Meaning
int n = Lit (is.Int n) ty.Int

abbrev text : List ℕ → Meaning
text t = Lit (is.Text t) ty.Chr

abbrev lgl : Bool → Meaning
lgl b = Lit (is.Lgl b) ty.Lgl

abbrev na : Meaning
na = Lit is.Na ty.Lgl

abbrev tail : BinOp → Meaning → TailMeaning
tail o e = record { op = o; means = e }

abbrev unnamed : Meaning → ArgMeaning
unnamed e = record { name = None; means = e }

abbrev named : List ℕ → Meaning → ArgMeaning
named w e = record { name = Some w; means = e }

abbrev bracket : Option Meaning → Option SecondMeaning → Option Meaning → List ArgMeaning → BracketMeaning
bracket i j by args = record { first = i; second = j; third = by; args = args }

abbrev passes : Result Asked Fault → Bool
passes (Ok q) = true
passes (Err f) = false

-- the first word that wants a join
abbrev wanting : Result Asked Fault → Result (Option (List ℕ)) Fault
wanting r = then_do r (λ q. Ok (first_wanting q))

-- D[, .N, keyby = b, by = a]
row_1 : asked (bracket None (Some (Computes (Name (codes ".N")))) None
    (named (codes "keyby") (Name (codes "b")) ∷ named (codes "by") (Name (codes "a")) ∷ [])) ≡ bad (codes "keyby")
row_1 = refl

-- D[, .N, by = b, keyby = a]
row_2 : asked (bracket None (Some (Computes (Name (codes ".N")))) None
    (named (codes "by") (Name (codes "b")) ∷ named (codes "keyby") (Name (codes "a")) ∷ [])) ≡ bad (codes "keyby")
row_2 = refl

-- D[, .N, a, keyby = b]
row_3 : asked (bracket None (Some (Computes (Name (codes ".N")))) (Some (Name (codes "a")))
    (named (codes "keyby") (Name (codes "b")) ∷ [])) ≡ bad (codes "keyby")
row_3 = refl

-- D[, .N, a, by = b]
row_4 : asked (bracket None (Some (Computes (Name (codes ".N")))) (Some (Name (codes "a")))
    (named (codes "by") (Name (codes "b")) ∷ [])) ≡ bad (codes "by")
row_4 = refl

-- D[, .N, by = a, by = b]
row_5 : asked (bracket None (Some (Computes (Name (codes ".N")))) None
    (named (codes "by") (Name (codes "a")) ∷ named (codes "by") (Name (codes "b")) ∷ [])) ≡ bad (codes "by")
row_5 = refl

-- D[, .N, keyby = 3L, by = 4L]
row_6 : asked (bracket None (Some (Computes (Name (codes ".N")))) None
    (named (codes "keyby") (int (pos 3)) ∷ named (codes "by") (int (pos 4)) ∷ [])) ≡ bad (codes "keyby")
row_6 = refl

-- D[, .N, keyby = b, foo = 1L, by = a]
row_7 : asked (bracket None (Some (Computes (Name (codes ".N")))) None
    (named (codes "keyby") (Name (codes "b")) ∷ named (codes "foo") (int (pos 1)) ∷ named (codes "by")
    (Name (codes "a")) ∷ [])) ≡ bad (codes "keyby")
row_7 = refl

-- D[, .N, foo = 1L, by = 3L]
row_8 : asked (bracket None (Some (Computes (Name (codes ".N")))) None
    (named (codes "foo") (int (pos 1)) ∷ named (codes "by") (int (pos 3)) ∷ [])) ≡ bad (codes "foo")
row_8 = refl

-- D[1L, by = a]
row_9 : asked (bracket (Some (int (pos 1))) None None (named (codes "by") (Name (codes "a")) ∷ [])) ≡ bad (codes "by")
row_9 = refl

-- D[1L, keyby = a]
row_10 : asked (bracket (Some (int (pos 1))) None None (named (codes "keyby") (Name (codes "a")) ∷ []))
    ≡ bad (codes "keyby")
row_10 = refl

-- D[1L, , a]
row_11 : asked (bracket (Some (int (pos 1))) None (Some (Name (codes "a"))) ([])) ≡ bad (codes "by")
row_11 = refl

-- D[, , a]
row_12 : asked (bracket None None (Some (Name (codes "a"))) ([])) ≡ bad (codes "by")
row_12 = refl

-- D[nosuch, .N, rollends = TRUE]
row_13 : asked (bracket (Some (Name (codes "nosuch"))) (Some (Computes (Name (codes ".N")))) None
    (named (codes "rollends") (lgl true) ∷ [])) ≡ bad (codes "rollends")
row_13 = refl

-- D[nosuch, .N, rollends = TRUE, roll = 3L > 2L]
row_14 : asked (bracket (Some (Name (codes "nosuch"))) (Some (Computes (Name (codes ".N")))) None
    (named (codes "rollends") (lgl true) ∷ named (codes "roll")
    (Chain (int (pos 3)) (tail (Arith op.Gt) (int (pos 2)) ∷ [])) ∷ [])) ≡ bad (codes "roll")
row_14 = refl

-- D[nosuch, .N, rollends = 5L, roll = 3L > 2L]
row_15 : asked (bracket (Some (Name (codes "nosuch"))) (Some (Computes (Name (codes ".N")))) None
    (named (codes "rollends") (int (pos 5)) ∷ named (codes "roll")
    (Chain (int (pos 3)) (tail (Arith op.Gt) (int (pos 2)) ∷ [])) ∷ [])) ≡ bad (codes "rollends")
row_15 = refl

-- D[nosuch, .N, keyby = .EACHI]
row_16 : asked (bracket (Some (Name (codes "nosuch"))) (Some (Computes (Name (codes ".N")))) None
    (named (codes "keyby") (Name (codes ".EACHI")) ∷ [])) ≡ bad (codes "keyby")
row_16 = refl

-- D[nosuch, .N, by = .EACHI]
row_17 : passes (asked (bracket (Some (Name (codes "nosuch"))) (Some (Computes (Name (codes ".N")))) None
    (named (codes "by") (Name (codes ".EACHI")) ∷ []))) ≡ true
row_17 = refl

-- D[1L, .N, by = .EACHI]
row_18 : wanting (asked (bracket (Some (int (pos 1))) (Some (Computes (Name (codes ".N")))) None
    (named (codes "by") (Name (codes ".EACHI")) ∷ []))) ≡ Ok (Some (codes "by"))
row_18 = refl

-- D[1L, .N, .EACHI]
row_19 : wanting (asked (bracket (Some (int (pos 1))) (Some (Computes (Name (codes ".N"))))
    (Some (Name (codes ".EACHI"))) ([]))) ≡ Ok (Some (codes "by"))
row_19 = refl

-- D[1L, .N, .EACHI, on = "a"]
row_20 : wanting (asked (bracket (Some (int (pos 1))) (Some (Computes (Name (codes ".N"))))
    (Some (Name (codes ".EACHI"))) (named (codes "on") (text (codes "a")) ∷ []))) ≡ Ok (Some (codes "by"))
row_20 = refl

-- D[1L, .N, on = "a", by = .EACHI]
row_21 : wanting (asked (bracket (Some (int (pos 1))) (Some (Computes (Name (codes ".N")))) None
    (named (codes "on") (text (codes "a")) ∷ named (codes "by") (Name (codes ".EACHI")) ∷ []))) ≡ Ok (Some (codes "on"))
row_21 = refl

-- D[, .N, by = "a"]
row_22 : passes (asked (bracket None (Some (Computes (Name (codes ".N")))) None
    (named (codes "by") (text (codes "a")) ∷ []))) ≡ true
row_22 = refl

-- D[, .N, by = c("a", "b")]
row_23 : passes (asked (bracket None (Some (Computes (Name (codes ".N")))) None
    (named (codes "by") (Call (codes "c") (unnamed (text (codes "a")) ∷ unnamed (text (codes "b")) ∷ [])) ∷ []))) ≡ true
row_23 = refl

-- D[, .N, by = c(q = "a")]
row_24 : asked (bracket None (Some (Computes (Name (codes ".N")))) None
    (named (codes "by") (Call (codes "c") (named (codes "q") (text (codes "a")) ∷ [])) ∷ [])) ≡ bad (codes "by")
row_24 = refl

-- D[, .N, by = c("a", a)]
row_25 : asked (bracket None (Some (Computes (Name (codes ".N")))) None
    (named (codes "by") (Call (codes "c") (unnamed (text (codes "a")) ∷ unnamed (Name (codes "a")) ∷ [])) ∷ []))
    ≡ bad (codes "by")
row_25 = refl

-- D[, .N, by = .()]
row_26 : asked (bracket None (Some (Computes (Name (codes ".N")))) None
    (named (codes "by") (Call (codes ".") ([])) ∷ [])) ≡ bad (codes ".")
row_26 = refl

-- D[, .N, keyby = list()]
row_27 : asked (bracket None (Some (Computes (Name (codes ".N")))) None
    (named (codes "keyby") (Call (codes "list") ([])) ∷ [])) ≡ bad (codes "list")
row_27 = refl

-- D[, .N, by = J(a)]
row_28 : asked (bracket None (Some (Computes (Name (codes ".N")))) None
    (named (codes "by") (Call (codes "J") (unnamed (Name (codes "a")) ∷ [])) ∷ [])) ≡ bad (codes "by")
row_28 = refl

-- D[, .N, by = 3L]
row_29 : asked (bracket None (Some (Computes (Name (codes ".N")))) None (named (codes "by") (int (pos 3)) ∷ []))
    ≡ bad (codes "by")
row_29 = refl

-- D[, .N, by = a > 1L]
row_30 : asked (bracket None (Some (Computes (Name (codes ".N")))) None
    (named (codes "by") (Chain (Name (codes "a")) (tail (Arith op.Gt) (int (pos 1)) ∷ [])) ∷ [])) ≡ bad (codes "by")
row_30 = refl

-- D[, .N, by = (a)]
row_31 : asked (bracket None (Some (Computes (Name (codes ".N")))) None
    (named (codes "by") (Paren (Name (codes "a"))) ∷ [])) ≡ bad (codes "by")
row_31 = refl

-- D[, .N, by = NULL]
row_32 : asked (bracket None (Some (Computes (Name (codes ".N")))) None (named (codes "by") Null ∷ []))
    ≡ bad (codes "by")
row_32 = refl

-- D[, .N, by = NA]
row_33 : asked (bracket None (Some (Computes (Name (codes ".N")))) None (named (codes "by") na ∷ [])) ≡ bad (codes "by")
row_33 = refl

-- D[, .N, by = Inf]
row_34 : asked (bracket None (Some (Computes (Name (codes ".N")))) None (named (codes "by") Infinite ∷ []))
    ≡ bad (codes "by")
row_34 = refl

-- D[, .N, by = ""]
row_35 : passes (asked (bracket None (Some (Computes (Name (codes ".N")))) None (named (codes "by") (text []) ∷ [])))
    ≡ true
row_35 = refl

-- D[, .N, by = c(".EACHI")]
row_36 : passes (asked (bracket None (Some (Computes (Name (codes ".N")))) None
    (named (codes "by") (Call (codes "c") (unnamed (text (codes ".EACHI")) ∷ [])) ∷ []))) ≡ true
row_36 = refl

-- D[, .N, by = .(.EACHI)]
row_37 : passes (asked (bracket None (Some (Computes (Name (codes ".N")))) None
    (named (codes "by") (Call (codes ".") (unnamed (Name (codes ".EACHI")) ∷ [])) ∷ []))) ≡ true
row_37 = refl

-- D[, .N, .SDcols = "a", .SDcols = "b"]
row_38 : asked (bracket None (Some (Computes (Name (codes ".N")))) None
    (named (codes ".SDcols") (text (codes "a")) ∷ named (codes ".SDcols") (text (codes "b")) ∷ []))
    ≡ bad (codes ".SDcols")
row_38 = refl

-- D[, .N, on = NULL]
row_39 : asked (bracket None (Some (Computes (Name (codes ".N")))) None (named (codes "on") Null ∷ []))
    ≡ bad (codes "on")
row_39 = refl

-- D[nosuch, on = a]
row_40 : asked (bracket (Some (Name (codes "nosuch"))) None None (named (codes "on") (Name (codes "a")) ∷ []))
    ≡ bad (codes "on")
row_40 = refl

-- D[nosuch, on = ("a")]
row_41 : asked (bracket (Some (Name (codes "nosuch"))) None None (named (codes "on") (Paren (text (codes "a"))) ∷ []))
    ≡ bad (codes "on")
row_41 = refl

-- D[nosuch, on = c(a = b)]
row_42 : asked (bracket (Some (Name (codes "nosuch"))) None None
    (named (codes "on") (Call (codes "c") (named (codes "a") (Name (codes "b")) ∷ [])) ∷ [])) ≡ bad (codes "on")
row_42 = refl

-- D[nosuch, on = .(a = "b")]
row_43 : asked (bracket (Some (Name (codes "nosuch"))) None None
    (named (codes "on") (Call (codes ".") (named (codes "a") (text (codes "b")) ∷ [])) ∷ [])) ≡ bad (codes "on")
row_43 = refl

-- D[nosuch, on = .(q = a >= b)]
row_44 : asked (bracket (Some (Name (codes "nosuch"))) None None
    (named (codes "on") (Call (codes ".") (named (codes "q")
    (Chain (Name (codes "a")) (tail (Arith op.Ge) (Name (codes "b")) ∷ [])) ∷ [])) ∷ [])) ≡ bad (codes "on")
row_44 = refl

-- D[nosuch, on = .((a) == b)]
row_45 : asked (bracket (Some (Name (codes "nosuch"))) None None
    (named (codes "on") (Call (codes ".") (unnamed (Chain (Paren (Name (codes "a")))
    (tail (Arith op.Eq) (Name (codes "b")) ∷ [])) ∷ [])) ∷ [])) ≡ bad (codes "on")
row_45 = refl

-- D[nosuch, on = .(a != b)]
row_46 : asked (bracket (Some (Name (codes "nosuch"))) None None
    (named (codes "on") (Call (codes ".") (unnamed (Chain (Name (codes "a"))
    (tail (Arith op.Ne) (Name (codes "b")) ∷ [])) ∷ [])) ∷ [])) ≡ bad (codes "on")
row_46 = refl

-- D[nosuch, on = J(a)]
row_47 : asked (bracket (Some (Name (codes "nosuch"))) None None
    (named (codes "on") (Call (codes "J") (unnamed (Name (codes "a")) ∷ [])) ∷ [])) ≡ bad (codes "on")
row_47 = refl

-- D[nosuch, on = .()]
row_48 : asked (bracket (Some (Name (codes "nosuch"))) None None (named (codes "on") (Call (codes ".") ([])) ∷ []))
    ≡ bad (codes ".")
row_48 = refl

-- D[nosuch, on = list()]
row_49 : asked (bracket (Some (Name (codes "nosuch"))) None None (named (codes "on") (Call (codes "list") ([])) ∷ []))
    ≡ bad (codes "list")
row_49 = refl

-- D[nosuch, on = c()]
row_50 : asked (bracket (Some (Name (codes "nosuch"))) None None (named (codes "on") (Call (codes "c") ([])) ∷ []))
    ≡ bad (codes "on")
row_50 = refl

-- D[nosuch, mult = "ALL"]
row_51 : asked (bracket (Some (Name (codes "nosuch"))) None None (named (codes "mult") (text (codes "ALL")) ∷ []))
    ≡ bad (codes "mult")
row_51 = refl

-- D[nosuch, mult = NA]
row_52 : asked (bracket (Some (Name (codes "nosuch"))) None None (named (codes "mult") na ∷ [])) ≡ bad (codes "mult")
row_52 = refl

-- D[nosuch, nomatch = NA_integer_]
row_53 : asked (bracket (Some (Name (codes "nosuch"))) None None (named (codes "nomatch") (Lit is.Na ty.Int) ∷ []))
    ≡ bad (codes "nomatch")
row_53 = refl

-- D[nosuch, nomatch = -0L]
row_54 : asked (bracket (Some (Name (codes "nosuch"))) None None (named (codes "nomatch") (Minus (int (pos 0))) ∷ []))
    ≡ bad (codes "nomatch")
row_54 = refl

-- D[nosuch, nomatch = 0]
row_55 : passes (asked (bracket (Some (Name (codes "nosuch"))) None None
    (named (codes "nomatch") (int (pos 0)) ∷ []))) ≡ true
row_55 = refl

-- D[nosuch, nomatch = 1L]
row_56 : asked (bracket (Some (Name (codes "nosuch"))) None None (named (codes "nomatch") (int (pos 1)) ∷ []))
    ≡ bad (codes "nomatch")
row_56 = refl

-- D[nosuch, nomatch = FALSE]
row_57 : asked (bracket (Some (Name (codes "nosuch"))) None None (named (codes "nomatch") (lgl false) ∷ []))
    ≡ bad (codes "nomatch")
row_57 = refl

-- D[nosuch, roll = NA]
row_58 : asked (bracket (Some (Name (codes "nosuch"))) None None (named (codes "roll") na ∷ [])) ≡ bad (codes "roll")
row_58 = refl

-- D[nosuch, roll = (1L)]
row_59 : asked (bracket (Some (Name (codes "nosuch"))) None None (named (codes "roll") (Paren (int (pos 1))) ∷ []))
    ≡ bad (codes "roll")
row_59 = refl

-- D[nosuch, roll = -TRUE]
row_60 : asked (bracket (Some (Name (codes "nosuch"))) None None (named (codes "roll") (Minus (lgl true)) ∷ []))
    ≡ bad (codes "roll")
row_60 = refl

-- D[nosuch, roll = "foo"]
row_61 : asked (bracket (Some (Name (codes "nosuch"))) None None (named (codes "roll") (text (codes "foo")) ∷ []))
    ≡ bad (codes "roll")
row_61 = refl

-- D[nosuch, roll = NULL]
row_62 : asked (bracket (Some (Name (codes "nosuch"))) None None (named (codes "roll") Null ∷ [])) ≡ bad (codes "roll")
row_62 = refl

-- D[nosuch, roll = -Inf]
row_63 : passes (asked (bracket (Some (Name (codes "nosuch"))) None None
    (named (codes "roll") (Minus Infinite) ∷ []))) ≡ true
row_63 = refl

-- D[nosuch, roll = TRUE, rollends = c(TRUE)]
row_64 : asked (bracket (Some (Name (codes "nosuch"))) None None
    (named (codes "roll") (lgl true) ∷ named (codes "rollends") (Call (codes "c") (unnamed (lgl true) ∷ [])) ∷ []))
    ≡ bad (codes "rollends")
row_64 = refl

-- D[nosuch, roll = TRUE, rollends = c(TRUE, NA)]
row_65 : asked (bracket (Some (Name (codes "nosuch"))) None None
    (named (codes "roll") (lgl true) ∷ named (codes "rollends")
    (Call (codes "c") (unnamed (lgl true) ∷ unnamed na ∷ [])) ∷ [])) ≡ bad (codes "rollends")
row_65 = refl

-- D[nosuch, roll = TRUE, rollends = c(TRUE, FALSE, TRUE)]
row_66 : asked (bracket (Some (Name (codes "nosuch"))) None None
    (named (codes "roll") (lgl true) ∷ named (codes "rollends")
    (Call (codes "c") (unnamed (lgl true) ∷ unnamed (lgl false) ∷ unnamed (lgl true) ∷ [])) ∷ []))
    ≡ bad (codes "rollends")
row_66 = refl

-- D[nosuch, allow.cartesian = 1L]
row_67 : asked (bracket (Some (Name (codes "nosuch"))) None None (named (codes "allow.cartesian") (int (pos 1)) ∷ []))
    ≡ bad (codes "allow.cartesian")
row_67 = refl

-- D[nosuch, allow.cartesian = NA]
row_68 : asked (bracket (Some (Name (codes "nosuch"))) None None (named (codes "allow.cartesian") na ∷ []))
    ≡ bad (codes "allow.cartesian")
row_68 = refl

-- D[1L, mult = "all", on = "a"]
row_69 : wanting (asked (bracket (Some (int (pos 1))) None None
    (named (codes "mult") (text (codes "all")) ∷ named (codes "on") (text (codes "a")) ∷ [])))
    ≡ Ok (Some (codes "mult"))
row_69 = refl

-- D[1L, roll = FALSE]
row_70 : wanting (asked (bracket (Some (int (pos 1))) None None (named (codes "roll") (lgl false) ∷ [])))
    ≡ Ok (Some (codes "roll"))
row_70 = refl

-- D[mult = "all"]
row_71 : wanting (asked (bracket None None None (named (codes "mult") (text (codes "all")) ∷ [])))
    ≡ Ok (Some (codes "mult"))
row_71 = refl

-- D[nosuch, .SDcols = nosuch2]
row_72 : passes (asked (bracket (Some (Name (codes "nosuch"))) None None
    (named (codes ".SDcols") (Name (codes "nosuch2")) ∷ []))) ≡ true
row_72 = refl

-- ---- What is asked

-- D[, .N, by = c("a", "b")]
two_texts : asked (bracket None (Some (Computes (Name (codes ".N")))) None
    (named (codes "by") (Call (codes "c") (unnamed (text (codes "a")) ∷ unnamed (text (codes "b")) ∷ [])) ∷ []))
    ≡ Ok (record nothing_asked { by = ByList (ByText (codes "a") ∷ ByText (codes "b") ∷ []); words = codes "by" ∷ [] })
two_texts = refl

-- D[Y, on = .(a, x = b, c >= d), roll = -3L, rollends = c(TRUE, FALSE), nomatch = NULL]
all_of_a_join : asked (bracket (Some (Name (codes "Y"))) None None
    (named (codes "on") (Call (codes ".") (unnamed (Name (codes "a")) ∷ named (codes "x") (Name (codes "b")) ∷ unnamed
    (Chain (Name (codes "c")) (tail (Arith op.Ge) (Name (codes "d")) ∷ [])) ∷ [])) ∷ named (codes "roll")
    (Minus (int (pos 3))) ∷ named (codes "rollends") (Call (codes "c")
    (unnamed (lgl true) ∷ unnamed (lgl false) ∷ [])) ∷ named (codes "nomatch") Null ∷ []))
    ≡ Ok (record nothing_asked {
      on = Some (record { x = codes "a"; y = codes "a"; cmp = cmp.Eq } ∷ record
          { x = codes "x"; y = codes "b"; cmp = cmp.Eq } ∷ record { x = codes "c"; y = codes "d"; cmp = cmp.Ge } ∷ []);
      roll = Some (roll.Backward (Some 3));
      ends = Some (true, false);
      nomatch = no_match.Skip;
      words = codes "on" ∷ codes "roll" ∷ codes "rollends" ∷ codes "nomatch" ∷ [];
    })
all_of_a_join = refl

-- D[Y, .N, on = "a", by = .EACHI]: both want a join, and by alone is barred behind `!`
abbrev each_row : Result Asked Fault
each_row = asked (bracket (Some (Name (codes "Y"))) (Some (Computes (Name (codes ".N")))) None
    (named (codes "on") (text (codes "a")) ∷ named (codes "by") (Name (codes ".EACHI")) ∷ []))

each_row_wants : wanting each_row ≡ Ok (Some (codes "on"))
each_row_wants = refl

each_row_barred : then_do each_row (λ q. Ok (first_barred q)) ≡ Ok (Some (codes "by"))
each_row_barred = refl
