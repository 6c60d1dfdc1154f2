-- Worked scripts: what the machine parses, where it stops, and which assignments stand wrong.
use Rattle.std.proofs.Common.{◌≡◌, List, [], ◌∷◌, ◌++◌, Some, None, codes, refl}
use Rattle.dt_base.specs.declared.operators.Op.TheVariants.{Add, Sub, Mul, Eq}
use Rattle.dt_tree.specs.declared.tree.BinOp.TheVariants.{Arith, Range}
use Rattle.run_model.specs.GrammarTrees.{Word, Null, Not, Negate, Token, Name, Literal, Operator, Bang, Tilde, Assign}
use Rattle.run_model.specs.GrammarTrees.{Arrow, Is, Open, Shut, OpenSquare, ShutSquare, Comma, Break, Tree, Lit, Var}
use Rattle.run_model.specs.GrammarTrees.{Paren, Unary, Chain, Call, Query, Formula, NoTails, MoreTails, NoArgs}
use Rattle.run_model.specs.GrammarTrees.{MoreArgs, Absent, Given, Assigns, AssignsAll, Brackets, NoBrackets}
use Rattle.run_model.specs.GrammarTrees.{MoreBrackets, Stmt}
use Rattle.dt_grammar.specs.Machine.{run, init, parsed}
use Rattle.run_model.specs.Misplaced.{misplaced}

abbrev a : Word
a = codes "a"

abbrev b : Word
b = codes "b"

abbrev d : Word
d = codes "D"

abbrev null : Token
null = Literal Null

abbrev n : Tree
n = Lit Null

abbrev alone : Tree → List Stmt
alone t = record { line = 1; target = None; expr = t } ∷ []

-- one operator with its right side
abbrev then_op : Tree → Rattle.dt_tree.specs.declared.tree.BinOp.BinOp → Tree → Tree
then_op l op r = Chain l (MoreTails NoTails op r)

-- a + NULL * NULL: the product binds more tightly
sum_of_product : parsed (Name a ∷ Operator (Arith Add) ∷ null ∷ Operator (Arith Mul) ∷ null ∷ [])
    ≡ Some (alone (then_op (Var a) (Arith Add) (then_op n (Arith Mul) n)))
sum_of_product = refl

-- a - NULL - b is one chain, from the left
from_the_left : parsed (Name a ∷ Operator (Arith Sub) ∷ null ∷ Operator (Arith Sub) ∷ Name b ∷ [])
    ≡ Some (alone (Chain (Var a) (MoreTails (MoreTails NoTails (Arith Sub) n) (Arith Sub) (Var b))))
from_the_left = refl

-- !a == b: "!" binds less tightly than "=="
not_of_comparison : parsed (Bang ∷ Name a ∷ Operator (Arith Eq) ∷ Name b ∷ [])
    ≡ Some (alone (Unary Not (then_op (Var a) (Arith Eq) (Var b))))
not_of_comparison = refl

-- -a[]: "-" binds less tightly than a bracket; and -a:b: more tightly than ":"
minus_of_query : parsed (Operator (Arith Sub) ∷ Name a ∷ OpenSquare ∷ ShutSquare ∷ [])
    ≡ Some (alone (Unary Negate (Query (Var a) (MoreBrackets NoBrackets Absent Absent Absent NoArgs))))
minus_of_query = refl

range_of_minus : parsed (Operator (Arith Sub) ∷ Name a ∷ Operator Range ∷ Name b ∷ [])
    ≡ Some (alone (then_op (Unary Negate (Var a)) Range (Var b)))
range_of_minus = refl

-- a == b == is refused at the second "==", and so is a:b:
one_comparison : run init (Name a ∷ Operator (Arith Eq) ∷ Name b ∷ Operator (Arith Eq) ∷ []) ≡ None
one_comparison = refl

one_range : run init (Name a ∷ Operator Range ∷ Name b ∷ Operator Range ∷ []) ≡ None
one_range = refl

-- !!a is refused at the second "!"
one_not : run init (Bang ∷ Bang ∷ []) ≡ None
one_not = refl

-- x <- a, line feed, y = b; and the second statement stands on line 2
two_statements : parsed (Name a ∷ Arrow ∷ null ∷ Break 2 ∷ Name b ∷ Is ∷ Name a ∷ [])
    ≡ Some (record { line = 1; target = Some a; expr = n } ∷ record { line = 2; target = Some b; expr = Var a } ∷ [])
two_statements = refl

-- empty statements are none
no_statement : parsed (Break 2 ∷ Break 2 ∷ Break 3 ∷ []) ≡ Some []
no_statement = refl

-- dcast(D, a + b ~ a)
formula : parsed (Name d ∷ Open ∷ Name d ∷ Comma ∷ Name a ∷ Operator (Arith Add) ∷ Name b ∷ Tilde ∷ Name a ∷ Shut ∷ [])
    ≡ Some (alone (Call d (MoreArgs (MoreArgs NoArgs None (Var d)) None (Formula (a ∷ b ∷ []) (a ∷ [])))))
formula = refl

-- a ~ stands in a call alone, and behind a sum of names alone
no_formula : run init (Name a ∷ Tilde ∷ []) ≡ None
no_formula = refl

no_names : run init (Name d ∷ Open ∷ null ∷ Tilde ∷ []) ≡ None
no_names = refl

-- D[a, b, a, b]: the fourth item may still become `b =`, and is refused at the "]"
fourth_item : run init (Name d ∷ OpenSquare ∷ Name a ∷ Comma ∷ Name b ∷ Comma ∷ Name a ∷ Comma ∷ Name b
    ∷ ShutSquare ∷ []) ≡ None
fourth_item = refl

-- D[,,,]: a fourth empty item is refused at the "]"
fourth_empty : run init (Name d ∷ OpenSquare ∷ Comma ∷ Comma ∷ Comma ∷ ShutSquare ∷ []) ≡ None
fourth_empty = refl

-- D[a = NULL, b]: behind an item with a name one without is refused at the "]"
unnamed_behind_named : run init (Name d ∷ OpenSquare ∷ Name a ∷ Is ∷ null ∷ Comma ∷ Name b ∷ ShutSquare ∷ []) ≡ None
unnamed_behind_named = refl

-- D[a := b]: ":=" stands as j alone
assigned_i : run init (Name d ∷ OpenSquare ∷ Name a ∷ Assign ∷ []) ≡ None
assigned_i = refl

-- D[, a := b]
abbrev assigned_tokens : List Token
assigned_tokens = Name d ∷ OpenSquare ∷ Comma ∷ Name a ∷ Assign ∷ Name b ∷ ShutSquare ∷ []

abbrev assigned_brackets : Brackets
assigned_brackets = MoreBrackets NoBrackets Absent (Assigns (Var a) (Var b)) Absent NoArgs

assigned : parsed assigned_tokens ≡ Some (alone (Query (Var d) assigned_brackets))
assigned = refl

assigned_right : misplaced assigned_tokens (alone (Query (Var d) assigned_brackets)) ≡ None
assigned_right = refl

-- D[, a := b][]: an empty bracket may follow; and so may [,], whose items are all empty
empty_follows : misplaced (assigned_tokens ++ OpenSquare ∷ Comma ∷ ShutSquare ∷ [])
    (alone (Query (Var d) (MoreBrackets assigned_brackets Absent Absent Absent NoArgs))) ≡ None
empty_follows = refl

-- D[, a := b][a]: the second "[" stands wrong, which is token 7
bracket_follows : misplaced (assigned_tokens ++ OpenSquare ∷ Name a ∷ ShutSquare ∷ [])
    (alone (Query (Var d) (MoreBrackets assigned_brackets (Given (Var a)) Absent Absent NoArgs))) ≡ Some 7
bracket_follows = refl

-- D[, a := b][][]: the third "[" stands wrong
third_bracket : misplaced (assigned_tokens ++ OpenSquare ∷ ShutSquare ∷ OpenSquare ∷ ShutSquare ∷ [])
    (alone (Query (Var d) (MoreBrackets (MoreBrackets assigned_brackets Absent Absent Absent NoArgs) Absent Absent
    Absent NoArgs))) ≡ Some 9
third_bracket = refl

-- (D[, a := b]): the ":=" stands wrong
in_parentheses : misplaced (Open ∷ assigned_tokens ++ Shut ∷ [])
    (alone (Paren (Query (Var d) assigned_brackets))) ≡ Some 5
in_parentheses = refl

-- D[, `:=`(a = NULL)] is an assignment; `:=`() has no argument, and stands wrong
call_assigns : parsed (Name d ∷ OpenSquare ∷ Comma ∷ Name (codes ":=") ∷ Open ∷ Name a ∷ Is ∷ null ∷ Shut ∷ ShutSquare
    ∷ []) ≡ Some (alone (Query (Var d) (MoreBrackets NoBrackets Absent (AssignsAll (MoreArgs NoArgs (Some a) n))
    Absent NoArgs)))
call_assigns = refl

call_without_arguments : misplaced (Name d ∷ OpenSquare ∷ Comma ∷ Name (codes ":=") ∷ Open ∷ Shut ∷ ShutSquare ∷ [])
    (alone (Query (Var d) (MoreBrackets NoBrackets Absent (AssignsAll NoArgs) Absent NoArgs))) ≡ Some 3
call_without_arguments = refl

-- the call of `:=` elsewhere stands wrong
call_elsewhere : misplaced (Name (codes ":=") ∷ Open ∷ Name a ∷ Is ∷ null ∷ Shut ∷ [])
    (alone (Call (codes ":=") (MoreArgs NoArgs (Some a) n))) ≡ Some 0
call_elsewhere = refl
