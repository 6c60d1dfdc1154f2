-- Which token of the grammar a token of a script is.
--   value_of w        the literal that a word is: TRUE, FALSE and NA are Lgl, NULL and Inf have no type
--   symbol s          the symbol s in the grammar
--   plain_token t     the token t in the grammar: an integer is Int, a text is Chr
--   plain_tokens us   the tokens of a script without their places
use Rattle.std.specs.Prelude.{ℕ, true, false, List, map}
use Rattle.dt_base.specs.declared.cell.Cell.TheVariants as cell
use Rattle.dt_base.specs.declared.cell.ColType.TheVariants as ty
use Rattle.dt_base.specs.declared.operators.Op.TheVariants.{Add, Sub, Mul, Div, Mod, Eq, Ne, Lt, Le, Gt, Ge, And, Or}
use Rattle.dt_tree.specs.declared.tree.BinOp.TheVariants.{Arith, In, Range}
use Rattle.dt_tree.specs.declared.token.Literal as literal_type
use Rattle.dt_tree.specs.declared.token.Literal.TheVariants as literal
use Rattle.dt_tree.specs.declared.token.Sign as sign_type
use Rattle.dt_tree.specs.declared.token.Sign.TheVariants as sign
use Rattle.dt_tree.specs.declared.token.Token as token_type
use Rattle.dt_tree.specs.declared.token.Token.TheVariants as token
use Rattle.dt_tree.specs.declared.token.Placed.{Placed}
use Rattle.run_model.specs.GrammarTrees.{Value, Typed, Null, Infinite, Token, Name, Literal, Operator, Bang, Tilde}
use Rattle.run_model.specs.GrammarTrees.{Assign, Arrow, Is, Open, Shut, OpenSquare, ShutSquare, Comma, Break, Semicolon}

-- the literal that a word is
abbrev pub value_of : literal_type.Literal → Value
value_of literal.True = Typed (cell.Lgl true) ty.Lgl
value_of literal.False = Typed (cell.Lgl false) ty.Lgl
value_of literal.Na = Typed cell.Na ty.Lgl
value_of literal.NaInt = Typed cell.Na ty.Int
value_of literal.NaChr = Typed cell.Na ty.Chr
value_of literal.Null = Null
value_of literal.Infinite = Infinite

-- a symbol
abbrev pub symbol : sign_type.Sign → Token
symbol sign.In = Operator In
symbol sign.Div = Operator (Arith Div)
symbol sign.Mod = Operator (Arith Mod)
symbol sign.Arrow = Arrow
symbol sign.Assign = Assign
symbol sign.Eq = Operator (Arith Eq)
symbol sign.Ne = Operator (Arith Ne)
symbol sign.Le = Operator (Arith Le)
symbol sign.Ge = Operator (Arith Ge)
symbol sign.Open = Open
symbol sign.Shut = Shut
symbol sign.OpenSquare = OpenSquare
symbol sign.ShutSquare = ShutSquare
symbol sign.Comma = Comma
symbol sign.Semi = Semicolon
symbol sign.Plus = Operator (Arith Add)
symbol sign.Minus = Operator (Arith Sub)
symbol sign.Times = Operator (Arith Mul)
symbol sign.Lt = Operator (Arith Lt)
symbol sign.Gt = Operator (Arith Gt)
symbol sign.And = Operator (Arith And)
symbol sign.Or = Operator (Arith Or)
symbol sign.Bang = Bang
symbol sign.Range = Operator Range
symbol sign.Tilde = Tilde
symbol sign.Is = Is

-- a token
abbrev pub plain_token : token_type.Token → Token
plain_token (token.Name x) = Name x
plain_token (token.Word w) = Literal (value_of w)
plain_token (token.Int n) = Literal (Typed (cell.Int n) ty.Int)
plain_token (token.Chr s) = Literal (Typed (cell.Text s) ty.Chr)
plain_token (token.Sign s) = symbol s
plain_token (token.Break n) = Break n

-- the tokens of a script without their places
abbrev pub plain_tokens : List Placed → List Token
plain_tokens us = map (λ u. plain_token u.token) us
