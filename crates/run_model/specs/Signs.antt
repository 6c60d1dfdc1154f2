-- The symbols.
--   spelled x          the bytes of the symbol x
--   signs              all symbols, the longer ones first
--   first_sign xs s    the first of the symbols xs that the text s begins with
--   sign_at s          the symbol that s begins with: the longest one
--   goes_on x          no line feed behind x is a token
use Rattle.std.specs.Prelude.{ℕ, Bool, true, false, List, [], ◌∷◌, cond, nat_eq, Option, Some, None, codes}
use Rattle.std.specs.List.{starts_with}
use Rattle.dt_tree.specs.declared.token.Sign.{Sign}
use Rattle.dt_tree.specs.declared.token.Sign.TheVariants.{In, Div, Mod, Arrow, Assign, Eq, Ne, Le, Ge, Open, Shut}
use Rattle.dt_tree.specs.declared.token.Sign.TheVariants.{OpenSquare, ShutSquare, Comma, Semi, Plus, Minus, Times, Lt}
use Rattle.dt_tree.specs.declared.token.Sign.TheVariants.{Gt, And, Or, Bang, Range, Tilde, Is}

-- how each is written
abbrev pub spelled : Sign → List ℕ
spelled In = codes "%in%"
spelled Div = codes "%/%"
spelled Mod = codes "%%"
spelled Arrow = codes "<-"
spelled Assign = codes ":="
spelled Eq = codes "=="
spelled Ne = codes "!="
spelled Le = codes "<="
spelled Ge = codes ">="
spelled Open = codes "("
spelled Shut = codes ")"
spelled OpenSquare = codes "["
spelled ShutSquare = codes "]"
spelled Comma = codes ","
spelled Semi = codes ";"
spelled Plus = codes "+"
spelled Minus = codes "-"
spelled Times = codes "*"
spelled Lt = codes "<"
spelled Gt = codes ">"
spelled And = codes "&"
spelled Or = codes "|"
spelled Bang = codes "!"
spelled Range = codes ":"
spelled Tilde = codes "~"
spelled Is = codes "="

-- all of them, the longer ones first
abbrev pub signs : List Sign
signs = In ∷ Div ∷ Mod ∷ Arrow ∷ Assign ∷ Eq ∷ Ne ∷ Le ∷ Ge ∷ Open ∷ Shut ∷ OpenSquare ∷ ShutSquare ∷ Comma ∷ Semi
    ∷ Plus ∷ Minus ∷ Times ∷ Lt ∷ Gt ∷ And ∷ Or ∷ Bang ∷ Range ∷ Tilde ∷ Is ∷ []

-- the first of these that a text begins with
abbrev pub first_sign : List Sign → List ℕ → Option Sign
first_sign [] s = None
first_sign (x ∷ xs) s = cond (starts_with nat_eq s (spelled x)) (Some x) (first_sign xs s)

-- Of the symbols that a text begins with, the longest one. `LongestSign` says so.
abbrev pub sign_at : List ℕ → Option Sign
sign_at = first_sign signs

-- A statement goes on over a line feed behind a two-sided operator, "<-", "=", ":=", "~", "!" and
-- ",": behind each symbol but brackets and ";".
abbrev pub goes_on : Sign → Bool
goes_on Open = false
goes_on Shut = false
goes_on OpenSquare = false
goes_on ShutSquare = false
goes_on Semi = false
goes_on _ = true
