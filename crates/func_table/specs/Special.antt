-- The names that have a meaning of their own in a bracket, and the arguments of brackets.
--   special_of w           the special name that w is, if it is one
--   is_later_special w     it is one that nothing serves yet
--   argument_of w          the argument of brackets that has the name w, if there is one
--   is_bracket_argument w  there is one
use Rattle.std.specs.Prelude.{Bool, true, false, List, ℕ, [], ◌∷◌, Option, Some, is_some, codes}
use Rattle.func_table.specs.declared.argument.Argument.{Argument}
use Rattle.func_table.specs.declared.argument.Argument.TheVariants as argument
use Rattle.func_table.specs.declared.special.Special.{Special}
use Rattle.func_table.specs.declared.special.Special.TheVariants.{Count, Places, Group, Rows}
use Rattle.func_table.specs.Rows.{looked}

-- ---- Special names

abbrev pub special_rows : List (List ℕ × Special)
special_rows = (codes ".N", Count) ∷ (codes ".I", Places) ∷ (codes ".GRP", Group) ∷ (codes ".SD", Rows) ∷ []

abbrev pub special_of : List ℕ → Option Special
special_of w = looked w special_rows

-- `.GRP` and `.SD` are not served yet
abbrev pub is_later_kind : Option Special → Bool
is_later_kind (Some Group) = true
is_later_kind (Some Rows) = true
is_later_kind _ = false

abbrev pub is_later_special : List ℕ → Bool
is_later_special w = is_later_kind (special_of w)

-- ---- The arguments that a bracket may have

abbrev pub argument_rows : List (List ℕ × Argument)
argument_rows =
    (codes "by", argument.By) ∷ (codes "keyby", argument.Keyby) ∷ (codes "on", argument.On)
    ∷ (codes "mult", argument.Mult) ∷ (codes "nomatch", argument.NoMatch)
    ∷ (codes "roll", argument.Roll) ∷ (codes "rollends", argument.RollEnds)
    ∷ (codes "allow.cartesian", argument.Cartesian) ∷ (codes ".SDcols", argument.SdCols) ∷ []

abbrev pub argument_of : List ℕ → Option Argument
argument_of w = looked w argument_rows

abbrev pub is_bracket_argument : List ℕ → Bool
is_bracket_argument w = is_some (argument_of w)
