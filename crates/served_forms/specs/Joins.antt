-- What an expression is as an i, as the code names it.
--   joining_of j       what the definition's j is: no join, or one of a table or a list, or one behind `!`
--   joining_named w    the call of w
--   turned_round j     `!` before j
--   through_parens j   j in parentheses
--   is_any j           j is a join
use Rattle.std.specs.Prelude.{ℕ, Bool, true, false, if◌then◌else◌, List, Option, None, Some}
use Rattle.func_table.specs.Calls.{func_of, kind_of, is_list}
use Rattle.func_table.specs.declared.func.Func.{Func}
use Rattle.func_table.specs.declared.func.Kind.{Kind}
use Rattle.func_table.specs.declared.func.Kind.TheVariants as kind
use Rattle.session_model.specs.Written as written
use Rattle.served_forms.specs.declared.joins.Joining.{Joining}
use Rattle.served_forms.specs.declared.joins.Joining.TheVariants.{No, Table, List as ListOf, Anti}

-- no join, or one of a table or a list, or one behind `!`
abbrev pub joining_of : written.Joining → Joining
joining_of written.NoJoin = No
joining_of (written.TableJoin false table) = Table
joining_of (written.TableJoin true table) = Anti
joining_of (written.ListJoin false l) = ListOf
joining_of (written.ListJoin true l) = Anti

-- a list and a table function are joins
abbrev pub joining_by : Kind → Joining
joining_by kind.Table = Table
joining_by _ = No

abbrev pub joining_known : Option Func → Joining
joining_known None = No
joining_known (Some f) = joining_by (kind_of f)

abbrev pub joining_named : List ℕ → Joining
joining_named name = if is_list name then ListOf else joining_known (func_of name)

-- `!` turns a join round; before anything else it is logical
abbrev pub turned_round : Joining → Joining
turned_round Table = Anti
turned_round ListOf = Anti
turned_round _ = No

-- parentheses let a table through, and hide a list and a `!`
abbrev pub through_parens : Joining → Joining
through_parens Table = Table
through_parens _ = No

abbrev pub is_any : Joining → Bool
is_any No = false
is_any _ = true
