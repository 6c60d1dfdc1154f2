-- The tables of calls.
--   all_funcs       the functions and commands that have a row
--   row_of f        all that is told of f:
--   word_of f         its name
--   kind_of f         whether f gives a table, is a command, gives a vector, tells of a table, tells of its
--                     orders, or orders rows
--   arity_of f        how its arguments are bound
--   formals_of f      its formals, in order
--   func_of w       the function of the name w
--   name_of p       the name of a formal
--   is_needed p     a call lacks something without it
--   is_flag p       it is TRUE or FALSE, as written
--   is_later w      the language has a call of the name w, and nothing serves it yet
--   is_list w       w names the list of a bracket, `.( )` or `list( )`
--   later_of w      what a call of w is, where no function of that name is served
use Rattle.std.specs.Prelude.{◌||◌, Bool, true, false, cond, List, ℕ, [], ◌∷◌, map, Option, Some, is_some, codes}
use Rattle.std.specs.Str.{bytes_eq}
use Rattle.func_table.specs.declared.func.Func.{Func}
use Rattle.func_table.specs.declared.func.Func.TheVariants.{DataTable, Fread, Copy, Library, Print, Fwrite, Rm}
use Rattle.func_table.specs.declared.func.Func.TheVariants.{Set, SetNames, SetKey, SetOrder, SetIndex, SetOptions}
use Rattle.func_table.specs.declared.func.Func.TheVariants.{Key, Indices, Order}
use Rattle.func_table.specs.declared.func.Func.TheVariants.{Combine, IsNa, Fifelse, AsLogical, AsInteger, AsCharacter}
use Rattle.func_table.specs.declared.func.Func.TheVariants.{Sum, Min, Max, Any, All, First, Last, Length}
use Rattle.func_table.specs.declared.func.Func.TheVariants.{Nrow, Ncol, Names}
use Rattle.func_table.specs.declared.func.Kind.{Kind}
use Rattle.func_table.specs.declared.func.Kind.TheVariants as kind
use Rattle.func_table.specs.declared.func.Arity.{Arity}
use Rattle.func_table.specs.declared.func.Arity.TheVariants as arity
use Rattle.func_table.specs.declared.func.Later.{Later}
use Rattle.func_table.specs.declared.func.Later.TheVariants as later
use Rattle.func_table.specs.declared.formal.Formal.{Formal}
use Rattle.func_table.specs.declared.formal.Formal.TheVariants as formal
use Rattle.func_table.specs.Rows.{looked}

-- ---- Functions and commands

-- the functions and commands: of statements, then of expressions
abbrev pub all_funcs : List Func
all_funcs =
    DataTable ∷ Fread ∷ Copy ∷ Library ∷ Print ∷ Fwrite ∷ Rm ∷ Set ∷ SetNames
    ∷ SetKey ∷ SetOrder ∷ SetIndex ∷ SetOptions ∷ Key ∷ Indices ∷ Order
    ∷ Combine ∷ IsNa ∷ Fifelse ∷ AsLogical ∷ AsInteger ∷ AsCharacter
    ∷ Sum ∷ Min ∷ Max ∷ Any ∷ All ∷ First ∷ Last ∷ Length
    ∷ Nrow ∷ Ncol ∷ Names ∷ []

-- what is told of a function; its formals stand in the order in which arguments are looked at
pub record Row : Type 0 where
  pub word : List ℕ
  pub kind : Kind
  pub arity : Arity
  pub formals : List Formal

-- a call whose arguments are bound to formals
abbrev pub fixed : List ℕ → Kind → List Formal → Row
fixed w k ps = record { word = w; kind = k; arity = arity.Fixed; formals = ps }

-- a call of a table and of columns, which have no names
abbrev pub with_columns : List ℕ → Row
with_columns w = record { word = w; kind = kind.Command; arity = arity.More; formals = formal.D ∷ [] }

-- The arguments of `data.table` are columns; those of `c` and of `order` have no names, and those of
-- `options` are nothing without one.
abbrev pub row_of : Func → Row
row_of DataTable = record { word = codes "data.table"; kind = kind.Table; arity = arity.Columns; formals = [] }
row_of Fread = fixed (codes "fread") kind.Table (formal.File ∷ [])
row_of Copy = fixed (codes "copy") kind.Table (formal.Table ∷ [])
row_of Library = fixed (codes "library") kind.Command (formal.Package ∷ [])
row_of Print = fixed (codes "print") kind.Command (formal.Value ∷ [])
row_of Fwrite = fixed (codes "fwrite") kind.Command (formal.Table ∷ formal.File ∷ [])
row_of Rm = fixed (codes "rm") kind.Command (formal.Name ∷ [])
row_of Set = fixed (codes "set") kind.Command (formal.D ∷ formal.I ∷ formal.J ∷ formal.NewValue ∷ [])
row_of SetNames = fixed (codes "setnames") kind.Command (formal.D ∷ formal.Old ∷ formal.New ∷ [])
row_of SetKey = with_columns (codes "setkey")
row_of SetOrder = with_columns (codes "setorder")
row_of SetIndex = with_columns (codes "setindex")
row_of SetOptions = record {
  word = codes "options";
  kind = kind.Command;
  arity = arity.Named;
  formals = formal.AutoIndex ∷ formal.UseIndex ∷ [];
}
row_of Key = fixed (codes "key") kind.Report (formal.D ∷ [])
row_of Indices = fixed (codes "indices") kind.Report (formal.D ∷ [])
row_of Order = record { word = codes "order"; kind = kind.Rows; arity = arity.Unnamed; formals = [] }
row_of Combine = record { word = codes "c"; kind = kind.Vector; arity = arity.Unnamed; formals = [] }
row_of IsNa = fixed (codes "is.na") kind.Vector (formal.X ∷ [])
row_of Fifelse = fixed (codes "fifelse") kind.Vector (formal.Test ∷ formal.Yes ∷ formal.No ∷ [])
row_of AsLogical = fixed (codes "as.logical") kind.Vector (formal.X ∷ [])
row_of AsInteger = fixed (codes "as.integer") kind.Vector (formal.X ∷ [])
row_of AsCharacter = fixed (codes "as.character") kind.Vector (formal.X ∷ [])
row_of Sum = fixed (codes "sum") kind.Vector (formal.X ∷ formal.NaRm ∷ [])
row_of Min = fixed (codes "min") kind.Vector (formal.X ∷ formal.NaRm ∷ [])
row_of Max = fixed (codes "max") kind.Vector (formal.X ∷ formal.NaRm ∷ [])
row_of Any = fixed (codes "any") kind.Vector (formal.X ∷ [])
row_of All = fixed (codes "all") kind.Vector (formal.X ∷ [])
row_of First = fixed (codes "first") kind.Vector (formal.X ∷ [])
row_of Last = fixed (codes "last") kind.Vector (formal.X ∷ [])
row_of Length = fixed (codes "length") kind.Vector (formal.X ∷ [])
row_of Nrow = fixed (codes "nrow") kind.Description (formal.D ∷ [])
row_of Ncol = fixed (codes "ncol") kind.Description (formal.D ∷ [])
row_of Names = fixed (codes "names") kind.Description (formal.D ∷ [])

abbrev pub word_of : Func → List ℕ
word_of f = (row_of f).word

abbrev pub kind_of : Func → Kind
kind_of f = (row_of f).kind

abbrev pub arity_of : Func → Arity
arity_of f = (row_of f).arity

abbrev pub formals_of : Func → List Formal
formals_of f = (row_of f).formals

abbrev pub func_of : List ℕ → Option Func
func_of w = looked w (map (λ f. (word_of f, f)) all_funcs)

-- ---- Formals

-- The name of a formal. That of `print` has none, so its name is empty, as no name of a script is.
abbrev pub name_of : Formal → List ℕ
name_of formal.File = codes "file"
name_of formal.Name = codes "name"
name_of formal.Package = codes "package"
name_of formal.Table = codes "table"
name_of formal.Value = []
name_of formal.X = codes "x"
name_of formal.Test = codes "test"
name_of formal.Yes = codes "yes"
name_of formal.No = codes "no"
name_of formal.NaRm = codes "na.rm"
name_of formal.D = codes "D"
name_of formal.I = codes "i"
name_of formal.J = codes "j"
name_of formal.NewValue = codes "value"
name_of formal.Old = codes "old"
name_of formal.New = codes "new"
name_of formal.AutoIndex = codes "datatable.auto.index"
name_of formal.UseIndex = codes "datatable.use.index"

-- `na.rm`, the `i` of `set` and each option may be left out
abbrev pub is_needed : Formal → Bool
is_needed formal.NaRm = false
is_needed formal.I = false
is_needed formal.AutoIndex = false
is_needed formal.UseIndex = false
is_needed _ = true

-- `na.rm` and the options are TRUE or FALSE, as written
abbrev pub is_flag : Formal → Bool
is_flag formal.NaRm = true
is_flag formal.AutoIndex = true
is_flag formal.UseIndex = true
is_flag _ = false

-- ---- Calls that nothing serves yet

-- functions that give a vector; functions that give a table, and words that stand only where a rule of
-- their own says
abbrev pub later_rows : List (List ℕ × Later)
later_rows =
    (codes "cumsum", later.Vector) ∷ (codes "shift", later.Vector) ∷ (codes "rleid", later.Vector)
    ∷ (codes "frank", later.Vector)
    ∷ (codes "melt", later.NoVector) ∷ (codes "dcast", later.NoVector) ∷ (codes "foverlaps", later.NoVector)
    ∷ (codes "lapply", later.NoVector) ∷ (codes "J", later.NoVector) ∷ []

-- the language has a call of this name, and nothing serves it yet
abbrev pub is_later : List ℕ → Bool
is_later w = is_some (looked w later_rows)

-- the list of a bracket, under both of its names
abbrev pub is_list : List ℕ → Bool
is_list w = bytes_eq w (codes ".") || bytes_eq w (codes "list")

-- what a call of this name is, where nothing serves it as a function; a list stands in brackets alone
abbrev pub later_of : List ℕ → Option Later
later_of w = cond (is_list w) (Some later.NoVector) (looked w later_rows)
