-- How the arguments of a call are bound to its formals. It looks at the names alone, as written.
--   ArgNames                  for each argument in order its name, where one is written
--   named w i names           the first place from i on with the name w
--   unnamed k i names         the place from i on of the argument number k without a name
--   place_of names before p   the place of the argument that the formal p takes, where `before`
--                             formals before it are free
--   names_fine                nothing, or the first name that is unknown or bound twice
--   all_there                 nothing, or the first needed formal without an argument
--   bound f names             nothing, or the first fault of binding a call of f
-- A named argument goes to the formal of that name. An argument without a name goes, in order, to
-- the formals that no name takes. Places count from 0.
use Rattle.std.specs.Prelude.{ℕ, ◌+◌, ◌-◌, ◌==◌, ◌||◌, ◌&&◌, not, Bool, true, false, cond, List, [], ◌∷◌, Option}
use Rattle.std.specs.Prelude.{None, Some, Result, Ok, Err, length, nat_lt, is_none}
use Rattle.std.specs.Str.{bytes_eq}
use Rattle.dt_base.specs.declared.fault.Fault.{Fault}
use Rattle.dt_base.specs.declared.fault.Code.TheVariants.{E19}
use Rattle.dt_base.specs.Fault.{fault}
use Rattle.func_table.specs.declared.func.Func.{Func}
use Rattle.func_table.specs.declared.func.Arity.{Arity}
use Rattle.func_table.specs.declared.func.Arity.TheVariants.{Fixed, Columns, Unnamed, More, Named}
use Rattle.func_table.specs.declared.formal.Formal.{Formal}
use Rattle.func_table.specs.Calls.{arity_of, formals_of, is_needed, name_of, word_of}
use Rattle.vector_model.specs.Then.{then_do}

-- the names of the arguments, as written
abbrev pub ArgNames : Type 0
ArgNames = List (Option (List ℕ))

abbrev pub is_named : List ℕ → Option (List ℕ) → Bool
is_named w None = false
is_named w (Some v) = bytes_eq v w

-- the first place from i on with this name
abbrev pub named : List ℕ → ℕ → ArgNames → Option ℕ
named w i [] = None
named w i (a ∷ rest) = cond (is_named w a) (Some i) (named w (i + 1) rest)

-- the place from i on of the argument number k without a name, counted from 0
abbrev pub unnamed : ℕ → ℕ → ArgNames → Option ℕ
unnamed k i [] = None
unnamed k i (a ∷ rest) =
    cond (is_none a) (cond (k == 0) (Some i) (unnamed (k - 1) (i + 1) rest)) (unnamed k (i + 1) rest)

-- no name takes the formal
abbrev pub is_free : ArgNames → Formal → Bool
is_free names p = is_none (named (name_of p) 0 names)

-- how many of these formals are free
abbrev pub free_count : ArgNames → List Formal → ℕ
free_count names [] = 0
free_count names (p ∷ rest) = cond (is_free names p) 1 0 + free_count names rest

-- how many arguments have no name
abbrev pub unnamed_count : ArgNames → ℕ
unnamed_count [] = 0
unnamed_count (a ∷ rest) = cond (is_none a) 1 0 + unnamed_count rest

-- the place of the argument that a formal takes, where `before` formals before it are free
abbrev pub place_of : ArgNames → ℕ → Formal → Option ℕ
place_of names before p = elim (named (name_of p) 0 names) [ Some i ↦ Some i | None ↦ unnamed before 0 names ]

-- the formals with the places of their arguments
abbrev pub places : ArgNames → ℕ → List Formal → List (Formal × Option ℕ)
places names before [] = []
places names before (p ∷ rest) =
    (p, place_of names before p) ∷ places names (before + cond (is_free names p) 1 0) rest

-- one of the formals has this name
abbrev pub is_formal : List ℕ → List Formal → Bool
is_formal w [] = false
is_formal w (p ∷ rest) = bytes_eq (name_of p) w || is_formal w rest

-- the name stands at another place first
abbrev pub is_other : ℕ → Option ℕ → Bool
is_other i None = false
is_other i (Some k) = not (k == i)

-- the name of the argument at place i is unknown, or bound before
abbrev pub is_bad : ArgNames → List Formal → ℕ → Option (List ℕ) → Bool
is_bad all formals i None = false
is_bad all formals i (Some w) = not (is_formal w formals) || is_other i (named w 0 all)

-- a name, or none
abbrev pub word_in : Option (List ℕ) → List ℕ
word_in None = []
word_in (Some w) = w

-- the first name from place i on that is unknown or bound twice
abbrev pub names_fine : ArgNames → List Formal → ℕ → ArgNames → Result (Unit {0}) Fault
names_fine all formals i [] = Ok tt
names_fine all formals i (a ∷ rest) =
    cond (is_bad all formals i a) (Err (fault E19 (word_in a))) (names_fine all formals (i + 1) rest)

-- what names a formal that lacks its argument: its name, or the function's where it has none
abbrev pub missing_word : Func → Formal → List ℕ
missing_word f p = cond (bytes_eq (name_of p) []) (word_of f) (name_of p)

-- the formal lacks an argument, and needs one
abbrev pub is_lacking : Formal × Option ℕ → Bool
is_lacking x = is_none x.1 && is_needed x.0

-- the first needed formal without an argument
abbrev pub all_there : Func → List (Formal × Option ℕ) → Result (Unit {0}) Fault
all_there f [] = Ok tt
all_there f (x ∷ rest) = cond (is_lacking x) (Err (fault E19 (missing_word f x.0))) (all_there f rest)

-- where a call has the wrong number of arguments, its name is at fault
abbrev pub counted : Func → Bool → Result (Unit {0}) Fault
counted f true = Err (fault E19 (word_of f))
counted f false = Ok tt

-- To formals: unknown and double names first, in order; then needed formals without an argument;
-- then too many arguments.
abbrev pub bound_to_formals : Func → ArgNames → Result (Unit {0}) Fault
bound_to_formals f names =
    then_do (names_fine names (formals_of f) 0 names) (λ _.
    then_do (all_there f (places names 0 (formals_of f))) (λ _.
    counted f (nat_lt (free_count names (formals_of f)) (unnamed_count names))))

-- Without names: the first argument with a name is at fault, and one argument or more is needed.
abbrev pub bound_unnamed : Func → ArgNames → Result (Unit {0}) Fault
bound_unnamed f names =
    then_do (names_fine names [] 0 names) (λ _. counted f (length names == 0))

-- To formals, with any number of arguments behind them, which have no names: there are never too many.
abbrev pub bound_with_more : Func → ArgNames → Result (Unit {0}) Fault
bound_with_more f names =
    then_do (names_fine names (formals_of f) 0 names) (λ _. all_there f (places names 0 (formals_of f)))

-- To formals by their names alone: one argument or more, and none without a name.
abbrev pub bound_by_name : Func → ArgNames → Result (Unit {0}) Fault
bound_by_name f names =
    then_do (names_fine names (formals_of f) 0 names) (λ _.
    counted f (nat_lt 0 (unnamed_count names) || length names == 0))

-- As columns: one argument or more, whatever their names.
abbrev pub bound_by : Arity → Func → ArgNames → Result (Unit {0}) Fault
bound_by Fixed f names = bound_to_formals f names
bound_by Columns f names = counted f (length names == 0)
bound_by Unnamed f names = bound_unnamed f names
bound_by More f names = bound_with_more f names
bound_by Named f names = bound_by_name f names

-- nothing, or the first fault of the binding
abbrev pub bound : Func → ArgNames → Result (Unit {0}) Fault
bound f names = bound_by (arity_of f) f names
