-- What expressions give where a vector is wanted: a type, and a value.
--   each f xs           what f gives for each of these, or the first fault
--   slots run args ..   what a call gives for each formal, by `run`, which is a type's or a value's
--   check_tails, value_tails   chains of operators
--   check_call, value_call     the type and the value of a call
--   checked_value m s   the value of an expression whose type is looked at just before
-- Faults come left to right, and what stands inside an expression comes before the expression. A type
-- depends on no cell. A value repeats the faults of types.
use Rattle.std.specs.Prelude.{ℕ, Bool, true, false, List, [], ◌∷◌, map, Option, None, Some, Result, Ok, Err, slice_get}
use Rattle.dt_base.specs.declared.cell.ColType.{ColType}
use Rattle.dt_base.specs.declared.fault.Fault.{Fault}
use Rattle.dt_base.specs.declared.fault.Code.TheVariants.{E02, E04, E19}
use Rattle.dt_base.specs.Fault.{fault}
use Rattle.dt_base.specs.declared.operators.UnOp.{UnOp}
use Rattle.dt_base.specs.declared.warns.Warns.{Warns}
use Rattle.dt_base.specs.Warns.{no_warns, both_warns}
use Rattle.dt_model.specs.Table.{PlainTable}
use Rattle.dt_model.specs.Vector.{Vector}
use Rattle.dt_tree.specs.declared.tree.BinOp.{BinOp}
use Rattle.func_table.specs.declared.formal.Formal.{Formal}
use Rattle.func_table.specs.declared.formal.Formal.TheVariants as formal
use Rattle.func_table.specs.declared.func.Arity.{Arity}
use Rattle.func_table.specs.declared.func.Arity.TheVariants.{Fixed, Columns, Unnamed, More, Named}
use Rattle.func_table.specs.declared.func.Func.{Func}
use Rattle.func_table.specs.declared.func.Kind.{Kind}
use Rattle.func_table.specs.declared.func.Kind.TheVariants as kind
use Rattle.func_table.specs.declared.func.Later.{Later}
use Rattle.func_table.specs.declared.func.Later.TheVariants as later
use Rattle.func_table.specs.declared.slot.Slot.{Slot}
use Rattle.func_table.specs.declared.slot.Slot.TheVariants.{Given, Flag, Absent}
use Rattle.func_table.specs.Calls.{func_of, word_of, kind_of, arity_of, formals_of, name_of, is_flag, later_of}
use Rattle.session_model.specs.Binding.{ArgNames, bound, places, place_of}
use Rattle.session_model.specs.Form.{Form, flag_in, name_in}
use Rattle.session_model.specs.Meanings.{Meaning, ArgMeaning, TailMeaning}
use Rattle.vector_model.specs.Then.{then_do}
use Rattle.dt_model.specs.Combine.{common_of}
use Rattle.vector_model.specs.Combine.{joined}
use Rattle.vector_model.specs.Functions.{Valued}
use Rattle.expr_model.specs.Functions.{with_warns, type_of, value_of, description_type, description_of}
use Rattle.expr_model.specs.Operators.{tail_type, tail_value, sign_value}
use Rattle.expr_model.specs.Surroundings.{Env, var_table}
use Rattle.vector_model.specs.Faults.{unbuilt}

-- a vector as a value, without warnings
abbrev pub quiet : Result Vector Fault → Result Valued Fault
quiet r = with_warns no_warns r

-- the type of a vector
abbrev pub kind_in : Result Vector Fault → Result ColType Fault
kind_in r = then_do r (λ v. Ok v.kind)

-- a value without its warnings
abbrev pub vector_in : Valued → Vector
vector_in v = v.vector

-- what `f` gives for each, in their order, or the first fault
abbrev pub each : {A B : Type 0} → (A → Result B Fault) → List A → Result (List B) Fault
each f [] = Ok []
each f (x ∷ rest) = then_do (f x) (λ y. then_do (each f rest) (λ more. Ok (y ∷ more)))

-- ---- Chains of operators: from the left

abbrev pub check_tail : Env → ColType → TailMeaning → Result ColType Fault
check_tail s a t = then_do (t.means.check s) (λ b. tail_type t.op a b)

abbrev pub check_tails : Env → ColType → List TailMeaning → Result ColType Fault
check_tails s a [] = Ok a
check_tails s a (t ∷ rest) = then_do (check_tail s a t) (λ b. check_tails s b rest)

-- what an operator gives for two values, with the warnings of both
abbrev pub met : BinOp → Valued → Valued → Result Valued Fault
met o a b = with_warns (both_warns a.warns b.warns) (tail_value o a.vector b.vector)

abbrev pub value_tail : Env → Valued → TailMeaning → Result Valued Fault
value_tail s a t = then_do (t.means.value s) (λ b. met t.op a b)

abbrev pub value_tails : Env → Valued → List TailMeaning → Result Valued Fault
value_tails s a [] = Ok a
value_tails s a (t ∷ rest) = then_do (value_tail s a t) (λ b. value_tails s b rest)

-- what `-` or `!` gives for a value
abbrev pub signed : UnOp → Valued → Result Valued Fault
signed o a = with_warns a.warns (sign_value o a.vector)

-- ---- Arguments

abbrev pub arg_name : ArgMeaning → Option (List ℕ)
arg_name a = a.name

-- the names of arguments, as written
abbrev pub names_in : List ArgMeaning → ArgNames
names_in args = map arg_name args

-- the argument at a place
abbrev pub arg_at : List ArgMeaning → Option ℕ → Option ArgMeaning
arg_at args None = None
arg_at args (Some i) = slice_get args i

-- a flag is TRUE or FALSE, as written
abbrev pub flag_of : {A : Type 0} → Formal → Option Bool → Result (Slot A) Fault
flag_of p (Some b) = Ok (Flag b)
flag_of p None = Err (fault E19 (name_of p))

abbrev pub flag_slot : {A : Type 0} → Formal → Form → Result (Slot A) Fault
flag_slot p form = flag_of p (flag_in form)

abbrev pub given : {A : Type 0} → Result A Fault → Result (Slot A) Fault
given r = then_do r (λ x. Ok (Given x))

-- what an argument gives for its formal: a flag, or what `run` makes of it
abbrev pub slot_as : {A : Type 0} → (Meaning → Result A Fault) → Formal → Bool → Meaning → Result (Slot A) Fault
slot_as run p true m = flag_slot p m.form
slot_as run p false m = given (run m)

-- a formal that is left out has an empty slot
abbrev pub slot_at : {A : Type 0} → (Meaning → Result A Fault) → Formal → Option ArgMeaning → Result (Slot A) Fault
slot_at run p None = Ok Absent
slot_at run p (Some a) = slot_as run p (is_flag p) a.means

-- the slots of these formals, or the first fault in their order
abbrev pub slots : {A : Type 0} → (Meaning → Result A Fault) → List ArgMeaning → List (Formal × Option ℕ)
    → Result (List (Slot A)) Fault
slots run args formals = each (λ x. slot_at run x.0 (arg_at args x.1)) formals

-- what each formal of a function is given
abbrev pub all_slots : {A : Type 0} → (Meaning → Result A Fault) → Func → List ArgMeaning → Result (List (Slot A)) Fault
all_slots run f args = slots run args (places (names_in args) 0 (formals_of f))

-- what `run` makes of each argument, or the first fault
abbrev pub each_argument : {A : Type 0} → (Meaning → Result A Fault) → List ArgMeaning → Result (List A) Fault
each_argument run args = each (λ a. run a.means) args

-- the table of the argument D, which is a name as written
abbrev pub table_at : Env → Option (List ℕ) → Result PlainTable Fault
table_at s None = Err (fault E19 (name_of formal.D))
table_at s (Some name) = var_table name (s.vars name)

abbrev pub table_in : Env → Option ArgMeaning → Result PlainTable Fault
table_in s None = Err (fault E19 (name_of formal.D))
table_in s (Some a) = table_at s (name_in a.means.form)

abbrev pub described_table : Env → List ArgMeaning → Result PlainTable Fault
described_table s args = table_in s (arg_at args (place_of (names_in args) 0 formal.D))

-- ---- Calls

-- a call that gives no vector, of a function that is not served
abbrev pub later_fault : List ℕ → Option Later → Fault
later_fault name None = fault E02 name
later_fault name (Some later.Vector) = unbuilt
later_fault name (Some later.NoVector) = fault E04 name

-- a function on vectors, once its arguments are bound
abbrev pub check_vectors : Arity → Env → Func → List ArgMeaning → Result ColType Fault
check_vectors Unnamed s f args = then_do (each_argument (λ m. m.check s) args) (λ kinds. Ok (common_of kinds))
check_vectors Fixed s f args = then_do (all_slots (λ m. m.check s) f args) (type_of f)
check_vectors Columns s f args = Err unbuilt
check_vectors More s f args = Err unbuilt
check_vectors Named s f args = Err unbuilt

-- A table function is a fault of the type, and so is what gives a table's orders, or rows in an order; a
-- command is a bad argument. None of these looks at its arguments. Else their binding comes first.
abbrev pub check_kind : Kind → Env → Func → List ArgMeaning → Result ColType Fault
check_kind kind.Table s f args = Err (fault E04 (word_of f))
check_kind kind.Command s f args = Err (fault E19 (word_of f))
check_kind kind.Report s f args = Err (fault E04 (word_of f))
check_kind kind.Rows s f args = Err (fault E04 (word_of f))
check_kind kind.Vector s f args = then_do (bound f (names_in args)) (λ _. check_vectors (arity_of f) s f args)
check_kind kind.Description s f args =
    then_do (bound f (names_in args)) (λ _. then_do (described_table s args) (λ t. description_type f))

abbrev pub check_named : Env → List ℕ → Option Func → List ArgMeaning → Result ColType Fault
check_named s name None args = Err (later_fault name (later_of name))
check_named s name (Some f) args = check_kind (kind_of f) s f args

abbrev pub check_call : Env → List ℕ → List ArgMeaning → Result ColType Fault
check_call s name args = check_named s name (func_of name) args

-- the vectors of slots
abbrev pub slot_vector : Slot Valued → Slot Vector
slot_vector (Given v) = Given v.vector
slot_vector (Flag b) = Flag b
slot_vector Absent = Absent

abbrev pub slot_warns : Slot Valued → Warns
slot_warns (Given v) = v.warns
slot_warns _ = no_warns

-- what is in one of these sets of warnings
abbrev pub all_warns : List Warns → Warns
all_warns [] = no_warns
all_warns (w ∷ rest) = both_warns w (all_warns rest)

-- a value, and more warnings
abbrev pub warned_too : Warns → Result Valued Fault → Result Valued Fault
warned_too w r = then_do r (λ v. Ok (record { vector = v.vector; warns = both_warns w v.warns }))

-- a function's value, with the warnings of its arguments
abbrev pub applied : Func → List (Slot Valued) → Result Valued Fault
applied f given = warned_too (all_warns (map slot_warns given)) (value_of f (map slot_vector given))

-- the type first, then the value
abbrev pub checked_value : Meaning → Env → Result Valued Fault
checked_value m s = then_do (m.check s) (λ _. m.value s)

-- the warnings of a value
abbrev pub warns_in : Valued → Warns
warns_in v = v.warns

-- `c` of values, with their warnings
abbrev pub combined : List Valued → Result Valued Fault
combined vs = with_warns (all_warns (map warns_in vs)) (joined (map vector_in vs))

abbrev pub value_vectors : Arity → Env → Func → List ArgMeaning → Result Valued Fault
value_vectors Unnamed s f args = then_do (each_argument (λ m. m.value s) args) combined
value_vectors Fixed s f args = then_do (all_slots (λ m. m.value s) f args) (applied f)
value_vectors Columns s f args = Err unbuilt
value_vectors More s f args = Err unbuilt
value_vectors Named s f args = Err unbuilt

abbrev pub value_kind : Kind → Env → Func → List ArgMeaning → Result Valued Fault
value_kind kind.Table s f args = Err (fault E04 (word_of f))
value_kind kind.Command s f args = Err (fault E19 (word_of f))
value_kind kind.Report s f args = Err (fault E04 (word_of f))
value_kind kind.Rows s f args = Err (fault E04 (word_of f))
value_kind kind.Vector s f args = then_do (bound f (names_in args)) (λ _. value_vectors (arity_of f) s f args)
value_kind kind.Description s f args =
    then_do (bound f (names_in args)) (λ _. then_do (described_table s args) (λ t. quiet (description_of f t)))

abbrev pub value_named : Env → List ℕ → Option Func → List ArgMeaning → Result Valued Fault
value_named s name None args = Err (later_fault name (later_of name))
value_named s name (Some f) args = value_kind (kind_of f) s f args

abbrev pub value_call : Env → List ℕ → List ArgMeaning → Result Valued Fault
value_call s name args = value_named s name (func_of name) args
