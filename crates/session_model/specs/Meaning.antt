-- The meaning of a tree: one fold over expressions, arguments and brackets.
--   vector form ..       an expression that is a vector wherever it stands
--   call_of name args    the call of a function, a command, or a list
--   meaning e            the meaning of an expression
--   arg_meaning a, tail_meaning t, bracket_meaning b    those of its parts
--   check_of e s         the type of an expression in its surroundings, or its first fault
--   value_in e s         its value there, or its first fault
-- A form that nothing serves yet has the fault `unbuilt`; `served` tells it before anything else of a
-- statement is looked at.
use Rattle.std.specs.Prelude.{ℕ, ℤ, ◌&&◌, not, Bool, true, false, List, [], ◌∷◌, ◌++◌, map, Option, None, Some}
use Rattle.std.specs.Prelude.{Result, Ok, Err, codes, if◌then◌else◌}
use Rattle.std.specs.List.{list_all}
use Rattle.std.specs.FinMap as finite
use Rattle.dt_base.specs.declared.cell.Cell.{Cell}
use Rattle.dt_base.specs.declared.cell.ColType.{ColType}
use Rattle.dt_base.specs.declared.fault.Fault.{Fault}
use Rattle.dt_base.specs.declared.fault.Code.TheVariants.{E04, E19}
use Rattle.dt_base.specs.Fault.{fault}
use Rattle.dt_base.specs.declared.operators.UnOp.{UnOp}
use Rattle.dt_base.specs.declared.operators.UnOp.TheVariants as un
use Rattle.dt_base.specs.declared.operators.Op.TheVariants as op
use Rattle.dt_tree.specs.declared.tree.Arg.{Arg}
use Rattle.dt_tree.specs.declared.tree.BinOp.{BinOp}
use Rattle.dt_tree.specs.declared.tree.BinOp.TheVariants.{Arith, In}
use Rattle.dt_tree.specs.declared.tree.Bracket.{Bracket}
use Rattle.dt_tree.specs.declared.tree.Expr.{Expr, fold-Expr}
use Rattle.dt_tree.specs.declared.tree.Expr.TheFolds.{fold-Second, fold-Arg, fold-Bracket, fold-Tail}
use Rattle.dt_tree.specs.declared.tree.Expr.TheOpen.{Expr-F, Second-F, Arg-F, Bracket-F, Tail-F}
use Rattle.dt_tree.specs.declared.tree.Second.{Second}
use Rattle.dt_tree.specs.declared.tree.Tail.{Tail}
use Rattle.func_table.specs.declared.func.Func.{Func}
use Rattle.func_table.specs.declared.func.Kind.{Kind}
use Rattle.func_table.specs.declared.func.Kind.TheVariants as kind
use Rattle.func_table.specs.Calls.{func_of, word_of, kind_of, is_later, is_list}
use Rattle.func_table.specs.Special.{is_later_special, special_of}
use Rattle.func_table.specs.declared.special.Special.{Special}
use Rattle.vector_model.specs.Functions.{Valued}
use Rattle.vector_model.specs.Then.{then_do}
use Rattle.expr_model.specs.Operators.{sign_type}
use Rattle.expr_model.specs.Surroundings.{Env, one_cell, name_vector, outside}
use Rattle.session_model.specs.AutoIndex.{indexed_given}
use Rattle.session_model.specs.Binding.{bound}
use Rattle.session_model.specs.Calls.{table_call, command_named}
use Rattle.session_model.specs.Expression.{quiet, kind_in, signed, check_tails, value_tails, check_call, value_call}
use Rattle.session_model.specs.Expression.{names_in}
use Rattle.session_model.specs.Form.{Form, Literal, Negative, NullWord, InfWord, BareName, NotName, MinusName}
use Rattle.session_model.specs.Form.{MinusInf, Compares, Formula, Other, literal_cell, name_in, negative}
use Rattle.session_model.specs.Meanings.{Meaning, ArgMeaning, TailMeaning, SecondMeaning, Computes, Assigns}
use Rattle.session_model.specs.Meanings.{AssignsAll, BracketMeaning}
use Rattle.session_model.specs.Found.{vars_of}
use Rattle.session_model.specs.Items.{bare_item, item_of}
use Rattle.session_model.specs.Orders.{report}
use Rattle.session_model.specs.Query.{chained}
use Rattle.session_model.specs.Served.{bracket_served}
use Rattle.session_model.specs.Value.{Cells, Null, Given, Scene, gives_value, bound_value, plain_given}
use Rattle.session_model.specs.Written.{Joining, NoJoin, TableJoin, ListJoin, Listing, Probe, turned, in_parens}

-- the word of a bracket behind a value that has no name
abbrev pub no_name : List ℕ
no_name = codes "["

-- ---- Vectors

-- a vector as a statement's value
abbrev pub vector_given : Valued → Result Given Fault
vector_given v = Ok (plain_given (Cells v.vector) v.warns)

-- an expression over the script's names: its type first, then its value
abbrev pub vector_gives : (Env → Result ColType Fault) → (Env → Result Valued Fault) → Scene → Result Given Fault
vector_gives check value w =
    then_do (check (outside (vars_of w.state))) (λ _. then_do (value (outside (vars_of w.state))) vector_given)

-- a statement adds no index
abbrev pub no_index : Scene → Given → Given
no_index w g = g

-- an expression that is a vector wherever it stands
abbrev pub vector : Form → List (List ℕ) → (Bool → Bool) → (Env → Result ColType Fault) → (Env → Result Valued Fault)
    → Meaning
vector form mentions served check value =
    record {
      form = form;
      called = no_name;
      joins = NoJoin;
      served = served;
      check = check;
      value = value;
      listing = None;
      mentions = mentions;
      probe = None;
      gives = vector_gives check value;
      whole = vector_gives check value;
      indexed = no_index;
      command = None;
    }

-- an expression that is no vector: a fault with this word
abbrev pub refused : Form → List ℕ → Meaning
refused form word = vector form [] (λ inside. true) (λ s. Err (fault E04 word)) (λ s. Err (fault E04 word))

-- what `-` before this form writes
abbrev pub negative_form : Option ℤ → Form
negative_form None = Other
negative_form (Some n) = Negative n

abbrev pub minus_form : Form → Form
minus_form (BareName name) = MinusName name
minus_form InfWord = MinusInf
minus_form form = negative_form (negative form)

-- what `!` before this form writes
abbrev pub not_form : Form → Form
not_form (BareName name) = NotName name
not_form _ = Other

-- `-` or `!` before an expression; `!` before a join is one too
abbrev pub sign_of : UnOp → Form → Joining → Meaning → Meaning
sign_of o form joins arg =
    record (vector form arg.mentions arg.served (λ s. then_do (arg.check s) (sign_type o))
    (λ s. then_do (arg.value s) (signed o))) {
      joins = joins;
    }

-- ---- What is written

-- the bare names in arguments, and in right sides
abbrev pub args_mention : List ArgMeaning → List (List ℕ)
args_mention [] = []
args_mention (a ∷ rest) = a.means.mentions ++ args_mention rest

abbrev pub tails_mention : List TailMeaning → List (List ℕ)
tails_mention [] = []
tails_mention (t ∷ rest) = t.means.mentions ++ tails_mention rest

-- what is told of a table mentions no name
abbrev pub kind_mentions : Kind → List ArgMeaning → List (List ℕ)
kind_mentions kind.Description args = []
kind_mentions _ args = args_mention args

abbrev pub call_mentions : Option Func → List ArgMeaning → List (List ℕ)
call_mentions None args = args_mention args
call_mentions (Some f) args = kind_mentions (kind_of f) args

-- two bare names with an operator between them
abbrev pub compares : BinOp → Option (List ℕ) → Option (List ℕ) → Form
compares (Arith o) (Some x) (Some y) = Compares o x y
compares _ _ _ = Other

abbrev pub chain_form : Option (List ℕ) → List TailMeaning → Form
chain_form x (t ∷ []) = compares t.op x (name_in t.means.form)
chain_form _ _ = Other

-- `==` and `%in%` can be answered by an index
abbrev pub probed_by : BinOp → List ℕ → Meaning → Option Probe
probed_by (Arith op.Eq) c m = Some (record { column = c; member = false; right = bare_item m })
probed_by In c m = Some (record { column = c; member = true; right = bare_item m })
probed_by _ c m = None

-- a special name is no column
abbrev pub column_probe : Option Special → List ℕ → TailMeaning → Option Probe
column_probe (Some p) c t = None
column_probe None c t = probed_by t.op c t.means

abbrev pub chain_probe : Option (List ℕ) → List TailMeaning → Option Probe
chain_probe (Some c) (t ∷ []) = column_probe (special_of c) c t
chain_probe _ _ = None

-- ---- Calls

-- the vector of a call as a statement's value
abbrev pub call_given : List ℕ → List ArgMeaning → Scene → Result Given Fault
call_given name args = vector_gives (λ s. check_call s name args) (λ s. value_call s name args)

-- A command gives no value, without a look at its arguments; of a table function the binding comes
-- first; anything else is a vector.
abbrev pub kind_gives : Kind → List ℕ → Func → List ArgMeaning → Scene → Result Given Fault
kind_gives kind.Command name f args w = Err (fault E19 (word_of f))
kind_gives kind.Table name f args w = then_do (bound f (names_in args)) (λ _. table_call f args w)
kind_gives _ name f args w = call_given name args w

-- what tells of a table's orders is a whole statement's value alone
abbrev pub kind_whole : Kind → List ℕ → Func → List ArgMeaning → Scene → Result Given Fault
kind_whole kind.Report name f args w = then_do (bound f (names_in args)) (λ _. report f args w.state)
kind_whole k name f args w = kind_gives k name f args w

abbrev pub call_whole : List ℕ → Option Func → List ArgMeaning → Scene → Result Given Fault
call_whole name None args w = call_given name args w
call_whole name (Some f) args w = kind_whole (kind_of f) name f args w

abbrev pub call_gives : List ℕ → Option Func → List ArgMeaning → Scene → Result Given Fault
call_gives name None args w = call_given name args w
call_gives name (Some f) args w = kind_gives (kind_of f) name f args w

-- as an i, a list and a table function are joins
abbrev pub kind_joins : Kind → (Scene → Result Given Fault) → Joining
kind_joins kind.Table table = TableJoin false table
kind_joins _ table = NoJoin

abbrev pub func_joins : Option Func → (Scene → Result Given Fault) → Joining
func_joins None table = NoJoin
func_joins (Some f) table = kind_joins (kind_of f) table

abbrev pub listing_of : List ℕ → List ArgMeaning → Listing
listing_of name args = record { word = name; items = map item_of args }

abbrev pub call_joins : List ℕ → List ArgMeaning → Joining
call_joins name args =
    if is_list name then ListJoin false (listing_of name args)
    else func_joins (func_of name) (call_gives name (func_of name) args)

abbrev pub call_served : List ℕ → List ArgMeaning → Bool → Bool
call_served name args inside = not (is_later name) && list_all (λ a. a.means.served inside) args

abbrev pub call_of : List ℕ → List ArgMeaning → Meaning
call_of name args =
    record {
      form = Other;
      called = no_name;
      joins = call_joins name args;
      served = call_served name args;
      check = λ s. check_call s name args;
      value = λ s. value_call s name args;
      listing = Some (listing_of name args);
      mentions = call_mentions (func_of name) args;
      probe = None;
      gives = call_gives name (func_of name) args;
      whole = call_whole name (func_of name) args;
      indexed = no_index;
      command = command_named (func_of name) args;
    }

-- ---- Names, literals, parentheses and queries

abbrev pub name_of : List ℕ → Meaning
name_of name =
    record {
      form = BareName name;
      called = name;
      joins = NoJoin;
      served = λ inside. not (inside && is_later_special name);
      check = λ s. kind_in (name_vector s name);
      value = λ s. quiet (name_vector s name);
      listing = None;
      mentions = name ∷ [];
      probe = None;
      gives = λ w. bound_value name (finite.get w.state.names name);
      whole = λ w. bound_value name (finite.get w.state.names name);
      indexed = no_index;
      command = None;
    }

abbrev pub literal_of : ColType → Cell → Meaning
literal_of kind cell =
    record {
      form = Literal cell kind;
      called = no_name;
      joins = NoJoin;
      served = λ inside. true;
      check = λ s. Ok kind;
      value = λ s. quiet (Ok (one_cell kind cell));
      listing = None;
      mentions = [];
      probe = None;
      gives = λ w. gives_value (Cells (one_cell kind cell));
      whole = λ w. gives_value (Cells (one_cell kind cell));
      indexed = no_index;
      command = None;
    }

-- `NULL` is a value of a statement, and no vector
abbrev pub null_word : Meaning
null_word = record (refused NullWord (codes "NULL")) { gives = λ w. gives_value Null; whole = λ w. gives_value Null }

-- Parentheses hide the form, and let through what is wanted as a statement's value, a head, and a table,
-- also one to join with. A statement in parentheses adds no index.
abbrev pub paren_of : Meaning → Meaning
paren_of inner =
    record {
      form = Other;
      called = inner.called;
      joins = in_parens inner.joins;
      served = inner.served;
      check = inner.check;
      value = inner.value;
      listing = None;
      mentions = inner.mentions;
      probe = None;
      gives = inner.gives;
      whole = inner.whole;
      indexed = no_index;
      command = None;
    }

-- what a query gives
abbrev pub query_gives : Meaning → List BracketMeaning → Scene → Result Given Fault
query_gives head brackets w = then_do (head.gives w) (λ g. chained w.state head.called g brackets)

-- a query is no vector, whatever it gives
abbrev pub query_of : Meaning → List BracketMeaning → Meaning
query_of head brackets =
    record (refused Other no_name) {
      joins = TableJoin false (query_gives head brackets);
      served = λ inside. head.served inside && list_all bracket_served brackets;
      gives = query_gives head brackets;
      whole = query_gives head brackets;
      indexed = indexed_given head brackets;
    }

-- ---- The fold

abbrev pub expr_step : Expr-F Meaning SecondMeaning ArgMeaning BracketMeaning TailMeaning → Meaning
expr_step (Expr-F.Lit cell kind) = literal_of kind (literal_cell kind cell)
expr_step Expr-F.Null = null_word
expr_step Expr-F.Infinite = refused InfWord (codes "Inf")
expr_step (Expr-F.Name name) = name_of name
expr_step (Expr-F.Paren inner) = paren_of inner
expr_step (Expr-F.Minus arg) = sign_of un.Neg (minus_form arg.form) NoJoin arg
expr_step (Expr-F.Not arg) = sign_of un.Not (not_form arg.form) (turned arg.joins) arg
expr_step (Expr-F.Chain first rest) =
    record (vector (chain_form (name_in first.form) rest) (first.mentions ++ tails_mention rest)
    (λ inside. first.served inside && list_all (λ t. t.means.served inside) rest)
    (λ s. then_do (first.check s) (λ a. check_tails s a rest))
    (λ s. then_do (first.value s) (λ a. value_tails s a rest))) { probe = chain_probe (name_in first.form) rest }
expr_step (Expr-F.Call name args) = call_of name args
expr_step (Expr-F.Query head brackets) = query_of head brackets
expr_step (Expr-F.Formula left right) = record (refused (Formula left right) (codes "~")) { served = λ inside. false }

abbrev pub second_step : Second-F Meaning SecondMeaning ArgMeaning BracketMeaning TailMeaning → SecondMeaning
second_step (Second-F.Value j) = Computes j
second_step (Second-F.Assign left right) = Assigns left right
second_step (Second-F.AssignAll args) = AssignsAll args

abbrev pub arg_step : Arg-F Meaning SecondMeaning ArgMeaning BracketMeaning TailMeaning → ArgMeaning
arg_step a = record { name = a.name; means = a.value }

abbrev pub bracket_step : Bracket-F Meaning SecondMeaning ArgMeaning BracketMeaning TailMeaning → BracketMeaning
bracket_step b = record { first = b.first; second = b.second; third = b.third; args = b.args }

abbrev pub tail_step : Tail-F Meaning SecondMeaning ArgMeaning BracketMeaning TailMeaning → TailMeaning
tail_step t = record { op = t.op; means = t.arg }

-- the meaning of an expression
abbrev pub meaning : Expr → Meaning
meaning = fold-Expr Meaning SecondMeaning ArgMeaning BracketMeaning TailMeaning expr_step second_step arg_step
    bracket_step tail_step

-- the meaning of an argument
abbrev pub arg_meaning : Arg → ArgMeaning
arg_meaning = fold-Arg Meaning SecondMeaning ArgMeaning BracketMeaning TailMeaning expr_step second_step arg_step
    bracket_step tail_step

-- the meaning of an operator and its right side
abbrev pub tail_meaning : Tail → TailMeaning
tail_meaning = fold-Tail Meaning SecondMeaning ArgMeaning BracketMeaning TailMeaning expr_step second_step arg_step
    bracket_step tail_step

-- the meaning of what stands as j
abbrev pub second_meaning : Second → SecondMeaning
second_meaning = fold-Second Meaning SecondMeaning ArgMeaning BracketMeaning TailMeaning expr_step second_step
    arg_step bracket_step tail_step

-- the meaning of a bracket
abbrev pub bracket_meaning : Bracket → BracketMeaning
bracket_meaning = fold-Bracket Meaning SecondMeaning ArgMeaning BracketMeaning TailMeaning expr_step second_step
    arg_step bracket_step tail_step

-- the type of an expression in its surroundings, or its first fault
abbrev pub check_of : Expr → Env → Result ColType Fault
check_of e s = (meaning e).check s

-- its value in these surroundings, or its first fault
abbrev pub value_in : Expr → Env → Result Valued Fault
value_in e s = (meaning e).value s
