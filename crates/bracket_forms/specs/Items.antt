-- What contracts see of what a bracket is asked.
--   arg_item a, items_of args    arguments of code, as items
--   call_listing w args    a call of code, as a listing
--   item_seen i        an item of by
--   on_seen i, ons_seen v    a condition; conditions
--   by_seen b          by
--   asked_seen q       all that is asked
-- and what parts of code ask, for short:
--   on_of w e, by_of w e    what `on` asks by the form of e, and what by does
--   texts_by w o, by_call w name args    what texts ask as by, and what a call does
--   form_asks w k e q  what the argument k of the form e asks behind q
--   word_asks c q w k e     the same, with the rules on what may stand beside it
--   argument_asks, arguments_asks, third_asks, all_asks    what arguments of code ask
--   Asks o new r       r is the answer of o, which stands in `new`
--   is_assignment j    what stands as j is an assignment
use Rattle.std.specs.Option.{option_copied}
use Rattle.std.specs.Prelude.{◌≡◌, ℕ, Bool, true, false, if◌then◌else◌, List, [], ◌∷◌, ◌++◌, map, Option, None, Some}
use Rattle.std.specs.Prelude.{option_map, Result, Err}
use Rattle.std.specs.Global.{Vec}
use Rattle.bracket_forms.specs.declared.items.Asked.{Asked}
use Rattle.bracket_forms.specs.declared.items.Beside.{Beside}
use Rattle.bracket_forms.specs.declared.items.By.{By}
use Rattle.bracket_forms.specs.declared.items.By.TheVariants as by
use Rattle.bracket_forms.specs.declared.items.Item.{Item}
use Rattle.bracket_forms.specs.declared.items.OnItem.{OnItem}
use Rattle.eval_fail.specs.Answers.{AnswersAs}
use Rattle.eval_fail.specs.declared.fail.EvalFail.{EvalFail}
use Rattle.eval_fail.specs.declared.fail.EvalFail.TheVariants.{Stop, NoMemory}
use Rattle.dt_base.specs.declared.fault.Fault.{Fault}
use Rattle.dt_base.specs.declared.joins.Cmp.TheVariants as cmp
use Rattle.dt_tree.specs.declared.tree.Arg.{Arg}
use Rattle.dt_tree.specs.declared.tree.Expr.{Expr}
use Rattle.func_table.specs.Calls.{is_list}
use Rattle.func_table.specs.declared.argument.Argument.{Argument}
use Rattle.session_model.specs.Asked as asked
use Rattle.session_model.specs.Form.{name_in, text_in}
use Rattle.session_model.specs.Meaning.{arg_meaning, meaning}
use Rattle.session_model.specs.Items.{item_of}
use Rattle.session_model.specs.Meanings.{SecondMeaning, Computes}
use Rattle.session_model.specs.Written as written
use Rattle.written_forms.specs.Texts.{call_texts, lent_texts}

-- ---- What is seen

-- arguments of code, as items
abbrev pub arg_item : Arg → written.Item
arg_item a = item_of (arg_meaning a)

abbrev pub items_of : List Arg → List written.Item
items_of args = map arg_item args

abbrev pub call_listing : List ℕ → List Arg → Option written.Listing
call_listing word args = Some (record { word = word; items = items_of args })

abbrev pub item_seen : Item → written.Item
item_seen i = item_of (record { name = option_copied i.name; means = meaning i.value.now })

abbrev pub on_seen : OnItem → asked.OnItem
on_seen i = record { x = i.x.now; y = i.y.now; cmp = i.cmp }

abbrev pub ons_seen : Vec OnItem → List asked.OnItem
ons_seen v = map on_seen v.items

-- columns of one name on both sides
abbrev pub same_names : List ℕ → asked.OnItem
same_names name = record { x = name; y = name; cmp = cmp.Eq }

abbrev pub by_seen : By → asked.ByAsked
by_seen by.No = asked.NoBy
by_seen by.EachRow = asked.EachRow
by_seen (by.Texts ts) = asked.ByList (map asked.ByText (lent_texts ts.items))
by_seen (by.Items xs) = asked.ByList (map asked.ByExpr (map item_seen xs.items))

abbrev pub beside_seen : Beside → asked.Beside
beside_seen c = record { j = c.j; by = c.by; roll = c.roll }

abbrev pub asked_seen : Asked → asked.Asked
asked_seen q = record {
  by = by_seen q.by;
  sorted = q.sorted;
  on = option_map ons_seen q.on;
  mult = q.mult;
  nomatch = q.nomatch;
  roll = q.roll;
  ends = q.ends;
  cartesian = q.cartesian;
  sd = option_map (λ e. item_of (record { name = None; means = meaning e.now })) q.sd;
  words = lent_texts q.words.items;
}

-- ---- What parts of code ask

-- the condition that an item is in `c`, and in a list, or the fault of the argument w
abbrev pub text_wanted : List ℕ → written.Item → Result asked.OnItem Fault
text_wanted w i = asked.wanted w (asked.on_text i)

abbrev pub list_wanted : List ℕ → written.Item → Result asked.OnItem Fault
list_wanted w i = asked.wanted w (asked.on_written i.name i.form)

abbrev pub on_of : List ℕ → Expr → Result (List asked.OnItem) Fault
on_of w e = asked.on_form w (meaning e) (text_in (meaning e).form)

abbrev pub by_of : List ℕ → Expr → Result asked.ByAsked Fault
by_of w e = asked.by_form w (meaning e) (name_in (meaning e).form) (text_in (meaning e).form)

-- texts as by, or the fault of the argument w
abbrev pub texts_by : List ℕ → Option (List (List ℕ)) → Result asked.ByAsked Fault
texts_by w o = asked.wanted w (option_map (λ ts. asked.ByList (map asked.ByText ts)) o)

-- the texts of the call of `name`
abbrev pub texts_at : List ℕ → List Arg → Option (List (List ℕ))
texts_at name args = call_texts name (map arg_meaning args)

-- what the call of `name` asks as by
abbrev pub by_call : List ℕ → List ℕ → List Arg → Result asked.ByAsked Fault
by_call w name args =
    if is_list name then asked.by_items name (items_of args) else texts_by w (texts_at name args)

abbrev pub form_asks : List ℕ → Argument → Expr → Asked → Result asked.Asked Fault
form_asks w k e q = asked.with_form w k (meaning e) (asked_seen q)

abbrev pub word_asks : Beside → Asked → List ℕ → Option Argument → Expr → Result asked.Asked Fault
word_asks c q w k e = asked.with_word (beside_seen c) (asked_seen q) w k (meaning e)

abbrev pub argument_asks : Beside → Asked → Arg → Result asked.Asked Fault
argument_asks c q a = asked.with_argument (beside_seen c) (asked_seen q) (arg_meaning a)

abbrev pub arguments_asks : Beside → Asked → List Arg → Result asked.Asked Fault
arguments_asks c q args = asked.with_arguments (beside_seen c) (asked_seen q) (map arg_meaning args)

abbrev pub third_asks : Beside → Option Expr → Result asked.Asked Fault
third_asks c third = asked.with_third (beside_seen c) (option_map meaning third)

abbrev pub all_asks : Beside → Option Expr → List Arg → Result asked.Asked Fault
all_asks c third args = asked.asked_of (beside_seen c) (option_map meaning third) (map arg_meaning args)

-- the word behind those of the arguments before it
abbrev pub noted : Asked → List ℕ → asked.Asked
noted q w = record (asked_seen q) { words = lent_texts q.words.items ++ w ∷ [] }

-- the answer of the definition stands in `new`, or its fault is told, or memory is wanting
abbrev pub Asks : Result asked.Asked Fault → Asked → Result (Unit {0}) EvalFail → Type 0
Asks o new r = AnswersAs (λ u. asked_seen new) o r

-- the fault is the one of the definition, or memory is wanting
abbrev pub Stops : {A : Type 0} → Result A Fault → EvalFail → Type 0
Stops o (Stop f) = o ≡ Err f
Stops o (NoMemory e) = Unit {0}

-- ---- What stands as j

abbrev pub is_assignment : SecondMeaning → Bool
is_assignment (Computes j) = false
is_assignment _ = true
