-- What a bracket is asked by its arguments, as written. No table and no value is looked at.
--   ByItem, ByAsked   an item of by; by: none, each row of a join, or items
--   OnItem            a condition: a column of X, a column of Y, and how their cells compare
--   Asked             what all arguments ask
--   with_argument c q a    what one argument more asks, or its fault
--   asked b           what the arguments of a bracket ask, or the first fault
--   first_wanting q   the first argument that wants a join
--   first_barred q    the first argument that a join behind `!` does not take
-- The third item is looked at first, as the argument `by`; then the arguments as written. Of each
-- argument comes first whether brackets have it; then whether it stood before; then whether it may stand
-- beside the others; then its form.
use Rattle.std.specs.Prelude.{ℕ, ℤ, pos, ◌==◌, ◌&&◌, ◌||◌, not, Bool, true, false, cond, if◌then◌else◌, List, [], ◌∷◌}
use Rattle.std.specs.Prelude.{◌++◌, map, Option, None, Some, is_some, Result, Ok, Err, codes, unsigned_abs}
use Rattle.std.specs.Int.{is_negative}
use Rattle.std.specs.List.{list_any, find}
use Rattle.std.specs.Str.{bytes_eq}
use Rattle.dt_base.specs.Fault.{fault}
use Rattle.dt_base.specs.declared.cell.Cell.TheVariants as is
use Rattle.dt_base.specs.declared.cell.ColType.TheVariants as ty
use Rattle.dt_base.specs.declared.fault.Code.TheVariants.{E19}
use Rattle.dt_base.specs.declared.fault.Fault.{Fault}
use Rattle.dt_base.specs.declared.joins.Cmp.{Cmp}
use Rattle.dt_base.specs.declared.joins.Cmp.TheVariants as cmp
use Rattle.dt_base.specs.declared.joins.Mult.{Mult}
use Rattle.dt_base.specs.declared.joins.Mult.TheVariants as mult
use Rattle.dt_base.specs.declared.joins.NoMatch.{NoMatch}
use Rattle.dt_base.specs.declared.joins.NoMatch.TheVariants as no_match
use Rattle.dt_base.specs.declared.joins.Roll.{Roll}
use Rattle.dt_base.specs.declared.joins.Roll.TheVariants as roll
use Rattle.dt_base.specs.declared.operators.Op.{Op}
use Rattle.dt_base.specs.declared.operators.Op.TheVariants as op
use Rattle.func_table.specs.Calls.{is_list}
use Rattle.func_table.specs.Special.{argument_of}
use Rattle.func_table.specs.declared.argument.Argument.{Argument}
use Rattle.func_table.specs.declared.argument.Argument.TheVariants as argument
use Rattle.vector_model.specs.Then.{then_do}
use Rattle.session_model.specs.Binding.{word_in}
use Rattle.session_model.specs.Expression.{each}
use Rattle.session_model.specs.Form.{Form, Literal, Negative, NullWord, InfWord, MinusInf, BareName, Compares}
use Rattle.session_model.specs.Form.{flag_in, name_in, text_in}
use Rattle.session_model.specs.Items.{bare_item}
use Rattle.session_model.specs.Meanings.{ArgMeaning, BracketMeaning, Meaning}
use Rattle.session_model.specs.Written.{Item, Listing}

-- ---- What is asked

-- a column's name as a text, which is never a special name; or an expression
pub data ByItem : Type 0 where
  ByText : List ℕ → ByItem
  ByExpr : Item → ByItem

pub data ByAsked : Type 0 where
  NoBy : ByAsked
  EachRow : ByAsked
  ByList : List ByItem → ByAsked

pub record OnItem : Type 0 where
  pub x : List ℕ
  pub y : List ℕ
  pub cmp : Cmp

-- `sorted` is keyby; `words` are the arguments as written, and `by` for a third item
pub record Asked : Type 0 where
  pub by : ByAsked
  pub sorted : Bool
  pub on : Option (List OnItem)
  pub mult : Mult
  pub nomatch : NoMatch
  pub roll : Option Roll
  pub ends : Option (Bool × Bool)
  pub cartesian : Bool
  pub sd : Option Item
  pub words : List (List ℕ)

abbrev pub nothing_asked : Asked
nothing_asked = record {
  by = NoBy;
  sorted = false;
  on = None;
  mult = mult.All;
  nomatch = no_match.Na;
  roll = None;
  ends = None;
  cartesian = false;
  sd = None;
  words = [];
}

-- ---- Forms; each other form is the fault of its argument

abbrev pub bad : {A : Type 0} → List ℕ → Result A Fault
bad w = Err (fault E19 w)

-- what a form gives, or the argument's fault
abbrev pub wanted : {A : Type 0} → List ℕ → Option A → Result A Fault
wanted w None = bad w
wanted w (Some x) = Ok x

-- what `f` gives for each of one item or more, or the argument's fault
abbrev pub listed : {B : Type 0} → List ℕ → (Item → Option B) → List Item → Result (List B) Fault
listed w f [] = bad w
listed w f (i ∷ rest) = each (λ k. wanted w (f k)) (i ∷ rest)

-- by: a bare name or a text; texts in `c`; a list
abbrev pub by_unnamed : Option (List ℕ) → Option (List ℕ) → Option ByItem
by_unnamed None (Some t) = Some (ByText t)
by_unnamed _ _ = None

abbrev pub by_text : Item → Option ByItem
by_text i = by_unnamed i.name (text_in i.form)

abbrev pub by_items : List ℕ → List Item → Result ByAsked Fault
by_items w [] = bad w
by_items w (i ∷ rest) = Ok (ByList (map ByExpr (i ∷ rest)))

abbrev pub by_listing : List ℕ → Option Listing → Result ByAsked Fault
by_listing w None = bad w
by_listing w (Some l) =
    if is_list l.word then by_items l.word l.items
    else (if bytes_eq l.word (codes "c") then then_do (listed w by_text l.items) (λ xs. Ok (ByList xs)) else bad w)

abbrev pub by_name : List ℕ → Meaning → ByAsked
by_name name m = if bytes_eq name (codes ".EACHI") then EachRow else ByList (ByExpr (bare_item m) ∷ [])

abbrev pub by_form : List ℕ → Meaning → Option (List ℕ) → Option (List ℕ) → Result ByAsked Fault
by_form w m (Some name) text = Ok (by_name name m)
by_form w m None (Some text) = Ok (ByList (ByText text ∷ []))
by_form w m None None = by_listing w m.listing

-- keyby takes what by takes, but for `.EACHI`
abbrev pub not_each : List ℕ → ByAsked → Result ByAsked Fault
not_each w EachRow = bad w
not_each w b = Ok b

-- on: a text; texts in `c`, with names or without; a list of bare names and comparisons
abbrev pub on_texts : Option (List ℕ) → Option (List ℕ) → Option OnItem
on_texts None (Some t) = Some (record { x = t; y = t; cmp = cmp.Eq })
on_texts (Some x) (Some t) = Some (record { x = x; y = t; cmp = cmp.Eq })
on_texts _ None = None

abbrev pub on_text : Item → Option OnItem
on_text i = on_texts i.name (text_in i.form)

abbrev pub cmp_of : Op → Option Cmp
cmp_of op.Eq = Some cmp.Eq
cmp_of op.Ge = Some cmp.Ge
cmp_of op.Gt = Some cmp.Gt
cmp_of op.Le = Some cmp.Le
cmp_of op.Lt = Some cmp.Lt
cmp_of _ = None

abbrev pub on_compared : Option Cmp → List ℕ → List ℕ → Option OnItem
on_compared None x y = None
on_compared (Some c) x y = Some (record { x = x; y = y; cmp = c })

abbrev pub on_written : Option (List ℕ) → Form → Option OnItem
on_written None (BareName y) = Some (record { x = y; y = y; cmp = cmp.Eq })
on_written (Some x) (BareName y) = Some (record { x = x; y = y; cmp = cmp.Eq })
on_written None (Compares o x y) = on_compared (cmp_of o) x y
on_written _ _ = None

abbrev pub on_items : List ℕ → List ℕ → List Item → Result (List OnItem) Fault
on_items w word [] = bad word
on_items w word (i ∷ rest) = listed w (λ k. on_written k.name k.form) (i ∷ rest)

abbrev pub on_listing : List ℕ → Option Listing → Result (List OnItem) Fault
on_listing w None = bad w
on_listing w (Some l) =
    if is_list l.word then on_items w l.word l.items
    else (if bytes_eq l.word (codes "c") then listed w on_text l.items else bad w)

abbrev pub on_form : List ℕ → Meaning → Option (List ℕ) → Result (List OnItem) Fault
on_form w m (Some t) = Ok (record { x = t; y = t; cmp = cmp.Eq } ∷ [])
on_form w m None = on_listing w m.listing

abbrev pub mult_named : List ℕ → Option Mult
mult_named t =
    cond (bytes_eq t (codes "all")) (Some mult.All)
    (cond (bytes_eq t (codes "first")) (Some mult.First)
    (cond (bytes_eq t (codes "last")) (Some mult.Last) None))

abbrev pub mult_in : Option (List ℕ) → Option Mult
mult_in None = None
mult_in (Some t) = mult_named t

-- `NA`, `NULL`, `0L`
abbrev pub no_match_in : Form → Option NoMatch
no_match_in NullWord = Some no_match.Skip
no_match_in (Literal is.Na ty.Lgl) = Some no_match.Na
no_match_in (Literal (is.Int (pos n)) kind) = if n == 0 then Some no_match.Skip else None
no_match_in _ = None

abbrev pub rolled : ℤ → Roll
rolled n = if is_negative n then roll.Backward (Some (unsigned_abs n)) else roll.Forward (Some (unsigned_abs n))

abbrev pub rolled_text : List ℕ → Option (Option Roll)
rolled_text t = if bytes_eq t (codes "nearest") then Some (Some roll.Nearest) else None

-- FALSE rolls not at all
abbrev pub roll_in : Form → Option (Option Roll)
roll_in InfWord = Some (Some (roll.Forward None))
roll_in MinusInf = Some (Some (roll.Backward None))
roll_in (Negative n) = Some (Some (rolled n))
roll_in (Literal (is.Lgl true) kind) = Some (Some (roll.Forward None))
roll_in (Literal (is.Lgl false) kind) = Some None
roll_in (Literal (is.Int n) kind) = Some (Some (rolled n))
roll_in (Literal (is.Text t) kind) = rolled_text t
roll_in _ = None

abbrev pub unnamed_flag : Option (List ℕ) → Form → Option Bool
unnamed_flag None form = flag_in form
unnamed_flag (Some name) form = None

abbrev pub both_flags : Option Bool → Option Bool → Option (Bool × Bool)
both_flags (Some a) (Some b) = Some (a, b)
both_flags _ _ = None

abbrev pub two_flags : List Item → Option (Bool × Bool)
two_flags (i ∷ k ∷ []) = both_flags (unnamed_flag i.name i.form) (unnamed_flag k.name k.form)
two_flags _ = None

abbrev pub flags_in : Option Listing → Option (Bool × Bool)
flags_in None = None
flags_in (Some l) = if bytes_eq l.word (codes "c") then two_flags l.items else None

abbrev pub ends_in : Option Bool → Option Listing → Option (Bool × Bool)
ends_in (Some b) l = Some (b, b)
ends_in None l = flags_in l

-- ---- One argument

-- what stands beside an argument: whether there is a j, and whether there is by, or roll, anywhere
pub record Beside : Type 0 where
  pub j : Bool
  pub by : Bool
  pub roll : Bool

abbrev pub has_word : List ℕ → List (List ℕ) → Bool
has_word w ws = list_any (bytes_eq w) ws

-- the argument may not stand here: by or keyby without j, keyby beside by, rollends without roll
abbrev pub is_barred : Beside → Argument → Bool
is_barred c argument.By = not c.j
is_barred c argument.Keyby = not c.j || c.by
is_barred c argument.RollEnds = not c.roll
is_barred c _ = false

-- what an argument's form asks
abbrev pub with_form : List ℕ → Argument → Meaning → Asked → Result Asked Fault
with_form w argument.By m q = then_do (by_form w m (name_in m.form) (text_in m.form)) (λ b. Ok (record q { by = b }))
with_form w argument.Keyby m q = then_do (then_do (by_form w m (name_in m.form) (text_in m.form)) (not_each w))
    (λ b. Ok (record q { by = b; sorted = true }))
with_form w argument.On m q = then_do (on_form w m (text_in m.form)) (λ cs. Ok (record q { on = Some cs }))
with_form w argument.Mult m q = then_do (wanted w (mult_in (text_in m.form))) (λ x. Ok (record q { mult = x }))
with_form w argument.NoMatch m q = then_do (wanted w (no_match_in m.form)) (λ x. Ok (record q { nomatch = x }))
with_form w argument.Roll m q = then_do (wanted w (roll_in m.form)) (λ x. Ok (record q { roll = x }))
with_form w argument.RollEnds m q = then_do (wanted w (ends_in (flag_in m.form) m.listing))
    (λ x. Ok (record q { ends = Some x }))
with_form w argument.Cartesian m q = then_do (wanted w (flag_in m.form)) (λ b. Ok (record q { cartesian = b }))
with_form w argument.SdCols m q = Ok (record q { sd = Some (bare_item m) })

abbrev pub with_word : Beside → Asked → List ℕ → Option Argument → Meaning → Result Asked Fault
with_word c q w None m = bad w
with_word c q w (Some k) m =
    if has_word w q.words || is_barred c k then bad w
    else then_do (with_form w k m q) (λ p. Ok (record p { words = p.words ++ w ∷ [] }))

abbrev pub with_argument : Beside → Asked → ArgMeaning → Result Asked Fault
with_argument c q a = with_word c q (word_in a.name) (argument_of (word_in a.name)) a.means

abbrev pub with_arguments : Beside → Asked → List ArgMeaning → Result Asked Fault
with_arguments c q [] = Ok q
with_arguments c q (a ∷ rest) = then_do (with_argument c q a) (λ p. with_arguments c p rest)

-- ---- All arguments of a bracket

-- the third item is the argument `by`
abbrev pub with_third : Beside → Option Meaning → Result Asked Fault
with_third c None = Ok nothing_asked
with_third c (Some m) = with_word c nothing_asked (codes "by") (Some argument.By) m

abbrev pub words_in : List ArgMeaning → List (List ℕ)
words_in args = map (λ a. word_in a.name) args

abbrev pub beside : BracketMeaning → Beside
beside b = record {
  j = is_some b.second;
  by = is_some b.third || has_word (codes "by") (words_in b.args);
  roll = has_word (codes "roll") (words_in b.args);
}

abbrev pub asked_of : Beside → Option Meaning → List ArgMeaning → Result Asked Fault
asked_of c third args = then_do (with_third c third) (λ q. with_arguments c q args)

abbrev pub asked : BracketMeaning → Result Asked Fault
asked b = asked_of (beside b) b.third b.args

-- ---- What wants a join

abbrev pub is_each : ByAsked → Bool
is_each EachRow = true
is_each _ = false

-- the argument is for joins alone; of `.EACHI` by is
abbrev pub wants_join : ByAsked → Option Argument → Bool
wants_join b None = false
wants_join b (Some argument.By) = is_each b
wants_join b (Some argument.Keyby) = false
wants_join b (Some argument.SdCols) = false
wants_join b (Some _) = true

abbrev pub is_on : Option Argument → Bool
is_on (Some argument.On) = true
is_on _ = false

abbrev pub first_wanting : Asked → Option (List ℕ)
first_wanting q = find (λ w. wants_join q.by (argument_of w)) q.words

abbrev pub first_barred : Asked → Option (List ℕ)
first_barred q = find (λ w. wants_join q.by (argument_of w) && not (is_on (argument_of w))) q.words
