-- Costs within what is promised.
use Rattle.std.proofs.Common.{rules, ◌≡◌, ◌≤◌, ◌+◌, ◌*◌, ℕ, Bool, true, false, List, [], ◌∷◌, length, map, drop, get_or}
use Rattle.std.proofs.Common.{All, Option, None, Some, Result, Ok, Err, IfOk, option_map, if◌then◌else◌, ◌<◌, ◌++◌}
use Rattle.std.proofs.Common.{◌&&◌, refl, sym, ap, subst, ◌∙◌, add-one, drop-cons, arith}
use Rattle.std.proofs.lemmas.List.Elements.{All-append, All-head, All-tail}
use Rattle.eval_fail.specs.Answers.{AnswersAs}
use Rattle.eval_fail.specs.declared.fail.EvalFail.{EvalFail}
use Rattle.dt_base.specs.declared.fault.Fault.{Fault}
use Rattle.dt_model.specs.Combine.{total_length}
use Rattle.dt_model.specs.Vector.{Vector}
use Rattle.expr_scope.specs.Slots.{copied_cells, operand_of}
use Rattle.dt_tree.specs.declared.tree.Arg.{Arg}
use Rattle.dt_tree.specs.declared.tree.Expr.{the_lemmas}
use Rattle.dt_tree.specs.declared.tree.Expr.TheVariants as tree
use Rattle.dt_tree.specs.declared.tree.Expr.{Expr, out-Expr}
use Rattle.dt_tree.specs.declared.tree.Expr.TheOpen.{Expr-F}
use Rattle.dt_tree.specs.declared.tree.Bracket.{Bracket}
use Rattle.dt_tree.specs.declared.tree.Second.{Second}
use Rattle.dt_tree.specs.declared.tree.Tail.{Tail}
use Rattle.expr_value.specs.Touches.{Within, Touched, IsMadeCell, IsOneCell, is_integer, is_literal, are_literals}
use Rattle.expr_value.specs.Touches.{integer_at, literal_at, signs_at}
use Rattle.expr_value.specs.Touches.{sign_cells, all_signs, joined_cells, joined_cost, call_cells, call_cost, cells_at}
use Rattle.expr_value.specs.Touches.{cost_at, cost_meant, allowance, still_touched, vector_cells}
use Rattle.expr_scope.specs.declared.operands.Operand.{Operand}
use Rattle.expr_scope.specs.declared.operands.Operand.TheVariants.{Own, Lent}
use Rattle.expr_model.specs.Surroundings.{Env, name_vector}
use Rattle.func_table.specs.declared.func.Arity.{Arity}
use Rattle.func_table.specs.declared.func.Arity.TheVariants.{Unnamed}
use Rattle.func_table.specs.Calls.{arity_of, func_of}
use Rattle.session_model.specs.Expression.{quiet}
use Rattle.valued.specs.Valued.{valued_of, vector_in}
use Rattle.valued.specs.declared.column.Valued.{Valued}
use Rattle.vector_model.specs.Functions as model

-- a call, by its parts
pub meant-Call : (name : List ℕ) (args : List Arg) (s : Env)
    → cost_meant (tree.Call name args) s ≡ call_cost (option_map arity_of (func_of name)) args
meant-Call name args s = search (rules, the_lemmas)

-- and `-`
pub meant-Minus : (arg : Expr) (s : Env)
    → cost_meant (tree.Minus arg) s ≡ (if is_integer arg then Some 1 else None)
meant-Minus arg s = search (rules, the_lemmas)

-- nothing was touched
pub none_touched : (o : Option ℕ) (old new : ℕ) → new ≡ old → Within o old new
none_touched None old new e = tt
none_touched (Some n) old new e = omega (arith, e)

-- the same number otherwise written
pub same_cost : (o : Option ℕ) (old new cost : ℕ) → Within o old new → cost ≡ new → Within o old cost
same_cost None old new cost h e = tt
same_cost (Some n) old new cost h e = omega (arith, h, e)

-- ---- What is touched is within the allowance

twice : (o : Option ℕ) (old cost : ℕ) → Within o old cost → Within (option_map (λ k. 2 * k + 2) o) old cost
twice None old cost h = tt
twice (Some n) old cost h = omega (arith, h)

-- a literal has one sign at most
one_sign : (x : Expr-F Expr Second Arg Bracket Tail) → signs_at x ≤ 1
one_sign (Expr-F.Minus arg) = omega arith
one_sign _ = omega arith

few_signs : (args : List Arg) → all_signs args ≤ length args
few_signs [] = omega arith
few_signs (a ∷ args) =
    let one : sign_cells a.value ≤ 1 = one_sign (out-Expr a.value) in
    let more : all_signs args ≤ length args = few_signs args in
    omega (arith, one, more)

twice_if : (b : Bool) (n m old cost : ℕ) → m ≤ n → Within (if b then Some (n + m) else None) old cost
    → Within (option_map (λ k. 2 * k + 2) (if b then Some n else None)) old cost
twice_if true n m old cost l h = omega (arith, l, h)
twice_if false n m old cost l h = tt

twice_joined : (a : Arity) (args : List Arg) (old cost : ℕ) → Within (joined_cost a args) old cost
    → Within (option_map (λ k. 2 * k + 2) (joined_cells a args)) old cost
twice_joined Unnamed args old cost h =
    twice_if (are_literals args) (length args) (all_signs args) old cost (few_signs args) h
twice_joined _ args old cost h = tt

twice_called : (o : Option Arity) (args : List Arg) (old cost : ℕ) → Within (call_cost o args) old cost
    → Within (option_map (λ k. 2 * k + 2) (call_cells o args)) old cost
twice_called None args old cost h = tt
twice_called (Some a) args old cost h = twice_joined a args old cost h

twice_at : (x : Expr-F Expr Second Arg Bracket Tail) (s : Env) (old cost : ℕ) → Within (cost_at x s) old cost
    → Within (option_map (λ k. 2 * k + 2) (cells_at x s)) old cost
twice_at (Expr-F.Lit cell kind) s old cost h = omega (arith, h)
twice_at (Expr-F.Name name) s old cost h = twice (vector_cells (name_vector s name)) old cost h
twice_at (Expr-F.Minus arg) s old cost h = twice (if is_integer arg then Some 1 else None) old cost h
twice_at (Expr-F.Call name args) s old cost h = twice_called (option_map arity_of (func_of name)) args old cost h
twice_at _ s old cost h = tt

pub allowed : (e : Expr) (s : Env) (old new cost : ℕ) → Within (cost_meant e s) old cost → new ≡ cost
    → Within (allowance e s) old new
allowed e s old new cost h k = subst (Within (allowance e s) old) (sym k) (twice_at (out-Expr e) s old cost h)

-- where the cost is known under a condition
pub touched_if : (b : Bool) (n old new : ℕ) → (b ≡ true → new ≤ old + n) → Within (if b then Some n else None) old new
touched_if true n old new h = h refl
touched_if false n old new h = tt

abbrev cells_in : Result model.Valued Fault → ℕ
cells_in (Ok v) = length v.vector.cells
cells_in (Err f) = 0

-- what a name stands for is copied once at most
pub name_copied : (r : Result Vector Fault) (o : Operand) (old new : ℕ) → quiet r ≡ Ok (operand_of o) → new ≡ old
    → Within (vector_cells r) old (new + copied_cells o)
name_copied (Err f) o old new h e = tt
name_copied (Ok v) (Own w) old new h e = omega (arith, e)
name_copied (Ok v) (Lent c) old new h e =
    let k : length v.cells ≡ length c.now.vector.cells = ap cells_in h in
    omega (arith, e, k)

pub name_touched : (r : Result Vector Fault) (a : Result Operand EvalFail) (old new : ℕ)
    → AnswersAs operand_of (quiet r) a → new ≡ old → Within (vector_cells r) old (new + still_touched a)
name_touched r (Ok o) old new h e = name_copied r o old new h e
name_touched r (Err x) old new h e = none_touched (vector_cells r) old (new + 0) (omega (arith, e))

-- values of one cell have as many cells as there are values
pub total_of_ones : (values : List Valued) → All IsOneCell values → total_length (map vector_in values) ≡ length values
total_of_ones [] a = refl
total_of_ones (v ∷ values) a =
    let one : length v.column.vector.cells ≡ 1 = All-head IsOneCell v values a in
    let rest : All IsOneCell values = All-tail IsOneCell v values a in
    let more : total_length (map vector_in values) ≡ length values = total_of_ones values rest in
    omega (arith, one, more)

-- what the joining of literals touches, behind what `-` does
pub literals_joined : (values slice : List Valued) (n m old mid new : ℕ) → All IsOneCell values → slice ≡ values
    → length values ≡ n → Touched m old mid → new ≤ mid + total_length (map vector_in slice) → new ≤ old + (n + m)
literals_joined values slice n m old mid new a e k t h =
    let total : total_length (map vector_in values) ≡ n = total_of_ones values a ∙ k in
    let same : total_length (map vector_in slice) ≡ n = ap (λ vs. total_length (map vector_in vs)) e ∙ total in
    omega (arith, same, t.1, h)

-- ---- One literal after another

both_true : (b c : Bool) → (b && c) ≡ true → (b ≡ true) × (c ≡ true)
both_true true c h = (refl, h)
both_true false c h = cc

left_at : (args : List Arg) (i : ℕ) (a : Arg) → i < length args → a ≡ get_or args i a
    → drop i args ≡ a ∷ drop (i + 1) args
left_at args i a h e = drop-cons args i a h ∙ rw (add-one i, ← e) refl

-- the next argument is a literal, and so are those behind it
pub literals_next : (args : List Arg) (i : ℕ) (a : Arg) → i < length args → a ≡ get_or args i a
    → are_literals (drop i args) ≡ true → (is_literal a.value ≡ true) × (are_literals (drop (i + 1) args) ≡ true)
literals_next args i a h e lit =
    both_true (is_literal a.value) (are_literals (drop (i + 1) args))
    (sym (ap are_literals (left_at args i a h e)) ∙ lit)

-- the counter has grown to `now`, and with what is left it will have grown by no more than n
abbrev pub SoFar : ℕ → ℕ → ℕ → ℕ → Type 0
SoFar n left old now = (old ≤ now) × (now + left ≤ old + n)

-- one argument further
pub signs_next : (args : List Arg) (i : ℕ) (a : Arg) (n old mid new : ℕ) → i < length args → a ≡ get_or args i a
    → SoFar n (all_signs (drop i args)) old mid → Touched (sign_cells a.value) mid new
    → SoFar n (all_signs (drop (i + 1) args)) old new
signs_next args i a n old mid new h e t m =
    let left : all_signs (drop i args) ≡ sign_cells a.value + all_signs (drop (i + 1) args) =
    ap all_signs (left_at args i a h e) in
    (omega (arith, t.0, m.0), omega (arith, left, t.1, m.1))

-- and there it may end
pub signs_done : (n left old new : ℕ) → SoFar n left old new → Touched n old new
signs_done n left old new t = (t.0, omega (arith, t.1))

abbrev valued : model.Valued → Result model.Valued Fault
valued v = Ok v

-- its value has one cell
pub made_one : (o : Operand) (v : Valued) → IsMadeCell o → valued (operand_of o) ≡ valued (valued_of v) → IsOneCell v
made_one (Own w) v h e = sym (ap cells_in e) ∙ h
made_one (Lent c) v h e = absurd h

-- and was had for no more
pub made_unread : (o : Operand) (n old mid new : ℕ) → IsMadeCell o → Touched n old mid → new ≡ mid + copied_cells o
    → Touched n old new
made_unread (Own w) n old mid new h t e = (omega (arith, t.0, e), omega (arith, t.1, e))
made_unread (Lent c) n old mid new h t e = absurd h

-- it stands behind the others
pub ones_more : (done new : List Valued) (v : Valued) → All IsOneCell done → IsOneCell v → new ≡ done ++ v ∷ []
    → All IsOneCell new
ones_more done new v a h e = subst (All IsOneCell) (sym e)
    (All-append IsOneCell done (v ∷ []) a (λ k d l. let z : k ≡ 0 = omega arith in rw z h))

-- ---- `-` before an integer literal

-- it is a literal that has no sign itself
literal_there : (x : Expr-F Expr Second Arg Bracket Tail) → integer_at x ≡ true → literal_at x ≡ true
literal_there (Expr-F.Lit cell kind) h = refl
literal_there _ h = cc

no_sign : (x : Expr-F Expr Second Arg Bracket Tail) → integer_at x ≡ true → signs_at x ≡ 0
no_sign (Expr-F.Lit cell kind) h = refl
no_sign _ h = cc

pub integer_literal : (e : Expr) → is_integer e ≡ true → is_literal e ≡ true
integer_literal e h = literal_there (out-Expr e) h

integer_sign : (e : Expr) → is_integer e ≡ true → sign_cells e ≡ 0
integer_sign e h = no_sign (out-Expr e) h

-- nothing was read
pub unread : (n old new : ℕ) → new ≡ old → Touched n old new
unread n old new e = (omega (arith, e), omega (arith, e))

-- the literal was refused, which touched nothing
pub sign_stopped : (e : Expr) (old new : ℕ) → is_integer e ≡ true → Touched (sign_cells e) old new → Touched 1 old new
sign_stopped e old new i t =
    let none : sign_cells e ≡ 0 = integer_sign e i in
    (t.0, omega (arith, none, t.1))

made_cells : (o : Operand) → IsMadeCell o → length (operand_of o).vector.cells ≡ 1
made_cells (Own v) h = h
made_cells (Lent c) h = absurd h

-- its one cell is read
pub sign_read : (e : Expr) (o : Operand) (old mid new : ℕ) → is_integer e ≡ true → IsMadeCell o
    → Touched (sign_cells e) old mid → new ≡ mid + length (operand_of o).vector.cells → Touched 1 old new
sign_read e o old mid new i m t h =
    let none : sign_cells e ≡ 0 = integer_sign e i in
    let one : length (operand_of o).vector.cells ≡ 1 = made_cells o m in
    (omega (arith, t.0, h), omega (arith, none, one, t.1, h))

-- and one is made
pub sign_made : (o : Operand) (v : Valued) → IsMadeCell o
    → length v.column.vector.cells ≡ length (operand_of o).vector.cells → IsOneCell v
sign_made o v m h = h ∙ made_cells o m

-- so it is within its cost
pub sign_touched : (b : Bool) (r : Result Operand EvalFail) (old new : ℕ) → (b ≡ true → IfOk r IsMadeCell)
    → (b ≡ true → Touched 1 old new) → Within (if b then Some 1 else None) old (new + still_touched r)
sign_touched false r old new m t = tt
sign_touched true (Ok (Own v)) old new m t = let u : new ≤ old + 1 = (t refl).1 in omega (arith, u)
sign_touched true (Ok (Lent c)) old new m t = absurd (m refl)
sign_touched true (Err e) old new m t = let u : new ≤ old + 1 = (t refl).1 in omega (arith, u)

pub ruleset literals = (made_one, made_unread)

pub ruleset signs = (integer_literal, sign_stopped, sign_read, sign_made)

pub ruleset costs =
    (meant-Call, meant-Minus, none_touched, same_cost, touched_if, name_touched, total_of_ones, unread, sign_touched)

pub ruleset allowances = (none_touched, same_cost, allowed)
