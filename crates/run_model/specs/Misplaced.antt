-- Where an assignment or a bracket stands wrong, in a script that the grammar accepts. An
-- assignment stands only in the outermost chain of a statement, and behind its bracket only one
-- empty bracket may follow. The call of `:=` as j is an assignment, with one argument or more, each
-- with a name. The fault is at the ":=" or at the "[".
--   is_mark x           the token may stand wrong: "[", ":=", or the name `:=`
--   marks_from n ts     the places of these tokens, the first token being at n
--   inner t             for each mark of an expression within another: whether it stands wrong
--   outer t             the same of a statement's whole expression
--   flags ss            the same of a script
--   misplaced ts ss     the place of the first mark that stands wrong
use Rattle.std.specs.Prelude.{ℕ, suc, Bool, true, false, not, List, [], ◌∷◌, ◌++◌, Option, Some, None, if◌then◌else◌}
use Rattle.run_model.specs.GrammarTrees.{Word, Token, Name, Assign, OpenSquare, Tree, Lit, Var, Paren, Unary, Chain}
use Rattle.run_model.specs.GrammarTrees.{Call, Query, Formula, Tails, NoTails, MoreTails, Args, NoArgs, MoreArgs, Item}
use Rattle.run_model.specs.GrammarTrees.{Absent, Given, Assigns, AssignsAll, Brackets, NoBrackets, MoreBrackets, Stmt}
use Rattle.run_model.specs.Grammar.{is_assign}

-- the token may stand wrong
abbrev pub is_mark : Token → Bool
is_mark (Name x) = is_assign x
is_mark Assign = true
is_mark OpenSquare = true
is_mark _ = false

-- the places of the marks, counted from n
abbrev pub marks_from : ℕ → List Token → List ℕ
marks_from n [] = []
marks_from n (x ∷ xs) = if is_mark x then n ∷ marks_from (suc n) xs else marks_from (suc n) xs

-- The flags of a part of the tree: one for each mark, in the order of the text, true where it
-- stands wrong. A name that is no call's is never wrong.
abbrev pub name_flags : Word → Bool → List Bool
name_flags x wrong = if is_assign x then wrong ∷ [] else []

abbrev pub target_flags : Option Word → List Bool
target_flags None = []
target_flags (Some x) = name_flags x false

abbrev pub names_flags : List Word → List Bool
names_flags [] = []
names_flags (x ∷ xs) = name_flags x false ++ names_flags xs

-- within another expression each assignment stands wrong, and no bracket does
abbrev mutual
  pub inner : Tree → List Bool
  inner (Lit v) = []
  inner (Var x) = name_flags x false
  inner (Paren t) = inner t
  inner (Unary p t) = inner t
  inner (Chain t rest) = inner t ++ inner_tails rest
  inner (Call x args) = name_flags x true ++ inner_args args
  inner (Query t brackets) = inner t ++ inner_brackets brackets
  inner (Formula xs ys) = names_flags xs ++ names_flags ys

  pub inner_tails : Tails → List Bool
  inner_tails NoTails = []
  inner_tails (MoreTails before op t) = inner_tails before ++ inner t

  pub inner_args : Args → List Bool
  inner_args NoArgs = []
  inner_args (MoreArgs before o t) = inner_args before ++ (target_flags o ++ inner t)

  pub inner_item : Item → List Bool
  inner_item Absent = []
  inner_item (Given t) = inner t
  inner_item (Assigns l r) = inner l ++ true ∷ inner r
  inner_item (AssignsAll args) = true ∷ inner_args args

  pub inner_brackets : Brackets → List Bool
  inner_brackets NoBrackets = []
  inner_brackets (MoreBrackets before i j by args) = inner_brackets before
      ++ (false ∷ (inner_item i ++ (inner_item j ++ (inner_item by ++ inner_args args))))

-- how far an outermost chain has come: no assignment yet, one, or one and a bracket behind it
pub data Stage : Type 0 where
  Free : Stage
  Assigned : Stage
  Over : Stage

-- one argument or more, each with a name
abbrev pub all_named : Args → Bool
all_named NoArgs = true
all_named (MoreArgs before None t) = false
all_named (MoreArgs before (Some x) t) = all_named before

abbrev pub are_pairs : Args → Bool
are_pairs NoArgs = false
are_pairs args = all_named args

-- j where an assignment may stand
abbrev pub j_flags : Item → List Bool
j_flags (Assigns l r) = inner l ++ false ∷ inner r
j_flags (AssignsAll args) = not (are_pairs args) ∷ inner_args args
j_flags x = inner_item x

abbrev pub j_stage : Item → Stage
j_stage (Assigns l r) = Assigned
j_stage (AssignsAll args) = Assigned
j_stage x = Free

-- nothing stands in the bracket
abbrev pub is_empty : Item → Item → Item → Args → Bool
is_empty Absent Absent Absent NoArgs = true
is_empty _ _ _ _ = false

-- a bracket of an outermost chain
abbrev pub bracket_flags : Stage → Item → Item → Item → Args → List Bool
bracket_flags Free i j by args = false ∷ (inner_item i ++ (j_flags j ++ (inner_item by ++ inner_args args)))
bracket_flags Assigned i j by args = not (is_empty i j by args)
    ∷ (inner_item i ++ (inner_item j ++ (inner_item by ++ inner_args args)))
bracket_flags Over i j by args = true ∷ (inner_item i ++ (inner_item j ++ (inner_item by ++ inner_args args)))

abbrev pub next_stage : Stage → Item → Stage
next_stage Free j = j_stage j
next_stage _ j = Over

-- how far a chain has come behind these brackets
abbrev pub stage : Brackets → Stage
stage NoBrackets = Free
stage (MoreBrackets before i j by args) = next_stage (stage before) j

abbrev pub outer_brackets : Brackets → List Bool
outer_brackets NoBrackets = []
outer_brackets (MoreBrackets before i j by args) = outer_brackets before ++ bracket_flags (stage before) i j by args

-- a statement's expression
abbrev pub outer : Tree → List Bool
outer (Query t brackets) = inner t ++ outer_brackets brackets
outer t = inner t

-- a statement, and a script
abbrev pub stmt_flags : Stmt → List Bool
stmt_flags s = target_flags s.target ++ outer s.expr

abbrev pub flags : List Stmt → List Bool
flags [] = []
flags (s ∷ ss) = stmt_flags s ++ flags ss

-- the place of the first mark that stands wrong
abbrev pub first_wrong : List ℕ → List Bool → Option ℕ
first_wrong (n ∷ ns) (true ∷ bs) = Some n
first_wrong (n ∷ ns) (false ∷ bs) = first_wrong ns bs
first_wrong _ _ = None

abbrev pub misplaced : List Token → List Stmt → Option ℕ
misplaced ts ss = first_wrong (marks_from 0 ts) (flags ss)
