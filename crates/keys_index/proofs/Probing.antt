-- A column by its place and by its name; what calls mention.
use Rattle.std.proofs.Common.{◌≡◌, ◌∙◌, ◌+◌, ◌<◌, ◌==◌, ◌&&◌, ◌||◌, ℕ, zero, suc, nat_lt, nat_le, not, Bool, true, false}
use Rattle.std.proofs.Common.{List, [], ◌∷◌, All, length, map, get_or, drop, slice_get, Option, None, Some, arith, rules}
use Rattle.std.proofs.Common.{refl, sym, ap, inl, inr}
use Rattle.std.specs.Borrow.{Bor}
use Rattle.std.specs.List.{IsDistinct, list_all, list_any, position_or_len}
use Rattle.std.specs.Str.{bytes_eq}
use Rattle.std.specs.Cmp.Lexicographic.{nat_list_eq_equiv}
use Rattle.std.proofs.lemmas.Bool.{cases_eq, cases_lt, cond-true}
use Rattle.std.proofs.lemmas.Bool.Decides.{nat_tests}
use Rattle.std.proofs.lemmas.List.{drop_more}
use Rattle.std.proofs.lemmas.List.Quantifiers.{position-Some}
use Rattle.std.proofs.lemmas.Option.{slice_get-get_or}
use Rattle.std.proofs.lemmas.Slice.Eq.{bytes_eq-Decides}
use Rattle.std.proofs.lemmas.List.Elements.{All-head, All-tail}
use Rattle.std.proofs.lemmas.List.Folds.{list_all-append}
use Rattle.std.proofs.lemmas.List.Sums.{position_or_len_is}
use Rattle.std.proofs.lemmas.Map.Keys.{apart_from_distinct}
use Rattle.assign_model.specs.Assign.{names_in}
use Rattle.dt_base.specs.declared.cell.ColType.{ColType}
use Rattle.dt_model.specs.Table.{ColumnHead, heads_of, name_at, names_at, place_of}
use Rattle.dt_model.specs.Vector.{Vector}
use Rattle.dt_tree.specs.declared.tree.Expr.{Expr, the_lemmas}
use Rattle.dt_tree.specs.declared.tree.Expr.TheOpen.{Expr-F}
use Rattle.dt_tree.specs.declared.tree.Expr.TheVariants.{Chain}
use Rattle.dt_tree.specs.declared.tree.Tail.{Tail}
use Rattle.dt_table.proofs.Plain.{plain_names}
use Rattle.dt_table.specs.Plain.{plain}
use Rattle.dt_table.specs.Table.{IndexSeen, IsIndex, IsTable, TableSeen}
use Rattle.func_table.specs.Calls.{kind_of}
use Rattle.func_table.specs.declared.func.Func.{Func}
use Rattle.func_table.specs.declared.func.Kind.{Kind}
use Rattle.func_table.specs.declared.func.Kind.TheVariants as kind
use Rattle.keys_index.specs.Probes.{index_column, is_description, is_member, is_told, leads, leads_index, probe_seen}
use Rattle.keys_index.specs.declared.probes.Probe.{Probe}
use Rattle.keys_index.specs.declared.probes.ProbeOp.{ProbeOp}
use Rattle.na_vector.specs.Column.{Seen}
use Rattle.na_vector.specs.Frame.{vectors_of}
use Rattle.session_model.specs.AutoIndex.{adds_index, head_at, is_within, names_nothing, of_column}
use Rattle.session_model.specs.AutoIndex.{probe_at, probe_in, type_place}
use Rattle.session_model.specs.Form.{name_in}
use Rattle.session_model.specs.Indices.{begins_with, is_first}
use Rattle.session_model.specs.Items.{bare_item}
use Rattle.session_model.specs.Written as written
use Rattle.session_model.specs.Meaning.{args_mention, call_mentions, chain_probe, expr_step, kind_mentions, meaning}
use Rattle.session_model.specs.Meaning.{tail_meaning}
use Rattle.session_model.specs.Meanings.{ArgMeaning, Meaning}

-- ---- A column by its name

-- a name stands first at its own place, where no name stands twice
place_of_name : (names : List (List ℕ)) (c : ℕ) → IsDistinct bytes_eq names → c < length names
    → place_of (name_at names c) names ≡ Some c
place_of_name names c d lt =
    let p = bytes_eq (name_at names c) in
    let at : position_or_len p names ≡ c =
    position_or_len_is p names c [] (omega arith)
    (λ k below. nat_list_eq_equiv.symm (name_at names c) (get_or names k [])
    ∙ apart_from_distinct bytes_eq names k c [] d below lt)
    (λ below. nat_list_eq_equiv.refl (name_at names c)) in
    rw at (cond-true (nat_lt c (length names)) (Some c) None (grind (arith, nat_tests)))

-- names at two places differ
pub same_place : (names : List (List ℕ)) (a b : ℕ) → IsDistinct bytes_eq names → a < length names → b < length names
    → bytes_eq (name_at names a) (name_at names b) ≡ (b == a)
same_place names a b d x y =
    elim (cases_eq a b) [
      | inl one ↦ rw one (nat_list_eq_equiv.refl (name_at names b) ∙ grind (arith, nat_tests))
      | inr two ↦ elim (cases_lt a b) [
        | inl lt ↦ apart_from_distinct bytes_eq names a b [] d lt y ∙ grind (arith, nat_tests)
        | inr ge ↦ nat_list_eq_equiv.symm (name_at names a) (name_at names b)
            ∙ (apart_from_distinct bytes_eq names b a [] d (omega arith) x ∙ grind (arith, nat_tests))
      ]
    ]

-- the column at a place, in the plain reading
head_of : (names : List (List ℕ)) (columns : List Seen) (c : ℕ) (x : Seen) → slice_get columns c ≡ Some x
    → c < length names
    → slice_get (heads_of names (vectors_of columns)) c ≡ Some (record { name = name_at names c; kind = x.vector.kind })
head_of [] columns c x e lt = absurd (omega arith)
head_of (name ∷ names) [] c x e lt = cc
head_of (name ∷ names) (y ∷ columns) zero x e lt =
    ap (λ (o : Option Seen). head_from name o) e
  where
    head_from : List ℕ → Option Seen → Option ColumnHead
    head_from name None = None
    head_from name (Some y) = Some (record { name = name; kind = y.vector.kind })
head_of (name ∷ names) (y ∷ columns) (suc c) x e lt = head_of names columns c x e (omega arith)

pub head_named : (t : TableSeen) (c : ℕ) (x : Seen) → IsTable t → c < length t.names
    → slice_get t.frame.columns c ≡ Some x
    → head_at (plain t).columns (place_of (name_at t.names c) (names_in (plain t)))
    ≡ Some (record { name = name_at t.names c; kind = x.vector.kind })
head_named t c x h lt e =
    ap (λ (l : List (List ℕ)). head_at (plain t).columns (place_of (name_at t.names c) l)) (plain_names t h)
    ∙ (ap (head_at (plain t).columns) (place_of_name t.names c h.names.distinct lt)
    ∙ head_of t.names t.frame.columns c x e lt)

-- ---- The key and the indices

leads_named : (names : List (List ℕ)) (c : ℕ) (cols : List ℕ) → IsDistinct bytes_eq names → c < length names
    → All (λ d. d < length names) cols → is_first (name_at names c) (names_at names cols) ≡ leads c cols
leads_named names c [] d lt h = refl
leads_named names c (x ∷ cols) d lt h = same_place names c x d lt (All-head (λ d. d < length names) x cols h)

any_named : (names : List (List ℕ)) (rows : ℕ) (vectors : List Vector) (c : ℕ) (xs : List IndexSeen)
    → IsDistinct bytes_eq names → c < length names → All (IsIndex (length names) rows vectors) xs
    → list_any (is_first (name_at names c)) (map (λ x. names_at names x.cols) xs) ≡ list_any (λ x. leads c x.cols) xs
any_named names rows vectors c [] d lt h = refl
any_named names rows vectors c (x ∷ xs) d lt h =
    let one : IsIndex (length names) rows vectors x = All-head (IsIndex (length names) rows vectors) x xs h in
    let here = leads_named names c x.cols d lt one.cols.in_range in
    let rest = any_named names rows vectors c xs d lt (All-tail (IsIndex (length names) rows vectors) x xs h) in
    λ i. here i || rest i

pub begins_named : (t : TableSeen) (c : ℕ) → IsTable t → c < length t.names
    → begins_with (name_at t.names c) (plain t) ≡ (leads c t.key || list_any (λ x. leads c x.cols) t.indices)
begins_named t c h lt =
    let key = leads_named t.names c t.key h.names.distinct lt h.key.in_range in
    let rest = any_named t.names t.frame.rows (vectors_of t.frame.columns) c t.indices h.names.distinct lt h.indices in
    λ i. key i || rest i

-- the index at a place, and those behind it
leads_from : (c : ℕ) (xs : List IndexSeen) (k : ℕ) → k < length xs
    → list_any (λ x. leads c x.cols) (drop k xs)
    ≡ (leads_index c (slice_get xs k) || list_any (λ x. leads c x.cols) (drop (k + 1) xs))
leads_from c xs k lt =
    let d : IndexSeen = record { cols = []; order = [] } in
    ap (list_any (λ x. leads c x.cols)) (drop_more xs k d lt)
    ∙ ap (λ (o : Option IndexSeen). leads_index c o || list_any (λ x. leads c x.cols) (drop (k + 1) xs))
    (sym (slice_get-get_or xs k d lt))

pub leads_here : (c : ℕ) (xs : List IndexSeen) (k : ℕ) (b : Bool) → k < length xs
    → list_any (λ x. leads c x.cols) xs ≡ list_any (λ x. leads c x.cols) (drop k xs)
    → b ≡ leads_index c (slice_get xs k) → b ≡ true → true ≡ list_any (λ x. leads c x.cols) xs
leads_here c xs k b lt inv is hit = sym (inv ∙ (leads_from c xs k lt ∙ rw (sym is, hit) refl))

pub leads_on : (c : ℕ) (xs : List IndexSeen) (k : ℕ) (b : Bool) → k < length xs
    → list_any (λ x. leads c x.cols) xs ≡ list_any (λ x. leads c x.cols) (drop k xs)
    → b ≡ leads_index c (slice_get xs k) → b ≡ false
    → list_any (λ x. leads c x.cols) xs ≡ list_any (λ x. leads c x.cols) (drop (k + 1) xs)
leads_on c xs k b lt inv is miss = inv ∙ (leads_from c xs k lt ∙ rw (sym is, miss) refl)

-- ---- The column of a name

-- a column at the place of a name has that name
pub place_named : (names : List (List ℕ)) (q : List ℕ) (c : ℕ) → Some c ≡ place_of q names
    → (c < length names) × (name_at names c ≡ q)
place_named names q c e =
    let found = position-Some (bytes_eq q) names c [] (sym e) in
    (found.0, sym ((bytes_eq-Decides q (name_at names c)).0 found.1))

pub column_probed : (names : List (List ℕ)) (q : List ℕ) (c : ℕ) (o : ProbeOp) (right : Bor Expr)
    → Some c ≡ place_of q names → names_nothing names (meaning right.now).mentions ≡ true
    → Some (probe_seen names (record { col = c; op = o; right = right }))
    ≡ of_column names (record { column = q; member = is_member o; right = bare_item (meaning right.now) })
column_probed names q c o right e free =
    let found = place_named names q c e in
    let one : List ℕ → written.Probe = λ n.
    record { column = n; member = is_member o; right = bare_item (meaning right.now) } in
    ap (λ n. Some (one n)) found.1 ∙ sym (rw (sym e, free) refl)

-- ---- A chain

chain_means : (first : Expr) (rest : List Tail) → meaning (Chain first rest)
    ≡ expr_step (Expr-F.Chain (meaning first) (map tail_meaning rest))
chain_means first rest = search (rules, the_lemmas)

pub probe_chain : (t : TableSeen) (e first : Expr) (rest : List Tail) → IsTable t → e ≡ Chain first rest
    → probe_in (plain t) (meaning e)
    ≡ probe_at t.names (chain_probe (name_in (meaning first).form) (map tail_meaning rest))
probe_chain t e first rest h is =
    ap (λ (l : List (List ℕ)). probe_at l (meaning e).probe) (plain_names t h)
    ∙ ap (λ (m : Meaning). probe_at t.names m.probe) (ap meaning is ∙ chain_means first rest)

-- ---- Whether a column gets an index

pub adds_is : (t : TableSeen) (p : Probe) (kind other : ColType) (cells : ℕ) (auto : Bool)
    → head_at (plain t).columns (place_of (name_at t.names p.col) (names_in (plain t)))
    ≡ Some (record { name = name_at t.names p.col; kind = other })
    → index_column (adds_index (plain t) (probe_seen t.names p) kind cells auto) p.col
    ≡ index_column (auto && (nat_le (type_place kind) (type_place other)
    && ((is_member p.op || cells == 1) && not (begins_with (name_at t.names p.col) (plain t))))) p.col
adds_is t p kind other cells auto e =
    ap (λ (o : Option ColumnHead). index_column (auto && (is_within kind o
    && ((is_member p.op || cells == 1) && not (begins_with (name_at t.names p.col) (plain t))))) p.col) e

-- ---- What calls mention

kind_free : (p : List ℕ → Bool) (k : Kind) (args : List ArgMeaning)
    → list_all p (kind_mentions k args) ≡ (is_told k || list_all p (args_mention args))
kind_free p kind.Table args = refl
kind_free p kind.Command args = refl
kind_free p kind.Vector args = refl
kind_free p kind.Description args = refl
kind_free p kind.Report args = refl
kind_free p kind.Rows args = refl

pub call_free : (p : List ℕ → Bool) (o : Option Func) (args : List ArgMeaning)
    → list_all p (call_mentions o args) ≡ (is_description o || list_all p (args_mention args))
call_free p None args = refl
call_free p (Some f) args = kind_free p (kind_of f) args

pub ruleset mentioned = (call_free, list_all-append)
