-- The names of a table whose columns at some places have new names, beside those that the definition gives.
--   AreAt names old cols        each old name stands at its place
--   marked old new names all    all, each with the new name where its name is an old one
use Rattle.std.proofs.Common.{◌≡◌, ◌+◌, ◌<◌, ◌==◌, ◌∙◌, ℕ, zero, suc, true, false, cond, nat_lt, List, []}
use Rattle.std.proofs.Common.{◌∷◌, All, Option, None, Some, length, map, get_or, set, arith, refl, sym, ap, subst, inl}
use Rattle.std.proofs.Common.{inr}
use Rattle.std.specs.List.{AllByRecursion, IsDistinct, position_or_len}
use Rattle.std.specs.Str.{bytes_eq}
use Rattle.std.specs.Cmp.Lexicographic.{nat_list_eq_equiv}
use Rattle.std.proofs.lemmas.Bool.{cases_Bool, cond-true}
use Rattle.std.proofs.lemmas.Bool.Decides.{nat_tests}
use Rattle.std.proofs.lemmas.List.{length-set}
use Rattle.std.proofs.lemmas.List.Elements.{All-from_recursion, All-get_or, recursion_from_All}
use Rattle.std.proofs.lemmas.Map.Keys.{IsDistinct-cons, IsDistinct-head, IsDistinct-tail, apart_from_distinct}
use Rattle.assign_ref.proofs.Columns.{name_refl, place_some, same_name}
use Rattle.dt_model.specs.Table.{heads_of, name_at, names_at, place_of}
use Rattle.dt_model.specs.Vector.{Vector}
use Rattle.dt_table.specs.Plain.{plain}
use Rattle.dt_table.specs.Table.{IndexSeen, IsColumnList, IsFilled, IsIndex, IsTable, TableSeen, put_in_order, renamed}
use Rattle.na_vector.specs.Frame.{vectors_of}
use Rattle.session_model.specs.Set.{name_for, new_name_of, renamed_head, renamed_table}
use Rattle.stmt_change.specs.Effects.{with_names}
use Rattle.cmd_assign.specs.Renames.{places_of}

-- each old name stands at its place
abbrev pub AreAt : List (List ℕ) → List (List ℕ) → List ℕ → Type 0
AreAt names [] [] = Unit {0}
AreAt names (o ∷ old) (c ∷ cols) = (place_of o names ≡ Some c) × AreAt names old cols
AreAt names _ _ = ⊥

pub are_at : (names old : List (List ℕ)) (cols : List ℕ) → places_of names old ≡ map Some cols → AreAt names old cols
are_at names [] [] e = tt
are_at names [] (c ∷ cols) e = cc
are_at names (o ∷ old) [] e = cc
are_at names (o ∷ old) (c ∷ cols) e =
    (let here : place_of o names ≡ Some c = cc in
    let rest : places_of names old ≡ map Some cols = cc in
    (here, are_at names old cols rest))

pub as_many : (names old : List (List ℕ)) (cols : List ℕ) → AreAt names old cols → length cols ≡ length old
as_many names [] [] h = refl
as_many names [] (c ∷ cols) h = absurd h
as_many names (o ∷ old) [] h = absurd h
as_many names (o ∷ old) (c ∷ cols) h = ap suc (as_many names old cols h.1)

-- ---- The columns are in range, and none stands twice

in_range : (names old : List (List ℕ)) (cols : List ℕ) → AreAt names old cols
    → AllByRecursion (λ c. c < length names) cols
in_range names [] [] h = tt
in_range names [] (c ∷ cols) h = absurd h
in_range names (o ∷ old) [] h = absurd h
in_range names (o ∷ old) (c ∷ cols) h = ((place_some o names c h.0).0, in_range names old cols h.1)

-- names that differ stand at places that differ
places_apart : (names : List (List ℕ)) (o q : List ℕ) (c d : ℕ) → place_of o names ≡ Some c → place_of q names ≡ Some d
    → bytes_eq o q ≡ false → (c == d) ≡ false
places_apart names o q c d p r n =
    elim (cases_Bool (c == d)) [
      | inl hit ↦ (let same : c ≡ d = grind arith in
          let left : o ≡ name_at names c = same_name o (name_at names c) (place_some o names c p).1 in
          let right : q ≡ name_at names d = same_name q (name_at names d) (place_some q names d r).1 in
          let one : o ≡ q = left ∙ ap (name_at names) same ∙ sym right in
          let equal : bytes_eq o q ≡ true = subst (λ x. bytes_eq o x ≡ true) one (name_refl o) in cc)
      | inr miss ↦ miss
    ]

head_apart : (names : List (List ℕ)) (o : List ℕ) (c : ℕ) (old : List (List ℕ)) (cols : List ℕ)
    → place_of o names ≡ Some c → AllByRecursion (λ y. bytes_eq o y ≡ false) old → AreAt names old cols
    → AllByRecursion (λ y. (c == y) ≡ false) cols
head_apart names o c [] [] p d h = tt
head_apart names o c [] (e ∷ cols) p d h = absurd h
head_apart names o c (q ∷ old) [] p d h = absurd h
head_apart names o c (q ∷ old) (e ∷ cols) p d h =
    (places_apart names o q c e p h.0 d.0, head_apart names o c old cols p d.1 h.1)

no_columns : IsDistinct (λ (a b : ℕ). a == b) []
unfolding IsDistinct
no_columns = tt

columns_apart : (names old : List (List ℕ)) (cols : List ℕ) → IsDistinct bytes_eq old → AreAt names old cols
    → IsDistinct (λ (a b : ℕ). a == b) cols
columns_apart names [] [] d h = no_columns
columns_apart names [] (c ∷ cols) d h = absurd h
columns_apart names (o ∷ old) [] d h = absurd h
columns_apart names (o ∷ old) (c ∷ cols) d h =
    IsDistinct-cons (λ (a b : ℕ). a == b) c cols
    (head_apart names o c old cols h.0 (IsDistinct-head bytes_eq o old d) h.1)
    (columns_apart names old cols (IsDistinct-tail bytes_eq o old d) h.1)

pub column_list : (names old : List (List ℕ)) (cols : List ℕ) → IsDistinct bytes_eq old → AreAt names old cols
    → IsColumnList (length names) cols
column_list names old cols d h = record {
  in_range = All-from_recursion (λ c. c < length names) cols (in_range names old cols h);
  distinct = columns_apart names old cols d h;
}

-- ---- The place of a name, one name after another

place_here : (q o : List ℕ) (old : List (List ℕ)) → bytes_eq q o ≡ true → place_of q (o ∷ old) ≡ Some 0
place_here q o old e =
    (let p : position_or_len (bytes_eq q) (o ∷ old) ≡ 0 = rw e refl in
    rw p (cond-true (nat_lt 0 (length (o ∷ old))) (Some 0) None (grind (arith, nat_tests))))

later : (a b : ℕ) (n : List ℕ) (new : List (List ℕ)) (z : List ℕ)
    → name_for (cond (nat_lt (suc a) (suc b)) (Some (suc a)) None) (n ∷ new) z
    ≡ name_for (cond (nat_lt a b) (Some a) None) new z
later a b n new z =
    (let same : nat_lt (suc a) (suc b) ≡ nat_lt a b = grind (arith, nat_tests) in
    rw same (elim (nat_lt a b) as (λ v. name_for (cond v (Some (suc a)) None) (n ∷ new) z
    ≡ name_for (cond v (Some a) None) new z) [ true ↦ refl | false ↦ refl ]))

-- a name that is not the first old one has the name that the others give it
name_later : (q o : List ℕ) (old : List (List ℕ)) (n : List ℕ) (new : List (List ℕ)) (z : List ℕ)
    → bytes_eq q o ≡ false → name_for (place_of q (o ∷ old)) (n ∷ new) z ≡ name_for (place_of q old) new z
name_later q o old n new z e =
    (let p : position_or_len (bytes_eq q) (o ∷ old) ≡ 1 + position_or_len (bytes_eq q) old = rw e refl in
    let more : 1 + position_or_len (bytes_eq q) old ≡ suc (position_or_len (bytes_eq q) old) = omega arith in
    rw (p, more) (later (position_or_len (bytes_eq q) old) (length old) n new z))

-- a name that differs from each has no place
place_none : (q : List ℕ) (old : List (List ℕ)) → AllByRecursion (λ y. bytes_eq q y ≡ false) old
    → place_of q old ≡ None
place_none q old h = go (place_of q old) refl
  where
    go : (o : Option ℕ) → place_of q old ≡ o → place_of q old ≡ None
    go None e = e
    go (Some c) e =
        (let found = place_some q old c e in
        let miss : bytes_eq q (get_or old c []) ≡ false = All-get_or (λ y. bytes_eq q y ≡ false) old c [] found.0
        (All-from_recursion (λ y. bytes_eq q y ≡ false) old h) in
        let hit : bytes_eq q (get_or old c []) ≡ true = found.1 in cc)

-- ---- Names with marks

abbrev pub marked : List (List ℕ) → List (List ℕ) → List (List ℕ) → List (List ℕ) → List (List ℕ)
marked old new (q ∷ names) (z ∷ all) = name_for (place_of q old) new z ∷ marked old new names all
marked old new _ _ = []

marked_none : (new names all : List (List ℕ)) → length names ≡ length all → marked [] new names all ≡ all
marked_none new [] [] e = refl
marked_none new [] (z ∷ all) e = absurd (omega (arith, e))
marked_none new (q ∷ names) [] e = absurd (omega (arith, e))
marked_none new (q ∷ names) (z ∷ all) e = ap (λ l. z ∷ l) (marked_none new names all (omega (arith, e)))

marked_self : (old new names : List (List ℕ)) → marked old new names names ≡ map (new_name_of old new) names
marked_self old new [] = refl
marked_self old new (q ∷ names) = ap (λ l. new_name_of old new q ∷ l) (marked_self old new names)

-- an old name that is none of these changes nothing
marked_absent : (o n : List ℕ) (old new names all : List (List ℕ)) → AllByRecursion (λ y. bytes_eq o y ≡ false) names
    → marked old new names all ≡ marked (o ∷ old) (n ∷ new) names all
marked_absent o n old new [] all h = refl
marked_absent o n old new (q ∷ names) [] h = refl
marked_absent o n old new (q ∷ names) (z ∷ all) h =
    (let miss : bytes_eq q o ≡ false = nat_list_eq_equiv.symm q o ∙ h.0 in
    λ j. sym (name_later q o old n new z miss) j ∷ marked_absent o n old new names all h.1 j)

-- one more old name: the name at its place is the new one
marked_more : (o n : List ℕ) (old new names all : List (List ℕ)) (c : ℕ) → length names ≡ length all
    → IsDistinct bytes_eq names → place_of o old ≡ None → c < length names → o ≡ name_at names c
    → marked old new names (set all c n) ≡ marked (o ∷ old) (n ∷ new) names all
marked_more o n old new [] all c len d none lt at = absurd (omega arith)
marked_more o n old new (q ∷ names) [] c len d none lt at = absurd (omega (arith, len))
marked_more o n old new (q ∷ names) (z ∷ all) zero len d none lt at =
    (let left : name_for (place_of q old) new n ≡ n = subst (λ x. name_for (place_of x old) new n ≡ n) at
    (ap (λ p. name_for p new n) none) in
    let right : name_for (place_of q (o ∷ old)) (n ∷ new) z ≡ n =
    ap (λ p. name_for p (n ∷ new) z) (place_here q o old (subst (λ x. bytes_eq q x ≡ true) (sym at) (name_refl q))) in
    let apart : AllByRecursion (λ y. bytes_eq o y ≡ false) names = subst (λ x. AllByRecursion
    (λ y. bytes_eq x y ≡ false) names) (sym at) (IsDistinct-head bytes_eq q names d) in
    λ j. (left ∙ sym right) j ∷ marked_absent o n old new names all apart j)
marked_more o n old new (q ∷ names) (z ∷ all) (suc c) len d none lt at =
    (let apart : bytes_eq q (name_at names c) ≡ false =
    apart_from_distinct bytes_eq (q ∷ names) 0 (suc c) [] d (omega arith) lt in
    let miss : bytes_eq q o ≡ false = subst (λ x. bytes_eq q x ≡ false) (sym at) apart in
    λ j. sym (name_later q o old n new z miss) j
    ∷ marked_more o n old new names all c (omega (arith, len)) (IsDistinct-tail bytes_eq q names d) none
    (omega arith) at j)

-- ---- All names

put_marked : (old new names : List (List ℕ)) (cols : List ℕ) (all : List (List ℕ)) → length cols ≡ length new
    → length names ≡ length all → IsDistinct bytes_eq names → IsDistinct bytes_eq old → AreAt names old cols
    → put_in_order cols new all ≡ marked old new names all
put_marked [] new names [] all each len d u h = sym (marked_none new names all len)
put_marked [] new names (c ∷ cols) all each len d u h = absurd h
put_marked (o ∷ old) new names [] all each len d u h = absurd h
put_marked (o ∷ old) [] names (c ∷ cols) all each len d u h = absurd (omega (arith, each))
put_marked (o ∷ old) (n ∷ new) names (c ∷ cols) all each len d u h =
    (let found = place_some o names c h.0 in
    put_marked old new names cols (set all c n) (omega (arith, each)) (len ∙ sym (length-set all c n)) d
    (IsDistinct-tail bytes_eq o old u) h.1
    ∙ marked_more o n old new names all c len d (place_none o old (IsDistinct-head bytes_eq o old u)) found.0
    (same_name o (name_at names c) found.1))

pub renamed_is : (old new names : List (List ℕ)) (cols : List ℕ) → length cols ≡ length new
    → IsDistinct bytes_eq names → IsDistinct bytes_eq old → AreAt names old cols
    → renamed cols new names ≡ map (new_name_of old new) names
renamed_is old new names cols each d u h =
    put_marked old new names cols names each refl d u h ∙ marked_self old new names

-- no name is empty then
for_filled : (o : Option ℕ) (q : List ℕ) (old new : List (List ℕ)) → length new ≡ length old → place_of q old ≡ o
    → All IsFilled new → IsFilled q → IsFilled (name_for o new q)
for_filled None q old new e p h f = f
for_filled (Some k) q old new e p h f =
    (let lt : k < length old = (place_some q old k p).0 in
    All-get_or IsFilled new k [] (omega (arith, e)) h)

each_filled : (old new names : List (List ℕ)) → length new ≡ length old → All IsFilled new
    → AllByRecursion IsFilled names → AllByRecursion IsFilled (map (new_name_of old new) names)
each_filled old new [] e h f = tt
each_filled old new (q ∷ names) e h f =
    (for_filled (place_of q old) q old new e refl h f.0, each_filled old new names e h f.1)

pub names_filled : (old new names : List (List ℕ)) → length new ≡ length old → All IsFilled new → All IsFilled names
    → All IsFilled (map (new_name_of old new) names)
names_filled old new names e h f =
    All-from_recursion IsFilled (map (new_name_of old new) names)
    (each_filled old new names e h (recursion_from_All IsFilled names f))

-- ---- The plain reading

heads_renamed : (old new names : List (List ℕ)) (vs : List Vector)
    → heads_of (map (new_name_of old new) names) vs ≡ map (renamed_head old new) (heads_of names vs)
heads_renamed old new [] vs = refl
heads_renamed old new (q ∷ names) [] = refl
heads_renamed old new (q ∷ names) (v ∷ vs) =
    ap (λ l. (record { name = new_name_of old new q; kind = v.kind }) ∷ l) (heads_renamed old new names vs)

name_mapped : (f : List ℕ → List ℕ) (names : List (List ℕ)) (c : ℕ) → c < length names
    → name_at (map f names) c ≡ f (name_at names c)
name_mapped f [] c lt = absurd (omega arith)
name_mapped f (q ∷ names) zero lt = refl
name_mapped f (q ∷ names) (suc c) lt = name_mapped f names c (omega arith)

names_mapped : (f : List ℕ → List ℕ) (names : List (List ℕ)) (cols : List ℕ)
    → AllByRecursion (λ c. c < length names) cols → names_at (map f names) cols ≡ map f (names_at names cols)
names_mapped f names [] h = refl
names_mapped f names (c ∷ cols) h = λ j. name_mapped f names c h.0 j ∷ names_mapped f names cols h.1 j

indices_mapped : (f : List ℕ → List ℕ) (names : List (List ℕ)) (rows : ℕ) (vs : List Vector) (xs : List IndexSeen)
    → AllByRecursion (IsIndex (length names) rows vs) xs
    → map (λ x. names_at (map f names) x.cols) xs ≡ map (map f) (map (λ x. names_at names x.cols) xs)
indices_mapped f names rows vs [] h = refl
indices_mapped f names rows vs (x ∷ xs) h =
    λ j. names_mapped f names x.cols (recursion_from_All (λ c. c < length names) x.cols h.0.cols.in_range) j
    ∷ indices_mapped f names rows vs xs h.1 j

pub plain_renamed : (old new : List (List ℕ)) (cols : List ℕ) (t : TableSeen) → IsTable t → length cols ≡ length new
    → IsDistinct bytes_eq old → AreAt t.names old cols
    → plain (with_names cols new t) ≡ renamed_table old new (plain t)
plain_renamed old new cols t i each u h =
    (let f : List ℕ → List ℕ = new_name_of old new in
    let names : renamed cols new t.names ≡ map f t.names = renamed_is old new t.names cols each i.names.distinct u h in
    let key : names_at (map f t.names) t.key ≡ map f (names_at t.names t.key) =
    names_mapped f t.names t.key (recursion_from_All (λ c. c < length t.names) t.key i.key.in_range) in
    let indices : map (λ x. names_at (map f t.names) x.cols) t.indices
    ≡ map (map f) (map (λ x. names_at t.names x.cols) t.indices) =
    indices_mapped f t.names t.frame.rows (vectors_of t.frame.columns) t.indices
    (recursion_from_All (IsIndex (length t.names) t.frame.rows (vectors_of t.frame.columns)) t.indices i.indices) in
    ap (λ (n : List (List ℕ)). plain (record t { names = n })) names
    ∙ (λ j. record (plain t) {
      columns = heads_renamed old new t.names (vectors_of t.frame.columns) j;
      key = key j;
      indices = indices j;
    }))
