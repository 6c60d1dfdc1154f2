-- Arguments as items, one after another.
use Rattle.std.proofs.Common.{◌≡◌, ◌<◌, ◌+◌, ◌++◌, ◌∙◌, ℕ, Bor, true, false, List, [], ◌∷◌, length, map, take, get_or}
use Rattle.std.proofs.Common.{Option, None, Some, Ok, Err, refl, sym, ap, arith}
use Rattle.std.proofs.lemmas.List.{map-append, take_more}
use Rattle.assign_sides.specs.Seen.{arg_item, item_seen, items_seen}
use Rattle.dt_base.specs.Fault.{fault}
use Rattle.dt_base.specs.declared.fault.Code.TheVariants.{E19}
use Rattle.dt_tree.specs.declared.tree.Arg.{Arg}
use Rattle.expr_scope.proofs.Ends.{argument_means}
use Rattle.session_model.specs.Assigned.{ForEach, call_names, call_side, is_null, list_side, valued_item}
use Rattle.session_model.specs.Items.{item_of}
use Rattle.session_model.specs.Binding.{word_in}
use Rattle.session_model.specs.Meaning.{arg_meaning, meaning}
use Rattle.session_model.specs.Meanings.{ArgMeaning, Meaning}

-- the word NULL is no item, and any other argument is one
pub no_item : (a : Arg) → true ≡ is_null (meaning a.value).form → None ≡ valued_item (arg_item a)
no_item a h = rw (argument_means a, ← h) refl

pub an_item : (a : Arg) → false ≡ is_null (meaning a.value).form → Some (arg_item a) ≡ valued_item (arg_item a)
an_item a h =
    let not_null : is_null (arg_meaning a).means.form ≡ false = ap (λ (m : Meaning). is_null m.form)
    (argument_means a) ∙ sym h in
    rw not_null refl

-- one more item
pub item_more : (items new : List (Option (Bor Arg))) (args : List Arg) (i : ℕ) (a : Arg) (r : Option (Bor Arg))
    → items_seen items ≡ map valued_item (map arg_item (take i args)) → i < length args → a ≡ get_or args i a
    → item_seen r ≡ valued_item (arg_item a) → new ≡ items ++ r ∷ []
    → items_seen new ≡ map valued_item (map arg_item (take (i + 1) args))
item_more items new args i a r h lt at is e =
    let more : take (i + 1) args ≡ take i args ++ a ∷ [] =
    take_more args i a lt ∙ ap (λ (x : Arg). take i args ++ x ∷ []) (sym at) in
    let right : map valued_item (map arg_item (take (i + 1) args))
    ≡ map valued_item (map arg_item (take i args)) ++ valued_item (arg_item a) ∷ [] =
    ap (λ l. map valued_item (map arg_item l)) more
    ∙ (ap (map valued_item) (map-append arg_item (take i args) (a ∷ []))
    ∙ map-append valued_item (map arg_item (take i args)) (arg_item a ∷ [])) in
    let left : items_seen new ≡ items_seen items ++ item_seen r ∷ [] =
    ap items_seen e ∙ map-append item_seen items (r ∷ []) in
    left ∙ (ap (λ l. l ++ item_seen r ∷ []) h
    ∙ (ap (λ x. map valued_item (map arg_item (take i args)) ++ x ∷ []) is ∙ sym right))

-- one more name
pub name_more : (names new : List (List ℕ)) (args : List Arg) (i : ℕ) (a : Arg) (name : List ℕ)
    → names ≡ call_names (map arg_meaning (take i args)) → i < length args → a ≡ get_or args i a
    → name ≡ word_in (arg_meaning a).name → new ≡ names ++ name ∷ []
    → new ≡ call_names (map arg_meaning (take (i + 1) args))
name_more names new args i a name h lt at is e =
    let more : take (i + 1) args ≡ take i args ++ a ∷ [] =
    take_more args i a lt ∙ ap (λ (x : Arg). take i args ++ x ∷ []) (sym at) in
    let right : call_names (map arg_meaning (take (i + 1) args))
    ≡ call_names (map arg_meaning (take i args)) ++ word_in (arg_meaning a).name ∷ [] =
    ap (λ l. call_names (map arg_meaning l)) more
    ∙ (ap call_names (map-append arg_meaning (take i args) (a ∷ []))
    ∙ map-append (λ (m : ArgMeaning). word_in m.name) (map arg_meaning (take i args)) (arg_meaning a ∷ [])) in
    e ∙ (ap (λ l. l ++ name ∷ []) h
    ∙ (ap (λ x. call_names (map arg_meaning (take i args)) ++ x ∷ []) is ∙ sym right))

-- a list has items or none
pub no_side : (word : List ℕ) (args : List Arg) → length args ≡ 0 → list_side word (map arg_item args)
    ≡ Err (fault E19 word)
no_side word [] h = refl
no_side word (a ∷ args) h = absurd (omega (arith, h))

pub some_side : (word : List ℕ) (args : List Arg) → 0 < length args → list_side word (map arg_item args)
    ≡ Ok (ForEach (map valued_item (map arg_item args)))
some_side word [] h = absurd (omega (arith, h))
some_side word (a ∷ args) h = refl

-- the arguments of the call of `:=` as items
call_items : (args : List Arg) → map item_of (map arg_meaning args) ≡ map arg_item args
call_items [] = refl
call_items (a ∷ args) = ap (λ l. arg_item a ∷ l) (call_items args)

pub side_of_call : (items : List (Option (Bor Arg))) (args : List Arg)
    → items_seen items ≡ map valued_item (map arg_item args)
    → ForEach (items_seen items) ≡ call_side (map arg_meaning args)
side_of_call items args h = ap ForEach (h ∙ ap (map valued_item) (sym (call_items args)))

pub ruleset items = (no_item, an_item, item_more, name_more, no_side, some_side)
