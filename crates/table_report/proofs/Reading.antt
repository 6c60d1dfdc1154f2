-- Names of columns as texts, one more.
use Rattle.std.proofs.Common.{◌≡◌, ◌<◌, ◌+◌, ◌++◌, ◌∙◌, ℕ, List, [], ◌∷◌, Option, Some, length, map, take, drop}
use Rattle.std.proofs.Common.{get_or, slice_get, codes, sym, ap}
use Rattle.std.proofs.lemmas.List.{append_assoc, drop_more, map-append, take_more}
use Rattle.std.proofs.lemmas.Option.{get_or_from_slice_get, slice_get_within}
use Rattle.dt_base.specs.declared.cell.Cell.TheVariants as is
use Rattle.dt_model.specs.Table.{name_at, names_at}
use Rattle.dt_table.specs.Table.{IndexSeen}
use Rattle.session_model.specs.Indices.{behind, joined}
use Rattle.table_report.specs.Told.{texts_in}

name_there : (names : List (List ℕ)) (c : ℕ) (name : List ℕ) → slice_get names c ≡ Some name → name_at names c ≡ name
name_there names c name e = get_or_from_slice_get names c name [] e

-- one more name behind a text
pub behind_more : (names : List (List ℕ)) (cols : List ℕ) (i : ℕ) (text name all : List ℕ) → i < length cols
    → slice_get names (get_or cols i 0) ≡ Some name → text ++ behind (names_at names (drop i cols)) ≡ all
    → ((text ++ codes "__") ++ name) ++ behind (names_at names (drop (i + 1) cols)) ≡ all
behind_more names cols i text name all lt there h =
    let rest : List ℕ = behind (names_at names (drop (i + 1) cols)) in
    let next : behind (names_at names (drop i cols)) ≡ codes "__" ++ (name ++ rest) =
    ap (λ (l : List ℕ). behind (names_at names l)) (drop_more cols i 0 lt)
    ∙ ap (λ (n : List ℕ). codes "__" ++ (n ++ rest)) (name_there names (get_or cols i 0) name there) in
    append_assoc (text ++ codes "__") name rest
    ∙ (append_assoc text (codes "__") (name ++ rest) ∙ (ap (λ l. text ++ l) (sym next) ∙ h))

-- one more name as a text
pub name_more : (names : List (List ℕ)) (cols : List ℕ) (i : ℕ) (texts new : List (Option (List ℕ))) (name : List ℕ)
    → i < length cols → slice_get names (get_or cols i 0) ≡ Some name
    → texts_in texts ≡ map is.Text (names_at names (take i cols)) → texts_in new ≡ texts_in texts ++ is.Text name ∷ []
    → texts_in new ≡ map is.Text (names_at names (take (i + 1) cols))
name_more names cols i texts new name lt there h e =
    let more : map is.Text (names_at names (take (i + 1) cols))
    ≡ map is.Text (names_at names (take i cols)) ++ is.Text (name_at names (get_or cols i 0)) ∷ [] =
    ap (λ (l : List ℕ). map is.Text (names_at names l)) (take_more cols i 0 lt)
    ∙ (ap (map is.Text) (map-append (name_at names) (take i cols) (get_or cols i 0 ∷ []))
    ∙ map-append is.Text (names_at names (take i cols)) (name_at names (get_or cols i 0) ∷ [])) in
    e ∙ (ap (λ l. l ++ is.Text name ∷ []) h
    ∙ (ap (λ n. map is.Text (names_at names (take i cols)) ++ is.Text n ∷ [])
    (sym (name_there names (get_or cols i 0) name there)) ∙ sym more))

-- one more index as a text
pub index_more : (names : List (List ℕ)) (indices : List IndexSeen) (k : ℕ) (x : IndexSeen)
    (texts new : List (Option (List ℕ))) (text : List ℕ) → slice_get indices k ≡ Some x
    → texts_in texts ≡ map is.Text (map joined (map (λ (y : IndexSeen). names_at names y.cols) (take k indices)))
    → text ≡ joined (names_at names x.cols) → texts_in new ≡ texts_in texts ++ is.Text text ∷ []
    → texts_in new ≡ map is.Text (map joined (map (λ (y : IndexSeen). names_at names y.cols) (take (k + 1) indices)))
index_more names indices k x texts new text there h t e =
    let named : IndexSeen → List (List ℕ) = λ y. names_at names y.cols in
    let more : map is.Text (map joined (map named (take (k + 1) indices)))
    ≡ map is.Text (map joined (map named (take k indices))) ++ is.Text (joined (named (get_or indices k x))) ∷ [] =
    ap (λ (l : List IndexSeen). map is.Text (map joined (map named l)))
    (take_more indices k x (slice_get_within indices k x there))
    ∙ (ap (λ l. map is.Text (map joined l)) (map-append named (take k indices) (get_or indices k x ∷ []))
    ∙ (ap (map is.Text) (map-append joined (map named (take k indices)) (named (get_or indices k x) ∷ []))
    ∙ map-append is.Text (map joined (map named (take k indices))) (joined (named (get_or indices k x)) ∷ []))) in
    e ∙ (ap (λ l. l ++ is.Text text ∷ []) h
    ∙ (ap (λ n. map is.Text (map joined (map named (take k indices))) ++ is.Text n ∷ [])
    (t ∙ ap (λ (y : IndexSeen). joined (named y)) (sym (get_or_from_slice_get indices k x x there))) ∙ sym more))
