-- Texts of arguments, one after another.
use Rattle.std.proofs.Common.{◌≡◌, ◌++◌, ℕ, List, [], ◌∷◌, Option, None, Some, refl, sym, ap, ◌∙◌}
use Rattle.std.proofs.lemmas.List.{append_assoc}
use Rattle.session_model.specs.Form.{text_in}
use Rattle.session_model.specs.Items.{arg_texts_from, text_before}
use Rattle.session_model.specs.Meanings.{ArgMeaning}
use Rattle.written_forms.specs.Texts.{bare_text, onto_texts, unnamed_text}

-- behind none
pub onto_nothing : (o : Option (List (List ℕ))) → o ≡ onto_texts [] o
onto_nothing None = refl
onto_nothing (Some texts) = refl

no_text : (name text : Option (List ℕ)) (o : Option (List (List ℕ)))
    → None ≡ unnamed_text name text → text_before name text o ≡ None
no_text None None o h = refl
no_text None (Some t) o h = cc
no_text (Some n) text o h = refl

one_text : (name text : Option (List ℕ)) (t : List ℕ) (done : List (List ℕ)) (o : Option (List (List ℕ)))
    → Some t ≡ unnamed_text name text → onto_texts done (text_before name text o) ≡ onto_texts (done ++ t ∷ []) o
one_text None None t done o h = cc
one_text None (Some u) t done None h = refl
one_text None (Some u) t done (Some rest) h =
    let e : u ≡ t = cc in
    ap (λ w. Some (done ++ w ∷ rest)) e ∙ ap Some (sym (append_assoc done (t ∷ []) rest))
one_text (Some n) text t done o h = cc

-- an argument that is no bare text
pub text_missing : (whole : Option (List (List ℕ))) (done : List (List ℕ)) (a : ArgMeaning) (rest : List ArgMeaning)
    → whole ≡ onto_texts done (arg_texts_from (a ∷ rest)) → None ≡ bare_text a → whole ≡ None
text_missing whole done a rest h e =
    h ∙ ap (onto_texts done) (no_text a.name (text_in a.means.form) (arg_texts_from rest) e)

-- one text more
pub text_next : (whole : Option (List (List ℕ))) (done : List (List ℕ)) (t : List ℕ) (a : ArgMeaning)
    (rest : List ArgMeaning) → whole ≡ onto_texts done (arg_texts_from (a ∷ rest)) → Some t ≡ bare_text a
    → whole ≡ onto_texts (done ++ t ∷ []) (arg_texts_from rest)
text_next whole done t a rest h e = h ∙ one_text a.name (text_in a.means.form) t done (arg_texts_from rest) e

pub ruleset texts = (onto_nothing, text_missing, text_next)
