-- The columns of a list, as a shape and as they are made.
use Rattle.std.proofs.Common.{◌≡◌, ◌∙◌, ap, ℕ, ◌+◌, List, [], ◌∷◌, map, Result, Ok, refl}
use Rattle.dt_base.specs.declared.fault.Fault.{Fault}
use Rattle.vector_model.specs.Then.{then_do}
use Rattle.expr_model.specs.Surroundings.{Env}
use Rattle.session_model.specs.Columns.{columns_answer, item_name, item_names, list_answer, values_answer}
use Rattle.session_model.specs.Expression.{each, each_argument}
use Rattle.session_model.specs.Items.{item_of}
use Rattle.session_model.specs.Meanings.{ArgMeaning}
use Rattle.session_model.specs.Shapes.{JColumn, ManyColumns, list_shape, j_columns, shape_answer}

each_mapped : {A B C : Type 0} (f : A → B) (g : B → Result C Fault) (xs : List A) → each g (map f xs)
    ≡ each (λ x. g (f x)) xs
each_mapped f g [] = refl
each_mapped f g (x ∷ rest) = ap (λ z. then_do (g (f x)) (λ y. then_do z (λ more. Ok (y ∷ more)))) (each_mapped f g rest)

checks : (s : Env) (p : ℕ) (args : List ArgMeaning) → each (λ (c : JColumn). c.check s)
    (j_columns s p (map item_of args)) ≡ each_argument (λ m. m.check s) args
checks s p [] = refl
checks s p (a ∷ rest) = ap (λ z. then_do (a.means.check s) (λ y. then_do z (λ more. Ok (y ∷ more))))
    (checks s (p + 1) rest)

values : (s : Env) (p : ℕ) (args : List ArgMeaning) → each (λ (c : JColumn). c.value s)
    (j_columns s p (map item_of args)) ≡ each_argument (λ m. m.value s) args
values s p [] = refl
values s p (a ∷ rest) = ap (λ z. then_do (a.means.value s) (λ y. then_do z (λ more. Ok (y ∷ more))))
    (values s (p + 1) rest)

names : (s : Env) (p : ℕ) (args : List ArgMeaning) → map (λ (c : JColumn). c.name) (j_columns s p (map item_of args))
    ≡ item_names s p args
names s p [] = refl
names s p (a ∷ rest) = ap (λ z. item_name s p a ∷ z) (names s (p + 1) rest)

-- columns side by side
sided : (s : Env) (args : List ArgMeaning) → shape_answer s (ManyColumns (j_columns s 1 (map item_of args)))
    ≡ columns_answer args s
sided s args =
    ap (λ z. then_do z (λ _. then_do (each (λ (c : JColumn). c.value s) (j_columns s 1 (map item_of args)))
    (values_answer (map (λ (c : JColumn). c.name) (j_columns s 1 (map item_of args)))))) (checks s 1 args)
    ∙ ap (λ z. then_do (each_argument (λ m. m.check s) args)
    (λ _. then_do z (values_answer (map (λ (c : JColumn). c.name) (j_columns s 1 (map item_of args))))))
    (values s 1 args)
    ∙ ap (λ z. then_do (each_argument (λ m. m.check s) args)
    (λ _. then_do (each_argument (λ m. m.value s) args) (values_answer z))) (names s 1 args)

pub listed : (word : List ℕ) (args : List ArgMeaning) (s : Env)
    → then_do (list_shape word (map item_of args) s) (shape_answer s) ≡ list_answer word args s
listed word [] s = refl
listed word (a ∷ rest) s = sided s (a ∷ rest)
