-- What a query gives as a statement's value: its head's value through its brackets.
use Rattle.std.proofs.Common.{rules, ◌≡◌, ◌∙◌, List, map, refl, sym, ap, subst}
use Rattle.dt_tree.specs.declared.tree.Bracket.{Bracket}
use Rattle.dt_tree.specs.declared.tree.Expr.{Expr, the_lemmas}
use Rattle.dt_tree.specs.declared.tree.Expr.TheVariants.{Query}
use Rattle.session_model.specs.Meaning.{meaning, bracket_meaning, query_of, query_gives}
use Rattle.session_model.specs.Meanings.{Meaning}
use Rattle.session_model.specs.Value.{Scene}

meaning-Query : (head : Expr) (brackets : List Bracket) → meaning (Query head brackets) ≡ query_of (meaning head) (map bracket_meaning brackets)
meaning-Query head brackets = search (rules, the_lemmas)

pub gives_query : (e : Expr) (w : Scene) (head : Expr) (brackets : List Bracket) → e ≡ Query head brackets → (meaning e).gives w ≡ query_gives (meaning head) (map bracket_meaning brackets) w
gives_query e w head brackets p =
    let P : Meaning → Type 0 = λ m. m.gives w ≡ query_gives (meaning head) (map bracket_meaning brackets) w in
    subst P (sym (ap meaning p ∙ meaning-Query head brackets)) refl
