-- The meaning of the trees that code holds, form by form, and what is written of them.
use Rattle.std.proofs.Common.{◌≡◌, ℕ, List, map, Some, ap, rules}
use Rattle.dt_tree.specs.declared.tree.Arg.{Arg}
use Rattle.dt_tree.specs.declared.tree.Expr.{Expr, the_lemmas}
use Rattle.dt_tree.specs.declared.tree.Expr.TheVariants as code
use Rattle.dt_tree.specs.declared.tree.Tail.{Tail}
use Rattle.session_model.specs.Form.{name_in}
use Rattle.session_model.specs.Meaning.{arg_meaning, call_of, listing_of, meaning, name_of, paren_of, tail_meaning}
use Rattle.session_model.specs.Meaning.{chain_probe}

pub means-Call : (name : List ℕ) (args : List Arg) → meaning (code.Call name args) ≡ call_of name (map arg_meaning args)
means-Call name args = search (rules, the_lemmas)

pub means-Name : (name : List ℕ) → meaning (code.Name name) ≡ name_of name
means-Name name = search (rules, the_lemmas)

pub means-Paren : (e : Expr) → meaning (code.Paren e) ≡ paren_of (meaning e)
means-Paren e = search (rules, the_lemmas)

pub arg_means : (a : Arg) → arg_meaning a ≡ record { name = a.name; means = meaning a.value }
arg_means a = search (rules, the_lemmas)

pub listed : (name : List ℕ) (args : List Arg) → (meaning (code.Call name args)).listing
    ≡ Some (listing_of name (map arg_meaning args))
listed name args = ap (λ m. m.listing) (means-Call name args)

pub probes : (e : Expr) (rest : List Tail) → (meaning (code.Chain e rest)).probe
    ≡ chain_probe (name_in (meaning e).form) (map tail_meaning rest)
probes e rest = search (rules, the_lemmas)
