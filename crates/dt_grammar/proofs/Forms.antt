-- What is no name, no chain, no call or no query in the code is none in the view.
use Rattle.std.proofs.Common.{◌≡◌, ◌≢◌, Bool, true, false, List, refl, sym, ◌∙◌, ap}
use Rattle.dt_tree.specs.declared.tree.Expr.{Expr, out-Expr, roll-Expr, roll-out-Expr}
use Rattle.dt_tree.specs.declared.tree.Expr.TheOpen as layer
use Rattle.dt_tree.specs.declared.tree.Expr.TheVariants as code
use Rattle.dt_tree.specs.declared.tree.Tail.{Tail}
use Rattle.dt_tree.specs.declared.tree.Arg.{Arg}
use Rattle.dt_tree.specs.declared.tree.Bracket.{Bracket}
use Rattle.run_model.specs.GrammarTrees.{Word, Tree, Var, Chain, Call, Query}
use Rattle.run_model.specs.TreeView.{tree_of}
use Rattle.dt_grammar.proofs.Inverse.{Layer, seen_layer, tree_of-roll}

abbrev pub is_name : Tree → Bool
is_name (Var x) = true
is_name _ = false

abbrev pub is_chain : Tree → Bool
is_chain (Chain t rest) = true
is_chain _ = false

abbrev pub is_call : Tree → Bool
is_call (Call x args) = true
is_call _ = false

abbrev pub is_query : Tree → Bool
is_query (Query t bs) = true
is_query _ = false

seen : (t : Expr) → tree_of t ≡ seen_layer (out-Expr t)
seen t = ap tree_of (sym (roll-out-Expr t)) ∙ tree_of-roll (out-Expr t)

name_layer : (t : Expr) (l : Layer) → roll-Expr l ≡ t → ((x : Word) → t ≢ code.Name x) → is_name (seen_layer l) ≡ false
name_layer t (layer.Name x) e h = absurd (h x (sym e ∙ code.rolls-Name x))
name_layer t _ e h = refl

chain_layer : (t : Expr) (l : Layer) → roll-Expr l ≡ t → ((u : Expr) (rest : List Tail) → t ≢ code.Chain u rest)
    → is_chain (seen_layer l) ≡ false
chain_layer t (layer.Chain u rest) e h = absurd (h u rest (sym e ∙ code.rolls-Chain u rest))
chain_layer t _ e h = refl

call_layer : (t : Expr) (l : Layer) → roll-Expr l ≡ t → ((x : Word) (args : List Arg) → t ≢ code.Call x args)
    → is_call (seen_layer l) ≡ false
call_layer t (layer.Call x args) e h = absurd (h x args (sym e ∙ code.rolls-Call x args))
call_layer t _ e h = refl

query_layer : (t : Expr) (l : Layer) → roll-Expr l ≡ t → ((u : Expr) (bs : List Bracket) → t ≢ code.Query u bs)
    → is_query (seen_layer l) ≡ false
query_layer t (layer.Query u bs) e h = absurd (h u bs (sym e ∙ code.rolls-Query u bs))
query_layer t _ e h = refl

pub no_name : (t : Expr) → ((x : Word) → t ≢ code.Name x) → is_name (tree_of t) ≡ false
no_name t h = ap is_name (seen t) ∙ name_layer t (out-Expr t) (roll-out-Expr t) h

pub no_chain : (t : Expr) → ((u : Expr) (rest : List Tail) → t ≢ code.Chain u rest) → is_chain (tree_of t) ≡ false
no_chain t h = ap is_chain (seen t) ∙ chain_layer t (out-Expr t) (roll-out-Expr t) h

pub no_call : (t : Expr) → ((x : Word) (args : List Arg) → t ≢ code.Call x args) → is_call (tree_of t) ≡ false
no_call t h = ap is_call (seen t) ∙ call_layer t (out-Expr t) (roll-out-Expr t) h

pub no_query : (t : Expr) → ((u : Expr) (bs : List Bracket) → t ≢ code.Query u bs) → is_query (tree_of t) ≡ false
no_query t h = ap is_query (seen t) ∙ query_layer t (out-Expr t) (roll-out-Expr t) h
