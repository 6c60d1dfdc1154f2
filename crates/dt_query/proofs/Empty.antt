-- What is not written in a bracket has no meaning there.
use Rattle.std.proofs.Common.{◌≡◌, List, [], ◌∷◌, length, map, Option, None, Some, refl, sym}
use Rattle.std.proofs.Math.Dec.{eqb-suc-zero}
use Rattle.std.specs.Prelude.{◌==◌, is_none, option_map}
use Rattle.dt_tree.specs.declared.tree.Arg.{Arg}
use Rattle.session_model.specs.Meaning.{arg_meaning}
use Rattle.session_model.specs.Query.{has_no_arguments}

pub no_arguments : (args : List Arg) → has_no_arguments (map arg_meaning args) ≡ (length args == 0)
no_arguments [] = refl
no_arguments (a ∷ rest) = sym (eqb-suc-zero (length rest))

pub nothing_meant : {A B : Type 0} (f : A → B) (o : Option A) → is_none (option_map f o) ≡ is_none o
nothing_meant f None = refl
nothing_meant f (Some x) = refl

pub ruleset nothing = (no_arguments, nothing_meant)
