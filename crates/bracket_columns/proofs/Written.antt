-- What a form gives as a column's name.
use Rattle.std.proofs.Common.{◌≡◌, ℕ, List, None, Some, refl}
use Rattle.expr_model.specs.Surroundings.{Env}
use Rattle.session_model.specs.Columns.{form_name, numbered_name}
use Rattle.session_model.specs.Form.{Form, Literal, Negative, NullWord, InfWord, BareName, NotName, name_in}

pub name-bare : (s : Env) (p : ℕ) (f : Form) (name : List ℕ) → Some name ≡ name_in f → form_name s p f
    ≡ form_name s p (BareName name)
name-bare s p (Literal cell kind) name h = cc
name-bare s p (Negative n) name h = cc
name-bare s p NullWord name h = cc
name-bare s p InfWord name h = cc
name-bare s p (BareName q) name h = cc
name-bare s p (NotName q) name h = cc
name-bare s p _ name h = cc

pub name-other : (s : Env) (p : ℕ) (f : Form) → None ≡ name_in f → form_name s p f ≡ numbered_name p
name-other s p (Literal cell kind) h = refl
name-other s p (Negative n) h = refl
name-other s p NullWord h = refl
name-other s p InfWord h = refl
name-other s p (BareName q) h = cc
name-other s p (NotName q) h = refl
name-other s p _ h = refl

pub ruleset name_forms = (name-bare, name-other)
