-- What follows from the meaning of expressions.
--   TypesHold         a value has the type that was checked before it
--   SameColumns c d   columns of the same names and types, whatever their cells are
--   SameTypes s t     surroundings of the same names and types
--   TypesAlone        a type depends on the names and types of the surroundings alone
--   names_none s names    none of these names is a column of s, or special
--   OneValue          what names no column has one type and one value, wherever it stands
use Rattle.std.specs.Prelude.{◌≡◌, ◌==◌, ◌&&◌, not, Bool, true, ℕ, List, map, is_none, Ok}
use Rattle.std.specs.List.{list_all}
use Rattle.dt_base.specs.declared.cell.ColType.{ColType}
use Rattle.dt_tree.specs.declared.tree.Expr.{Expr}
use Rattle.func_table.specs.Special.{special_of}
use Rattle.expr_model.specs.Surroundings.{Columns, Env}
use Rattle.vector_model.specs.Functions.{Valued}
use Rattle.session_model.specs.Columns.{is_column}
use Rattle.session_model.specs.Meaning.{check_of, meaning, value_in}

-- A value has the type that was checked before it.
abbrev pub TypesHold : Type 0
TypesHold = (e : Expr) (s : Env) (k : ColType) (v : Valued) → check_of e s ≡ Ok k → value_in e s ≡ Ok v
    → v.vector.kind ≡ k

-- the types of columns
abbrev pub types_in : Columns → List ColType
types_in c = map (λ v. v.kind) c.vectors

-- columns of the same names and types
pub record SameColumns (c d : Columns) : Type 0 where
  pub names : c.names ≡ d.names
  pub types : types_in c ≡ types_in d

-- Surroundings that differ at most in cells, in the number of rows, in places, and in the group's number.
pub record SameTypes (s t : Env) : Type 0 where
  pub inside : s.inside ≡ t.inside
  pub rows : SameColumns s.rows t.rows
  pub single : SameColumns s.single t.single
  pub groups : (s.group == 0) ≡ (t.group == 0)
  pub vars : (name : List ℕ) → s.vars name ≡ t.vars name

-- A type depends on the names and types of the surroundings alone.
abbrev pub TypesAlone : Type 0
TypesAlone = (e : Expr) (s t : Env) → SameTypes s t → check_of e s ≡ check_of e t

-- none of the names is a column, or special
abbrev pub names_none : Env → List (List ℕ) → Bool
names_none s names = list_all (λ q. is_none (special_of q) && not (is_column s q)) names

-- An expression that names no column and no special name has one type and one value in all surroundings
-- with the same script's names, in a bracket or outside.
pub record OneValue : Type 0 where
  pub type : (e : Expr) (s t : Env) → s.inside ≡ t.inside → ((name : List ℕ) → s.vars name ≡ t.vars name)
      → names_none s (meaning e).mentions ≡ true → names_none t (meaning e).mentions ≡ true
      → check_of e s ≡ check_of e t
  pub value : (e : Expr) (s t : Env) → s.inside ≡ t.inside → ((name : List ℕ) → s.vars name ≡ t.vars name)
      → names_none s (meaning e).mentions ≡ true → names_none t (meaning e).mentions ≡ true
      → value_in e s ≡ value_in e t
