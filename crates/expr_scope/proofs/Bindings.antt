-- What names are bound to.
use Rattle.std.proofs.Common.{◌≡◌, ℕ, List, Option, None, Some, Ok, Err, refl}
use Rattle.dt_base.specs.declared.fault.Code.{Code}
use Rattle.dt_base.specs.declared.fault.Code.TheVariants.{E02, E04, E20}
use Rattle.dt_base.specs.Fault.{fault}
use Rattle.dt_model.specs.Table.{PlainTable}
use Rattle.dt_model.specs.Vector.{Vector as Cells}
use Rattle.expr_scope.specs.Scope.{vector_bound, table_bound}
use Rattle.expr_model.specs.Surroundings.{Env, Var, Table, Vector, var_vector, var_table}
use Rattle.vector_model.specs.Faults.{unbuilt}
use Rattle.session_model.specs.Expression.{quiet}
use Rattle.session_model.specs.Meanings.{Meaning}
use Rattle.session_model.specs.Expression.{checked_value}
use Rattle.session_model.specs.Found.{i_variable, i_not_variable}

-- the name of a vector gives the vector
pub vector_found : (code : Code) (name : List ℕ) (o : Option Var) (v : Cells) → Some v ≡ vector_bound o
    → var_vector code name o ≡ Ok v
vector_found code name None v h = cc
vector_found code name (Some (Table t)) v h = cc
vector_found code name (Some (Vector w)) v h = cc

-- any other name is a fault of the type where it is a table's, and else unknown
pub table_in_place : (code : Code) (name : List ℕ) (o : Option Var) (t : PlainTable) → None ≡ vector_bound o
    → Some t ≡ table_bound o → var_vector code name o ≡ Err (fault E04 name)
table_in_place code name None t h k = cc
table_in_place code name (Some (Table u)) t h k = refl
table_in_place code name (Some (Vector w)) t h k = cc

pub unknown_name : (code : Code) (name : List ℕ) (o : Option Var) → None ≡ vector_bound o → None ≡ table_bound o
    → var_vector code name o ≡ Err (fault code name)
unknown_name code name None h k = refl
unknown_name code name (Some (Table u)) h k = cc
unknown_name code name (Some (Vector w)) h k = cc

-- the name of a table gives the table
pub table_found : (name : List ℕ) (o : Option Var) (t : PlainTable) → Some t ≡ table_bound o → var_table name o ≡ Ok t
table_found name None t h = cc
table_found name (Some (Table u)) t h = cc
table_found name (Some (Vector w)) t h = cc

pub vector_in_place : (name : List ℕ) (o : Option Var) (v : Cells) → None ≡ table_bound o → Some v ≡ vector_bound o
    → var_table name o ≡ Err (fault E20 name)
vector_in_place name None v h k = cc
vector_in_place name (Some (Table u)) v h k = cc
vector_in_place name (Some (Vector w)) v h k = refl

pub unknown_table : (name : List ℕ) (o : Option Var) → None ≡ table_bound o → None ≡ vector_bound o
    → var_table name o ≡ Err (fault E02 name)
unknown_table name None h k = refl
unknown_table name (Some (Table u)) h k = cc
unknown_table name (Some (Vector w)) h k = cc

pub ruleset bindings = (vector_found, table_in_place, unknown_name, table_found, vector_in_place, unknown_table)

-- ---- What a name is bound to, as the i of a bracket

-- the name of a vector gives the vector
pub i_vector : (name : List ℕ) (o : Option Var) (v : Cells) → Some v ≡ vector_bound o → i_variable name o ≡ quiet (Ok v)
i_vector name None v h = cc
i_vector name (Some (Table t)) v h = cc
i_vector name (Some (Vector w)) v h = cc

-- any other name is not served where it is a table's, and else unknown
pub i_table : (name : List ℕ) (o : Option Var) (t : PlainTable) → None ≡ vector_bound o → Some t ≡ table_bound o
    → i_variable name o ≡ Err unbuilt
i_table name None t h k = cc
i_table name (Some (Table u)) t h k = refl
i_table name (Some (Vector w)) t h k = cc

pub i_unknown : (name : List ℕ) (o : Option Var) → None ≡ vector_bound o → None ≡ table_bound o
    → i_variable name o ≡ Err (fault E02 name)
i_unknown name None h k = refl
i_unknown name (Some (Table u)) h k = cc
i_unknown name (Some (Vector w)) h k = cc

-- behind `!` the name of a table is not served
pub i_not_table : (m : Meaning) (s : Env) (o : Option Var) (t : PlainTable) → Some t ≡ table_bound o
    → i_not_variable m s o ≡ Err unbuilt
i_not_table m s None t h = cc
i_not_table m s (Some (Table u)) t h = refl
i_not_table m s (Some (Vector w)) t h = cc

-- and any other is valued
pub i_not_other : (m : Meaning) (s : Env) (o : Option Var) → None ≡ table_bound o
    → i_not_variable m s o ≡ checked_value m s
i_not_other m s None h = refl
i_not_other m s (Some (Table u)) h = cc
i_not_other m s (Some (Vector w)) h = refl

pub ruleset i_bindings = (i_vector, i_table, i_unknown, i_not_table, i_not_other)
