-- What contracts see of an answer.
--   valued_of v    its vector and its warnings
--   vector_in v    its vector
--   vector_of c    the vector of a column
use Rattle.dt_model.specs.Vector.{Vector}
use Rattle.na_vector.specs.Column.{Seen}
use Rattle.vector_model.specs.Functions as model
use Rattle.valued.specs.declared.column.Valued.{Valued}

-- the vector, without what is spare, and the warnings
abbrev pub valued_of : Valued → model.Valued
valued_of v = record { vector = v.column.vector; warns = v.warns }

-- the vector alone
abbrev pub vector_in : Valued → Vector
vector_in v = v.column.vector

-- the vector of a column, without what is spare
abbrev pub vector_of : Seen → Vector
vector_of c = c.vector
