-- The lengths of vectors that stand side by side: each is 1 or that of the longest.
--   longest vs          the greatest length; of no vectors it is 0
--   common_length vs    the longest, or the fault of the first vector that has another length
--   repeated n v        a vector of one cell brought to length n; any other as it is
use Rattle.std.specs.Prelude.{ℕ, ◌==◌, ◌||◌, max, if◌then◌else◌, List, [], ◌∷◌, length, replicate, Result, Ok, Err}
use Rattle.dt_base.specs.declared.fault.Fault.{Fault}
use Rattle.dt_model.specs.Vector.{Vector, cell_at}
use Rattle.vector_model.specs.Faults.{length_fault}

-- the greatest length among vectors
abbrev pub longest : List Vector → ℕ
longest [] = 0
longest (v ∷ rest) = max (length v.cells) (longest rest)

-- the length n, or the fault of the first vector whose length is neither 1 nor n
abbrev pub fitting : ℕ → List Vector → Result ℕ Fault
fitting n [] = Ok n
fitting n (v ∷ rest) =
    if length v.cells == 1 || length v.cells == n then fitting n rest else Err (length_fault (length v.cells) n)

abbrev pub common_length : List Vector → Result ℕ Fault
common_length vs = fitting (longest vs) vs

-- the cells n times over, where there is one
abbrev pub repeated : ℕ → Vector → Vector
repeated n v =
    if length v.cells == n then v else record { kind = v.kind; cells = replicate n (cell_at v.cells 0) }
