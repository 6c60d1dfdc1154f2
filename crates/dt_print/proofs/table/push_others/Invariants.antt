use Rattle.std.proofs.Common.{◌≡◌, ◌++◌, ◌∷◌, take}
use Rattle.std.specs.List.{flat_map}
use Rattle.run_model.specs.Printed.{name_text}
use Rattle.dt_print.proofs.table.push_others.Given as goal

-- the names so far are added
abbrev pub invariant-loop-name : goal.invariant-loop-name
invariant-loop-name l = l.out.items ≡ l.initial.out.items
    ++ flat_map (λ n. 44 ∷ name_text n) (take l.name-index l.names)
