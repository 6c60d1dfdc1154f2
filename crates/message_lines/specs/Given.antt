-- A warning that may be in a set.
--   line_if_given line s w    its line if it is, and nothing if not
use Rattle.std.specs.Prelude.{ℕ, List, [], if◌then◌else◌}
use Rattle.dt_base.specs.declared.warns.Warn.{Warn}
use Rattle.dt_base.specs.declared.warns.Warns.{Warns}
use Rattle.dt_base.specs.Warns.{has_warn}
use Rattle.run_model.specs.Messages.{warn_line}

-- the line of a warning of the set, and nothing for one that is not in it
abbrev pub line_if_given : ℕ → Warns → Warn → List ℕ
line_if_given line s w = if has_warn s w then warn_line line w else []
