-- Sets of warnings.
--   no_warns          the empty set
--   has_warn s w      whether w is in s
--   with_warn s w     s and w
--   both_warns s t    what is in s or in t
use Rattle.std.specs.Prelude.{Bool, true, false, ◌||◌}
use Rattle.dt_base.specs.declared.warns.Warn.{Warn}
use Rattle.dt_base.specs.declared.warns.Warn.TheVariants.{W01, W02, W03, W04, W05, W06}
use Rattle.dt_base.specs.declared.warns.Warns.{Warns}

-- the empty set
abbrev pub no_warns : Warns
no_warns = record { w01 = false; w02 = false; w03 = false; w04 = false; w05 = false; w06 = false }

-- whether the warning is in the set
abbrev pub has_warn : Warns → Warn → Bool
has_warn s W01 = s.w01
has_warn s W02 = s.w02
has_warn s W03 = s.w03
has_warn s W04 = s.w04
has_warn s W05 = s.w05
has_warn s W06 = s.w06

-- the set and one more
abbrev pub with_warn : Warns → Warn → Warns
with_warn s W01 = record s { w01 = true }
with_warn s W02 = record s { w02 = true }
with_warn s W03 = record s { w03 = true }
with_warn s W04 = record s { w04 = true }
with_warn s W05 = record s { w05 = true }
with_warn s W06 = record s { w06 = true }

-- what is in one of two sets
abbrev pub both_warns : Warns → Warns → Warns
both_warns s t = record {
  w01 = s.w01 || t.w01;
  w02 = s.w02 || t.w02;
  w03 = s.w03 || t.w03;
  w04 = s.w04 || t.w04;
  w05 = s.w05 || t.w05;
  w06 = s.w06 || t.w06;
}
