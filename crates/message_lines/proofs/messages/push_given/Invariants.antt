use Rattle.std.proofs.Common.{◌≡◌, ◌++◌, take}
use Rattle.std.specs.List.{flat_map}
use Rattle.message_lines.specs.Given.{line_if_given}
use Rattle.message_lines.proofs.messages.push_given.Given as goal

-- the lines of those of the warnings so far that are in the set
abbrev pub invariant-loop-warn : goal.invariant-loop-warn
invariant-loop-warn l =
    l.out.items ≡ l.initial.out.items ++ flat_map (line_if_given l.line l.warns) (take l.warn-index l.among)
