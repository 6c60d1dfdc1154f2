use Rattle.std.proofs.Common.{◌≡◌, ◌++◌, take}
use Rattle.message_lines.specs.Filled.{filled}
use Rattle.message_lines.proofs.messages.push_fault_text.Given as goal

-- the bytes of the words so far are added, filled
abbrev pub invariant-loop-byte : goal.invariant-loop-byte
invariant-loop-byte l = l.out.items ≡ l.initial.out.items
    ++ filled l.f.what l.f.n l.f.m (take l.byte-index l.byte-items)
