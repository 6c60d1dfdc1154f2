use Rattle.std.proofs.Common.{append_assoc}
use Rattle.message_lines.proofs.messages.code_words.Goals as goal

pub returns-in-E16 : goal.returns-in-E16
returns-in-E16 c = λ what n m. rw c.in-E16.is (simp append_assoc)
