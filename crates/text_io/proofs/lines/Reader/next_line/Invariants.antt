use Rattle.std.proofs.Common.{◌-◌, ◌≤◌, length}
use Rattle.text_io.proofs.lines.Reader.next_line.Given as goal

-- What is still to be read lies in the buffer.
abbrev pub invariant-loop-self : goal.invariant-loop-self
invariant-loop-self l = (l.self.from ≤ l.self.filled) × (l.self.filled ≤ length l.buf)

-- The measure is what the buffer has room for beside it.
abbrev pub decreases-loop-self : goal.decreases-loop-self
decreases-loop-self l = length l.buf - (l.self.filled - l.self.from)
