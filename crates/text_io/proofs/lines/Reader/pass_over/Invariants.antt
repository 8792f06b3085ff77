use Rattle.std.proofs.Common.{◌≤◌, length}
use Rattle.text_io.proofs.lines.Reader.pass_over.Given as goal

-- What is still to be read lies in the buffer: nothing yet.
abbrev pub invariant-loop : goal.invariant-loop
invariant-loop l = (l.self.from ≤ l.self.filled) × (l.self.filled ≤ length l.buf)
