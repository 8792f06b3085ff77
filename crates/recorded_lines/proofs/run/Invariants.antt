use Rattle.std.proofs.Common.{length}
use Rattle.text_io.specs.Lines.{Inside}
use Rattle.recorded_lines.proofs.run.Given as goal

-- What is still to be read lies in the input.
abbrev pub invariant-loop-line : goal.invariant-loop-line
invariant-loop-line g l = Inside (length l.input) l.reader
