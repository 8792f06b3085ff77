use Rattle.std.proofs.Common.{◌≤◌, ◌-◌, take, length}
use Rattle.text_io.specs.Print.{Prints, hex}
use Rattle.text_io.proofs.print.Printer.hex.Given as goal

-- What was printed so far is the front of the bytes.
abbrev pub invariant-loop-at : goal.invariant-loop-at
invariant-loop-at l = (l.at ≤ length l.s) × Prints l.initial.self (hex (take l.at l.s)) l.self

abbrev pub decreases-loop-at : goal.decreases-loop-at
decreases-loop-at l = length l.s - l.at
