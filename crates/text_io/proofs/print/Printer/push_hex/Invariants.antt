use Rattle.std.proofs.Common.{◌≡◌, ◌+◌, ◌*◌, ◌++◌, take, length}
use Rattle.text_io.specs.Print.{hex}
use Rattle.text_io.proofs.print.Printer.push_hex.Given as goal

-- The digits so far stand behind what was gathered before.
abbrev pub invariant-loop-c : goal.invariant-loop-c
invariant-loop-c l =
    (length l.out ≡ length l.initial.out) × (l.end ≡ l.initial.end + 2 * l.c-index)
    × (take l.end l.out ≡ take l.initial.end l.initial.out ++ hex (take l.c-index l.s))
