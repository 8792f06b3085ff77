use mathlib.Core.Path.{◌≡◌}
use mathlib.Core.List.{◌++◌}
use Rattle.std.proofs.Common.{map, take, drop}
use Rattle.link_notes.specs.Parts.{none_waiting, with_waiting}
use Rattle.link_notes.proofs.notes.Notes.forget_waiting.Given as goal

abbrev pub invariant-loop-part : goal.invariant-loop-part
invariant-loop-part l = l.part-items ≡ map (with_waiting none_waiting) (take l.part-index l.initial.part-items) ++ drop l.part-index l.initial.part-items
