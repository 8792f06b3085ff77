-- The marks of all streams: those below 4,096 are read from the words, no other is marked.
use mathlib.Core.Path.{◌≡◌, sym, ◌∙◌}
use Prim.Native.Nat.{ℕ}
use mathlib.Core.Bool.{not, false}
use mathlib.Core.List.{List}
use lib.Dec.{ltb}
use borrow.Author.Tests.{le-ltb}
use Rattle.memory.proofs.Order.{split, pick-false}
use Rattle.marks.specs.Marks.{is_set}
use Rattle.model.specs.Parts.{Part, streams}
use Rattle.state.specs.Layout.{marks_place}
use Rattle.state.specs.Front.{Front, marks_of}
use Rattle.state_laws.specs.Laws.{MarksBelow}
use Rattle.state_laws.proofs.FrontHolds.{HoldsFront}
use Rattle.state_laws.proofs.FrontRead.{read-marks}

pub marks-below : (m : List ℕ) → MarksBelow (marks_of m)
unfolding marks_of
marks-below m s p h = pick-false (ltb s streams) (not (is_set m (marks_place p) s)) false (le-ltb s streams h)

pub holds-marks : (f : Front) (m : List ℕ) → HoldsFront f m → MarksBelow f.marks → marks_of m ≡ f.marks
holds-marks f m H below = λ k s p. each s p k
  where
    each : (s : ℕ) (p : Part) → marks_of m s p ≡ f.marks s p
    each s p = split s streams (λ h. read-marks f m H s p h) (λ h. marks-below m s p h ∙ sym (below s p h))
