-- Parts closed in memory: marks taken away.
use Rattle.std.specs.Prelude.{ℕ, List}
use Rattle.std.proofs.Math.Option.{Option, none, some}
use Rattle.model.specs.Parts.{Part, nontrailer, trailer}
use Rattle.marks.specs.Marks.{cleared}
use Rattle.state.specs.Layout.{marks_place}

-- both parts of a stream
unfoldable pub closed_both : List ℕ → ℕ → List ℕ
closed_both m s = cleared (cleared m (marks_place nontrailer) s) (marks_place trailer) s

-- what a block of this part closes that is answered "done"
unfoldable pub closed_by : Part → List ℕ → ℕ → List ℕ
closed_by nontrailer m s = m
closed_by trailer m s = closed_both m s

-- the same, of the part with a number
unfoldable pub closed_of : Option Part → List ℕ → ℕ → List ℕ
closed_of none m s = m
closed_of (some p) m s = closed_by p m s
