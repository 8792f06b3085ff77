use Prim.Native.Nat.{ℕ}
use mathlib.Core.Path.{ap, ◌∙◌}
use mathlib.Core.List.{List}
use Rattle.marks.specs.Marks.{cleared}
use Rattle.model.specs.Parts.{trailer}
use Rattle.state.specs.Layout.{marks_place}
use Rattle.parts.specs.Close.{closed_both}
use Rattle.parts.proofs.close.close_both.Goals as goal

pub returns : goal.returns
unfolding closed_both
returns c =
    let s = c.args.stream.value in
    c.clear-2.ensures ∙ ap (λ (m : List ℕ). cleared m (marks_place trailer) s) c.clear.ensures
