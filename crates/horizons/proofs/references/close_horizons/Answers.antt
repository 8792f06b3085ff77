use Prim.Native.Nat.{ℕ}
use mathlib.Core.Path.{ap, ◌∙◌}
use mathlib.Core.List.{List}
use Rattle.columns.specs.Columns.{column_closed}
use Rattle.state.specs.Layout.{trailer_horizons}
use Rattle.horizons.specs.Horizons.{horizons_closed}
use Rattle.horizons.proofs.references.close_horizons.Goals as goal

pub returns : goal.returns
unfolding horizons_closed
returns c =
    let a = c.args in
    c.close-2.ensures ∙ ap (λ (l : List ℕ). column_closed 2 l trailer_horizons a.place a.count) c.close.ensures
