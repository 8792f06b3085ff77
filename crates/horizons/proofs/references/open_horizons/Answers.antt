use Prim.Native.Nat.{ℕ}
use mathlib.Core.Path.{ap, ◌∙◌}
use mathlib.Core.List.{List}
use Rattle.columns.specs.Columns.{column_opened}
use Rattle.state.specs.Layout.{trailer_horizons}
use Rattle.horizons.specs.Horizons.{horizons_opened}
use Rattle.horizons.proofs.references.open_horizons.Goals as goal

pub returns : goal.returns
unfolding horizons_opened
returns c =
    let a = c.args in
    c.open_u16-2.ensures ∙ ap (λ (l : List ℕ). column_opened 2 l trailer_horizons a.place a.count 0) c.open_u16.ensures
