-- Raising a horizon: a lower one is stored over, and one that is not lower, stored again, changes nothing.
use mathlib.Core.Path.{◌≡◌, sym, ap, ◌∙◌}
use Prim.Native.Nat.{ℕ, suc, ◌+◌, ◌≤◌, ◌<◌, max}
use native.Mathlib.Omega.{arith}
use mathlib.Core.List.{List}
use lib.ListN.{length}
use Rattle.memory.specs.Bytes.{overlay, Small}
use Rattle.memory.specs.Numbers.{number_bytes}
use Rattle.memory.proofs.Overlay.{overlay-same}
use Rattle.memory.proofs.Numbers.{bytes_back}
use Rattle.state.specs.Layout.{horizon_at}
use Rattle.horizons.specs.Horizons.{raised_at}

module _ (m : List ℕ) (at stream : ℕ) where
  pub raise-lower : horizon_at m at < stream + 1 → overlay m at (number_bytes 2 (stream + 1)) ≡ raised_at m at stream
  unfolding raised_at
  raise-lower h =
      let e : stream + 1 ≡ max (horizon_at m at) (suc stream) = omega arith in
      ap (λ (v : ℕ). overlay m at (number_bytes 2 v)) e

  pub raise-keep : Small m → at + 2 ≤ length m → stream + 1 ≤ horizon_at m at → m ≡ raised_at m at stream
  unfolding raised_at
  raise-keep s b h =
      let e : horizon_at m at ≡ max (horizon_at m at) (suc stream) = omega arith in
      sym (overlay-same m at (number_bytes 2 (horizon_at m at)) (bytes_back 2 m at s b))
      ∙ ap (λ (v : ℕ). overlay m at (number_bytes 2 v)) e
