-- A store within what stands at a place makes the whole of it anew: what is before and after it is stored again and changes nothing.
use Prim.Native.Nat.{ℕ, ◌+◌}
use mathlib.Core.Path.{◌≡◌, sym, ap, ◌∙◌}
use native.Mathlib.Omega.{arith}
use mathlib.Core.List.{List, ◌++◌}
use lib.ListN.{length}
use Rattle.memory.specs.Bytes.{overlay, Has}
use Rattle.memory.proofs.Overlay.{overlay-append, overlay-same}
use Rattle.memory.proofs.Places.{has_left, has_right, has_above}

module _ (m : List ℕ) (at : ℕ) where
  -- the end of it
  pub store-end : (before after : List ℕ) → Has m at before → overlay m (at + length before) after ≡ overlay m at (before ++ after)
  store-end before after h =
      sym (overlay-append m at before after ∙ ap (λ (l : List ℕ). overlay l (at + length before) after) (overlay-same m at before h))

  -- its beginning
  pub store-start : (old new after : List ℕ) → length old ≡ length new → Has m at (old ++ after) → overlay m at new ≡ overlay m at (new ++ after)
  store-start old new after e h =
      let stands : Has m (at + length new) after = rw e at (has_right m at old after h) in
      sym (overlay-append m at new after
      ∙ overlay-same (overlay m at new) (at + length new) after (has_above m (at + length new) after at new (omega arith) stands))

-- what is between
pub store-within : (m : List ℕ) (at : ℕ) (before old new after : List ℕ) → length old ≡ length new → Has m at (before ++ (old ++ after))
    → overlay m (at + length before) new ≡ overlay m at (before ++ (new ++ after))
store-within m at before old new after e h =
    store-start m (at + length before) old new after e (has_right m at before (old ++ after) h)
    ∙ store-end m at before (new ++ after) (has_left m at before (old ++ after) h)
