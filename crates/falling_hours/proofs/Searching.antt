-- The equations of `lowest_from`, one for each way through a turn.
use Rattle.std.proofs.Common.{Option, Some, None}
use mathlib.Core.Path.{◌≡◌, ap, ◌∙◌}
use mathlib.Core.Bool.{Bool, true, false}
use mathlib.Core.List.{List}
use Prim.Native.Nat.{ℕ, suc, ◌+◌, ◌-◌, ◌≤◌, ◌<◌}
use native.Mathlib.Omega.{arith}
use lib.ListN.{get_or}
use Rattle.falling_hours.specs.declared.falls.Report.{Report}
use Rattle.falling_hours.specs.Falls.{lowest_from, on_stream}

module _ (l : List (Option Report)) (test : Report → Bool) (to s : ℕ) where
  pub search-over : to ≤ s → lowest_from l test (to - s) s ≡ None
  unfolding lowest_from
  search-over h =
      let e : to - s ≡ 0 = omega arith in
      ap (λ (n : ℕ). lowest_from l test n s) e

  module _ (h : s < to) where
    one_more : lowest_from l test (to - s) s ≡ on_stream test s (get_or l s None) (lowest_from l test (to - (s + 1)) (s + 1))
    unfolding lowest_from
    one_more =
        let e : to - s ≡ suc (to - (s + 1)) = omega arith in
        ap (λ (n : ℕ). lowest_from l test n s) e

    pub search-found : (r : Report) → get_or l s None ≡ Some r → test r ≡ true → lowest_from l test (to - s) s ≡ Some (record { stream = s; tenths = r.tenths })
    search-found r k e = one_more ∙ rw (k, e)

    pub search-empty : get_or l s None ≡ None → lowest_from l test (to - s) s ≡ lowest_from l test (to - (s + 1)) (s + 1)
    search-empty k = one_more ∙ rw k

    pub search-next : (r : Report) → get_or l s None ≡ Some r → test r ≡ false → lowest_from l test (to - s) s ≡ lowest_from l test (to - (s + 1)) (s + 1)
    search-next r k e = one_more ∙ rw (k, e)
