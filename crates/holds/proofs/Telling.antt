-- The lowest stream as a type, and the number told of it: both say the same. By the test against the count of streams.
use mathlib.Core.Path.{◌≡◌, refl, sym, ap, ◌∙◌}
use Prim.Native.Nat.{ℕ, ◌≤◌, ◌<◌}
use native.Mathlib.Omega.{arith}
use borrow.Author.Tests.{lt-ltb, le-ltb}
use Rattle.memory.proofs.Order.{split, pick_true, pick-false}
use Rattle.integers.specs.declared.number.StreamNumber.{StreamNumber}
use Rattle.model.specs.Parts.{streams}
use Rattle.holds.specs.Hold.{lowest_case, lowest_told}
use Rattle.std.specs.Prelude.{Some, None}

pub stream-case : (x : StreamNumber) (n : ℕ) → n ≡ x.value → x.value < streams → lowest_case n ≡ Some x
unfolding lowest_case
stream-case x n e h = ap lowest_case e ∙ pick_true _ _ _ (lt-ltb x.value streams h)

pub no-case : (n : ℕ) → n ≡ streams → lowest_case n ≡ None
unfolding lowest_case
no-case n e = pick-false _ _ _ (le-ltb n streams (omega arith))

pub told_back : (n : ℕ) → n ≤ streams → lowest_told (lowest_case n) ≡ n
told_back n h =
    split n streams (λ l. ap lowest_told (stream-case (record { value = n }) n refl l))
    (λ l. let e : n ≡ streams = omega arith in ap lowest_told (no-case n e) ∙ sym e)
