-- Dropping a delete: moving those behind it down and lowering their number keep the number of rows, which renumbering goes by.
use mathlib.Core.Path.{◌≡◌, ap, ◌∙◌}
use Prim.Native.Nat.{ℕ, ◌+◌, ◌*◌, ◌-◌}
use native.Mathlib.Omega.{arith}
use mathlib.Core.List.{List}
use Rattle.memory.specs.Bytes.{overlay, moved, part}
use Rattle.memory.specs.Numbers.{number_bytes}
use Rattle.memory.proofs.Numbers.{number-below}
use Rattle.state.specs.Layout.{delete_place, count_place, delete_count_place, count_of, delete_count}
use Rattle.deletes.specs.Deletes.{renumbered, dropped}

module _ (m : List ℕ) (k n to from : ℕ) (e : n ≡ delete_count m) (d : to ≡ delete_place k) (f : from ≡ delete_place (k + 1)) (one two : List ℕ)
    (p : one ≡ moved m to from (76 * (n - (k + 1)))) (q : two ≡ overlay one delete_count_place (number_bytes 2 (n - 1))) where
  pub rows-kept : count_of two ≡ count_of m
  rows-kept =
      ap count_of q ∙ number-below 2 one count_place delete_count_place (number_bytes 2 (n - 1)) (omega arith)
      ∙ ap count_of p ∙ number-below 2 m count_place to (part m from (76 * (n - (k + 1)))) (omega arith)

  pub drop-closed : (three : List ℕ) → three ≡ renumbered (k + 1) (count_of two) two → three ≡ dropped m k
  unfolding dropped
  drop-closed three r = rw (← e, ← d, ← f, ← p, ← q, ← rows-kept) r
