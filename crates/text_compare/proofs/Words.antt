-- Bytes compared by words from the start on, the last of them at the end: it decides what is left, since it holds all of that.
use mathlib.Core.Path.{◌≡◌, refl, sym, ap, ◌∙◌}
use Prim.Native.Nat.{ℕ, ◌+◌, ◌-◌, ◌≤◌}
use native.Mathlib.Nat.{zero-add}
use native.Mathlib.Omega.{arith}
use mathlib.Core.Bool.{Bool, true, false}
use mathlib.Core.List.{List}
use lib.Dec.{eqb}
use borrow.Author.Tests.{eqb-true, eqb-false}
use Rattle.memory.specs.Choice.{pick}
use Rattle.memory.specs.Bytes.{Small}
use Rattle.memory.specs.Numbers.{number}
use Rattle.memory.specs.Compare.{same_at}
use Rattle.memory.proofs.Order.{either, not-both}
use Rattle.memory.proofs.Sameness.{same_at-split, number-same_at}
use Rattle.memory.proofs.Ends.{ends_last}

-- a place counted from the start
pub from_start : (w : ℕ) (b : List ℕ) (k : ℕ) {v : ℕ} → v ≡ number w b k → v ≡ number w b (0 + k)
from_start w b k e = rw (zero-add k) e

-- where n + k elements are the same, the last k are
same-behind : (n k : ℕ) (a : List ℕ) (i : ℕ) (b : List ℕ) (j : ℕ) → same_at (n + k) a i b j ≡ true → same_at k a (i + n) b (j + n) ≡ true
same-behind n k a i b j e = second (same_at n a i b j) (same_at k a (i + n) b (j + n)) (sym (same_at-split n k a i b j) ∙ e)
  where
    second : (p q : Bool) → pick p q false ≡ true → q ≡ true
    second true q d = d
    second false q d = not-both false d refl

-- k of the n bytes are settled, and a word at the end holds the rest; x and y: the words as they were read
module _ (n k w : ℕ) (a : List ℕ) (i : ℕ) (b : List ℕ) (h : w ≤ n) (near : n ≤ k + w) (within : k ≤ n) (s : Small a) (t : Small b) where
  rest-same : number w a (i + (n - w)) ≡ number w b (n - w) → same_at (n - k) a (i + k) b (0 + k) ≡ true
  rest-same e =
      let d : w ≡ k + w - n + (n - k) = omega arith in
      let p : i + (n - w) + (k + w - n) ≡ i + k = omega arith in
      let q : n - w + (k + w - n) ≡ 0 + k = omega arith in
      let word : same_at w a (i + (n - w)) b (n - w) ≡ true = number-same_at w a (i + (n - w)) b (n - w) s t e in
      rw (p, q)
      at (same-behind (k + w - n) (n - k) a (i + (n - w)) b (n - w) (ap (λ (l : ℕ). same_at l a (i + (n - w)) b (n - w)) (sym d) ∙ word))

  pub last-decides : {x y : ℕ} → same_at n a i b 0 ≡ same_at (n - k) a (i + k) b (0 + k) → x ≡ number w a (i + (n - w)) → y ≡ number w b (n - w)
      → eqb x y ≡ same_at n a i b 0
  last-decides {x} {y} left d e =
      either (eqb x y)
      (λ f. f ∙ sym (left ∙ rest-same (sym d ∙ eqb-true x y f ∙ e)))
      (λ f. f ∙ sym (ends_last n w a i b h (λ g. eqb-false x y f (d ∙ g ∙ sym e))))
