-- The bytes that are lent are the first of the output, as many as the room says, and the others are left.
use Prim.Native.Nat.{ℕ, ◌≤◌, ◌<◌, min}
use mathlib.Core.Path.{◌≡◌, sym, ap, ◌∙◌}
use native.Mathlib.Omega.{arith}
use mathlib.Core.List.{List}
use lib.ListN.{length, take, drop, drop_of_length-le}
use lib.Seq.{take_all, drop-length}
use borrow.Author.Tests.{lt-ltb, le-ltb}
use Rattle.memory.proofs.Order.{split}
use Rattle.recorded_parts.specs.Lent.{lent_of}

pub lent-part : (room n : ℕ) → room < n → lent_of room n ≡ room
unfolding lent_of
lent-part room n h = simp (lt-ltb room n h)

pub lent-all : (room n : ℕ) → n ≤ room → lent_of room n ≡ n
unfolding lent_of
lent-all room n h = simp (le-ltb room n h)

pub lent-min : (room n : ℕ) → min room n ≡ lent_of room n
lent-min room n = split room n (λ h. omega (arith, lent-part room n h)) (λ h. omega (arith, lent-all room n h))

module _ (room : ℕ) (out : List ℕ) where
  pub lent-within : lent_of room (length out) ≤ length out
  lent-within = split room (length out) (λ h. omega (arith, lent-part room (length out) h)) (λ h. omega (arith, lent-all room (length out) h))

  pub lent-bytes : take (lent_of room (length out)) out ≡ take room out
  lent-bytes =
      split room (length out)
      (λ h. ap (λ (n : ℕ). take n out) (lent-part room (length out) h))
      (λ h. ap (λ (n : ℕ). take n out) (lent-all room (length out) h) ∙ take_all (length out) out (omega arith) ∙ sym (take_all room out h))

  pub left-bytes : drop (lent_of room (length out)) out ≡ drop room out
  left-bytes =
      split room (length out)
      (λ h. ap (λ (n : ℕ). drop n out) (lent-part room (length out) h))
      (λ h. ap (λ (n : ℕ). drop n out) (lent-all room (length out) h) ∙ drop-length out ∙ sym (drop_of_length-le out h))
