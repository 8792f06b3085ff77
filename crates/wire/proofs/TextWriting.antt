-- The bytes of a string and of a name: how many they are, and laid over a list, the length or index first.
-- By the laws of append.
use mathlib.Core.Path.{◌≡◌, refl, sym, ap, ap₂, ◌∙◌}
use mathlib.Core.Bool.{Bool, true, false}
use Prim.Native.Nat.{ℕ, suc, ◌+◌, ◌^◌, ◌≤◌, ◌<◌}
use native.Mathlib.Omega.{arith}
use mathlib.Core.List.{List, [], ◌∷◌, ◌++◌}
use lib.ListN.{length, length-append}
use lib.Dec.{ltb}
use borrow.Author.Tests.{lt-ltb, le-ltb, ltb-true}
use Rattle.memory.specs.Choice.{pick}
use Rattle.memory.specs.Bytes.{overlay, Small}
use Rattle.memory.proofs.Order.{split, either, not-both}
use Rattle.memory.proofs.Overlay.{overlay-append, small-cons, small-append}
use Rattle.integers.specs.Integer.{int_wire}
use Rattle.integers.proofs.Writing.{int-past-prefix}
use Rattle.integers.proofs.Lengths.{int-one, int-within, int-bytes-small}
use Rattle.huffman.specs.Packing.{pack, packed_size}
use Rattle.huffman.proofs.Packs.{packed-length, small-pack}
use Rattle.wire.specs.Text.{all_bytes, packs, wire_size, string_wire}
use Rattle.wire.specs.Name.{Name, name_wire}

-- xs written at a place, then ys after it
pub write_then : (out : List ℕ) (at : ℕ) (xs ys mid last : List ℕ) (next end : ℕ)
    → next ≡ at + length xs → mid ≡ overlay out at xs → end ≡ next + length ys → last ≡ overlay mid next ys
    → (end ≡ at + length (xs ++ ys)) × (last ≡ overlay out at (xs ++ ys))
write_then out at xs ys mid last next end n m e l = (
  omega (arith, length-append xs ys),
  l ∙ ap₂ (λ (o : List ℕ) (i : ℕ). overlay o i ys) m n ∙ sym (overlay-append out at xs ys),
)

-- two tests that both hold
pick_yes : (a b : Bool) → pick a b false ≡ true → (a ≡ true) × (b ≡ true)
pick_yes true b e = (refl, e)
pick_yes false b e = not-both false e refl

-- only bytes are packed
pub all_small : (xs : List ℕ) → all_bytes xs ≡ true → Small xs
unfolding all_bytes
all_small [] e = λ k. omega arith
all_small (x ∷ xs) e =
    let h = pick_yes (ltb x 256) (all_bytes xs) e in
    small-cons x xs (ltb-true x 256 h.0) (all_small xs h.1)

pub small_all : (xs : List ℕ) → Small xs → all_bytes xs ≡ true
unfolding all_bytes
small_all [] h = refl
small_all (x ∷ xs) h = rw (lt-ltb x 256 (h 0)) (small_all xs (λ k. h (suc k)))

-- an integer takes as many bytes whatever stands above its prefix
top-alike : (a b v : ℕ) → length (int_wire 7 a v) ≡ length (int_wire 7 b v)
top-alike a b v =
    split v 127
    (λ h. int-one 7 a v h ∙ sym (int-one 7 b v h))
    (λ h. ap length (int-past-prefix 7 a v 128 refl h) ∙ sym (ap length (int-past-prefix 7 b v 128 refl h)))

module _ (xs : List ℕ) where
  pub plain-wire : packs xs ≡ false → string_wire xs ≡ int_wire 7 0 (length xs) ++ xs
  unfolding string_wire
  plain-wire e = simp e

  pub packed-wire : packs xs ≡ true → string_wire xs ≡ int_wire 7 128 (packed_size xs) ++ pack xs
  unfolding string_wire
  packed-wire e = simp e

  pub packs-shorter : packs xs ≡ true → packed_size xs < length xs
  unfolding packs
  packs-shorter e = ltb-true (packed_size xs) (length xs) (pick_yes (all_bytes xs) (ltb (packed_size xs) (length xs)) e).1

  pub packs_bytes : packs xs ≡ true → Small xs
  unfolding packs
  packs_bytes e = all_small xs (pick_yes (all_bytes xs) (ltb (packed_size xs) (length xs)) e).0

  -- how many bytes stand behind the length: fewer than the string has exactly where it is packed
  pub packed-size : packs xs ≡ true → wire_size xs ≡ packed_size xs
  unfolding wire_size
  packed-size e = simp e

  pub plain_size : packs xs ≡ false → wire_size xs ≡ length xs
  unfolding wire_size
  plain_size e = simp e

  pub size-within : wire_size xs ≤ length xs
  size-within = either (packs xs) (λ e. omega (arith, packed-size e, packs-shorter e)) (λ e. omega (arith, plain_size e))

  pub size-packed : wire_size xs < length xs → packs xs ≡ true
  size-packed h = either (packs xs) (λ e. e) (λ e. absurd (omega (arith, plain_size e)))

  pub size-plain : length xs ≤ wire_size xs → packs xs ≡ false
  size-plain h = either (packs xs) (λ e. absurd (omega (arith, packed-size e, packs-shorter e))) (λ e. e)

  -- of bytes: the fewer of those packed and those plain
  module _ (h : Small xs) where
    pub fewer-packed : packed_size xs < length xs → wire_size xs ≡ packed_size xs
    unfolding packs wire_size
    fewer-packed k = simp (small_all xs h, lt-ltb _ _ k)

    pub fewer-plain : length xs ≤ packed_size xs → wire_size xs ≡ length xs
    unfolding packs wire_size
    fewer-plain k = simp (small_all xs h, le-ltb _ _ k)

  -- the bytes of a string: its length with the H bit or without, then as many bytes as that says
  pub string-length-wire : (top : ℕ) → length (string_wire xs) ≡ length (int_wire 7 top (wire_size xs)) + wire_size xs
  string-length-wire top =
      either (packs xs)
      (λ e. rw (packed-size e) (omega (
        arith,
        ap length (packed-wire e),
        length-append (int_wire 7 128 (packed_size xs)) (pack xs),
        packed-length xs,
        top-alike 128 top (packed_size xs),
      )))
      (λ e. rw (plain_size e) (omega (arith, ap length (plain-wire e), length-append (int_wire 7 0 (length xs)) xs, top-alike 0 top (length xs))))

  -- a string takes at most its bytes and its length
  pub string-within : (m : ℕ) → length xs < 127 + 128 ^ suc m → length (string_wire xs) ≤ m + 2 + length xs
  string-within m h = omega (arith, string-length-wire 0, size-within, int-within 7 0 (wire_size xs) m (omega (arith, size-within)))

  -- of bytes: bytes
  pub string-small : length xs ≤ 2047 → Small xs → Small (string_wire xs)
  string-small h k =
      either (packs xs)
      (λ e. rw (packed-wire e) (small-append (int_wire 7 128 (packed_size xs)) (pack xs)
      (int-bytes-small 7 128 (packed_size xs) (omega arith) (omega (arith, packs-shorter e))) (small-pack xs)))
      (λ e. rw (plain-wire e) (small-append (int_wire 7 0 (length xs)) xs (int-bytes-small 7 0 (length xs) (omega arith) (omega arith)) k))

module _ (k top : ℕ) where
  pub index-wire : (i : ℕ) → name_wire k top (Name.indexed i) ≡ int_wire k top i
  unfolding name_wire
  index-wire i = refl

  pub literal-wire : (xs : List ℕ) → name_wire k top (Name.literal xs) ≡ int_wire k top 0 ++ string_wire xs
  unfolding name_wire
  literal-wire xs = refl

  pub literal-length-wire : (xs : List ℕ) → length (name_wire k top (Name.literal xs)) ≡ length (int_wire k top 0) + length (string_wire xs)
  unfolding name_wire
  literal-length-wire xs = length-append (int_wire k top 0) (string_wire xs)

  pub literal-written : (xs : List ℕ) (v : ℕ) → v ≡ 0 → (out : List ℕ) (at : ℕ) (mid last : List ℕ) (next end : ℕ)
      → next ≡ at + length (int_wire k top v) → mid ≡ overlay out at (int_wire k top v)
      → end ≡ next + length (string_wire xs) → last ≡ overlay mid next (string_wire xs)
      → (end ≡ at + length (name_wire k top (Name.literal xs))) × (last ≡ overlay out at (name_wire k top (Name.literal xs)))
  unfolding name_wire
  literal-written xs v z out at mid last next end =
      rw z (write_then out at (int_wire k top 0) (string_wire xs) mid last next end)
