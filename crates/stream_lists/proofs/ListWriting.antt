-- What a turn of the writer of deltas does: the streams left are `drop i xs`, and the bytes left are those of their deltas.
use mathlib.Core.Path.{◌≡◌}
use Prim.Native.Nat.{ℕ, ◌+◌, ◌-◌, ◌≤◌, ◌<◌}
use native.Mathlib.Numerals.{add-one}
use mathlib.Core.List.{List, [], ◌++◌}
use lib.ListN.{length, get_or, drop, drop_of_length-le, length-append}
use lib.Seq.{drop-cons}
use Rattle.memory.specs.Bytes.{overlay}
use Rattle.memory.proofs.Overlay.{overlay-append}
use Rattle.integers.specs.Integer.{int_wire}
use Rattle.stream_lists.specs.StreamList.{Fits, deltas_wire, list_wire}

module _ (xs : List ℕ) (i last : ℕ) where
  pub deltas-none : length xs ≤ i → deltas_wire last (drop i xs) ≡ []
  unfolding deltas_wire
  deltas-none h = rw (drop_of_length-le xs h)

  deltas-next : i < length xs
      → deltas_wire last (drop i xs) ≡ int_wire 8 0 (get_or xs i 0 - last) ++ deltas_wire (get_or xs i 0) (drop (i + 1) xs)
  unfolding deltas_wire
  deltas-next h = rw (add-one i, drop-cons xs i 0 h)

  pub fits_next : i < length xs → Fits last (drop i xs)
      → (last < get_or xs i 0) × (get_or xs i 0 ≤ 4095) × Fits (get_or xs i 0) (drop (i + 1) xs)
  fits_next h p = rw (add-one i) (rw (drop-cons xs i 0 h) at p)

  -- with the bytes of the next delta v
  module _ (h : i < length xs) (v : ℕ) (e : v ≡ get_or xs i 0 - last) where
    pub delta-length : length (deltas_wire last (drop i xs))
        ≡ length (int_wire 8 0 v) + length (deltas_wire (get_or xs i 0) (drop (i + 1) xs))
    delta-length = simp (deltas-next h, ← e, length-append)

    pub delta-stored : (out one : List ℕ) (next after : ℕ) → after ≡ next + length (int_wire 8 0 v) → one ≡ overlay out next (int_wire 8 0 v)
        → overlay out next (deltas_wire last (drop i xs)) ≡ overlay one after (deltas_wire (get_or xs i 0) (drop (i + 1) xs))
    delta-stored out one next after p q = rw (deltas-next h, ← e, overlay-append, q, p)

-- the three parts of a list's bytes: the bytes of the horizon v, of the count n, and of the deltas
module _ (horizon : ℕ) (xs : List ℕ) (v n : ℕ) (e : v ≡ horizon) (d : n ≡ length xs) where
  pub list_length : length (list_wire horizon xs) ≡ length (int_wire 8 0 v) + (length (int_wire 8 0 n) + length (deltas_wire horizon xs))
  unfolding list_wire
  list_length = simp (e, d, length-append)

  pub list-stored : (out one two three : List ℕ) (at after deltas : ℕ)
      → after ≡ at + length (int_wire 8 0 v) → deltas ≡ after + length (int_wire 8 0 n)
      → one ≡ overlay out at (int_wire 8 0 v) → two ≡ overlay one after (int_wire 8 0 n) → three ≡ overlay two deltas (deltas_wire horizon xs)
      → three ≡ overlay out at (list_wire horizon xs)
  unfolding list_wire
  list-stored out one two three at after deltas p q f g h = rw (overlay-append, overlay-append, h, g, f, q, p, e, d)
