-- A stream list reads back as it was written, by `int-back` for each of its numbers; and how many bytes it takes.
use mathlib.Core.Path.{◌≡◌, refl, sym, ap, ◌∙◌}
use Prim.Native.Nat.{ℕ, suc, ◌+◌, ◌-◌, ◌*◌, ◌≤◌, ◌<◌}
use native.Mathlib.Omega.{arith}
use native.Mathlib.Numerals.{sub-one}
use native.Mathlib.Nat.{add-zero}
use mathlib.Core.List.{List, [], ◌∷◌, ◌++◌}
use lib.ListN.{length, length-append}
use Rattle.memory.specs.Bytes.{Has}
use Rattle.memory.proofs.Places.{has_left, has_right}
use Rattle.integers.specs.Integer.{int_wire}
use Rattle.stream_lists.specs.StreamList.{read_delta, read_deltas, streams_from, list_of, read_list, Fits, deltas_wire, list_wire}
use Rattle.stream_lists.specs.declared.stream_list.ListPlace.{ListPlace}
use Rattle.integers.proofs.Back.{int-back}
use Rattle.integers.proofs.Lengths.{int-one, int-within}
use Rattle.stream_lists.proofs.ListLaws.{delta-stream, deltas-end, deltas-more, streams-end, streams-more, list-found}
use Rattle.stream_lists.proofs.ListWriting.{list_length}
use Rattle.std.specs.Prelude.{Ok}

module _ (s : List ℕ) where
  pub delta-back : (at last x : ℕ) → last < x → x ≤ 4095 → Has s at (int_wire 8 0 (x - last))
      → read_delta s at last ≡ Ok (record { value = x }, at + length (int_wire 8 0 (x - last)))
  delta-back at last x h k p =
      let e = int-back s 8 at 0 (x - last) (omega arith) p in
      let sum : last + (x - last) ≡ x = omega arith in
      rw sum at (delta-stream s at last _ (sym e) _ _ refl (omega arith) (omega arith))

  pub deltas-back : (at last : ℕ) (xs : List ℕ) → Fits last xs → Has s at (deltas_wire last xs)
      → (read_deltas (length xs) s at last ≡ Ok (at + length (deltas_wire last xs))) × (streams_from (length xs) s at last ≡ xs)
  unfolding deltas_wire
  deltas-back at last [] f p = (rw add-zero (deltas-end s at last 0 (omega arith)), streams-end s at last)
  deltas-back at last (x ∷ xs) f p =
      let w : List ℕ = int_wire 8 0 (x - last) in
      let d = delta-back at last x f.0 f.1 (has_left s at w (deltas_wire x xs) p) in
      let r = deltas-back (at + length w) x xs f.2 (has_right s at w (deltas_wire x xs) p) in
      let n : at + length (w ++ deltas_wire x xs) ≡ at + length w + length (deltas_wire x xs) = omega (arith, length-append w (deltas_wire x xs)) in (
        rw n (rw sub-one at (deltas-more s at last _ (sym d) _ _ refl (suc (length xs)) (omega arith)) ∙ r.0),
        streams-more s at last _ (sym d) _ _ refl (length xs) ∙ ap (λ (ys : List ℕ). x ∷ ys) r.1,
      )

  pub list_back : (at h : ℕ) (xs : List ℕ) → h ≤ 4096 → length xs ≤ 16 → Fits h xs → Has s at (list_wire h xs)
      → (p : ListPlace) × (read_list s at ≡ Ok (p, at + length (list_wire h xs))) × (list_of s p ≡ record { horizon = h; streams = xs })
  unfolding list_wire
  list_back at h xs a b f p =
      let v : List ℕ = int_wire 8 0 h in
      let n : List ℕ = int_wire 8 0 (length xs) in
      let z : List ℕ = deltas_wire h xs in
      let q : Has s (at + length v) (n ++ z) = has_right s at v (n ++ z) p in
      let e = int-back s 8 at 0 h (omega arith) (has_left s at v (n ++ z) p) in
      let d = int-back s 8 (at + length v) 0 (length xs) (omega arith) (has_left s (at + length v) n z q) in
      let r = deltas-back (at + length v + length n) h xs f (has_right s (at + length v) n z q) in
      let l : at + length v + length n + length z ≡ at + length (v ++ (n ++ z)) = omega (arith, length-append v (n ++ z), length-append n z) in (
        record { horizon = h; count = length xs; deltas = at + length v + length n },
        rw l at (list-found s at _ (sym e) _ _ refl a _ (sym d) _ _ refl b _ (sym r.0) _ refl),
        ap (λ (ys : List ℕ). record { horizon = h; streams = ys }) r.1,
      )

deltas-size : (last : ℕ) (xs : List ℕ) → Fits last xs → length (deltas_wire last xs) ≤ 3 * length xs
unfolding deltas_wire
deltas-size last [] f = omega arith
deltas-size last (x ∷ xs) f =
    omega (arith, length-append (int_wire 8 0 (x - last)) (deltas_wire x xs), int-within 8 0 (x - last) 1 (omega arith), deltas-size x xs f.2)

-- at most 4 bytes and 3 for each listed stream: 4 for a list of none, 52 for a full one
pub list-size : (h : ℕ) (xs : List ℕ) → h ≤ 4096 → length xs ≤ 16 → Fits h xs → length (list_wire h xs) ≤ 4 + 3 * length xs
list-size h xs a b f =
    omega (arith, list_length h xs h (length xs) refl refl, int-within 8 0 h 1 (omega arith), int-one 8 0 (length xs) (omega arith), deltas-size h xs f)
