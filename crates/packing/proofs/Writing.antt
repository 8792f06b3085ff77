-- Packing from the front: bits that wait, then the codes of the bytes that are left. A byte's code joins the bits; a word of them is written.
use mathlib.Core.Path.{◌≡◌, refl, sym, ap, ap₂, subst, ◌∙◌}
use mathlib.Core.Bool.{Bool}
use Prim.Native.Nat.{ℕ, suc, ◌+◌, ◌-◌, ◌/◌, ◌%◌, ◌^◌, ◌≤◌, ◌<◌}
use native.Mathlib.Omega.{arith}
use native.Mathlib.Nat.{zero-add}
use native.Mathlib.Numerals.{add-one}
use mathlib.Core.List.{List, [], ◌∷◌, ◌++◌, append_assoc, append-nil}
use lib.ListN.{length, get_or, drop, set, drop_of_length-le, length-append}
use lib.Seq.{drop-cons}
use lib.Dec.{leb}
use borrow.Author.Tests.{le-leb, lt-leb}
use Rattle.memory.specs.Bytes.{overlay}
use Rattle.memory.proofs.Order.{pick_true, pick-false}
use Rattle.memory.proofs.Overlay.{length-overlay, overlay-append}
use Rattle.huffman.specs.Codes.{code_of}
use Rattle.huffman.specs.Bits.{bits_of, bytes_of, ones, Pushed}
use Rattle.huffman.specs.Packing.{code_bits, codes_of, codes_size, packed_size, pack}
use Rattle.packing.specs.Within.{packed_in, PackedOver}
use Rattle.std.proofs.Common.{Some, None}
use Rattle.huffman.proofs.BitLaws.{length-bytes_of}
use Rattle.huffman.proofs.Packs.{size-most}
use Rattle.huffman.proofs.Pushing.{byte-off, word-off}

-- ---- the codes of what is left

pub codes_of-next : (s : List ℕ) (i : ℕ) → i < length s → codes_of (drop i s) ≡ code_bits (get_or s i 0) ++ codes_of (drop (i + 1) s)
unfolding codes_of
codes_of-next s i h = ap codes_of (drop-cons s i 0 h) ∙ ap (λ (k : ℕ). code_bits (get_or s i 0) ++ codes_of (drop k s)) (sym (add-one i))

pub codes_size-next : (s : List ℕ) (i : ℕ) → i < length s → codes_size (drop i s) ≡ (code_of (get_or s i 0)).size + codes_size (drop (i + 1) s)
unfolding codes_size
codes_size-next s i h = ap codes_size (drop-cons s i 0 h) ∙ ap (λ (k : ℕ). (code_of (get_or s i 0)).size + codes_size (drop k s)) (sym (add-one i))

pub codes_size-past : (s : List ℕ) (i : ℕ) → length s ≤ i → codes_size (drop i s) ≡ 0
unfolding codes_size
codes_size-past s i h = ap codes_size (drop_of_length-le s {i = i} h)

-- ---- the bytes that are left to write

-- n bits of u, and then the codes of xs
unfoldable pub remainder : ℕ → ℕ → List ℕ → List ℕ
remainder n u xs = bytes_of ((n + codes_size xs + 7) / 8) (bits_of n u ++ (codes_of xs ++ ones 7))

pub remainder-start : (u : ℕ) (xs : List ℕ) → pack xs ≡ remainder 0 u xs
unfolding remainder pack packed_size bits_of
remainder-start u xs = ap (λ (n : ℕ). bytes_of ((n + 7) / 8) (codes_of xs ++ ones 7)) (sym (zero-add (codes_size xs)))

pub remainder-code : (s : List ℕ) (i n u v : ℕ) → i < length s → n ≤ 34 → Pushed u (code_of (get_or s i 0)).size (code_of (get_or s i 0)).value v
    → remainder n u (drop i s) ≡ remainder (n + (code_of (get_or s i 0)).size) v (drop (i + 1) s)
unfolding remainder Pushed code_bits
remainder-code s i n u v h b p =
    let x = get_or s i 0 in
    let l = (code_of x).size in
    let k : n + codes_size (drop i s) + 7 ≡ n + l + codes_size (drop (i + 1) s) + 7 = omega (arith, codes_size-next s i h) in
    let rest = codes_of (drop (i + 1) s) in
    let e : bits_of n u ++ (codes_of (drop i s) ++ ones 7) ≡ bits_of (n + l) v ++ (rest ++ ones 7) =
    ap (λ (r : List Bool). bits_of n u ++ (r ++ ones 7)) (codes_of-next s i h)
    ∙ ap (λ (r : List Bool). bits_of n u ++ r) (append_assoc (code_bits x) rest (ones 7))
    ∙ sym (append_assoc (bits_of n u) (code_bits x) (rest ++ ones 7))
    ∙ ap (λ (r : List Bool). r ++ (rest ++ ones 7)) (sym (p n (omega (arith, size-most x)))) in
    ap₂ (λ (m : ℕ) (r : List Bool). bytes_of (m / 8) r) k e

pub remainder-word : (n u : ℕ) (xs : List ℕ) → 32 ≤ n → remainder n u xs ≡ bytes_of 4 (bits_of 32 (u / 2 ^ (n - 32))) ++ remainder (n - 32) u xs
unfolding remainder
remainder-word n u xs h =
    let e : 32 + (n - 32) ≡ n = omega arith in
    let k : (n + codes_size xs + 7) / 8 ≡ 4 + (n - 32 + codes_size xs + 7) / 8 = omega arith in
    ap₂ (λ (m j : ℕ). bytes_of m (bits_of j u ++ (codes_of xs ++ ones 7))) k (sym e)
    ∙ word-off ((n - 32 + codes_size xs + 7) / 8) (n - 32) u (codes_of xs ++ ones 7)

pub remainder-end : (n u : ℕ) (s : List ℕ) (i : ℕ) → length s ≤ i → remainder n u (drop i s) ≡ bytes_of ((n + 7) / 8) (bits_of n u ++ ones 7)
unfolding remainder codes_of
remainder-end n u s i h =
    let e : n + codes_size (drop i s) + 7 ≡ n + 7 = omega (arith, codes_size-past s i h) in
    ap₂ (λ (m : ℕ) (xs : List ℕ). bytes_of (m / 8) (bits_of n u ++ (codes_of xs ++ ones 7))) e (drop_of_length-le s {i = i} h)

-- ---- the last bytes

-- the whole bytes of n bits, of which fewer than eight are left over
unfoldable pub last_bytes : ℕ → ℕ → List ℕ
last_bytes n v = bytes_of (n / 8) (bits_of n v)

pub last-bytes : (n u v : ℕ) → n ≤ 57 → Pushed u 7 127 v → bytes_of ((n + 7) / 8) (bits_of n u ++ ones 7) ≡ last_bytes (n + 7) v
unfolding Pushed bits_of last_bytes
last-bytes n u v h p = ap (bytes_of ((n + 7) / 8)) (sym (p n (omega arith)))

-- the first of them stored
pub last-store : (l : List ℕ) (at next n k v : ℕ) → next ≡ at + 1 → n ≡ 8 + k
    → overlay l at (last_bytes n v) ≡ overlay (set l at (v / 2 ^ k % 256)) next (last_bytes k v)
unfolding last_bytes
last-store l at next n k v f e =
    let m : n / 8 ≡ suc (k / 8) = omega arith in
    let x : ℕ = v / 2 ^ k % 256 in
    let first : bytes_of (n / 8) (bits_of n v) ≡ x ∷ bytes_of (k / 8) (bits_of k v) =
    ap₂ (λ (i j : ℕ). bytes_of i (bits_of j v)) m e
    ∙ ap (bytes_of (suc (k / 8))) (sym (append-nil (bits_of (8 + k) v)))
    ∙ byte-off (k / 8) k v []
    ∙ ap (λ (r : List Bool). x ∷ bytes_of (k / 8) r) (append-nil (bits_of k v))
    in
    ap (overlay l at) first ∙ ap (λ (i : ℕ). overlay (set l at x) i (bytes_of (k / 8) (bits_of k v))) (sym f)

-- none is left
pub last_none : (l : List ℕ) (at n v : ℕ) → n < 8 → overlay l at (last_bytes n v) ≡ l
unfolding last_bytes bytes_of
last_none l at n v h = let e : n / 8 ≡ 0 = omega arith in ap (λ (m : ℕ). overlay l at (bytes_of m (bits_of n v))) e

-- ---- the state of packing

-- `out` holds the bytes that are written, up to the place `to`: the rest is n bits of u and the codes from the place i on
pub record Packing (s out₀ : List ℕ) (at : ℕ) (out : List ℕ) (u n to i : ℕ) : Type 0 where
  pub within : i ≤ length s
  pub bytes : List ℕ
  pub whole : pack s ≡ bytes ++ remainder n u (drop i s)
  pub stands : out ≡ overlay out₀ at bytes
  pub place : to ≡ at + length bytes
  pub room : at + packed_size s ≡ to + (n + codes_size (drop i s) + 7) / 8

pub packing-start : (s out : List ℕ) (at u : ℕ) → Packing s out at out u 0 at 0
unfolding packed_size
packing-start s out at u = record {
  within = omega arith;
  bytes = [];
  whole = remainder-start u s;
  stands = refl;
  place = omega arith;
  room = ap (λ (k : ℕ). at + (k + 7) / 8) (sym (zero-add (codes_size s)));
}

-- what packing comes to where the bytes would run past the end
longer-in : (s : List ℕ) (at end : ℕ) → end < at + packed_size s → None ≡ packed_in s at end
unfolding packed_in
longer-in s at end h = sym (pick-false (leb (at + packed_size s) end) (Some (at + packed_size s)) None (lt-leb (at + packed_size s) end h))

longer-over : (s out out' junk : List ℕ) (at end : ℕ) → end < at + packed_size s → length junk ≤ end - at → out' ≡ overlay out at junk
    → PackedOver s at end out out'
longer-over s out out' junk at end h l e = record { fits = λ k. absurd (omega arith); longer = λ k. (junk, l, e) }

pub packing-none : (s out : List ℕ) (at end : ℕ) → end < at → (None ≡ packed_in s at end) × PackedOver s at end out out
packing-none s out at end h = (longer-in s at end (omega arith), longer-over s out out [] at end (omega arith) (omega arith) refl)

module _ {s out₀ : List ℕ} {at : ℕ} {out : List ℕ} {u n to i : ℕ} (p : Packing s out₀ at out u n to i) where
  pub packing-same : length out ≡ length out₀
  packing-same = ap length p.stands ∙ length-overlay out₀ at p.bytes

  pub packing-code : (v l x : ℕ) → i < length s → n < 32 → l ≡ (code_of (get_or s i 0)).size → x ≡ (code_of (get_or s i 0)).value → Pushed u l x v
      → Packing s out₀ at out v (n + l) to (i + 1)
  packing-code v l x h b e d q =
      let r : Pushed u (code_of (get_or s i 0)).size (code_of (get_or s i 0)).value v =
      subst (λ (y : ℕ). Pushed u (code_of (get_or s i 0)).size y v) d (subst (λ (k : ℕ). Pushed u k x v) e q) in
      let w : remainder n u (drop i s) ≡ remainder (n + l) v (drop (i + 1) s) =
      remainder-code s i n u v h (omega arith) r ∙ ap (λ (k : ℕ). remainder (n + k) v (drop (i + 1) s)) (sym e) in
      record {
        within = omega arith;
        bytes = p.bytes;
        whole = p.whole ∙ ap (λ (xs : List ℕ). p.bytes ++ xs) w;
        stands = p.stands;
        place = p.place;
        room = omega (arith, p.room, codes_size-next s i h);
      }

  -- bytes written behind those that stand there
  added : (xs : List ℕ) → overlay out to xs ≡ overlay out₀ at (p.bytes ++ xs)
  added xs =
      ap₂ (λ (m : List ℕ) (k : ℕ). overlay m k xs) p.stands p.place ∙ sym (overlay-append out₀ at p.bytes xs)

  pub packing-word : (out' : List ℕ) (n' to' : ℕ) → 32 ≤ n → out' ≡ overlay out to (bytes_of 4 (bits_of 32 (u / 2 ^ (n - 32)))) → n' ≡ n - 32
      → to' ≡ to + 4 → Packing s out₀ at out' u n' to' i
  packing-word out' n' to' h e f g =
      let word : List ℕ = bytes_of 4 (bits_of 32 (u / 2 ^ (n - 32))) in
      let rest : List ℕ = remainder (n - 32) u (drop i s) in
      let four : length word ≡ 4 = length-bytes_of 4 (bits_of 32 (u / 2 ^ (n - 32))) in
      rw (f, g) record {
        within = p.within;
        bytes = p.bytes ++ word;
        whole =
            p.whole ∙ ap (λ (xs : List ℕ). p.bytes ++ xs) (remainder-word n u (drop i s) h)
            ∙ sym (append_assoc p.bytes word rest);
        stands = e ∙ added word;
        place = omega (arith, p.place, length-append p.bytes word);
        room = omega (arith, p.room);
      }

  pub packing-kept : (out' : List ℕ) (n' to' : ℕ) → out' ≡ out → n' ≡ n → to' ≡ to → Packing s out₀ at out' u n' to' i
  packing-kept out' n' to' e f g = rw (e, f, g) p

  -- what is left does not fit
  pub packing-longer : (end : ℕ) → to ≤ end → end - to < (n + codes_size (drop i s) + 7) / 8
      → (None ≡ packed_in s at end) × PackedOver s at end out₀ out
  packing-longer end h l =
      let k : end < at + packed_size s = omega (arith, p.room) in
      (longer-in s at end k, longer-over s out₀ out p.bytes at end k (omega (arith, p.place)) p.stands)

  -- no code is left
  module _ (h : length s ≤ i) where
    pub packing-rest : (end : ℕ) → to ≤ end → end - to < (n + 7) / 8 → (None ≡ packed_in s at end) × PackedOver s at end out₀ out
    packing-rest end b l = packing-longer end b (omega (arith, codes_size-past s i h))

    pub packing-ends : (end : ℕ) (out' : List ℕ) → to ≤ end → (n + 7) / 8 ≤ end - to
        → out' ≡ overlay out to (bytes_of ((n + 7) / 8) (bits_of n u ++ ones 7))
        → (Some (to + (n + 7) / 8) ≡ packed_in s at end) × PackedOver s at end out₀ out'
    unfolding packed_in
    packing-ends end out' b l e =
        let k : at + packed_size s ≡ to + (n + 7) / 8 = omega (arith, p.room, codes_size-past s i h) in
        let f : at + packed_size s ≤ end = omega arith in
        let rest : List ℕ = bytes_of ((n + 7) / 8) (bits_of n u ++ ones 7) in
        let w : pack s ≡ p.bytes ++ rest = p.whole ∙ ap (λ (xs : List ℕ). p.bytes ++ xs) (remainder-end n u s i h) in (
          ap Some (sym k) ∙ sym (pick_true (leb (at + packed_size s) end) (Some (at + packed_size s)) None (le-leb (at + packed_size s) end f)),
          record {
            fits = λ _. e ∙ added rest ∙ ap (overlay out₀ at) (sym w);
            longer = λ q. absurd (omega arith);
          },
        )
