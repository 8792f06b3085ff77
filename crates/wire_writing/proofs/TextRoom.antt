-- A string written into the room that was made for its packed bytes: packed where these fit, and else plain, over what was written there.
use mathlib.Core.Path.{◌≡◌, refl, sym, ap, ap₂, ◌∙◌}
use mathlib.Core.Bool.{true, false}
use Prim.Native.Nat.{ℕ, ◌+◌, ◌-◌, ◌≤◌, ◌<◌}
use native.Mathlib.Omega.{arith}
use mathlib.Core.List.{List, [], ◌∷◌, ◌++◌}
use lib.ListN.{length, take, drop, set, length-append, take-append-drop}
use lib.Seq.{length-take-le}
use lib.Dec.{leb}
use borrow.Author.Tests.{leb-true, leb-false}
use Rattle.memory.specs.Bytes.{overlay, Small}
use Rattle.memory.proofs.Order.{either, pick_true, pick-false, not-both}
use Rattle.memory.proofs.Overlay.{length-overlay, set-overlay, overlay-append, overlay-overlay}
use Rattle.integers.specs.Integer.{int_wire}
use Rattle.integers.proofs.Writing.{int-in-prefix}
use Rattle.integers.proofs.Lengths.{int-length}
use Rattle.huffman.specs.Packing.{pack, packed_size}
use Rattle.packing.specs.Within.{packed_in, PackedOver}
use Rattle.std.proofs.Common.{Some, None}
use Rattle.huffman.proofs.Packs.{packed-length}
use Rattle.wire.specs.Text.{string_wire}
use Rattle.wire_writing.specs.Room.{plain_wire, packed_length, RoomMade, tried, shut, told}
use Rattle.wire_writing.specs.declared.write.PackedRoom.{PackedRoom}
use Rattle.wire.proofs.TextWriting.{write_then, packed-wire, plain-wire, fewer-packed, fewer-plain, size-packed, size-plain}

-- ---- stores over stores

-- what is stored over is gone, and more may be stored
over_first : (l : List ℕ) (i : ℕ) (xs ys : List ℕ) → length xs ≤ length ys → overlay (overlay l i xs) i ys ≡ overlay l i ys
over_first l i xs ys h =
    let n = length xs in
    let a = take n ys in
    let b = drop n ys in
    let w : a ++ b ≡ ys = take-append-drop n ys in
    let e : length xs ≡ length a = sym (length-take-le n ys h) in
    ap (overlay (overlay l i xs) i) (sym w)
    ∙ overlay-append (overlay l i xs) i a b
    ∙ ap (λ (m : List ℕ). overlay m (i + length a) b) (overlay-overlay l i xs a e)
    ∙ sym (overlay-append l i a b)
    ∙ ap (overlay l i) w

-- also where the first store is left out before
over-rest : (l : List ℕ) (i : ℕ) (xs ys : List ℕ) → length xs < length ys → overlay (overlay l (i + 1) xs) i ys ≡ overlay l i ys
over-rest l i xs [] h = absurd (omega arith)
over-rest l i xs (y ∷ ys) h =
    ap (λ (m : List ℕ). overlay m (i + 1) ys) (sym (set-overlay l (i + 1) xs i y (omega arith))) ∙ over_first (set l i y) (i + 1) xs ys (omega arith)

-- ---- what packing within an end comes to

nope : {X : Type 0} → ◌≡◌ {A = ℕ} 0 1 → X
nope e = absurd (omega arith)

ends-in : (xs : List ℕ) (at end next : ℕ) → Some next ≡ packed_in xs at end → (next ≡ at + packed_size xs) × (next ≤ end)
unfolding packed_in
ends-in xs at end next e =
    either (leb (at + packed_size xs) end)
    (λ t. let f : Some next ≡ Some (at + packed_size xs) = e ∙ pick_true (leb (at + packed_size xs) end) (Some (at + packed_size xs)) None t in
    let n : next ≡ at + packed_size xs = cc in
    (n, omega (arith, leb-true (at + packed_size xs) end t)))
    (λ t. let f : Some next ≡ None = e ∙ pick-false (leb (at + packed_size xs) end) (Some (at + packed_size xs)) None t in nope (cc))

longer-in : (xs : List ℕ) (at end : ℕ) → None ≡ packed_in xs at end → end < at + packed_size xs
unfolding packed_in
longer-in xs at end e =
    either (leb (at + packed_size xs) end)
    (λ t. let f : None ≡ Some (at + packed_size xs) = e ∙ pick_true (leb (at + packed_size xs) end) (Some (at + packed_size xs)) None t in nope (cc))
    (λ t. leb-false (at + packed_size xs) end t)

-- ---- the bytes of a string

module _ (xs : List ℕ) (small : Small xs) where
  pub packed-string : packed_size xs < length xs → string_wire xs ≡ packed_length xs ++ pack xs
  packed-string h = packed-wire xs (size-packed xs (omega (arith, fewer-packed xs small h)))

  pub plain-string : length xs ≤ packed_size xs → string_wire xs ≡ plain_wire xs
  unfolding plain_wire
  plain-string h = plain-wire xs (size-plain xs (omega (arith, fewer-plain xs small h)))

  pub packed-length-string : packed_size xs < length xs → length (string_wire xs) ≡ length (packed_length xs) + packed_size xs
  packed-length-string h = ap length (packed-string h) ∙ length-append (packed_length xs) (pack xs) ∙ ap (λ (n : ℕ). length (packed_length xs) + n) (packed-length xs)

pub plain-length : (xs : List ℕ) → length (plain_wire xs) ≡ length (int_wire 7 0 (length xs)) + length xs
unfolding plain_wire
plain-length xs = length-append (int_wire 7 0 (length xs)) xs

pub plain-stored : (xs : List ℕ) (v : ℕ) → v ≡ length xs → (out : List ℕ) (at : ℕ) (mid last : List ℕ) (next end : ℕ)
    → next ≡ at + length (int_wire 7 0 v) → mid ≡ overlay out at (int_wire 7 0 v) → end ≡ next + length xs → last ≡ overlay mid next xs
    → (end ≡ at + length (plain_wire xs)) × (last ≡ overlay out at (plain_wire xs))
unfolding plain_wire
plain-stored xs v e out at mid last next end = rw e (write_then out at (int_wire 7 0 (length xs)) xs mid last next end)

-- ---- in the room

module _ (xs out out₁ : List ℕ) (at : ℕ) (r : PackedRoom) (small : Small xs) (fit : at + length (string_wire xs) ≤ length out) (m : RoomMade xs at out out₁ r) where
  pub room-length : length out₁ ≡ length out
  room-length = go m
    where
      go : RoomMade xs at out out₁ r → length out₁ ≡ length out
      go (tried a b e o) = ap length o
      go (shut a e o) = ap length o
      go (told a e o) = ap length o ∙ length-overlay out at (packed_length xs)

  pub room_within : r.end ≤ length out₁
  room_within = go m
    where
      go : RoomMade xs at out out₁ r → r.end ≤ length out₁
      go (tried a b e o) = rw (e, o) (omega arith)
      go (shut a e o) = rw (e, o) (omega arith)
      go (told a e o) = rw e (omega (arith, room-length, packed-length-string xs small a))

  -- packed bytes that do not fit: the string stands plain, whatever was written there
  module _ (out₂ : List ℕ) (l : None ≡ packed_in xs r.start r.end) (o₂ : PackedOver xs r.start r.end out₁ out₂) where
    record Scribbled : Type 0 where
      more : length xs ≤ packed_size xs
      bytes : List ℕ
      fewer : length bytes < length (plain_wire xs)
      stand : out₂ ≡ overlay out (at + 1) bytes

    scribbled : Scribbled
    scribbled = go m (longer-in xs r.start r.end l)
      where
        go : RoomMade xs at out out₁ r → r.end < r.start + packed_size xs → Scribbled
        go (tried a b e o) h =
            let j = o₂.longer h in
            let s : r.start ≡ at + 1 = ap (λ (q : PackedRoom). q.start) e in
            let n : r.end ≡ at + length xs = ap (λ (q : PackedRoom). q.end) e in
            record {
              more = omega arith;
              bytes = j.0;
              fewer = omega (arith, j.1, plain-length xs, int-length 7 0 (length xs));
              stand = j.2 ∙ ap₂ (λ (k : List ℕ) (i : ℕ). overlay k i j.0) o s;
            }
        go (shut a e o) h =
            let j = o₂.longer h in
            let s : r.start ≡ at + 1 = ap (λ (q : PackedRoom). q.start) e in
            let n : r.end ≡ at = ap (λ (q : PackedRoom). q.end) e in
            record {
              more = a;
              bytes = j.0;
              fewer = omega (arith, j.1, plain-length xs, int-length 7 0 (length xs));
              stand = j.2 ∙ ap₂ (λ (k : List ℕ) (i : ℕ). overlay k i j.0) o s;
            }
        go (told a e o) h =
            let s : r.start ≡ at + length (packed_length xs) = ap (λ (q : PackedRoom). q.start) e in
            let n : r.end ≡ at + length (packed_length xs) + packed_size xs = ap (λ (q : PackedRoom). q.end) e in
            absurd (omega arith)

    pub plain_fits : at + length (plain_wire xs) ≤ length out₂
    plain_fits =
        let s = scribbled in
        omega (arith, ap length (plain-string xs small s.more), ap length s.stand, length-overlay out (at + 1) s.bytes)

    pub plain-written : (out₃ : List ℕ) (next : ℕ) → next ≡ at + length (plain_wire xs) → out₃ ≡ overlay out₂ at (plain_wire xs)
        → (next ≡ at + length (string_wire xs)) × (out₃ ≡ overlay out at (string_wire xs))
    plain-written out₃ next e o =
        let s = scribbled in
        let w = plain-string xs small s.more in
        rw w (e, o ∙ ap (λ (k : List ℕ). overlay k at (plain_wire xs)) s.stand ∙ over-rest out at s.bytes (plain_wire xs) s.fewer)

  -- packed bytes that fit
  module _ (out₂ : List ℕ) (next : ℕ) (l : Some next ≡ packed_in xs r.start r.end) (o₂ : PackedOver xs r.start r.end out₁ out₂) where
    -- behind their length
    pub counted-written : r.counted ≡ true → (next ≡ at + length (string_wire xs)) × (out₂ ≡ overlay out at (string_wire xs))
    counted-written t = go m (ends-in xs r.start r.end next l)
      where
        go : RoomMade xs at out out₁ r → (next ≡ r.start + packed_size xs) × (next ≤ r.end)
            → (next ≡ at + length (string_wire xs)) × (out₂ ≡ overlay out at (string_wire xs))
        go (tried a b e o) h = not-both r.counted t (ap (λ (q : PackedRoom). q.counted) e)
        go (shut a e o) h =
            let s : r.start ≡ at + 1 = ap (λ (q : PackedRoom). q.start) e in
            let n : r.end ≡ at = ap (λ (q : PackedRoom). q.end) e in
            absurd (omega arith)
        go (told a e o) h =
            let s : r.start ≡ at + length (packed_length xs) = ap (λ (q : PackedRoom). q.start) e in
            rw (packed-string xs small a)
            (write_then out at (packed_length xs) (pack xs) out₁ out₂ r.start next s o (omega (arith, packed-length xs)) (o₂.fits (omega arith)))

    -- before it: the length takes one byte
    module _ (t : r.counted ≡ false) where
      record Uncounted : Type 0 where
        fewer : packed_size xs < length xs
        few : length xs < 127
        start : r.start ≡ at + 1
        place : next ≡ r.start + packed_size xs
        room : at < length out₂
        stand : out₂ ≡ overlay out (at + 1) (pack xs)

      uncounted : Uncounted
      uncounted = go m (ends-in xs r.start r.end next l)
        where
          go : RoomMade xs at out out₁ r → (next ≡ r.start + packed_size xs) × (next ≤ r.end) → Uncounted
          go (tried a b e o) h =
              let s : r.start ≡ at + 1 = ap (λ (q : PackedRoom). q.start) e in
              let n : r.end ≡ at + length xs = ap (λ (q : PackedRoom). q.end) e in
              let w : out₂ ≡ overlay out (at + 1) (pack xs) =
              o₂.fits (omega arith) ∙ ap₂ (λ (k : List ℕ) (i : ℕ). overlay k i (pack xs)) o s in
              record {
                fewer = omega arith;
                few = a;
                start = s;
                place = h.0;
                room = omega (arith, ap length w, length-overlay out (at + 1) (pack xs));
                stand = w;
              }
          go (shut a e o) h = not-both r.counted (ap (λ (q : PackedRoom). q.counted) e) t
          go (told a e o) h = not-both r.counted (ap (λ (q : PackedRoom). q.counted) e) t

      pub uncounted-room : at < length out₂
      uncounted-room = uncounted.room

      pub uncounted-few : (r.start ≤ next) × (next - r.start < 127)
      uncounted-few = let u = uncounted in (omega (arith, u.place), omega (arith, u.place, u.fewer, u.few))

      pub uncounted-written : (v : ℕ) → v ≡ 128 + (next - r.start) → (next ≡ at + length (string_wire xs)) × (set out₂ at v ≡ overlay out at (string_wire xs))
      uncounted-written v e =
          let u = uncounted in
          let size : 128 + (next - r.start) ≡ 128 + packed_size xs = omega (arith, u.place) in
          let one : packed_length xs ≡ v ∷ [] = int-in-prefix 7 128 (packed_size xs) 128 refl (omega (arith, u.fewer, u.few)) ∙ ap (λ (k : ℕ). k ∷ []) (sym (e ∙ size)) in
          let w : string_wire xs ≡ v ∷ pack xs = packed-string xs small u.fewer ∙ ap (λ (k : List ℕ). k ++ pack xs) one in
          rw w (
            omega (arith, u.place, u.start, packed-length xs),
            ap (λ (k : List ℕ). set k at v) u.stand ∙ sym (set-overlay out (at + 1) (pack xs) at v (omega arith)),
          )
