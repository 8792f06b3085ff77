-- A turn of unpacking: the code that begins the bits that wait is a byte's and is taken off, or there is none and the string ends.
use mathlib.Core.Path.{◌≡◌, refl, sym, ap, subst, ◌∙◌}
use mathlib.Core.Bool.{Bool, true, false}
use Prim.Native.Nat.{ℕ, suc, ◌+◌, ◌-◌, ◌*◌, ◌/◌, ◌%◌, ◌^◌, ◌≤◌, ◌<◌}
use native.Mathlib.Omega.{arith}
use native.Mathlib.Nat.{mod-lt, mod-eq_of_lt}
use mathlib.Core.List.{List, ◌++◌, append_assoc, append-nil}
use lib.ListN.{length, take, length-append}
use lib.Seq.{take_at}
use lib.Dec.{ltb, leb}
use lib.Pow.{shr-shr, shr_lt, pow_pos, split as halves}
use borrow.Author.Tests.{lt-ltb, leb-true}
use Rattle.std.proofs.lemmas.List.{nil_from_length}
use Rattle.std.proofs.lemmas.Bool.{agree_below, agree_below_at}
use Rattle.memory.specs.Choice.{pick}
use Rattle.memory.proofs.Order.{split, pick_true}
use Rattle.huffman.specs.Codes.{codes, code_of}
use Rattle.huffman.specs.Bits.{bits_of, bits, value_of}
use Rattle.huffman.specs.Packing.{code_bits, padding, ended, unpack_bits}
use Rattle.huffman.proofs.BitLaws.{value-bits}
use Rattle.huffman.proofs.Prefixes.{Begins, pick_first, pick_second, code-fit, length-code_bits}
use Rattle.huffman.proofs.Standings.{one_code}
use Rattle.huffman.proofs.Unpacks.{unpack-mark, unpack-end}
use Rattle.short_codes.specs.Short.{short_of}
use Rattle.long_codes.specs.Fronts.{LongFront, LongCode}
use Rattle.unpacking.specs.declared.bits.Bits.{Bits}
use Rattle.unpacking.specs.Waiting.{highest, bits_then, Refilled}
use Rattle.unpacking.specs.Turns.{Begun, Taken, NoneHeld, TakenOff, Took, Stopped}
use Rattle.short_codes.proofs.Fronts.{short_none, short-front}
use Rattle.unpacking.proofs.Highest.{length-highest, cut, highest-take, zeros-take, padded-long}
use Rattle.unpacking.proofs.Refills.{Sound}

-- ---- what begins the bits

-- c says a byte, times 256, and the size of its code, which begins them
record Front (w c : ℕ) : Type 0 where
  byte : ℕ
  within : byte < 256
  said : c ≡ byte * 256 + (code_of byte).size
  front : Begun w byte

-- an entry whose code begins them, and that the n bits which wait do not hold, or the end mark
record Stop (w n : ℕ) : Type 0 where
  entry : ℕ
  within : entry < 257
  front : Begun w entry
  short : entry < 256 → n < (code_of entry).size

size_of : {w c : ℕ} (f : Front w c) → c % 256 ≡ (code_of f.byte).size
size_of f = omega (arith, f.said, (code-fit f.byte (omega (arith, f.within))).high)

-- as the program has it: the byte and the size
taken-by : {w n byte size : ℕ} → Front w (256 * byte + size) → byte < 256 → size < 256 → size ≤ n → Taken w n byte size
taken-by {w} {n} {byte} {size} f b h l =
    let sized = size_of f in
    let e : byte ≡ f.byte = omega (arith, f.said, f.within) in
    subst (λ (x : ℕ). Taken w n x size) (sym e) (record { within = f.within; sized = omega arith; front = f.front; fits = l })

module _ (w : ℕ) (wide : w < 2 ^ 64) where
  -- 8 or 32 bits of the 64
  top_byte : w / 2 ^ 56 < 256
  top_byte = omega arith

  deeper : (k i : ℕ) → (code_of i).size ≤ k → k ≤ 64 → w / 2 ^ (64 - k) / 2 ^ (k - (code_of i).size) ≡ w / 2 ^ (64 - (code_of i).size)
  deeper k i h b =
      let e : (64 - k) + (k - (code_of i).size) ≡ 64 - (code_of i).size = omega arith in
      shr-shr w (64 - k) (k - (code_of i).size) ∙ ap (λ (j : ℕ). w / 2 ^ j) e

  short-said : w / 2 ^ 56 < 254 → Front w (short_of (w / 2 ^ 56))
  short-said h =
      let f = short-front (w / 2 ^ 56) h in
      record { byte = f.byte; within = f.within; said = f.said; front = sym (deeper 8 f.byte f.small (omega arith)) ∙ f.front }

  long-said : (d : ℕ) → LongFront (w / 2 ^ 32) d → Front w d
  long-said d f =
      let l = (code-fit f.byte (omega (arith, f.within))).high in
      record { byte = f.byte; within = f.within; said = f.said; front = sym (deeper 32 f.byte (omega arith) (omega arith)) ∙ f.front }

  pub short-found : (n byte size : ℕ) → n < 64 → byte ≡ short_of (w / 2 ^ 56) / 256 → size ≡ short_of (w / 2 ^ 56) % 256 → byte < 256 → size ≤ n
      → Taken w n byte size
  short-found n byte size h e d b l =
      let f : short_of (w / 2 ^ 56) ≡ 256 * byte + size = omega arith in
      split (w / 2 ^ 56) 254 (λ u. taken-by (subst (Front w) f (short-said u)) b (omega arith) l)
      (λ u. absurd (omega (arith, short_none (w / 2 ^ 56) u top_byte)))

  pub long-found : (n byte size : ℕ) → n < 64 → LongCode (w / 2 ^ 32) (256 * byte + size) → byte < 256 → size < 256 → size ≤ n → Taken w n byte size
  long-found n byte size h f b m l =
      split (w / 2 ^ 32) 0xfe00_0000 (λ u. absurd (omega (arith, f.shorter u)))
      (λ u. split (w / 2 ^ 32) 0xffff_fffc (λ v. taken-by (long-said (256 * byte + size) (f.longer u v)) b m l) (λ v. absurd (omega (arith, f.mark v))))

  mark-front : 0xffff_fffc ≤ w / 2 ^ 32 → Begun w 256
  unfolding code_of codes
  mark-front b = omega arith

  stop-at : (n c : ℕ) → Front w c → n < c % 256 → Stop w n
  stop-at n c f l = record {
    entry = f.byte;
    within = omega (arith, f.within);
    front = f.front;
    short = λ b. omega (arith, size_of f);
  }

  none_found : (n d : ℕ) → LongCode (w / 2 ^ 32) d → n < short_of (w / 2 ^ 56) % 256 → n < d % 256 → Stop w n
  none_found n d f l k =
      split (w / 2 ^ 56) 254 (λ b. stop-at n (short_of (w / 2 ^ 56)) (short-said b) l)
      (λ b. split (w / 2 ^ 32) 0xffff_fffc (λ u. stop-at n d (long-said d (f.longer (omega arith) u)) k)
      (λ u. record { entry = 256; within = omega arith; front = mark-front u; short = λ h. absurd (omega arith) }))

-- ---- the shortest codes

-- a code of fewer than 10 bits has at most 8, and begins no byte from 254 on
unfoldable early : ℕ → Bool
early i =
    pick (ltb (code_of i).size 10)
    (pick (leb (code_of i).size 8) (leb ((code_of i).value * 2 ^ (8 - (code_of i).size) + 2 ^ (8 - (code_of i).size)) 254) false) true

all-early : agree_below early (λ _. true) 257 ≡ true
unfolding early code_of codes
all-early = refl

early-small : (i : ℕ) → i < 257 → (code_of i).size < 10
    → ((code_of i).size ≤ 8) × ((code_of i).value * 2 ^ (8 - (code_of i).size) + 2 ^ (8 - (code_of i).size) ≤ 254)
unfolding early
early-small i h l =
    let a = leb (code_of i).size 8 in
    let v : ℕ = (code_of i).value * 2 ^ (8 - (code_of i).size) + 2 ^ (8 - (code_of i).size) in
    let t : pick a (leb v 254) false ≡ true =
    sym (pick_true (ltb (code_of i).size 10) (pick a (leb v 254) false) true (lt-ltb (code_of i).size 10 l)) ∙ agree_below_at early (λ _. true) 257 i all-early h in
    (leb-true (code_of i).size 8 (pick_first a (leb v 254) t), leb-true v 254 (pick_second a (leb v 254) t))

-- ---- a byte

code-value : (i : ℕ) → i < 257 → value_of (code_bits i) ≡ (code_of i).value
unfolding code_bits
code-value i h = value-bits (code_of i).size (code_of i).value ∙ mod-eq_of_lt (code-fit i h).value

begun-bits : (w i : ℕ) → Begun w i → highest (code_of i).size w ≡ code_bits i
unfolding highest code_bits
begun-bits w i e = ap (bits_of (code_of i).size) e

module _ {w n : ℕ} (bytes : List ℕ) (p : Sound w n) where
  module _ (byte size : ℕ) (q : Taken w n byte size) where
    pub taken-sound : Sound (w * 2 ^ size % 2 ^ 64) (n - size)
    taken-sound =
        let few = p.few in
        record {
          few = omega arith;
          wide = mod-lt (w * 2 ^ size) (pow_pos 64);
          zeros = zeros-take n w size q.fits (omega arith) p.zeros;
        }

    pub taken-waiting : bits_then w n bytes ≡ code_bits byte ++ bits_then (w * 2 ^ size % 2 ^ 64) (n - size) bytes
    unfolding bits_then
    taken-waiting =
        let few = p.few in
        let k = highest (n - size) (w * 2 ^ size % 2 ^ 64) in
        ap (λ (r : List Bool). r ++ bits bytes)
        (highest-take n w size q.fits (omega arith)
        ∙ ap (λ (r : List Bool). r ++ k) (ap (λ (j : ℕ). highest j w) q.sized ∙ begun-bits w byte q.front))
        ∙ append_assoc (code_bits byte) k (bits bytes)

  -- ---- the end

  none-begins : (i : ℕ) → i < 257 → Begun w i → n < (code_of i).size → (j : ℕ) → j < 257 → Begins (code_bits j) (highest n w) → ⊥
  none-begins i h e l j b (t, d) =
      let few = p.few in
      let high = (code-fit i h).high in
      let g : code_bits i ++ bits_of (64 - (code_of i).size) w ≡ code_bits j ++ (t ++ bits_of (64 - n) w) =
      ap (λ (r : List Bool). r ++ bits_of (64 - (code_of i).size) w) (sym (begun-bits w i e)) ∙ sym (cut (code_of i).size w (omega arith))
      ∙ cut n w (omega arith) ∙ ap (λ (r : List Bool). r ++ bits_of (64 - n) w) d ∙ append_assoc (code_bits j) t (bits_of (64 - n) w) in
      let same : i ≡ j = one_code i j (bits_of (64 - (code_of i).size) w) (t ++ bits_of (64 - n) w) h b g in
      omega (arith, ap (λ (k : ℕ). (code_of k).size) same, length-code_bits j, ap length d, length-append (code_bits j) t, length-highest n w)

  -- a code that the bits hold begins the 64
  begun-held : (j : ℕ) → j < 257 → Begins (code_bits j) (highest n w) → ((code_of j).size ≤ n) × Begun w j
  unfolding highest
  begun-held j b (t, d) =
      let few = p.few in
      let size = (code_of j).size in
      let l : size ≤ n = omega (arith, length-code_bits j, ap length d, length-append (code_bits j) t, length-highest n w) in
      let rest = highest (n - size) (w * 2 ^ size % 2 ^ 64) in
      let e : size + (64 - size) ≡ 64 = omega arith in
      let same : highest size w ≡ code_bits j =
      sym (take_at (highest size w) rest size (length-highest size w)) ∙ ap (take size) (sym (highest-take n w size l (omega arith)) ∙ d)
      ∙ take_at (code_bits j) t size (length-code_bits j) in (
        l,
        sym (mod-eq_of_lt (shr_lt size (64 - size) (subst (λ (k : ℕ). w < 2 ^ k) (sym e) p.wide))) ∙ sym (value-bits size (w / 2 ^ (64 - size)))
            ∙ ap value_of same ∙ code-value j b,
      )

  no_bytes : length bytes ≡ 0 → bits_then w n bytes ≡ highest n w
  unfolding bits_then bits
  no_bytes e = ap (λ (xs : List ℕ). highest n w ++ bits xs) (nil_from_length bytes e) ∙ append-nil (highest n w)

  stop-short : (f i : ℕ) → (n < 32 → length bytes ≡ 0) → i < 257 → Begun w i → n < (code_of i).size
      → unpack_bits (suc f) (bits_then w n bytes) ≡ ended (padding (highest n w))
  stop-short f i full h e l =
      let high = (code-fit i h).high in
      ap (unpack_bits (suc f)) (no_bytes (full (omega arith))) ∙ unpack-end f (highest n w) (none-begins i h e l)

  mark-size : (code_of 256).size ≡ 30
  unfolding code_of codes
  mark-size = refl

  stop-mark : (f : ℕ) → Begun w 256 → 30 ≤ n → unpack_bits (suc f) (bits_then w n bytes) ≡ ended (padding (highest n w))
  unfolding bits_then
  stop-mark f e l =
      let few = p.few in
      let k = highest (n - 30) (w * 2 ^ 30 % 2 ^ 64) in
      let m : highest 30 w ≡ code_bits 256 = ap (λ (j : ℕ). highest j w) (sym mark-size) ∙ begun-bits w 256 e in
      ap (λ (r : List Bool). unpack_bits (suc f) (r ++ bits bytes)) (highest-take n w 30 l (omega arith) ∙ ap (λ (r : List Bool). r ++ k) m)
      ∙ ap (unpack_bits (suc f)) (append_assoc (code_bits 256) k (bits bytes)) ∙ unpack-mark f (k ++ bits bytes)
      ∙ ap ended (sym (padded-long n w (omega arith)))

  stopped : (f : ℕ) → (n < 32 → length bytes ≡ 0) → Stop w n → unpack_bits (suc f) (bits_then w n bytes) ≡ ended (padding (highest n w))
  stopped f full q =
      let i = q.entry in
      split n (code_of i).size (λ l. stop-short f i full q.within q.front l) (λ l. split i 256
      (λ h. absurd (omega (arith, q.short h)))
      (λ h. let e : i ≡ 256 = omega (arith, q.within) in
      stop-mark f (subst (Begun w) e q.front) (omega (arith, ap (λ (j : ℕ). (code_of j).size) e, mark-size))))

  -- more bits than padding has, and no code that they hold
  pub stopped-many : (f d : ℕ) → (n < 32 → length bytes ≡ 0) → 10 ≤ n → n < short_of (w / 2 ^ 56) % 256 → LongCode (w / 2 ^ 32) d → n < d % 256
      → unpack_bits (suc f) (bits_then w n bytes) ≡ ended false
  stopped-many f d full many l q k =
      stopped f full (none_found w p.wide n d q l k) ∙ ap ended (padded-long n w (omega arith))

  -- fewer bits than a code of more than 8 has, and not those of a shorter one
  none-early : n < 10 → 254 ≤ w / 2 ^ 56 → (j : ℕ) → j < 257 → Begins (code_bits j) (highest n w) → ⊥
  none-early few u j b q =
      let e = begun-held j b q in
      let y : ℕ = w / 2 ^ 56 in
      let k : ℕ = 8 - (code_of j).size in
      let small = early-small j b (omega (arith, e.0)) in
      let v : y / 2 ^ k ≡ (code_of j).value = deeper w p.wide 8 j small.0 (omega arith) ∙ e.1 in
      omega (arith, small.1, halves y k, ap (λ (x : ℕ). x * 2 ^ k) v, mod-lt y (pow_pos k))

  pub stopped-few : (f : ℕ) → (n < 32 → length bytes ≡ 0) → n < 10 → n < short_of (w / 2 ^ 56) % 256
      → unpack_bits (suc f) (bits_then w n bytes) ≡ ended (padding (highest n w))
  stopped-few f full few l =
      split (w / 2 ^ 56) 254
      (λ b. stopped f full (stop-at w p.wide n (short_of (w / 2 ^ 56)) (short-said w p.wide b) l))
      (λ b. ap (unpack_bits (suc f)) (no_bytes (full (omega arith))) ∙ unpack-end f (highest n w) (none-early few b))

  -- no code that the bits hold
  pub stopped-turn : (f : ℕ) → (n < 32 → length bytes ≡ 0) → NoneHeld w n → unpack_bits (suc f) (bits_then w n bytes) ≡ ended (padding (highest n w))
  stopped-turn f full q =
      split n 10 (λ few. stopped-few f full few q.short)
      (λ many. let l = q.long many in
      stopped-many f l.0 full many q.short l.1 l.2 ∙ ap ended (sym (padded-long n w (omega arith))))

-- the code of a byte, taken off the bits
pub took : {b r : Bits} {byte size : ℕ} → Sound b.w b.n → Taken b.w b.n byte size → TakenOff b size r → Took b r byte
took {b} {r} {byte} {size} p q t = record {
  within = q.within;
  code = rw (t.w_is, t.n_is, t.bytes_are) (taken-waiting b.bytes.now p byte size q);
}

pub refilled-took : {b r t : Bits} {byte : ℕ} → Refilled b r → Took r t byte → Took b t byte
refilled-took p q = record { within = q.within; code = sym p.same ∙ q.code }

pub no-more : {b r : Bits} → Sound r.w r.n → Refilled b r → NoneHeld r.w r.n → Stopped b r
no-more {b} {r} s p q = record { ends = λ f. ap (unpack_bits (suc f)) (sym p.same) ∙ stopped-turn r.bytes.now s f p.full q }

pub sound : (b : Bits) → b.w < 2 ^ 64 → Sound b.w b.n
sound b h = record { few = b.few; wide = h; zeros = b.zeros }
