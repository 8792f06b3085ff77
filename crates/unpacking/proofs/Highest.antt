-- The highest bits of a number of 64: joined by others, taken off, and compared with padding.
use mathlib.Core.Path.{◌≡◌, refl, sym, ap, ap₂, subst, ◌∙◌}
use mathlib.Core.Bool.{Bool, true, false}
use Prim.Native.Nat.{ℕ, zero, suc, ◌+◌, ◌-◌, ◌*◌, ◌/◌, ◌%◌, ◌^◌, ◌≤◌, ◌<◌}
use native.Mathlib.Omega.{arith}
use native.Mathlib.Nat.{mod-eq_of_lt, pow-suc}
use mathlib.Core.List.{List, ◌++◌}
use lib.ListN.{length, length-replicate}
use lib.Arith.{digits_lt}
use lib.Pow.{pow-add, pow_pos, shl-shr, shl_lt, shr_lt, shr-shr, split as halves, low, field, mod-pow-add}
use Rattle.memory.proofs.Order.{either}
use Rattle.huffman.specs.Bits.{bits_of, value_of, ones}
use Rattle.huffman.specs.Packing.{padding}
use Rattle.huffman.proofs.BitLaws.{length-bits_of, bits-split, bits-mod, bits-join, value-bits, bits-value}
use Rattle.huffman.proofs.Pushing.{shifted}
use Rattle.huffman.proofs.Unpacks.{padding-ones, padded}
use Rattle.unpacking.specs.Waiting.{highest}

pub length-highest : (n w : ℕ) → length (highest n w) ≡ n
unfolding highest
length-highest n w = length-bits_of n (w / 2 ^ (64 - n))

-- ---- bits put below

module _ (n m w v : ℕ) (h : n + m ≤ 64) (z : w % 2 ^ (64 - n) ≡ 0) (b : v < 2 ^ m) where
  -- the number that the highest bits and those below them make
  joined : w + v * 2 ^ (64 - (n + m)) ≡ (w / 2 ^ (64 - n) * 2 ^ m + v) * 2 ^ (64 - (n + m))
  joined =
      let k : ℕ = 64 - (n + m) in
      let e : 64 - n ≡ m + k = omega arith in
      let p : 2 ^ (64 - n) ≡ 2 ^ m * 2 ^ k = ap (λ (j : ℕ). 2 ^ j) e ∙ pow-add 2 m k in
      let d : w ≡ w / 2 ^ (64 - n) * (2 ^ m * 2 ^ k) =
      sym (halves w (64 - n)) ∙ ap₂ (λ (x y : ℕ). w / 2 ^ (64 - n) * x + y) p z ∙ omega arith in
      ap (λ (x : ℕ). x + v * 2 ^ k) d ∙ omega arith

  pub highest-join : highest (n + m) (w + v * 2 ^ (64 - (n + m))) ≡ highest n w ++ bits_of m v
  unfolding highest
  highest-join =
      ap (λ (x : ℕ). bits_of (n + m) (x / 2 ^ (64 - (n + m)))) joined
      ∙ ap (bits_of (n + m)) (shl-shr (w / 2 ^ (64 - n) * 2 ^ m + v) (64 - (n + m))) ∙ bits-join n m (w / 2 ^ (64 - n)) v b

  pub zeros-join : (w + v * 2 ^ (64 - (n + m))) % 2 ^ (64 - (n + m)) ≡ 0
  zeros-join =
      let k : ℕ = 64 - (n + m) in
      let x : ℕ = w / 2 ^ (64 - n) * 2 ^ m + v in
      let e : x * 2 ^ k ≡ x * 2 ^ k + 0 = omega arith in
      ap (λ (y : ℕ). y % 2 ^ k) (joined ∙ e) ∙ low x k (pow_pos k)

  pub wide-join : w < 2 ^ 64 → w + v * 2 ^ (64 - (n + m)) < 2 ^ 64
  wide-join l =
      let k : ℕ = 64 - (n + m) in
      let e : n + (64 - n) ≡ 64 = omega arith in
      let d : n + m + k ≡ 64 = omega arith in
      let t : w / 2 ^ (64 - n) < 2 ^ n = shr_lt n (64 - n) (subst (λ (j : ℕ). w < 2 ^ j) (sym e) l) in
      let u : w / 2 ^ (64 - n) * 2 ^ m + v < 2 ^ (n + m) =
      subst (λ (j : ℕ). w / 2 ^ (64 - n) * 2 ^ m + v < j) (sym (pow-add 2 n m)) (digits_lt t b) in
      subst (λ (x : ℕ). x < 2 ^ 64) (sym joined)
      (subst (λ (j : ℕ). (w / 2 ^ (64 - n) * 2 ^ m + v) * 2 ^ k < 2 ^ j) d (shl_lt (n + m) k u))

-- ---- bits taken off the front

-- all 64, cut in two
pub cut : (n w : ℕ) → n ≤ 64 → bits_of 64 w ≡ highest n w ++ bits_of (64 - n) w
unfolding highest
cut n w h = let e : 64 ≡ n + (64 - n) = omega arith in ap (λ (k : ℕ). bits_of k w) e ∙ bits-split n (64 - n) w

module _ (n w l : ℕ) (h : l ≤ n) (b : n ≤ 64) where
  pub highest-take : highest n w ≡ highest l w ++ highest (n - l) (w * 2 ^ l % 2 ^ 64)
  unfolding highest
  highest-take =
      let e : n ≡ l + (n - l) = omega arith in
      let d : (64 - n) + (n - l) ≡ 64 - l = omega arith in
      let f : (n - l) + (64 - n) ≡ 64 - l = omega arith in
      let g : 64 - (n - l) ≡ l + (64 - n) = omega arith in
      let low_part : w * 2 ^ l % 2 ^ 64 / 2 ^ (64 - (n - l)) ≡ w / 2 ^ (64 - n) % 2 ^ (n - l) =
      ap₂ (λ (x j : ℕ). x / 2 ^ j) (shifted w l (omega arith)) g ∙ sym (shr-shr ((w % 2 ^ (64 - l)) * 2 ^ l) l (64 - n))
      ∙ ap (λ (x : ℕ). x / 2 ^ (64 - n)) (shl-shr (w % 2 ^ (64 - l)) l)
      ∙ ap (λ (j : ℕ). w % 2 ^ j / 2 ^ (64 - n)) (sym f) ∙ field w (n - l) (64 - n) in
      let z : 0 + (n - l) ≡ n - l = omega arith in
      let same : bits_of (n - l) (w / 2 ^ (64 - n) % 2 ^ (n - l)) ≡ bits_of (n - l) (w / 2 ^ (64 - n)) =
      subst (λ (j : ℕ). bits_of (n - l) (w / 2 ^ (64 - n) % 2 ^ j) ≡ bits_of (n - l) (w / 2 ^ (64 - n))) z (bits-mod (n - l) 0 (w / 2 ^ (64 - n))) in
      ap (λ (k : ℕ). bits_of k (w / 2 ^ (64 - n))) e ∙ bits-split l (n - l) (w / 2 ^ (64 - n))
      ∙ ap₂ (λ (x : ℕ) (r : List Bool). bits_of l x ++ r) (shr-shr w (64 - n) (n - l) ∙ ap (λ (j : ℕ). w / 2 ^ j) d)
      (sym same ∙ ap (bits_of (n - l)) (sym low_part))

  pub zeros-take : w % 2 ^ (64 - n) ≡ 0 → w * 2 ^ l % 2 ^ 64 % 2 ^ (64 - (n - l)) ≡ 0
  zeros-take z =
      let f : (n - l) + (64 - n) ≡ 64 - l = omega arith in
      let g : 64 - (n - l) ≡ (64 - n) + l = omega arith in
      let q : ℕ = w / 2 ^ (64 - n) % 2 ^ (n - l) in
      let e : w % 2 ^ (64 - l) ≡ q * 2 ^ (64 - n) =
      ap (λ (j : ℕ). w % 2 ^ j) (sym f) ∙ mod-pow-add w (n - l) (64 - n) ∙ ap (λ (x : ℕ). q * 2 ^ (64 - n) + x) z ∙ omega arith in
      let p : (w % 2 ^ (64 - l)) * 2 ^ l ≡ q * 2 ^ ((64 - n) + l) + 0 =
      ap (λ (x : ℕ). x * 2 ^ l) e ∙ sym (ap (λ (x : ℕ). q * x + 0) (pow-add 2 (64 - n) l) ∙ omega arith) in
      ap₂ (λ (x j : ℕ). x % 2 ^ j) (shifted w l (omega arith) ∙ p) g ∙ low q ((64 - n) + l) (pow_pos ((64 - n) + l))

-- ---- padding

ones_value : (n : ℕ) → value_of (ones n) + 1 ≡ 2 ^ n
unfolding value_of
ones_value zero = refl
ones_value (suc n) = omega (arith, ones_value n, pow-suc 2 n, ap (λ (k : ℕ). 2 ^ k) (length-replicate n true))

pub padded-long : (n w : ℕ) → 7 < n → padding (highest n w) ≡ false
unfolding padding
padded-long n w h =
    either (padding (highest n w)) (λ t. absurd (omega (arith, (padding-ones (highest n w) 7 t).0, length-highest n w))) (λ t. t)

module _ (n w : ℕ) (h : n ≤ 7) (b : w < 2 ^ 64) where
  pub padded-true : w / 2 ^ (64 - n) ≡ 2 ^ n - 1 → padding (highest n w) ≡ true
  unfolding highest
  padded-true e =
      let v : w / 2 ^ (64 - n) ≡ value_of (ones n) = omega (arith, ones_value n) in
      let l : n ≡ length (ones n) = sym (length-replicate n true) in
      ap padding (ap₂ bits_of l v ∙ bits-value (ones n)) ∙ padded n h

  pub padded-false : (w / 2 ^ (64 - n) ≡ 2 ^ n - 1 → ⊥) → padding (highest n w) ≡ false
  unfolding highest padding
  padded-false f = either (padding (highest n w)) (λ t. absurd (f (all_ones t))) (λ t. t)
    where
      all_ones : padding (highest n w) ≡ true → w / 2 ^ (64 - n) ≡ 2 ^ n - 1
      all_ones t =
          let e : n + (64 - n) ≡ 64 = omega arith in
          let u : w / 2 ^ (64 - n) < 2 ^ n = shr_lt n (64 - n) (subst (λ (j : ℕ). w < 2 ^ j) (sym e) b) in
          let o : highest n w ≡ ones n = (padding-ones (highest n w) 7 t).1 ∙ ap ones (length-highest n w) in
          let v : w / 2 ^ (64 - n) ≡ value_of (ones n) = sym (mod-eq_of_lt u) ∙ sym (value-bits n (w / 2 ^ (64 - n))) ∙ ap value_of o in
          omega (arith, ones_value n)
