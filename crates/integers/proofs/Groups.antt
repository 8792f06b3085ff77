-- The equations of `read_int`, `groups` and `finished`, one for each way through a turn, and the bounds that keep the sums in a word.
-- By the tests along that way; only these laws unfold the definitions.
use mathlib.Core.Path.{◌≡◌, refl}
use Prim.Native.Nat.{ℕ, zero, suc, ◌+◌, ◌-◌, ◌*◌, ◌%◌, ◌^◌, ◌≤◌, ◌<◌}
use native.Mathlib.Nat.{mul-le-mul_right, mul-le-mul_left, pow-suc, one-le-pow, not-suc-le-zero}
use native.Mathlib.Numerals.{sub-one}
use native.Mathlib.Omega.{arith}
use mathlib.Core.Bool.{false}
use mathlib.Core.List.{List}
use lib.ListN.{length, get_or}
use borrow.Author.Tests.{lt-ltb, le-ltb, le-leb, lt-leb, ne_eqb}
use Rattle.memory.proofs.Order.{split}
use Rattle.integers.specs.Integer.{value, read_int, groups, finished, is_padded, largest}
use Rattle.std.specs.Prelude.{Ok, Err}
use Rattle.integers.specs.declared.answer.Refusal.TheVariants.{Padded, TooLarge, Truncated}

-- a last group that is not zero, or is the only one, is not padded
not-padded : (b w : ℕ) → (1 < w → 0 < b) → is_padded b w ≡ false
not-padded zero w h = split 1 w (λ l. absurd (not-suc-le-zero (h l))) (λ l. le-ltb 1 w l)
not-padded (suc b) w h = simp (ne_eqb (suc b) 0 (λ e. omega arith))

module _ (b w v next : ℕ) where
  pub finished-large : largest < v → finished b w v next ≡ Err TooLarge
  finished-large h = simp (lt-leb v largest h)

  pub finished-padded : v ≤ largest → b ≡ 0 → 1 < w → finished b w v next ≡ Err Padded
  finished-padded h e l = simp (le-leb v largest h, e, lt-ltb 1 w l)

  pub finished-value : v ≤ largest → (1 < w → 0 < b) → finished b w v next ≡ value v next
  finished-value h l = simp (le-leb v largest h, not-padded b w l)

module _ (s : List ℕ) (at v w : ℕ) where
  pub groups-short : (n : ℕ) → 0 < n → length s ≤ at → groups n s at v w ≡ Err Truncated
  unfolding groups
  groups-short zero p h = absurd (not-suc-le-zero p)
  groups-short (suc n) p h = simp (le-ltb at (length s) h)

  pub groups-last : (n : ℕ) → 0 < n → at < length s → (b : ℕ) → b ≡ get_or s at 0 → b < 128
      → groups n s at v w ≡ finished b w (v + b % 128 * w) (at + 1)
  unfolding groups
  groups-last zero p h b e k = absurd (not-suc-le-zero p)
  groups-last (suc n) p h b e k = simp (lt-ltb at (length s) h, ← e, lt-ltb b 128 k)

  pub groups-more : (n : ℕ) → 0 < n → at < length s → (b : ℕ) → b ≡ get_or s at 0 → 128 ≤ b
      → groups n s at v w ≡ groups (n - 1) s (at + 1) (v + b % 128 * w) (w * 128)
  unfolding groups
  groups-more zero p h b e k = absurd (not-suc-le-zero p)
  groups-more (suc n) p h b e k = simp (lt-ltb at (length s) h, ← e, le-ltb b 128 k, sub-one)

pub groups_none : (s : List ℕ) (at v w n : ℕ) → n ≤ 0 → groups n s at v w ≡ Err TooLarge
unfolding groups
groups_none s at v w zero p = refl
groups_none s at v w (suc n) p = absurd (not-suc-le-zero p)

-- a group weighs at most 2^21 while there is one left
pub weight-small : (w l : ℕ) → 0 < l → w * 128 ^ l ≡ 2 ^ 28 → w ≤ 2 ^ 21
weight-small w zero p e = absurd (not-suc-le-zero p)
weight-small w (suc l) p e =
    let e' : w * (128 ^ l * 128) ≡ 2 ^ 28 = rw pow-suc at e in
    omega (arith, mul-le-mul_left w (one-le-pow l 128 (omega arith)))

pub group-small : (b w : ℕ) → b % 128 * w ≤ 127 * w
group-small b w = mul-le-mul_right w (omega arith)

pub weight-next : (w l : ℕ) → 0 < l → w * 128 ^ l ≡ 2 ^ 28 → w * 128 * 128 ^ (l - 1) ≡ 2 ^ 28
weight-next w zero p e = absurd (not-suc-le-zero p)
weight-next w (suc l) p e =
    let e' : w * (128 ^ l * 128) ≡ 2 ^ 28 = rw pow-suc at e in
    rw sub-one (omega arith)

module _ (k : ℕ) (s : List ℕ) (at : ℕ) where
  pub read_int-short : length s ≤ at → read_int k s at ≡ Err Truncated
  unfolding read_int
  read_int-short h = simp (le-ltb at (length s) h)

  pub read_int-small : at < length s → (b f : ℕ) → b ≡ get_or s at 0 → f ≡ 2 ^ k → b % f < f - 1
      → read_int k s at ≡ Ok (record { value = b % f }, at + 1)
  unfolding read_int
  read_int-small h b f e g l = simp (lt-ltb at (length s) h, ← e, ← g, lt-ltb (b % f) (f - 1) l)

  pub read_int-groups : at < length s → (b f : ℕ) → b ≡ get_or s at 0 → f ≡ 2 ^ k → f - 1 ≤ b % f
      → read_int k s at ≡ groups 4 s (at + 1) (b % f) 1
  unfolding read_int
  read_int-groups h b f e g l = simp (lt-ltb at (length s) h, ← e, ← g, le-ltb (b % f) (f - 1) l)
