-- What answer 19 is given to, for every prefix width: a wire integer whose last group is zero, and is not its only group, and nothing else.
-- By induction over the groups, along the turns. Three groups above a prefix of eight bits stay far below the largest value, so 3 never competes.
use mathlib.Core.Path.{◌≡◌, refl, sym, ap, ◌∙◌}
use Prim.Native.Nat.{ℕ, zero, suc, ◌+◌, ◌-◌, ◌*◌, ◌%◌, ◌^◌, ◌≤◌, ◌<◌}
use native.Mathlib.Nat.{mod-lt, pow-suc, pow-le-pow_right, not-suc-le-zero}
use native.Mathlib.Numerals.{sub-one}
use native.Mathlib.Omega.{arith}
use mathlib.Core.Bool.{Bool, true, false}
use mathlib.Core.List.{List}
use lib.ListN.{length, get_or}
use lib.Dec.{leb, ltb, eqb}
use lib.Pow.{pow_pos, pow_mono}
use borrow.Author.Tests.{ltb-true, eqb-true}
use Rattle.memory.proofs.Order.{split, pick-both, need-both, not-both}
use Rattle.integers.specs.Answers.{padded, number_of, Read}
use Rattle.integers.specs.declared.answer.Refusal.{Refusal}
use Rattle.integers.specs.Integer.{PaddedInt, int_answer, value, read_int, groups, is_padded, finished, largest}
use Rattle.std.specs.Prelude.{Err}
use Rattle.integers.specs.declared.answer.Refusal.TheVariants.{Truncated, Padded, TooLarge}
use Rattle.integers.specs.declared.integer.WireInt.{WireInt}
use Rattle.integers.proofs.Groups.{
  finished-padded,
  group-small,
  groups-short,
  groups-last,
  groups-more,
  groups_none,
  read_int-short,
  read_int-small,
  read_int-groups,
}

-- n groups from the place at on say that another follows, then a zero byte stands; the group at `at` weighs w, and the zero is not the first group
record Zero (s : List ℕ) (n at w : ℕ) : Type 0 where
  follow : (i : ℕ) → i < n → 128 ≤ get_or s (at + i) 0
  last : get_or s (at + n) 0 ≡ 0
  inside : at + n < length s
  heavy : 1 < w * 128 ^ n

-- the same told of an answer: the zero is met within m turns
record Met (s : List ℕ) (m at w : ℕ) : Type 0 where
  before : ℕ
  few : before < m
  zeros : Zero s before at w

other-refused {ℓ} : {X : Type ℓ} (why : Refusal) → number_of why < padded → ◌≡◌ {A = Read WireInt} (Err why) (Err Padded) → X
other-refused why l e = absurd (omega (arith, ap (λ (r : Read WireInt). (int_answer r).number) e))

value-refused {ℓ} : {X : Type ℓ} (v next : ℕ) (why : Refusal) → value v next ≡ Err why → X
value-refused v next why e = let z : ◌≡◌ {A = ℕ} 0 1 = cc in absurd (omega arith)

padded-zero : (b w : ℕ) → is_padded b w ≡ true → (b ≡ 0) × (1 < w)
padded-zero b w =
    pick-both (λ (t : Bool). t ≡ true → (b ≡ 0) × (1 < w)) (eqb b 0) (ltb 1 w) false
    (λ d e. (eqb-true b 0 d, ltb-true 1 w e)) (λ d e. not-both false e refl)

module _ (b w v next : ℕ) where
  abbrev Last : Read WireInt → Type 0
  Last r = r ≡ Err Padded → (b ≡ 0) × (1 < w)

  finished-zero : finished b w v next ≡ Err Padded → (b ≡ 0) × (1 < w)
  finished-zero =
      need-both Last (leb v largest) (Err TooLarge) _ (λ e d. other-refused TooLarge (omega arith) d)
      (λ e. pick-both Last (is_padded b w) (Err Padded) (value v next) (λ p d. padded-zero b w p) (λ p d. value-refused v next Padded d))

module _ (s : List ℕ) where
  zero-next : (n at w : ℕ) → Zero s (suc n) at w → Zero s n (at + 1) (w * 128)
  zero-next n at w z =
      let h : 1 < w * (128 ^ n * 128) = rw pow-suc at z.heavy in
      let a : (i : ℕ) → at + suc i ≡ at + 1 + i = λ i. omega arith in
      record {
        follow = λ i l. rw (a i) at (z.follow (suc i) (omega arith));
        last = rw (a n) at z.last;
        inside = omega (arith, z.inside);
        heavy = omega arith;
      }

  zero-here : (at w : ℕ) → at < length s → get_or s at 0 ≡ 0 → 1 < w → Zero s 0 at w
  zero-here at w l e h =
      let a : at + 0 ≡ at = omega arith in
      record { follow = λ i d. absurd (not-suc-le-zero d); last = rw a e; inside = omega arith; heavy = omega arith }

  zero-before : (n at w : ℕ) → 128 ≤ get_or s at 0 → Zero s n (at + 1) (w * 128) → Zero s (suc n) at w
  zero-before n at w b z =
      record { follow = follow; last = rw (a n) z.last; inside = omega (arith, z.inside); heavy = rw pow-suc (omega (arith, z.heavy)) }
    where
      a : (i : ℕ) → at + suc i ≡ at + 1 + i
      a i = omega arith

      follow : (i : ℕ) → i < suc n → 128 ≤ get_or s (at + i) 0
      follow zero l = let h : at + 0 ≡ at = omega arith in rw h b
      follow (suc i) l = rw (a i) (z.follow i (omega arith))

  -- with m turns left and a zero after n groups
  groups-padded : (n m at v w : ℕ) → n < m → v < 255 + w → w * 128 ^ n ≤ 2 ^ 21 → Zero s n at w → groups m s at v w ≡ Err Padded
  groups-padded zero m at v w l h k z =
      let a : at + 0 ≡ at = omega arith in
      let e : get_or s at 0 ≡ 0 = rw a at z.last in
      groups-last s at v w m (omega arith) (omega (arith, z.inside)) 0 (sym e) (omega arith)
      ∙ finished-padded 0 w (v + 0 % 128 * w) (at + 1) (omega arith) refl (omega (arith, z.heavy))
  groups-padded (suc n) m at v w l h k z =
      let b : ℕ = get_or s at 0 in
      let a : at + 0 ≡ at = omega arith in
      let more : 128 ≤ b = rw a at (z.follow 0 (omega arith)) in
      let k' : w * (128 ^ n * 128) ≤ 2 ^ 21 = rw pow-suc at k in
      groups-more s at v w m (omega arith) (omega (arith, z.inside)) b refl more
      ∙ groups-padded n (m - 1) (at + 1) (v + b % 128 * w) (w * 128) (omega arith) (omega (arith, group-small b w)) (omega arith) (zero-next n at w z)

  padded-groups : (m at v w : ℕ) → groups m s at v w ≡ Err Padded → Met s m at w
  padded-groups zero at v w e = other-refused TooLarge (omega arith) (sym (groups_none s at v w 0 (omega arith)) ∙ e)
  padded-groups (suc m) at v w e =
      let b : ℕ = get_or s at 0 in
      split at (length s)
      (λ l. split b 128
      (λ k.
      let f = finished-zero b w (v + b % 128 * w) (at + 1) (sym (groups-last s at v w (suc m) (omega arith) l b refl k) ∙ e) in
      record { before = 0; few = omega arith; zeros = zero-here at w l f.0 f.1 })
      (λ k.
      let next = rw sub-one at (groups-more s at v w (suc m) (omega arith) l b refl k) in
      let t = padded-groups m (at + 1) (v + b % 128 * w) (w * 128) (sym next ∙ e) in
      record { before = suc t.before; few = omega (arith, t.few); zeros = zero-before t.before at w k t.zeros }))
      (λ l. other-refused Truncated (omega arith) (sym (groups-short s at v w (suc m) (omega arith) l) ∙ e))

-- "A wire integer whose last group is zero, and is not its only group, .. gets .. answer 19": for every width, whatever stands behind it
pub padded-refused : (k : ℕ) (s : List ℕ) (at : ℕ) → k ≤ 8 → PaddedInt k s at → read_int k s at ≡ Err Padded
padded-refused k s at h p =
    let b : ℕ = get_or s at 0 in
    let n : ℕ = p.before in
    let f : 2 ^ k ≤ 2 ^ 8 = pow_mono h in
    let lo : 128 ^ 1 ≤ 128 ^ n = pow-le-pow_right (omega arith) p.not_only in
    let hi : 128 ^ n ≤ 128 ^ 3 = pow-le-pow_right (omega arith) p.few in
    read_int-groups k s at (omega (arith, p.inside)) b (2 ^ k) refl refl (omega (arith, p.ones))
    ∙ groups-padded s n 4 (at + 1) (b % 2 ^ k) 1 (omega (arith, p.few)) (omega (arith, p.ones, pow_pos k)) (omega arith)
    (record { follow = p.follow; last = p.last; inside = p.inside; heavy = omega arith })

-- and no other integer gets it
pub refused-padded : (k : ℕ) (s : List ℕ) (at : ℕ) → read_int k s at ≡ Err Padded → PaddedInt k s at
refused-padded k s at e =
    let b : ℕ = get_or s at 0 in
    split at (length s)
    (λ l. split (b % 2 ^ k) (2 ^ k - 1)
    (λ d. value-refused (b % 2 ^ k) (at + 1) Padded (sym (read_int-small k s at l b (2 ^ k) refl refl d) ∙ e))
    (λ d.
    let f : b % 2 ^ k < 2 ^ k = mod-lt b (pow_pos k) in
    let t = padded-groups s 4 (at + 1) (b % 2 ^ k) 1 (sym (read_int-groups k s at l b (2 ^ k) refl refl d) ∙ e) in
    record {
      ones = omega arith;
      before = t.before;
      not_only = several t.before t.zeros.heavy;
      few = omega (arith, t.few);
      follow = t.zeros.follow;
      last = t.zeros.last;
      inside = t.zeros.inside;
    }))
    (λ l. other-refused Truncated (omega arith) (sym (read_int-short k s at l) ∙ e))
  where
    several : (n : ℕ) → 1 < 1 * 128 ^ n → 1 ≤ n
    several zero h = omega arith
    several (suc n) h = omega arith
