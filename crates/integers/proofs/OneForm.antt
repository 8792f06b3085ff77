-- A number has exactly one accepted form, for every prefix width: the writer's.
-- By induction over the groups: what they add to the value is r times their weight, and they stand as the writer writes r. A last group that is
-- not zero makes r at least 128 wherever another group stands before it, so the writer goes on there too.
use mathlib.Core.Path.{◌≡◌, refl, sym, ap, ◌∙◌}
use Prim.Native.Nat.{ℕ, zero, suc, ◌+◌, ◌-◌, ◌*◌, ◌/◌, ◌%◌, ◌^◌, ◌≤◌, ◌<◌}
use native.Mathlib.Nat.{mod-lt, div-add-mod', div-eq_of_lt-le, zero-add, sub-zero}
use native.Mathlib.Numerals.{sub-one}
use native.Mathlib.Omega.{arith}
use mathlib.Core.Bool.{false}
use mathlib.Core.List.{List, ◌∷◌}
use lib.ListN.{length, get_or}
use lib.Dec.{leb, ltb}
use lib.Pow.{pow_pos}
use borrow.Author.Tests.{lt-ltb}
use Rattle.memory.specs.Bytes.{part, Has, Small}
use Rattle.memory.proofs.Order.{split, pick-both, need-both, not-both}
use Rattle.memory.proofs.Places.{has_part, has_all, part-all}
use Rattle.integers.specs.Integer.{IntForm, value, read_int, groups, is_padded, finished, largest, int_wire, group_wire}
use Rattle.integers.proofs.Groups.{groups-short, groups-last, groups-more, groups_none, read_int-short, read_int-small, read_int-groups}
use Rattle.integers.proofs.Writing.{last-group, next-group, int-in-prefix, int-past-prefix}
use Rattle.integers.proofs.Lengths.{int-bytes-small, first_byte}
use Rattle.integers.proofs.Back.{int-back}
use Rattle.std.specs.Prelude.{Ok, Err}
use Rattle.integers.specs.Answers.{Read}
use Rattle.integers.specs.declared.answer.Refusal.{Refusal}
use Rattle.integers.specs.declared.answer.Refusal.TheVariants.{Padded, TooLarge, Truncated}
use Rattle.integers.specs.declared.integer.WireInt.{WireInt}

value_same : {v v' n n' : ℕ} → value v n ≡ value v' n' → (v ≡ v') × (n ≡ n')
value_same {v} {v'} {n} {n'} e = (ap value_of e, ap next_of e)
  where
    value_of : Read WireInt → ℕ
    value_of (Ok (m, next)) = m.value
    value_of (Err number) = 0

    next_of : Read WireInt → ℕ
    next_of (Ok (m, next)) = next
    next_of (Err number) = 0

refused-value {ℓ} : {X : Type ℓ} (why : Refusal) (v n : ℕ) → Err why ≡ value v n → X
refused-value why v n e = let z : ◌≡◌ {A = ℕ} 0 1 = cc in absurd (omega arith)

-- an integer that is read is not padded
unpadded : (b w : ℕ) → is_padded b w ≡ false → 1 < w → 0 < b
unpadded zero w e l = not-both (ltb 1 w) (lt-ltb 1 w l) e
unpadded (suc b) w e l = omega arith

module _ (b w u m v n : ℕ) where
  abbrev Same : Read WireInt → Type 0
  Same r = r ≡ value v n → (u ≡ v) × (m ≡ n) × (1 < w → 0 < b)

  finished-same : finished b w u m ≡ value v n → (u ≡ v) × (m ≡ n) × (1 < w → 0 < b)
  finished-same =
      need-both Same (leb u largest) (Err TooLarge) _ (λ e d. refused-value TooLarge v n d)
      (λ e. pick-both Same (is_padded b w) (Err Padded) (value u m)
      (λ p d. refused-value Padded v n d)
      (λ p d. let q = value_same d in (q.0, q.1, unpadded b w p)))

-- the value x was read from v by groups of weight w that say r, and these groups are the writer's
record Rest (s : List ℕ) (n at v w x next : ℕ) : Type 0 where
  rest : ℕ
  sum : x ≡ v + rest * w
  stands : Has s at (group_wire n rest)
  end : next ≡ at + length (group_wire n rest)
  full : 1 < w → 0 < rest

module _ (s : List ℕ) (n at v w x next : ℕ) (l : at < length s) where
  last-stands : get_or s at 0 < 128 → groups (suc n) s at v w ≡ value x next → Rest s n at v w x next
  last-stands k e =
      let b : ℕ = get_or s at 0 in
      let f = finished-same b w (v + b % 128 * w) (at + 1) x next (sym (groups-last s at v w (suc n) (omega arith) l b refl k) ∙ e) in
      let g = last-group n b k in
      let m : b % 128 ≡ b = omega arith in
      record { rest = b; sum = sym (rw m at f.0); stands = rw g (l, refl, tt); end = omega (arith, ap length g, f.1); full = f.2 }

  more-stands : (b : ℕ) → b ≡ get_or s at 0 → 128 ≤ b → b < 256 → 0 < w
      → Rest s n (at + 1) (v + b % 128 * w) (w * 128) x next → Rest s (suc n) at v w x next
  more-stands b eb h k p t =
      let r : ℕ = b % 128 + t.rest * 128 in
      let q : r / 128 ≡ t.rest = omega arith in
      let m : r % 128 + 128 ≡ b = omega arith in
      let big : 128 ≤ r = omega (arith, t.full (omega arith)) in
      let g : group_wire (suc n) r ≡ b ∷ group_wire n t.rest = rw (sub-one, q, m) at (next-group (suc n) r (omega arith) big) in
      record {
        rest = r;
        sum = t.sum ∙ omega arith;
        stands = rw g (l, sym eb, t.stands);
        end = omega (arith, ap length g, t.end);
        full = λ d. omega arith;
      }

module _ (s : List ℕ) (small : Small s) where
  groups-stand : (n at v w x next : ℕ) → 0 < w → groups (suc n) s at v w ≡ value x next → Rest s n at v w x next
  groups-stand zero at v w x next p e =
      split at (length s)
      (λ l. split (get_or s at 0) 128
      (λ k. last-stands s zero at v w x next l k e)
      (λ k. refused-value TooLarge x next (sym (groups-more s at v w 1 (omega arith) l _ refl k ∙ groups_none s _ _ _ _ (omega arith)) ∙ e)))
      (λ l. refused-value Truncated x next (sym (groups-short s at v w 1 (omega arith) l) ∙ e))
  groups-stand (suc n) at v w x next p e =
      split at (length s)
      (λ l. split (get_or s at 0) 128
      (λ k. last-stands s (suc n) at v w x next l k e)
      (λ k. more-stands s n at v w x next l (get_or s at 0) refl k (small at) p
      (groups-stand n (at + 1) (v + get_or s at 0 % 128 * w) (w * 128) x next (omega arith)
      (sym (rw sub-one at (groups-more s at v w (suc (suc n)) (omega arith) l _ refl k)) ∙ e))))
      (λ l. refused-value Truncated x next (sym (groups-short s at v w (suc (suc n)) (omega arith) l) ∙ e))

  -- what was read at a place stands there as the writer writes it, below the bits above the prefix
  pub int-stands : (k at v next : ℕ) → read_int k s at ≡ value v next
      → Has s at (int_wire k (get_or s at 0 / 2 ^ k * 2 ^ k) v) × (next ≡ at + length (int_wire k (get_or s at 0 / 2 ^ k * 2 ^ k) v))
  int-stands k at v next e =
      split at (length s)
      (λ l. split (b % 2 ^ k) (2 ^ k - 1) (one l) (more l))
      (λ l. refused-value Truncated v next (sym (read_int-short k s at l) ∙ e))
    where
      b : ℕ
      b = get_or s at 0

      top : ℕ
      top = b / 2 ^ k * 2 ^ k

      one : at < length s → b % 2 ^ k < 2 ^ k - 1 → Has s at (int_wire k top v) × (next ≡ at + length (int_wire k top v))
      one l d =
          let q = value_same (sym (read_int-small k s at l _ _ refl refl d) ∙ e) in
          let w = int-in-prefix k top v (2 ^ k) refl (omega (arith, q.0)) in
          (rw w (l, omega (arith, div-add-mod' b (2 ^ k), q.0), tt), omega (arith, ap length w, q.1))

      more : at < length s → 2 ^ k - 1 ≤ b % 2 ^ k → Has s at (int_wire k top v) × (next ≡ at + length (int_wire k top v))
      more l d =
          let f : b % 2 ^ k < 2 ^ k = mod-lt b (pow_pos k) in
          let t = groups-stand 3 (at + 1) (b % 2 ^ k) 1 v next (omega arith) (sym (read_int-groups k s at l _ _ refl refl d) ∙ e) in
          let r : v - (2 ^ k - 1) ≡ t.rest = omega (arith, t.sum) in
          let w = rw r at (int-past-prefix k top v (2 ^ k) refl (omega (arith, t.sum))) in
          (rw w (l, omega (arith, div-add-mod' b (2 ^ k)), t.stands), omega (arith, ap length w, t.end))

  -- the same as a part of the bytes
  pub int-part : (k at v next : ℕ) → read_int k s at ≡ value v next → part s at (next - at) ≡ int_wire k (get_or s at 0 / 2 ^ k * 2 ^ k) v
  int-part k at v next e =
      let h = int-stands k at v next e in
      let n : next - at ≡ length (int_wire k (get_or s at 0 / 2 ^ k * 2 ^ k) v) = omega (arith, h.1) in
      rw n (has_part s at (int_wire k (get_or s at 0 / 2 ^ k * 2 ^ k) v) h.0)

-- "each integer up to 2^27 − 1 has exactly one accepted form per prefix width, shown once over the width": for every width k from 1 to 8 (a wider
-- prefix is no part of a byte), every setting t * 2^k of the bits above it and every value, the writer's bytes are a form, and no other list of bytes is.
pub one_form : (k t v : ℕ) → t * 2 ^ k + 2 ^ k ≤ 256 → v ≤ largest
    → IntForm k (t * 2 ^ k) v (int_wire k (t * 2 ^ k) v) × ((s : List ℕ) → IntForm k (t * 2 ^ k) v s → s ≡ int_wire k (t * 2 ^ k) v)
one_form k t v h l =
    let top : ℕ = t * 2 ^ k in
    let w : List ℕ = int_wire k top v in (
      record {
        bytes = int-bytes-small k top v h l;
        above = let f = first_byte w k 0 top v (has_all w) in (f.1, f.2);
        reads = rw zero-add at (int-back w k 0 t v l (has_all w));
      },
      λ s f.
          let e : get_or s 0 0 / 2 ^ k ≡ t = div-eq_of_lt-le (2 ^ k) f.above.0 (omega (arith, f.above.1)) in
          sym (part-all s) ∙ rw (e, sub-zero) at (int-part s f.bytes k 0 v (length s) f.reads),
    )
