-- Short integers: the equations of `short_int_at`, one for each way through it, and that a short integer is the one that is read.
use mathlib.Core.Path.{◌≡◌, refl, ap, subst, ◌∙◌}
use Prim.Native.Nat.{ℕ, ◌+◌, ◌-◌, ◌*◌, ◌%◌, ◌^◌, ◌≤◌, ◌<◌}
use native.Mathlib.Nat.{mod-lt, one-le-pow}
use native.Mathlib.Omega.{arith}
use mathlib.Core.List.{List}
use lib.ListN.{length, get_or}
use lib.Pow.{pow_mono}
use borrow.Author.Tests.{lt-ltb, le-ltb}
use Rattle.memory.proofs.Order.{split}
use Rattle.integers.specs.Integer.{read_int, finished, short_int_at}
use Rattle.integers.specs.declared.integer.WireInt.{WireInt}
use Rattle.integers.proofs.Groups.{finished-value, groups-last, read_int-small, read_int-groups}
use Rattle.std.specs.Prelude.{Ok, Option, Some, None}

module _ (k : ℕ) (s : List ℕ) (at : ℕ) where
  pub short-int-none : length s ≤ at → short_int_at k s at ≡ None
  unfolding short_int_at
  short-int-none h = simp (le-ltb at (length s) h)

  module _ (h : at < length s) (b f : ℕ) (e : b ≡ get_or s at 0) (g : f ≡ 2 ^ k) where
    pub short-int-one : b % f < f - 1 → short_int_at k s at ≡ Some (record { value = b % f }, at + 1)
    unfolding short_int_at
    short-int-one l = simp (lt-ltb at (length s) h, ← e, ← g, lt-ltb (b % f) (f - 1) l)

    module _ (l : f - 1 ≤ b % f) where
      pub short-int-cut : length s ≤ at + 1 → short_int_at k s at ≡ None
      unfolding short_int_at
      short-int-cut c = simp (lt-ltb at (length s) h, ← e, ← g, le-ltb (b % f) (f - 1) l, le-ltb (at + 1) (length s) c)

      module _ (m : at + 1 < length s) (x : ℕ) (d : x ≡ get_or s (at + 1) 0) where
        pub short-int-long : 128 ≤ x → short_int_at k s at ≡ None
        unfolding short_int_at
        short-int-long n = simp (lt-ltb at (length s) h, ← e, ← g, le-ltb (b % f) (f - 1) l, lt-ltb (at + 1) (length s) m, ← d, le-ltb x 128 n)

        pub short-int-two : x < 128 → short_int_at k s at ≡ Some (record { value = b % f + x }, at + 1 + 1)
        unfolding short_int_at
        short-int-two n = simp (lt-ltb at (length s) h, ← e, ← g, le-ltb (b % f) (f - 1) l, lt-ltb (at + 1) (length s) m, ← d, lt-ltb x 128 n)

  -- what is said of the number at the place at is what reading finds there; 0 takes one byte
  abbrev Good : Option (WireInt × ℕ) → Type 0
  Good (Some (n, next)) = (read_int k s at ≡ Ok (n, next)) × (n.value ≡ 0 → next ≡ at + 1)
  Good None = Unit {0}

  good : 1 ≤ k → k ≤ 8 → Good (short_int_at k s at)
  good u w =
      let q : 2 ^ 1 ≤ 2 ^ k = pow_mono u in
      let b : ℕ = get_or s at 0 in
      let x : ℕ = get_or s (at + 1) 0 in
      let p : 2 ^ k ≤ 2 ^ 8 = pow_mono w in
      let small : b % 2 ^ k < 2 ^ k = mod-lt b {m = 2 ^ k} (one-le-pow k 2 (omega arith)) in
      split at (length s)
      (λ h. split (b % 2 ^ k) (2 ^ k - 1)
      (λ l. rw (short-int-one h b (2 ^ k) refl refl l) (read_int-small k s at h b (2 ^ k) refl refl l, λ z. refl))
      (λ l. split (at + 1) (length s)
      (λ m. split x 128
      (λ n. let v : b % 2 ^ k + x % 128 * 1 ≡ b % 2 ^ k + x = omega arith in
      rw (short-int-two h b (2 ^ k) refl refl l m x refl n) (
        read_int-groups k s at h b (2 ^ k) refl refl l
            ∙ groups-last s (at + 1) (b % 2 ^ k) 1 4 (omega arith) m x refl n
            ∙ ap (λ (i : ℕ). finished x 1 i (at + 1 + 1)) v
            ∙ finished-value x 1 (b % 2 ^ k + x) (at + 1 + 1) (omega arith) (λ d. omega arith),
        λ z. absurd (omega arith),
      ))
      (λ n. rw (short-int-long h b (2 ^ k) refl refl l m x refl n) tt))
      (λ m. rw (short-int-cut h b (2 ^ k) refl refl l m) tt)))
      (λ h. rw (short-int-none h) tt)

  pub short-int-reads : 1 ≤ k → k ≤ 8 → (n : WireInt) (next : ℕ) → short_int_at k s at ≡ Some (n, next)
      → (read_int k s at ≡ Ok (n, next)) × (n.value ≡ 0 → next ≡ at + 1)
  short-int-reads u w n next e = subst Good e (good u w)
