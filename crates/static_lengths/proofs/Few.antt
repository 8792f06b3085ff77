-- At most 14 static names have one length: a computed test over the entries, each of which is asked how many names are as long as its own. A length that
-- no name has is that of none.
use mathlib.Core.Path.{◌≡◌, refl, sym, subst}
use mathlib.Core.Logic.{◌↔◌}
use mathlib.Core.Bool.{Bool}
use Prim.Native.Nat.{ℕ, ◌-◌, ◌≤◌}
use native.Mathlib.Omega.{arith}
use mathlib.Core.List.{List, [], ◌∷◌, Memᴰ}
use lib.Dec.{T, eqb, leb, leb→le}
use lib.ListN.{length}
use borrow.Author.Tests.{eqb-true, eq-eqb}
use Rattle.statics.specs.Table.{Entry, entries, entry_at, static_name}
use Rattle.statics.proofs.Places.{every, every_in}
use Rattle.static_lengths.specs.Lengths.{all_static, of_length, most}
use Rattle.static_lengths.proofs.Selecting.{all_in, in_all}

-- ---- the computed test

abbrev tested : Entry → Bool
tested e = leb (length (of_length (length e.name))) most

tested-all : T (every tested entries)
unfolding entries entry_at of_length all_static
tested-all = tt

pub reached : length (of_length 7) ≡ most
unfolding entries entry_at of_length all_static
reached = refl

-- ---- for every length

module _ (n : ℕ) where
  pub exactly : (i : ℕ) → Memᴰ i (of_length n) ↔ ((1 ≤ i) × (i ≤ 61) × (length (static_name i) ≡ n))
  unfolding of_length
  exactly i = (
    λ m. let b = all_in (λ k. eqb (length (static_name k)) n) 61 1 i m in (b.0, omega (arith, b.1), eqb-true (length (static_name i)) n b.2),
    λ b. in_all (λ k. eqb (length (static_name k)) n) 61 1 i (b.0, omega (arith, b.1), eq-eqb (length (static_name i)) n b.2),
  )

  pub few : length (of_length n) ≤ most
  unfolding entry_at entries
  few = go (of_length n) refl
    where
      go : (l : List ℕ) → of_length n ≡ l → length l ≤ most
      go [] e = omega arith
      go (k ∷ ks) e =
          let b = (exactly k).0 (subst (Memᴰ k) (sym e) (Memᴰ.head refl)) in
          let t = every_in tested _ entries tested-all (k - 1) (omega (arith, b.0, b.1)) in
          subst (λ (l : List ℕ). length l ≤ most) e
          (subst (λ (x : ℕ). length (of_length x) ≤ most) b.2 (leb→le (length (of_length (length (static_name k)))) most t))
