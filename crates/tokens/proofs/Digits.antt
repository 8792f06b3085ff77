-- The equations of `digits_from`, one for each way through a turn, at a place of the word.
use mathlib.Core.Path.{◌≡◌, refl, ap, ◌∙◌}
use Prim.Native.Nat.{ℕ, ◌+◌, ◌*◌, ◌≤◌, ◌<◌}
use mathlib.Core.List.{List, [], ◌∷◌}
use native.Mathlib.Omega.{arith}
use native.Mathlib.Numerals.{add-one}
use lib.ListN.{length, drop, get_or, drop_of_length-le}
use lib.Seq.{drop-cons}
use borrow.Author.Tests.{lt-ltb, le-leb, lt-leb}
use Rattle.std.specs.Prelude.{None, Some}
use Rattle.tokens.specs.Numbers.{largest, digit_of, digits_from, number_of}

pub number-none : (s : List ℕ) → length s ≡ 0 → number_of s ≡ None
unfolding number_of
number-none [] h = refl
number-none (c ∷ cs) h = absurd (omega arith)

pub number-some : (s : List ℕ) → (length s ≡ 0 → ⊥) → number_of s ≡ digits_from s 0
unfolding number_of
number-some [] h = absurd (h refl)
number-some (c ∷ cs) h = refl

module _ (s : List ℕ) (i n : ℕ) where
  pub digits-done : length s ≤ i → digits_from (drop i s) n ≡ Some n
  unfolding digits_from
  digits-done h = rw (drop_of_length-le s h)

  module _ (h : i < length s) where
    at_place : digits_from (drop i s) n ≡ digits_from (get_or s i 0 ∷ drop (i + 1) s) n
    at_place = ap (λ (l : List ℕ). digits_from l n) (rw (add-one, drop-cons s i 0))

    pub digits-other : digit_of (get_or s i 0) ≡ 10 → digits_from (drop i s) n ≡ None
    unfolding digits_from
    digits-other e = at_place ∙ simp e

    module _ (d : ℕ) (e : d ≡ digit_of (get_or s i 0)) (l : d < 10) where
      pub digits-over : largest < n * 10 + d → digits_from (drop i s) n ≡ None
      unfolding digits_from
      digits-over o = at_place ∙ simp (← e, lt-ltb d 10 l, lt-leb (n * 10 + d) largest o)

      pub digits_more : n * 10 + d ≤ largest → digits_from (drop i s) n ≡ digits_from (drop (i + 1) s) (n * 10 + d)
      unfolding digits_from
      digits_more o = at_place ∙ simp (← e, lt-ltb d 10 l, le-leb (n * 10 + d) largest o)
