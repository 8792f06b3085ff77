-- Which values and places a number that was read can have: the place after it is past its own, at most five bytes on and in the input, and the
-- value is not too large.
-- By cases along the equations of `read_int` and `groups`.
use mathlib.Core.Path.{◌≡◌, refl, sym, subst, ◌∙◌}
use Prim.Native.Nat.{ℕ, zero, suc, ◌+◌, ◌-◌, ◌*◌, ◌%◌, ◌^◌, ◌≤◌, ◌<◌}
use native.Mathlib.Omega.{arith}
use native.Mathlib.Numerals.{sub-one}
use mathlib.Core.List.{List}
use lib.ListN.{length, get_or}
use lib.Dec.{leb}
use lib.Pow.{pow_mono}
use borrow.Author.Tests.{leb-true}
use Rattle.memory.proofs.Order.{split, pick-both, need-both}
use Rattle.integers.specs.Integer.{value, read_int, groups, finished, is_padded, largest}
use Rattle.integers.specs.declared.integer.WireInt.{WireInt}
use Rattle.integers.proofs.Groups.{groups-short, groups-last, groups-more, groups_none, read_int-short, read_int-small, read_int-groups}
use Rattle.std.specs.Prelude.{Ok, Err}
use Rattle.integers.specs.Answers.{Read}
use Rattle.integers.specs.declared.answer.Refusal.TheVariants.{Padded, TooLarge}

-- what an answer says of the number at the place at
abbrev pub Good : List ℕ → ℕ → Read WireInt → Type 0
Good s at (Ok (n, next)) = (at < next) × (next ≤ length s) × (n.value ≤ largest) × (next ≤ at + 5)
Good s at (Err number) = Unit {0}

good-finished : (s : List ℕ) (at b w v next : ℕ) → at < next → next ≤ length s → next ≤ at + 5 → Good s at (finished b w v next)
good-finished s at b w v next h k l =
    need-both (Good s at) (leb v largest) (Err TooLarge) _ (λ e. tt)
    (λ e. pick-both (Good s at) (is_padded b w) (Err Padded) (value v next) (λ d. tt) (λ d. (h, k, leb-true v largest e, l)))

-- groups of a number that began at the place from: there are at most four
good-groups : (s : List ℕ) (n at v w from : ℕ) → from ≤ at → at + n ≤ from + 5 → Good s from (groups n s at v w)
good-groups s zero at v w from h m = rw (groups_none s at v w 0 (omega arith)) tt
good-groups s (suc n) at v w from h m =
    split at (length s)
    (λ l. split (get_or s at 0) 128
    (λ k. rw (groups-last s at v w (suc n) (omega arith) l _ refl k)
    (good-finished s from (get_or s at 0) w (v + get_or s at 0 % 128 * w) (at + 1) (omega arith) (omega arith) (omega arith)))
    (λ k. rw (groups-more s at v w (suc n) (omega arith) l _ refl k, sub-one)
    (good-groups s n (at + 1) (v + get_or s at 0 % 128 * w) (w * 128) from (omega arith) (omega arith))))
    (λ l. rw (groups-short s at v w (suc n) (omega arith) l) tt)

pub good-int : (k : ℕ) (s : List ℕ) (at : ℕ) → k ≤ 8 → Good s at (read_int k s at)
good-int k s at h =
    let p : 2 ^ k ≤ 2 ^ 8 = pow_mono h in
    split at (length s)
    (λ l. split (get_or s at 0 % 2 ^ k) (2 ^ k - 1)
    (λ d. rw (read_int-small k s at l _ _ refl refl d) (omega arith, omega arith, omega arith, omega arith))
    (λ d. rw (read_int-groups k s at l _ _ refl refl d) (good-groups s 4 (at + 1) (get_or s at 0 % 2 ^ k) 1 at (omega arith) (omega arith))))
    (λ l. rw (read_int-short k s at l) tt)

-- the same of an answer that is that number
pub int-good : (k : ℕ) (s : List ℕ) (at : ℕ) → k ≤ 8 → (r : Read WireInt) → r ≡ read_int k s at → (n : WireInt) (next : ℕ) → r ≡ Ok (n, next)
    → (at < next) × (next ≤ length s) × (n.value ≤ largest) × (next ≤ at + 5)
int-good k s at h r e n next d = subst (Good s at) (sym e ∙ d) (good-int k s at h)
