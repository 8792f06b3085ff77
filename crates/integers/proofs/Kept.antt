-- An answer other than 2 does not change when bytes are added behind: the integer, over the width, and what every reader above needs for the same.
-- A chain of tests and readers is kept if each link is; a test that bytes are there is the one that may change, and it answers 2.
use mathlib.Core.Path.{◌≡◌, refl, ap, ◌∙◌}
use mathlib.Core.Bool.{Bool, true, false}
use Prim.Native.Nat.{ℕ, zero, suc, ◌+◌, ◌-◌, ◌*◌, ◌%◌, ◌^◌, ◌<◌}
use native.Mathlib.Omega.{arith}
use mathlib.Core.List.{List, ◌++◌}
use lib.ListN.{length, get_or, length-append, get_or-append}
use lib.Dec.{ltb}
use borrow.Author.Tests.{lt-ltb, ltb-true}
use Rattle.memory.specs.Choice.{pick, need}
use Rattle.integers.specs.Integer.{on_int, value, read_int, groups, finished}
use Rattle.std.specs.Prelude.{Ok, Err}
use Rattle.integers.specs.Answers.{Read, answer_number, on_read, number_of}
use Rattle.integers.specs.declared.answer.Refusal.{Refusal}
use Rattle.integers.specs.declared.answer.Refusal.TheVariants.{TooLarge, Truncated}
use Rattle.integers.specs.declared.integer.WireInt.{WireInt}
use Rattle.integers.proofs.Refusals.{only_truncated}

-- x is answered of some bytes, and y of the same with others behind; `number` gives the answer's number
pub record Kept {X : Type 0} (number : X → ℕ) (x y : X) : Type 0 where
  pub same : (number x ≡ 2 → ⊥) → y ≡ x

pub byte-kept : (s t : List ℕ) (at : ℕ) → at < length s → get_or (s ++ t) at 0 ≡ get_or s at 0
byte-kept s t at h = get_or-append s t 0 at h

module _ {X : Type 0} (number : X → ℕ) where
  pub kept_same : (x : X) → Kept number x x
  kept_same x = record { same = λ d. refl }

  pub kept-need : (b : Bool) {x x' y y' : X} → Kept number x x' → Kept number y y' → Kept number (need b x y) (need b x' y')
  kept-need true h k = k
  kept-need false h k = h

  pub kept-pick : (b : Bool) {x x' y y' : X} → Kept number x x' → Kept number y y' → Kept number (pick b x y) (pick b x' y')
  kept-pick true h k = h
  kept-pick false h k = k

  -- a test that stays true when bytes are added, and refuses by 2
  module _ (refusal : X) (two : number refusal ≡ 2) where
    pub kept_test : (b b' : Bool) {x y : X} → (b ≡ true → b' ≡ true) → (b ≡ true → Kept number x y)
        → Kept number (need b refusal x) (need b' refusal y)
    kept_test true b' g h = record { same = λ d. rw (g refl) ((h refl).same d) }
    kept_test false b' g h = record { same = λ d. absurd (d two) }

    pub kept-inside : (s t : List ℕ) (at : ℕ) {x y : X} → (at < length s → Kept number x y)
        → Kept number (need (ltb at (length s)) refusal x) (need (ltb at (length (s ++ t))) refusal y)
    kept-inside s t at h =
        kept_test (ltb at (length s)) (ltb at (length (s ++ t)))
        (λ e. lt-ltb at (length (s ++ t)) (omega (arith, ltb-true at (length s) e, length-append s t)))
        (λ e. h (ltb-true at (length s) e))

    -- the same, written with the refusal last
    pub kept_there : (s t : List ℕ) (at : ℕ) {x y : X} → (at < length s → Kept number x y)
        → Kept number (pick (ltb at (length s)) x refusal) (pick (ltb at (length (s ++ t))) y refusal)
    kept_there s t at {x} {y} h =
        rw (last x (ltb at (length s)), last y (ltb at (length (s ++ t)))) (kept-inside s t at h)
      where
        last : (z : X) (b : Bool) → pick b z refusal ≡ need b refusal z
        last z true = refl
        last z false = refl

  -- a reader, then what follows
  module _ (refused : Refusal → X) (two : number (refused Truncated) ≡ 2) where
    -- a refusal other than 2, passed on, is other than 2
    pub passed_on : (why : Refusal) → (number (refused why) ≡ 2 → ⊥) → number_of why ≡ 2 → ⊥
    passed_on why d z = d (ap (λ (w : Refusal). number (refused w)) (only_truncated why z) ∙ two)

    pub kept-on-read : {Y : Type 0} (r r' : Read Y) {f g : Y → ℕ → X} → Kept answer_number r r'
        → ((y : Y) (next : ℕ) → r ≡ Ok (y, next) → Kept number (f y next) (g y next)) → Kept number (on_read refused r f) (on_read refused r' g)
    kept-on-read (Ok (y, next)) r' h k = record { same = λ d. rw (h.same (λ z. omega arith)) ((k y next refl).same d) }
    kept-on-read (Err why) r' h k = record { same = λ d. rw (h.same (passed_on why d)) refl }

    pub kept-on-int : (r r' : Read WireInt) {f g : ℕ → ℕ → X} → Kept answer_number r r'
        → ((v next : ℕ) → r ≡ value v next → Kept number (f v next) (g v next)) → Kept number (on_int refused r f) (on_int refused r' g)
    kept-on-int r r' h k = kept-on-read r r' h (λ n next e. k n.value next e)

groups-kept : (n : ℕ) (s t : List ℕ) (at v w : ℕ) → Kept answer_number (groups n s at v w) (groups n (s ++ t) at v w)
unfolding groups
groups-kept zero s t at v w = kept_same answer_number (Err TooLarge)
groups-kept (suc n) s t at v w =
    kept_there answer_number (Err Truncated) refl s t at (λ h.
    rw (byte-kept s t at h)
    (kept-pick answer_number (ltb (get_or s at 0) 128) (kept_same answer_number (finished (get_or s at 0) w (v + get_or s at 0 % 128 * w) (at + 1)))
    (groups-kept n s t (at + 1) (v + get_or s at 0 % 128 * w) (w * 128))))

pub int-kept : (k : ℕ) (s t : List ℕ) (at : ℕ) → Kept answer_number (read_int k s at) (read_int k (s ++ t) at)
unfolding read_int
int-kept k s t at =
    kept_there answer_number (Err Truncated) refl s t at (λ h.
    rw (byte-kept s t at h)
    (kept-pick answer_number (ltb (get_or s at 0 % 2 ^ k) (2 ^ k - 1)) (kept_same answer_number (value (get_or s at 0 % 2 ^ k) (at + 1)))
    (groups-kept 4 s t (at + 1) (get_or s at 0 % 2 ^ k) 1)))
