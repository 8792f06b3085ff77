-- What a call may answer: one predicate on the outcome, with the lists of its call and the bounds by which the answer fits into one number.
-- A refusal has it by a computed test over the call's list; "done" has it by what is told.
use mathlib.Core.Path.{◌≡◌, refl}
use Prim.Native.Nat.{ℕ, ◌<◌}
use native.Mathlib.Omega.{arith}
use mathlib.Core.Bool.{Bool, true, false}
use mathlib.Core.List.{List}
use lib.Dec.{T, ltb, eqb}
use borrow.Author.Tests.{ltb-true, eqb-false}
use Rattle.memory.specs.Choice.{pick, need}
use Rattle.memory.proofs.Order.{either, not-both}
use Rattle.integers.specs.Answers.{Answer, refusal, no_state, among}
use Rattle.integers.proofs.Told.{One, every, one_passes}
use Rattle.model.specs.Outcome.{Output, Outcome, refuse, finish}
use Rattle.reply.specs.Reply.{Narrow}
use Rattle.link.specs.Calls.{Call}
use Rattle.link.specs.Answers.{answers_of, first_told, second_told, Counts}

pub record Allowed (c : Call) (a : Answer) : Type 0 where
  pub numbered : among (answers_of c) a.number ≡ true
  pub first : among (first_told c) a.number ≡ false → a.first ≡ 0
  pub second : among (second_told c) a.number ≡ false → a.second ≡ 0
  pub counted : a.number ≡ 0 → Counts c a.first
  pub byte : a.number < 256
  pub low : a.first < 4294967296
  pub narrow : Narrow a

-- the same of an outcome: a record, so that antt finds the outcome
pub record Says {S : Type 0} (c : Call) (o : Outcome S) : Type 0 where
  pub says : Allowed c o.answer
  -- memory forms a state
  pub standing : o.answer.number ≡ no_state → ⊥

-- ---- refusals

-- n is a number by which c is refused
abbrev pub refuses : Call → ℕ → Bool
refuses c n = pick (ltb 0 n) (pick (ltb n 256) (among (answers_of c) n) false) false

pub refusal-allowed : (c : Call) (n : ℕ) → T (refuses c n) → Allowed c (refusal n)
refusal-allowed c n t =
    either (ltb 0 n)
    (λ d. either (ltb n 256)
    (λ e. either (among (answers_of c) n)
    (λ f. let some : 0 < n = ltb-true 0 n d in
    record {
      numbered = f;
      first = λ z. refl;
      second = λ z. refl;
      counted = λ z. absurd (omega arith);
      byte = ltb-true n 256 e;
      low = omega arith;
      narrow = omega arith;
    })
    (λ f. absurd (rw (d, e, f) at t)))
    (λ e. absurd (rw (d, e) at t)))
    (λ d. absurd (rw d at t))

-- the same, of memory that forms a state: 17 is not given
abbrev pub judges : Call → ℕ → Bool
judges c n = pick (eqb n no_state) false (refuses c n)

pub refusal-says : {S : Type 0} (c : Call) (s : S) (n : ℕ) → T (judges c n) → Says c (refuse s n)
refusal-says c s n t =
    either (eqb n no_state)
    (λ d. absurd (rw d at t))
    (λ d. record { says = refusal-allowed c n (rw d at t); standing = eqb-false n no_state d })

-- the refusal with the number n, or what follows
pub refusing : {S : Type 0} (c : Call) (s : S) (b : Bool) (n : ℕ) → T (judges c n) → {y : Outcome S} → (b ≡ true → Says c y)
    → Says c (need b (refuse s n) y)
refusing c s true n h q = q refl
refusing c s false n h q = refusal-says c s n h

-- a refusal by one of a reading's numbers
pub unread-says : {S : Type 0} (c : Call) (s : S) (ks : List ℕ) → T (every (judges c) ks) → (n : ℕ) → One ks n → Says c (refuse s n)
unread-says c s ks a n t = refusal-says c s n (one_passes (judges c) ks a n t)

-- ---- done

-- with both numbers told
pub both_say : {S : Type 0} (c : Call) (s : S) (first second : ℕ) (out : Output) → among (answers_of c) 0 ≡ true
    → (among (first_told c) 0 ≡ false → first ≡ 0) → (among (second_told c) 0 ≡ false → second ≡ 0) → Counts c first
    → first < 4294967296 → second < 16777216 → Says c (finish s first second out)
both_say c s first second out n f g counts low narrow = record {
  says = record { numbered = n; first = f; second = g; counted = λ z. counts; byte = omega arith; low = low; narrow = narrow };
  standing = λ z. omega (arith, z);
}

-- with the first alone
pub first_says : {S : Type 0} (c : Call) (s : S) (first : ℕ) (out : Output) → among (answers_of c) 0 ≡ true → among (first_told c) 0 ≡ true
    → Counts c first → first < 4294967296 → Says c (finish s first 0 out)
first_says c s first out n t counts low =
    both_say c s first 0 out n (λ e. not-both (among (first_told c) 0) t e) (λ e. refl) counts low (omega arith)
