-- Which numbers an integer is refused by: 2, 3 and 19. What follows one is refused by these and by its own.
-- Along the definitions: a choice has what both of its ways have. Each kind of reading has its list; a shorter list goes into a longer one.
use Prim.Native.Nat.{ℕ, zero, suc, ◌+◌, ◌-◌, ◌*◌, ◌%◌, ◌^◌}
use mathlib.Core.Bool.{Bool, true, false}
use mathlib.Core.List.{List, [], ◌∷◌}
use lib.ListN.{length, get_or}
use lib.Dec.{T, ltb, leb, eqb}
use borrow.Author.Tests.{eqb-true}
use Rattle.memory.specs.Choice.{pick}
use Rattle.memory.proofs.Order.{either, pick-both, need-both}
use Rattle.integers.specs.Answers.{among, truncated, too_large, padded, number_of, Read, on_read}
use Rattle.integers.specs.declared.answer.Refusal.{Refusal}
use Rattle.integers.specs.Integer.{on_int, value, largest, is_padded, finished, groups, read_int}
use Rattle.std.specs.Prelude.{Result, Ok, Err}
use Rattle.integers.specs.declared.answer.Refusal.TheVariants.{Padded, TooLarge, Truncated}
use Rattle.integers.specs.declared.integer.WireInt.{WireInt}

-- an answer that is as it should be: a record, so that antt finds the answer and the claim
pub record Told {X : Type 0} (Fine : X → Type 0) (x : X) : Type 0 where
  pub told : Fine x

-- m is one of these numbers
abbrev pub One : List ℕ → ℕ → Type 0
One ns m = T (among ns m)

-- what each of the numbers ks passes, one of them passes
abbrev pub every : (ℕ → Bool) → List ℕ → Bool
every test [] = true
every test (k ∷ ks) = pick (test k) (every test ks) false

pub one_passes : (test : ℕ → Bool) (ks : List ℕ) → T (every test ks) → (m : ℕ) → One ks m → T (test m)
one_passes test [] a m t = absurd t
one_passes test (k ∷ ks) a m t =
    either (test k)
    (λ e. pick-both (λ (b : Bool). T b → T (test m)) (eqb m k) true (among ks m)
    (λ d u. rw (eqb-true m k d, e) tt) (λ d u. one_passes test ks (rw e at a) m u) t)
    (λ e. absurd (rw e at a))

-- each of the numbers ks is one of ns
abbrev pub covers : List ℕ → List ℕ → Bool
covers ns ks = every (among ns) ks

pub wider : (ns ks : List ℕ) → T (covers ns ks) → (m : ℕ) → One ks m → One ns m
wider ns ks = one_passes (among ns) ks

-- "bytes run out", "too large or too long", "last group is zero, and is not its only group"
abbrev pub int_refusals : List ℕ
int_refusals = truncated ∷ too_large ∷ padded ∷ []

-- what a reader answers is no refusal, or one of these
abbrev pub RefusedBy : List ℕ → {Y : Type 0} → Result Y Refusal → Type 0
RefusedBy ns (Ok y) = Unit {0}
RefusedBy ns (Err why) = One ns (number_of why)

abbrev pub IntTold : Read WireInt → Type 0
IntTold r = RefusedBy int_refusals r

finished-told : (b w v next : ℕ) → Told IntTold (finished b w v next)
finished-told b w v next =
    need-both (Told IntTold) (leb v largest) (Err TooLarge) _ (λ e. record { told = tt })
    (λ e. pick-both (Told IntTold) (is_padded b w) (Err Padded) (value v next) (λ d. record { told = tt }) (λ d. record { told = tt }))

groups-told : (n : ℕ) (s : List ℕ) (at v w : ℕ) → Told IntTold (groups n s at v w)
unfolding groups
groups-told zero s at v w = record { told = tt }
groups-told (suc n) s at v w =
    let b : ℕ = get_or s at 0 in
    let sum : ℕ = v + b % 128 * w in
    pick-both (Told IntTold) (ltb at (length s)) _ (Err Truncated)
    (λ e. pick-both (Told IntTold) (ltb b 128) (finished b w sum (at + 1)) (groups n s (at + 1) sum (w * 128))
    (λ d. finished-told b w sum (at + 1)) (λ d. groups-told n s (at + 1) sum (w * 128)))
    (λ e. record { told = tt })

pub int-told : (k : ℕ) (s : List ℕ) (at : ℕ) → Told IntTold (read_int k s at)
unfolding read_int
int-told k s at =
    let first : ℕ = get_or s at 0 % 2 ^ k in
    pick-both (Told IntTold) (ltb at (length s)) _ (Err Truncated)
    (λ e. pick-both (Told IntTold) (ltb first (2 ^ k - 1)) (value first (at + 1)) (groups 4 s (at + 1) first 1)
    (λ d. record { told = tt }) (λ d. groups-told 4 s (at + 1) first 1))
    (λ e. record { told = tt })

-- what a reader answers, then what follows
pub told-on-read : (ns : List ℕ) {X Y : Type 0} (Fine : X → Type 0) (refused : Refusal → X)
    → ((why : Refusal) → One ns (number_of why) → Fine (refused why))
    → (r : Read Y) {f : Y → ℕ → X} → Told (RefusedBy ns) r → ((y : Y) (next : ℕ) → Told Fine (f y next)) → Told Fine (on_read refused r f)
told-on-read ns Fine refused h (Ok (y, next)) k g = g y next
told-on-read ns Fine refused h (Err why) k g = record { told = h why k.told }

pub told-on-int : {X : Type 0} (Fine : X → Type 0) (refused : Refusal → X) → ((why : Refusal) → One int_refusals (number_of why) → Fine (refused why))
    → (r : Read WireInt) {f : ℕ → ℕ → X} → Told IntTold r → ((v next : ℕ) → Told Fine (f v next)) → Told Fine (on_int refused r f)
told-on-int Fine refused h r k g = told-on-read int_refusals Fine refused h r k (λ n next. g n.value next)

-- a refusal that is one of ks is one of ns
pub wider-refusals : (ns ks : List ℕ) → T (covers ns ks) → (why : Refusal) → One ks (number_of why) → One ns (number_of why)
wider-refusals ns ks t why = wider ns ks t (number_of why)
