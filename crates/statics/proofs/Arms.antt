-- What the last arm of a `match` on a number knows: it is none of the numbers of the other arms. Where those are the numbers from 1 to n, it is above n.
use mathlib.Core.Path.{◌≡◌, sym, subst}
use mathlib.Core.Bool.{Bool, true, false}
use Prim.Native.Nat.{ℕ, zero, suc, ◌≤◌, ◌<◌}
use native.Mathlib.Omega.{arith}
use mathlib.Core.List.{List, [], ◌∷◌}
use lib.Dec.{T, eqb}
use borrow.Author.Tests.{eqb-true, eq-eqb}
use Rattle.memory.specs.Choice.{pick}
use Rattle.memory.proofs.Order.{either, not-both, pick_true, pick-false}

-- none of the numbers from 1 to n, as the last arm has it
abbrev pub NoneOf : ℕ → ℕ → Type 0
NoneOf zero i = Unit {0}
NoneOf (suc n) i = NoneOf n i × (i ≡ suc n → ⊥)

pub above : (n i : ℕ) → 1 ≤ i → NoneOf n i → n < i
above zero i h r = h
above (suc n) i h r = later (above n i h r.0) r.1
  where
    later : n < i → (i ≡ suc n → ⊥) → suc n < i
    later b f = omega arith

-- none of these numbers, as the last arm has it
abbrev pub NoneIn : List ℕ → ℕ → Type 0
NoneIn [] i = Unit {0}
NoneIn (k ∷ ks) i = NoneIn ks i × (i ≡ k → ⊥)

-- is it one of these?
abbrev pub among : List ℕ → ℕ → Bool
among [] i = false
among (k ∷ ks) i = pick (eqb i k) true (among ks i)

pick-eq : (P : Bool → Type 0) (i j : ℕ) (a b : Bool) → (i ≡ j → P a) → ((i ≡ j → ⊥) → P b) → P (pick (eqb i j) a b)
pick-eq P i j a b f g =
    either (eqb i j)
    (λ t. subst P (sym (pick_true (eqb i j) a b t)) (f (eqb-true i j t)))
    (λ t. subst P (sym (pick-false (eqb i j) a b t)) (g (λ e. not-both (eqb i j) (eq-eqb i j e) t)))

pub not-among : (ks : List ℕ) (i : ℕ) → NoneIn ks i → T (among ks i) → ⊥
not-among [] i n t = t
not-among (k ∷ ks) i n t =
    pick-eq (λ (b : Bool). T b → ⊥) i k true (among ks i) (λ e u. n.1 e) (λ e u. not-among ks i n.0 u) t
