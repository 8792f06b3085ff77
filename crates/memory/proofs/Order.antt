-- Cases: one order or the other, and both ways of a choice.
use mathlib.Core.Path.{◌≡◌, refl, ap}
use Prim.Native.Nat.{ℕ, ◌≤◌, ◌<◌}
use native.Mathlib.Omega.{arith}
use native.Mathlib.Decide.{dec_lt}
use mathlib.Core.Bool.{Bool, true, false, ◌&&◌}
use Rattle.memory.specs.Choice.{pick, need}

-- one order or the other
pub split {ℓ} : {X : Type ℓ} (a b : ℕ) → (a < b → X) → (b ≤ a → X) → X
split a b f g = elim (dec_lt a b) [ yes h ↦ f h | no h ↦ g (omega arith) ]

-- a boolean is one or the other
pub either {ℓ} : {X : Type ℓ} (b : Bool) → (b ≡ true → X) → (b ≡ false → X) → X
either true f g = f refl
either false f g = g refl

-- what holds both ways holds of the choice
pub pick-both {ℓ κ} : {X : Type ℓ} (P : X → Type κ) (b : Bool) (x y : X) → (b ≡ true → P x) → (b ≡ false → P y) → P (pick b x y)
pick-both P true x y f g = f refl
pick-both P false x y f g = g refl

pub pick_true {ℓ} : {X : Type ℓ} (b : Bool) (x y : X) → b ≡ true → pick b x y ≡ x
pick_true b x y e = ap (λ (t : Bool). pick t x y) e

pub pick-false {ℓ} : {X : Type ℓ} (b : Bool) (x y : X) → b ≡ false → pick b x y ≡ y
pick-false b x y e = ap (λ (t : Bool). pick t x y) e

-- the library's `&&`
pub and-pick : (p q : Bool) → (p && q) ≡ pick p q false
and-pick true q = refl
and-pick false q = refl

-- the same of what must hold to go on
pub need-both {ℓ κ} : {X : Type ℓ} (P : X → Type κ) (b : Bool) (x y : X) → (b ≡ false → P x) → (b ≡ true → P y) → P (need b x y)
need-both P true x y f g = g refl
need-both P false x y f g = f refl

pub need-true {ℓ} : {X : Type ℓ} (b : Bool) (x y : X) → b ≡ true → need b x y ≡ y
need-true b x y e = ap (λ (t : Bool). need t x y) e

pub need-false {ℓ} : {X : Type ℓ} (b : Bool) (x y : X) → b ≡ false → need b x y ≡ x
need-false b x y e = ap (λ (t : Bool). need t x y) e

-- what is true is not false
pub not-both {ℓ} : {X : Type ℓ} (b : Bool) → b ≡ true → b ≡ false → X
not-both b e d = let z : ◌≡◌ {A = ℕ} 0 1 = cc in absurd (omega arith)
