-- A function of the index changed at one place: what it gives there, and that it gives what it gave elsewhere.
-- By deciding whether two indexes are one.
use mathlib.Core.Path.{◌≡◌, refl}
use mathlib.Core.Logic.{◌≢◌}
use Prim.Native.Nat.{ℕ}
use native.Mathlib.Decide.{ℕ_discrete}

module _ {ℓ} {A : Type ℓ} where
  -- a decision picks one of two
  unfoldable pub decided {κ} : {P : Type κ} → Dec P → A → A → A
  decided (yes h) x y = x
  decided (no h) x y = y

  pub decided-yes {κ} : {P : Type κ} (d : Dec P) (x y : A) → P → decided d x y ≡ x
  unfolding decided
  decided-yes (yes h) x y p = refl
  decided-yes (no h) x y p = absurd (h p)

  pub decided-no {κ} : {P : Type κ} (d : Dec P) (x y : A) → ¬ P → decided d x y ≡ y
  unfolding decided
  decided-no (yes h) x y p = absurd (p h)
  decided-no (no h) x y p = refl

  -- f, but a at k
  unfoldable pub set_at : ℕ → A → (ℕ → A) → ℕ → A
  set_at k a f i = decided (ℕ_discrete k i) a (f i)

  pub set_here : (k : ℕ) (a : A) (f : ℕ → A) → set_at k a f k ≡ a
  unfolding set_at
  set_here k a f = decided-yes (ℕ_discrete k k) a (f k) refl

  pub set-elsewhere : (k i : ℕ) (a : A) (f : ℕ → A) → k ≢ i → set_at k a f i ≡ f i
  unfolding set_at
  set-elsewhere k i a f h = decided-no (ℕ_discrete k i) a (f i) h

-- two places are one or not
pub same_or_not {κ} : {X : Type κ} (k i : ℕ) → (k ≡ i → X) → (k ≢ i → X) → X
same_or_not k i f g = elim (ℕ_discrete k i) [ yes h ↦ f h | no h ↦ g h ]
