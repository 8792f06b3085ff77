-- Bytes compared by a word at their start and a word at their end, which may overlap. By the law of splitting a comparison.
use mathlib.Core.Path.{◌≡◌, refl, sym, ap, ap₂, ◌∙◌}
use Prim.Native.Nat.{ℕ, ◌+◌, ◌-◌, ◌≤◌}
use native.Mathlib.Nat.{zero-add}
use native.Mathlib.Omega.{arith}
use mathlib.Core.Bool.{Bool, true, false}
use mathlib.Core.List.{List}
use Rattle.memory.specs.Choice.{pick}
use Rattle.memory.specs.Bytes.{Small}
use Rattle.memory.specs.Numbers.{number}
use Rattle.memory.specs.Compare.{same_at}
use Rattle.memory.proofs.Order.{either, pick_true, pick-false, not-both}
use Rattle.memory.proofs.Sameness.{same_at-split, number-same_at, same_at-number}

pick-fails : (p : Bool) → pick p false false ≡ false
pick-fails true = refl
pick-fails false = refl

pick_first : (p q : Bool) → pick p q false ≡ true → p ≡ true
pick_first true q e = refl
pick_first false q e = not-both false e refl

-- n bytes of a from the place i on and of b from its start, by words of w
module _ (n w : ℕ) (a : List ℕ) (i : ℕ) (b : List ℕ) (h : w ≤ n) where
  word-differs : (x y : ℕ) → (number w a x ≡ number w b y → ⊥) → same_at w a x b y ≡ false
  word-differs x y f = either (same_at w a x b y) (λ t. absurd (f (same_at-number w a x b y t))) (λ t. t)

  by_last : same_at n a i b 0 ≡ pick (same_at (n - w) a i b 0) (same_at w a (i + (n - w)) b (n - w)) false
  by_last =
      let e : n ≡ n - w + w = omega arith in
      ap (λ (k : ℕ). same_at k a i b 0) e ∙ (rw (zero-add (n - w)) at (same_at-split (n - w) w a i b 0))

  -- the first w bytes and the last decide
  pub ends : n ≤ w + w → same_at n a i b 0 ≡ pick (same_at w a i b 0) (same_at w a (i + (n - w)) b (n - w)) false
  ends k =
      let m : ℕ = n - w in
      let d : w ≡ m + (w - m) = omega arith in
      let e : w ≡ w - m + m = omega arith in
      let first : same_at w a i b 0 ≡ pick (same_at m a i b 0) (same_at (w - m) a (i + m) b (0 + m)) false =
      ap (λ (j : ℕ). same_at j a i b 0) d ∙ same_at-split m (w - m) a i b 0
      in
      let last : same_at w a (i + m) b m ≡ pick (same_at (w - m) a (i + m) b m) (same_at m a (i + m + (w - m)) b (m + (w - m))) false =
      ap (λ (j : ℕ). same_at j a (i + m) b m) e ∙ same_at-split (w - m) m a (i + m) b m
      in
      by_last
      ∙ ap (λ (t : Bool). pick (same_at m a i b 0) t false) last
      ∙ both (same_at m a i b 0) (same_at (w - m) a (i + m) b m) (same_at m a (i + m + (w - m)) b (m + (w - m)))
      ∙ sym (ap₂ (λ (p q : Bool). pick p q false) (rw (zero-add m) at first) last)
    where
      both : (p q r : Bool) → pick p (pick q r false) false ≡ pick (pick p q false) (pick q r false) false
      both true true r = refl
      both true false r = refl
      both false q r = refl

  pub ends-first : (number w a i ≡ number w b 0 → ⊥) → same_at n a i b 0 ≡ false
  ends-first f =
      let e : n ≡ w + (n - w) = omega arith in
      ap (λ (k : ℕ). same_at k a i b 0) e ∙ same_at-split w (n - w) a i b 0 ∙ pick-false (same_at w a i b 0) _ false (word-differs i 0 f)

  pub ends_last : (number w a (i + (n - w)) ≡ number w b (n - w) → ⊥) → same_at n a i b 0 ≡ false
  ends_last f = by_last ∙ ap (λ (t : Bool). pick (same_at (n - w) a i b 0) t false) (word-differs (i + (n - w)) (n - w) f) ∙ pick-fails (same_at (n - w) a i b 0)

  pub ends-both : n ≤ w + w → Small a → Small b → number w a i ≡ number w b 0 → number w a (i + (n - w)) ≡ number w b (n - w) → same_at n a i b 0 ≡ true
  ends-both k s t first last =
      let e : w ≡ n - w + (w - (n - w)) = omega arith in
      let split : same_at w a i b 0 ≡ pick (same_at (n - w) a i b 0) (same_at (w - (n - w)) a (i + (n - w)) b (0 + (n - w))) false =
      ap (λ (j : ℕ). same_at j a i b 0) e ∙ same_at-split (n - w) (w - (n - w)) a i b 0 in
      by_last
      ∙ pick_true (same_at (n - w) a i b 0) _ false (pick_first (same_at (n - w) a i b 0) _ (sym split ∙ number-same_at w a i b 0 s t first))
      ∙ number-same_at w a (i + (n - w)) b (n - w) s t last
