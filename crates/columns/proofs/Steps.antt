-- Steps of the functions: sizes of numbers beside a place, a number put in, one lowered, and the turns of changing numbers alike.
use mathlib.Core.Path.{◌≡◌, sym, ap, ap₂, ◌∙◌}
use Prim.Native.Nat.{ℕ, suc, ◌+◌, ◌*◌, ◌-◌, ◌≤◌, ◌<◌}
use native.Mathlib.Omega.{arith}
use native.Mathlib.Nat.{mul-add}
use mathlib.Core.List.{List}
use lib.Dec.{ltb}
use borrow.Author.Tests.{lt-ltb, le-ltb}
use Rattle.memory.specs.Choice.{pick}
use Rattle.memory.specs.Bytes.{overlay, moved}
use Rattle.memory.specs.Numbers.{number, number_bytes}
use Rattle.memory.proofs.Order.{pick_true, pick-false}
use Rattle.columns.specs.Columns.{column_opened, changed}

-- the numbers before a place, and those from it on
pub size-split : (w place count : ℕ) → place ≤ count → w * count ≡ w * place + w * (count - place)
size-split w place count h =
    let e : count ≡ place + (count - place) = omega arith in
    ap (λ (k : ℕ). w * k) e ∙ mul-add w place (count - place)

-- those before it, the one at it, and those behind it
pub size-about : (w place count : ℕ) → place < count → w * count ≡ w * place + w + w * (count - (place + 1))
size-about w place count h = omega (arith, size-split w (place + 1) count (omega arith))

-- a number's bytes put in at a place
pub opened : (w : ℕ) (m out bytes : List ℕ) (at place count x : ℕ) → bytes ≡ number_bytes w x
    → out ≡ overlay (moved m (at + w * (place + 1)) (at + w * place) (w * (count - place))) (at + w * place) bytes → out ≡ column_opened w m at place count x
unfolding column_opened
opened w m out bytes at place count x d e = e ∙ ap (overlay (moved m (at + w * (place + 1)) (at + w * place) (w * (count - place))) (at + w * place)) d

-- a number above a limit is lowered by one, and another stays
abbrev pub lowered : ℕ → ℕ → ℕ
lowered limit x = pick (ltb limit x) (x - 1) x

module _ (limit old x : ℕ) where
  pub lowered-above : limit < old → x ≡ old - 1 → x ≡ lowered limit old
  lowered-above h e = e ∙ sym (pick_true (ltb limit old) (old - 1) old (lt-ltb limit old h))

  pub lowered-not : old ≤ limit → x ≡ old → x ≡ lowered limit old
  lowered-not h e = e ∙ sym (pick-false (ltb limit old) (old - 1) old (le-ltb limit old h))

-- ---- what is left to change makes of memory what the whole makes of it at entry

module _ (f : ℕ → ℕ) (w n : ℕ) (m : List ℕ) (at : ℕ) where
  pub change-all : changed f w n m at ≡ changed f w (n - 0) m (at + w * 0)
  change-all =
      let k : n ≡ n - 0 = omega arith in
      let j : at ≡ at + w * 0 = omega arith in
      ap₂ (λ (a b : ℕ). changed f w a m b) k j

  pub change-none : (i : ℕ) → n ≤ i → changed f w (n - i) m (at + w * i) ≡ m
  unfolding changed
  change-none i l =
      let k : n - i ≡ 0 = omega arith in
      ap (λ (a : ℕ). changed f w a m (at + w * i)) k

  -- a turn stores the number x, which has the bytes of the changed one
  pub change-turn : (i : ℕ) → i < n → (x : ℕ) → number_bytes w x ≡ number_bytes w (f (number w m (at + w * i)))
      → (one : List ℕ) → one ≡ overlay m (at + w * i) (number_bytes w x)
      → changed f w (n - i) m (at + w * i) ≡ changed f w (n - (i + 1)) one (at + w * (i + 1))
  unfolding changed
  change-turn i l x e one stored =
      let k : n - i ≡ suc (n - (i + 1)) = omega arith in
      let j : at + w * i + w ≡ at + w * (i + 1) = omega arith in
      ap (λ (a : ℕ). changed f w a m (at + w * i)) k
      ∙ ap₂ (λ (l : List ℕ) (b : ℕ). changed f w (n - (i + 1)) l b) (ap (overlay m (at + w * i)) (sym e) ∙ sym stored) j
