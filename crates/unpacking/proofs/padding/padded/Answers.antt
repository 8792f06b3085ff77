use Prim.Native.Nat.{ℕ, ◌+◌, ◌-◌, ◌*◌, ◌/◌, ◌%◌, ◌^◌, ◌≤◌, ◌<◌}
use mathlib.Core.Path.{◌≡◌, sym, ap, ap₂, ◌∙◌}
use native.Mathlib.Omega.{arith}
use native.Mathlib.Nat.{mod-eq_of_lt, one-mul}
use lib.Dec.{eqb}
use lib.Pow.{pow-lt, pow_pos, shr-shr}
use borrow.Author.Tests.{eqb-true, eq-eqb}
use Rattle.memory.proofs.Order.{either, not-both}
use Rattle.huffman.specs.Packing.{padding}
use Rattle.unpacking.specs.Waiting.{highest}
use Rattle.unpacking.proofs.Highest.{padded-long, padded-true, padded-false}
use Rattle.unpacking.proofs.padding.padded.Goals as goal

-- `unpacking::padding::padded` meets its contract: at most seven bits, and as a number all ones.
full : (n : ℕ) → n < 64 → 1 * 2 ^ n % 2 ^ 64 ≡ 2 ^ n
full n h = ap (λ (x : ℕ). x % 2 ^ 64) (one-mul (2 ^ n)) ∙ mod-eq_of_lt (pow-lt {i = n} {j = 64} h)

high : (n w : ℕ) → n ≤ 7 → w / 281474976710656 / 2 ^ (16 - n) ≡ w / 2 ^ (64 - n)
high n w h = let e : 48 + (16 - n) ≡ 64 - n = omega arith in shr-shr w 48 (16 - n) ∙ ap (λ (j : ℕ). w / 2 ^ j) e

test : (n w : ℕ) → n ≤ 7 → w < 2 ^ 64 → eqb (w / 2 ^ (64 - n)) (2 ^ n - 1) ≡ padding (highest n w)
test n w h b =
    let x = w / 2 ^ (64 - n) in
    let y = 2 ^ n - 1 in
    either (eqb x y) (λ t. t ∙ sym (padded-true n w h b (eqb-true x y t)))
    (λ t. t ∙ sym (padded-false n w h b (λ e. not-both (eqb x y) (eq-eqb x y e) t)))

pub returns-then-n-gt7 : goal.returns-then-n-gt7
returns-then-n-gt7 c = sym (padded-long c.args.n c.args.w c.if-n-gt7.true)

pub overflow_sub-result-2 : goal.overflow_sub-result-2
overflow_sub-result-2 c = let n = c.args.n in omega (arith, full n c.requires, pow_pos n)

pub returns : goal.returns
returns c =
    let n = c.args.n in
    let w = c.args.w in
    ap₂ (λ (x y : ℕ). eqb x (y - 1)) (high n w c.if-n-gt7.false) (full n c.requires) ∙ test n w (omega arith) (omega arith)
