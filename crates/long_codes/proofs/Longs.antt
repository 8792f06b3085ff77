-- The longer codes, found by their ranks. Each length is tested at once: its codes are numbers in a row, and so are their ranks.
use mathlib.Core.Path.{◌≡◌, refl, sym, ap, ap₂, ◌∙◌}
use mathlib.Core.Bool.{Bool, true, false}
use Prim.Native.Nat.{ℕ, zero, suc, ◌+◌, ◌-◌, ◌*◌, ◌/◌, ◌^◌, ◌≤◌, ◌<◌}
use native.Mathlib.Omega.{arith}
use native.Mathlib.Nat.{add-zero}
use lib.ListN.{length, get_or-eq_default}
use lib.Dec.{eqb, ltb}
use borrow.Author.Tests.{ltb-true, eqb-true}
use Rattle.std.proofs.lemmas.Bool.{agree_below, agree_below_at}
use Rattle.memory.specs.Choice.{pick}
use Rattle.memory.proofs.Order.{split}
use Rattle.huffman.specs.Codes.{code_of}
use Rattle.huffman.proofs.Prefixes.{pick_first, pick_second}
use Rattle.long_codes.specs.Fronts.{long_bytes, by_rank, LongFront}

length-long_bytes : length long_bytes ≡ 182
unfolding long_bytes
length-long_bytes = refl

pub last_byte : (rank : ℕ) → 181 ≤ rank → by_rank rank ≡ 22
unfolding by_rank long_bytes
last_byte rank h =
    split rank 182 (λ l. let e : rank ≡ 181 = omega arith in ap by_rank e)
    (λ l. get_or-eq_default long_bytes 22 {n = rank} (omega (arith, length-long_bytes)))

-- has the byte of this rank a code of this size and value?
unfoldable pub right : ℕ → ℕ → ℕ → Bool
right size value rank =
    pick (ltb (by_rank rank) 256) (pick (eqb (code_of (by_rank rank)).size size) (eqb (code_of (by_rank rank)).value value) false) false

-- and so n of them in a row
unfoldable pub row : ℕ → ℕ → ℕ → ℕ → Bool
row size zero value rank = true
row size (suc n) value rank = pick (right size value rank) (row size n (value + 1) (rank + 1)) false

row_at : (size n value rank : ℕ) → row size n value rank ≡ true → (k : ℕ) → k < n → right size (value + k) (rank + k) ≡ true
unfolding row
row_at size zero value rank t k h = absurd (omega arith)
row_at size (suc n) value rank t zero h =
    ap₂ (right size) (add-zero value) (add-zero rank) ∙ pick_first (right size value rank) (row size n (value + 1) (rank + 1)) t
row_at size (suc n) value rank t (suc k) h =
    let e : value + suc k ≡ value + 1 + k = omega arith in
    let d : rank + suc k ≡ rank + 1 + k = omega arith in
    ap₂ (right size) e d
    ∙ row_at size n (value + 1) (rank + 1) (pick_second (right size value rank) (row size n (value + 1) (rank + 1)) t) k (omega arith)

-- the codes of this size are n numbers from `value` on, and their ranks those from `rank` on
pub long-front : (size n value rank skipped x byte sized : ℕ) → row size n value rank ≡ true → skipped + rank ≡ value → value ≤ x / 2 ^ (32 - size)
    → x / 2 ^ (32 - size) < value + n → (byte ≡ by_rank (x / 2 ^ (32 - size) - skipped)) × (sized ≡ size) → LongFront x (256 * byte + sized)
unfolding right
long-front size n value rank skipped x byte sized t e l h d =
    let y = x / 2 ^ (32 - size) in
    let k = y - value in
    let i : y - skipped ≡ rank + k = omega arith in
    let v : value + k ≡ y = omega arith in
    let b = by_rank (rank + k) in
    let u = row_at size n value rank t k (omega arith) in
    let p = ltb b 256 in
    let q = eqb (code_of b).size size in
    let w = eqb (code_of b).value (value + k) in
    let z = pick_second p (pick q w false) u in
    let s : (code_of b).size ≡ size = eqb-true (code_of b).size size (pick_first q w z) in
    record {
      byte = b;
      within = ltb-true b 256 (pick_first p (pick q w false) u);
      said = omega (arith, d.0, d.1, ap by_rank i);
      front = ap (λ (j : ℕ). x / 2 ^ (32 - j)) s ∙ sym v ∙ sym (eqb-true (code_of b).value (value + k) (pick_second q w z));
    }

-- each is a byte
bytes_small : agree_below (λ (rank : ℕ). ltb (by_rank rank) 256) (λ _. true) 182 ≡ true
unfolding by_rank long_bytes
bytes_small = refl

pub by_rank-small : (rank : ℕ) → by_rank rank < 256
by_rank-small rank =
    split rank 182 (λ l. ltb-true (by_rank rank) 256 (agree_below_at (λ (k : ℕ). ltb (by_rank k) 256) (λ _. true) 182 rank bytes_small l))
    (λ l. omega (arith, last_byte rank (omega arith)))
