-- Packed bytes: how many there are, and their bits, which are the codes with at most seven ones behind them.
use mathlib.Core.Path.{◌≡◌, refl, ap, ap₂, ◌∙◌}
use mathlib.Core.Bool.{Bool, true}
use Prim.Native.Nat.{ℕ, zero, suc, ◌+◌, ◌-◌, ◌*◌, ◌≤◌}
use native.Mathlib.Omega.{arith}
use mathlib.Core.List.{List, [], ◌∷◌, ◌++◌}
use lib.ListN.{length, take, length-append, get_or-eq_default}
use lib.Seq.{take-append-add}
use Rattle.memory.specs.Bytes.{Small}
use Rattle.memory.proofs.Order.{split}
use Rattle.huffman.specs.Codes.{Code, codes, code_of}
use Rattle.huffman.specs.Bits.{bits, ones}
use Rattle.huffman.specs.Packing.{code_bits, codes_of, codes_size, packed_size, pack}
use Rattle.huffman.proofs.BitLaws.{length-bytes_of, small-bytes_of, bits-bytes}
use Rattle.huffman.proofs.Prefixes.{length-codes, code-fit, length-code_bits}

-- ---- sizes

-- a code has at most 30 bits
pub size-most : (i : ℕ) → (code_of i).size ≤ 30
unfolding code_of
size-most i = split i 257 (λ h. (code-fit i h).high) past
  where
    past : 257 ≤ i → (code_of i).size ≤ 30
    past h =
        let e = get_or-eq_default codes (record { value = 0; size = 0 }) {n = i} (omega (arith, length-codes)) in
        let s : (code_of i).size ≡ 0 = ap (λ (c : Code). c.size) e in
        omega (arith, s)

pub length-codes_of : (xs : List ℕ) → length (codes_of xs) ≡ codes_size xs
unfolding codes_of codes_size
length-codes_of [] = refl
length-codes_of (x ∷ xs) = length-append (code_bits x) (codes_of xs) ∙ ap₂ (λ (n m : ℕ). n + m) (length-code_bits x) (length-codes_of xs)

pub codes_size-most : (xs : List ℕ) → codes_size xs ≤ 30 * length xs
unfolding codes_size
codes_size-most [] = omega arith
codes_size-most (x ∷ xs) = omega (arith, size-most x, codes_size-most xs)

-- and at least five
pub least_size : (xs : List ℕ) → Small xs → 5 * length xs ≤ codes_size xs
unfolding codes_size
least_size [] s = omega arith
least_size (x ∷ xs) s = let b = s 0 in omega (arith, (code-fit x (omega arith)).low, least_size xs (λ k. s (suc k)))

pub packed-length : (xs : List ℕ) → length (pack xs) ≡ packed_size xs
unfolding pack
packed-length xs = length-bytes_of (packed_size xs) (codes_of xs ++ ones 7)

-- a byte takes at most four
pub packed_size-most : (xs : List ℕ) → packed_size xs ≤ 4 * length xs
unfolding packed_size
packed_size-most xs = omega (arith, codes_size-most xs)

-- ---- bits

pub small-pack : (xs : List ℕ) → Small (pack xs)
unfolding pack
small-pack xs = small-bytes_of (packed_size xs) (codes_of xs ++ ones 7)

-- what is left of the last byte
unfoldable pub spare : List ℕ → ℕ
spare xs = 8 * packed_size xs - codes_size xs

pub spare-most : (xs : List ℕ) → spare xs ≤ 7
unfolding spare packed_size
spare-most xs = omega arith

take-ones : (n m : ℕ) → n ≤ m → take n (ones m) ≡ ones n
take-ones zero m h = refl
take-ones (suc n) zero h = absurd (omega arith)
take-ones (suc n) (suc m) h = ap (λ (r : List Bool). true ∷ r) (take-ones n m (omega arith))

pub packed-bits : (xs : List ℕ) → bits (pack xs) ≡ codes_of xs ++ ones (spare xs)
unfolding pack spare packed_size
packed-bits xs =
    let l = length-codes_of xs in
    let n : 8 * packed_size xs ≡ length (codes_of xs) + spare xs = omega arith in
    bits-bytes (packed_size xs) (codes_of xs ++ ones 7) (omega (arith, length-append (codes_of xs) (ones 7)))
    ∙ ap (λ (k : ℕ). take k (codes_of xs ++ ones 7)) n ∙ take-append-add (codes_of xs) (ones 7) (spare xs)
    ∙ ap (λ (r : List Bool). codes_of xs ++ r) (take-ones (spare xs) 7 (spare-most xs))
