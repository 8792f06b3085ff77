-- Which code begins the bits: at most one does, so the first that is found is the one.
use mathlib.Core.Path.{◌≡◌, refl, sym, ap, subst, ◌∙◌}
use mathlib.Core.Bool.{Bool, true, false}
use Prim.Native.Nat.{ℕ, zero, suc, ◌+◌, ◌<◌}
use native.Mathlib.Omega.{arith}
use native.Mathlib.Nat.{add-zero}
use mathlib.Core.List.{List, [], ◌∷◌, ◌++◌}
use lib.ListN.{length, get_or, drop}
use Rattle.memory.proofs.Order.{split, either, pick_true, pick-false}
use Rattle.huffman.specs.Codes.{Code, codes, code_of}
use Rattle.huffman.specs.Bits.{bits_of, begins}
use Rattle.huffman.specs.Packing.{code_bits, entry, none, standing_in, standing}
use Rattle.huffman.proofs.BitLaws.{begins-front, begins-rest, begins-shorter}
use Rattle.huffman.proofs.Prefixes.{Begins, length-codes, no-code-begins}

-- the bits of one of these codes
abbrev bits_at : List Code → ℕ → List Bool
bits_at cs i = bits_of (get_or cs i (record { value = 0; size = 0 })).size (get_or cs i (record { value = 0; size = 0 })).value

-- two codes that begin the same bits are one
pub one_code : (i j : ℕ) (a b : List Bool) → i < 257 → j < 257 → code_bits i ++ a ≡ code_bits j ++ b → i ≡ j
one_code i j a b h k e =
    split (length (code_bits i)) (length (code_bits j))
    (λ l. no-code-begins i j h k (drop (length (code_bits i)) (code_bits j), begins-shorter (code_bits i) a (code_bits j) b e (omega arith)))
    (λ l. sym (no-code-begins j i k h (drop (length (code_bits j)) (code_bits i), begins-shorter (code_bits j) b (code_bits i) a (sym e) l)))

-- ---- the search

found_first : (cs : List Code) (k i : ℕ) (r : List Bool) → i < length cs → begins (bits_at cs i) r ≡ true
    → ((j : ℕ) → j < i → begins (bits_at cs j) r ≡ false) → standing_in cs k r ≡ entry (k + i)
unfolding standing_in
found_first [] k i r h t f = absurd (omega arith)
found_first (c ∷ cs) k zero r h t f = pick_true (begins (bits_of c.size c.value) r) (entry k) (standing_in cs (k + 1) r) t ∙ ap entry (sym (add-zero k))
found_first (c ∷ cs) k (suc i) r h t f =
    let e : k + 1 + i ≡ k + suc i = omega arith in
    pick-false (begins (bits_of c.size c.value) r) (entry k) (standing_in cs (k + 1) r) (f 0 (omega arith))
    ∙ found_first cs (k + 1) i r (omega arith) t (λ j b. f (suc j) (omega arith)) ∙ ap entry e

found_none : (cs : List Code) (k : ℕ) (r : List Bool) → ((j : ℕ) → j < length cs → begins (bits_at cs j) r ≡ false) → standing_in cs k r ≡ none
unfolding standing_in
found_none [] k r f = refl
found_none (c ∷ cs) k r f =
    pick-false (begins (bits_of c.size c.value) r) (entry k) (standing_in cs (k + 1) r) (f 0 (omega arith))
    ∙ found_none cs (k + 1) r (λ j b. f (suc j) (omega arith))

-- what is found begins the bits
record Found (cs : List Code) (k i : ℕ) (r : List Bool) : Type 0 where
  place : ℕ
  within : place < length cs
  number : i ≡ k + place
  stands : begins (bits_at cs place) r ≡ true

found-stands : (cs : List Code) (k i : ℕ) (r : List Bool) → standing_in cs k r ≡ entry i → Found cs k i r
unfolding standing_in
found-stands [] k i r e = let z : ◌≡◌ {A = ℕ} 0 1 = cc in absurd (omega arith)
found-stands (c ∷ cs) k i r e =
    either (begins (bits_of c.size c.value) r)
    (λ t. here t (sym (pick_true (begins (bits_of c.size c.value) r) (entry k) (standing_in cs (k + 1) r) t) ∙ e))
    (λ t. there (found-stands cs (k + 1) i r (sym (pick-false (begins (bits_of c.size c.value) r) (entry k) (standing_in cs (k + 1) r) t) ∙ e)))
  where
    here : begins (bits_of c.size c.value) r ≡ true → entry k ≡ entry i → Found (c ∷ cs) k i r
    here t d = let n : k ≡ i = cc in record { place = 0; within = omega arith; number = omega arith; stands = t }

    there : Found cs (k + 1) i r → Found (c ∷ cs) k i r
    there f =
        let w = f.within in
        let n = f.number in
        record { place = suc f.place; within = omega arith; number = omega arith; stands = f.stands }

-- ---- the laws

pub standing-code : (i : ℕ) (r : List Bool) → i < 257 → standing (code_bits i ++ r) ≡ entry i
unfolding standing code_bits code_of
standing-code i r h =
    found_first codes 0 i (code_bits i ++ r) (omega (arith, length-codes)) (begins-front (code_bits i) r) others ∙ ap entry (omega arith)
  where
    others : (j : ℕ) → j < i → begins (bits_at codes j) (code_bits i ++ r) ≡ false
    others j b =
        either (begins (code_bits j) (code_bits i ++ r))
        (λ t. absurd (apart j b (one_code i j r (drop (length (code_bits j)) (code_bits i ++ r)) h (omega arith) (begins-rest (code_bits j) (code_bits i ++ r) t))))
        (λ t. t)
      where
        apart : (j : ℕ) → j < i → i ≡ j → ⊥
        apart j b e = omega arith

pub standing-none : (r : List Bool) → ((j : ℕ) → j < 257 → Begins (code_bits j) r → ⊥) → standing r ≡ none
unfolding standing code_bits code_of
standing-none r f =
    found_none codes 0 r (λ j b. either (begins (code_bits j) r)
    (λ t. absurd (f j (omega (arith, length-codes)) (drop (length (code_bits j)) r, begins-rest (code_bits j) r t))) (λ t. t))

pub standing-begins : (r : List Bool) (i : ℕ) → standing r ≡ entry i → (i < 257) × (r ≡ code_bits i ++ drop (length (code_bits i)) r)
unfolding standing code_bits code_of
standing-begins r i e =
    let f = found-stands codes 0 i r e in
    let w = f.within in
    let n : i ≡ f.place = f.number ∙ omega arith in
    (omega (arith, length-codes), subst (λ (j : ℕ). r ≡ code_bits j ++ drop (length (code_bits j)) r) (sym n) (begins-rest (code_bits f.place) r f.stands))
