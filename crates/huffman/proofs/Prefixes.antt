-- No code begins another. Tested over each pair of the 257 entries once, and carried to the bits of each pair.
use mathlib.Core.Path.{◌≡◌, refl, sym, ap, subst, ◌∙◌}
use mathlib.Core.Bool.{Bool, true, false}
use Prim.Native.Nat.{ℕ, zero, suc, ◌+◌, ◌-◌, ◌/◌, ◌^◌, ◌≤◌, ◌<◌}
use native.Mathlib.Omega.{arith}
use native.Mathlib.Nat.{mod-eq_of_lt, div-one}
use mathlib.Core.List.{List, [], ◌∷◌, ◌++◌}
use lib.ListN.{length, get_or, take, length-append}
use lib.Seq.{take_at}
use lib.Pow.{shr_lt}
use lib.Dec.{eqb, ltb, leb}
use borrow.Author.Tests.{ltb-true, leb-true, eq-eqb}
use Rattle.memory.specs.Choice.{pick}
use Rattle.memory.proofs.Order.{not-both, pick_true, split}
use Rattle.huffman.specs.Codes.{Code, codes, code_of}
use Rattle.huffman.specs.Bits.{bits_of, value_of}
use Rattle.huffman.specs.Packing.{code_bits}
use Rattle.huffman.proofs.BitLaws.{length-bits_of, bits-split, value-bits}

-- the first list begins the second
abbrev pub Begins : List Bool → List Bool → Type 0
Begins p r = (t : List Bool) × (r ≡ p ++ t)

-- ---- the tests over the table

-- neither code begins the other: cut to the shorter length they differ
unfoldable apart : Code → Code → Bool
apart c d = pick (eqb (c.value / 2 ^ (c.size - d.size)) (d.value / 2 ^ (d.size - c.size))) false true

-- a code has 5 to 30 bits, and its value fits them
unfoldable fit : Code → Bool
fit c = pick (leb 5 c.size) (pick (leb c.size 30) (ltb c.value (2 ^ c.size)) false) false

unfoldable each : (Code → Bool) → List Code → Bool
each f [] = true
each f (c ∷ cs) = pick (f c) (each f cs) false

unfoldable each_pair : List Code → Bool
each_pair [] = true
each_pair (c ∷ cs) = pick (each (apart c) cs) (each_pair cs) false

pub pick_first : (a b : Bool) → pick a b false ≡ true → a ≡ true
pick_first true b e = refl
pick_first false b e = e

pub pick_second : (a b : Bool) → pick a b false ≡ true → b ≡ true
pick_second true b e = e
pick_second false b e = let z : ◌≡◌ {A = ℕ} 0 1 = cc in absurd (omega arith)

each_at : (f : Code → Bool) (cs : List Code) → each f cs ≡ true → (i : ℕ) (d : Code) → i < length cs → f (get_or cs i d) ≡ true
unfolding each
each_at f [] t i d h = absurd (omega arith)
each_at f (c ∷ cs) t zero d h = pick_first (f c) (each f cs) t
each_at f (c ∷ cs) t (suc i) d h = each_at f cs (pick_second (f c) (each f cs) t) i d (omega arith)

pairs-at : (cs : List Code) → each_pair cs ≡ true → (i j : ℕ) (d : Code) → i < j → j < length cs → apart (get_or cs i d) (get_or cs j d) ≡ true
unfolding each_pair
pairs-at [] t i j d h b = absurd (omega arith)
pairs-at (c ∷ cs) t i zero d h b = absurd (omega arith)
pairs-at (c ∷ cs) t zero (suc j) d h b = each_at (apart c) cs (pick_first (each (apart c) cs) (each_pair cs) t) j d (omega arith)
pairs-at (c ∷ cs) t (suc i) (suc j) d h b = pairs-at cs (pick_second (each (apart c) cs) (each_pair cs) t) i j d (omega arith) (omega arith)

all_apart : each_pair codes ≡ true
unfolding each_pair each apart codes
all_apart = refl

all_fit : each fit codes ≡ true
unfolding each fit codes
all_fit = refl

pub length-codes : length codes ≡ 257
unfolding codes
length-codes = refl

-- ---- the rule, of each pair

-- a code: its length and its value's bound
pub record Fit (c : Code) : Type 0 where
  pub low : 5 ≤ c.size
  pub high : c.size ≤ 30
  pub value : c.value < 2 ^ c.size

fit-holds : (c : Code) → fit c ≡ true → Fit c
unfolding fit
fit-holds c t =
    let a = leb 5 c.size in
    let b = leb c.size 30 in
    let v = ltb c.value (2 ^ c.size) in
    let u = pick_second a (pick b v false) t in
    record {
      low = leb-true 5 c.size (pick_first a (pick b v false) t);
      high = leb-true c.size 30 (pick_first b v u);
      value = ltb-true c.value (2 ^ c.size) (pick_second b v u);
    }

pub code-fit : (i : ℕ) → i < 257 → Fit (code_of i)
unfolding code_of
code-fit i h = fit-holds (code_of i) (each_at fit codes all_fit i (record { value = 0; size = 0 }) (omega (arith, length-codes)))

pub length-code_bits : (i : ℕ) → length (code_bits i) ≡ (code_of i).size
unfolding code_bits
length-code_bits i = length-bits_of (code_of i).size (code_of i).value

codes-apart : (i j : ℕ) → i < j → j < 257 → apart (code_of i) (code_of j) ≡ true
unfolding code_of
codes-apart i j h b = pairs-at codes all_apart i j (record { value = 0; size = 0 }) h (omega (arith, length-codes))

-- a code that begins another is its highest bits
begun : (c d : Code) → Fit c → Fit d → Begins (bits_of c.size c.value) (bits_of d.size d.value)
    → (c.size ≤ d.size) × (c.value ≡ d.value / 2 ^ (d.size - c.size))
begun c d f g (t, e) =
    let l : d.size ≡ c.size + length t =
    sym (length-bits_of d.size d.value) ∙ ap length e ∙ length-append (bits_of c.size c.value) t
    ∙ ap (λ (n : ℕ). n + length t) (length-bits_of c.size c.value) in
    let k : ℕ = d.size - c.size in
    let m : d.size ≡ c.size + k = omega arith in
    let s : bits_of c.size (d.value / 2 ^ k) ++ bits_of k d.value ≡ bits_of c.size c.value ++ t =
    sym (bits-split c.size k d.value) ∙ ap (λ (n : ℕ). bits_of n d.value) (sym m) ∙ e in
    let u : bits_of c.size (d.value / 2 ^ k) ≡ bits_of c.size c.value =
    sym (take_at (bits_of c.size (d.value / 2 ^ k)) (bits_of k d.value) c.size (length-bits_of c.size (d.value / 2 ^ k)))
    ∙ ap (take c.size) s ∙ take_at (bits_of c.size c.value) t c.size (length-bits_of c.size c.value) in
    let b : d.value / 2 ^ k < 2 ^ c.size = shr_lt c.size k (subst (λ (n : ℕ). d.value < 2 ^ n) m g.value) in (
      omega arith,
      sym (mod-eq_of_lt f.value) ∙ sym (value-bits c.size c.value) ∙ ap value_of (sym u)
          ∙ value-bits c.size (d.value / 2 ^ k) ∙ mod-eq_of_lt b,
    )

-- cut to the shorter length they do not differ
not-apart : (c d : Code) → c.value / 2 ^ (c.size - d.size) ≡ d.value / 2 ^ (d.size - c.size) → apart c d ≡ true → ⊥
unfolding apart
not-apart c d e t =
    let x = c.value / 2 ^ (c.size - d.size) in
    let y = d.value / 2 ^ (d.size - c.size) in
    not-both (pick (eqb x y) false true) t (pick_true (eqb x y) false true (eq-eqb x y e))

cut : (c d : Code) → c.size ≤ d.size → c.value / 2 ^ (c.size - d.size) ≡ c.value
cut c d h = let z : c.size - d.size ≡ 0 = omega arith in rw z (div-one c.value)

-- "no code begins another"
pub no-code-begins : (i j : ℕ) → i < 257 → j < 257 → Begins (code_bits i) (code_bits j) → i ≡ j
unfolding code_bits
no-code-begins i j h k b = split i j below (λ g. split j i above (λ l. omega arith))
  where
    c : Code
    c = code_of i

    d : Code
    d = code_of j

    s : (c.size ≤ d.size) × (c.value ≡ d.value / 2 ^ (d.size - c.size))
    s = begun c d (code-fit i h) (code-fit j k) b

    below : i < j → i ≡ j
    below l = absurd (not-apart c d (cut c d s.0 ∙ s.1) (codes-apart i j l k))

    above : j < i → i ≡ j
    above l = absurd (not-apart d c (sym (cut c d s.0 ∙ s.1)) (codes-apart j i l h))

-- ---- the code is complete: the shares of the codes, each a part of all bit strings of 30 bits, make one whole

unfoldable pub share : List Code → ℕ
share [] = 0
share (c ∷ cs) = 2 ^ (30 - c.size) + share cs

pub code-complete : share codes ≡ 2 ^ 30
unfolding share codes
code-complete = refl
