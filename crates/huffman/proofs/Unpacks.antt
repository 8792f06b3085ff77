-- Bits unpacked, a code at a time: the three ways on, and what a result says.
use mathlib.Core.Path.{◌≡◌, refl, sym, ap, subst, ◌∙◌}
use mathlib.Core.Bool.{Bool, true, false}
use Prim.Native.Nat.{ℕ, zero, suc, ◌+◌, ◌-◌, ◌*◌, ◌/◌, ◌≤◌, ◌<◌}
use native.Mathlib.Omega.{arith}
use mathlib.Core.List.{List, [], ◌∷◌, ◌++◌, append_assoc}
use lib.ListN.{length, drop, length-append, length-replicate, replicate-append-replicate}
use lib.Seq.{drop_at}
use lib.Dec.{ltb}
use borrow.Author.Tests.{lt-ltb, ltb-true}
use Rattle.memory.specs.Choice.{pick}
use Rattle.memory.specs.Bytes.{Small}
use Rattle.memory.proofs.Order.{either, pick_true, pick-false}
use Rattle.memory.proofs.Overlay.{small-cons}
use Rattle.huffman.specs.Codes.{codes, code_of, end_mark}
use Rattle.huffman.specs.Bits.{bits_of, bits, ones, begins}
use Rattle.huffman.specs.Packing.{
  code_bits,
  codes_of,
  Unpacked,
  whole,
  ended,
  before,
  Standing,
  entry,
  none,
  standing,
  padding,
  on_standing,
  unpack_bits,
  unpack,
}
use Rattle.huffman.proofs.BitLaws.{nope, length-bits, begins-front}
use Rattle.huffman.proofs.Prefixes.{Begins, code-fit, length-code_bits, no-code-begins}
use Rattle.huffman.proofs.Standings.{standing-code, standing-none, standing-begins}

-- what stands decides: a byte's code, the end mark, or no code
abbrev after : ℕ → List Bool → Standing → Unpacked
after n r s =
    on_standing (ended (padding r)) s (λ i. pick (ltb i end_mark) (before i (unpack_bits n (drop (code_of i).size r))) (ended false))

step : (n : ℕ) (r : List Bool) (s : Standing) → standing r ≡ s → unpack_bits (suc n) r ≡ after n r s
unfolding unpack_bits
step n r s e = ap (after n r) e

pub unpack-byte : (n i : ℕ) (r : List Bool) → i < 256 → unpack_bits (suc n) (code_bits i ++ r) ≡ before i (unpack_bits n r)
unpack-byte n i r h =
    step n (code_bits i ++ r) (entry i) (standing-code i r (omega arith))
    ∙ pick_true (ltb i 256) (before i (unpack_bits n (drop (code_of i).size (code_bits i ++ r)))) (ended false) (lt-ltb i 256 h)
    ∙ ap (λ (l : List Bool). before i (unpack_bits n l)) (drop_at (code_bits i) r (code_of i).size (length-code_bits i))

pub unpack-mark : (n : ℕ) (r : List Bool) → unpack_bits (suc n) (code_bits 256 ++ r) ≡ ended false
unpack-mark n r = step n (code_bits 256 ++ r) (entry 256) (standing-code 256 r (omega arith))

pub unpack-end : (n : ℕ) (r : List Bool) → ((j : ℕ) → j < 257 → Begins (code_bits j) r → ⊥) → unpack_bits (suc n) r ≡ ended (padding r)
unpack-end n r f = step n r none (standing-none r f)

-- ---- what every result says, by the ways to it

-- the three ways, at a known result
ways : (P : Unpacked → Type 0) (n : ℕ) (r : List Bool)
    → ((i : ℕ) (t : List Bool) → i < 256 → r ≡ code_bits i ++ t → P (before i (unpack_bits n t)))
    → P (ended false) → (standing r ≡ none → P (ended (padding r))) → P (unpack_bits (suc n) r)
ways P n r f m g = go (standing r) refl
  where
    at_entry : (i : ℕ) → standing r ≡ entry i → P (after n r (entry i))
    at_entry i e =
        let b = standing-begins r i e in
        let t : List Bool = drop (code_of i).size r in
        let d : r ≡ code_bits i ++ t = subst (λ (k : ℕ). r ≡ code_bits i ++ drop k r) (length-code_bits i) b.1 in
        either (ltb i 256)
        (λ l. subst P (sym (pick_true (ltb i 256) (before i (unpack_bits n t)) (ended false) l)) (f i t (ltb-true i 256 l) d))
        (λ l. subst P (sym (pick-false (ltb i 256) (before i (unpack_bits n t)) (ended false) l)) m)

    go : (s : Standing) → standing r ≡ s → P (unpack_bits (suc n) r)
    go (entry i) e = subst P (sym (step n r (entry i) e)) (at_entry i e)
    go none e = subst P (sym (step n r none e)) (g e)

-- bytes
pub small-unpack_bits : (n : ℕ) (r : List Bool) → Small (unpack_bits n r).bytes
small-unpack_bits zero r = unfold unpack_bits in (λ k. omega arith)
small-unpack_bits (suc n) r =
    ways (λ (u : Unpacked). Small u.bytes) n r
    (λ i t h e. small-cons i (unpack_bits n t).bytes h (small-unpack_bits n t)) (λ k. omega arith) (λ e k. omega arith)

-- at least five bits for each
pub length-unpack_bits : (n : ℕ) (r : List Bool) → 5 * length (unpack_bits n r).bytes ≤ length r
length-unpack_bits zero r = unfold unpack_bits in omega arith
length-unpack_bits (suc n) r =
    ways (λ (u : Unpacked). 5 * length u.bytes ≤ length r) n r
    (λ i t h e. longer i t h e (length-unpack_bits n t)) (omega arith) (λ e. omega arith)
  where
    longer : (i : ℕ) (t : List Bool) → i < 256 → r ≡ code_bits i ++ t → 5 * length (unpack_bits n t).bytes ≤ length t
        → 5 * suc (length (unpack_bits n t).bytes) ≤ length r
    longer i t h e b = omega (arith, ap length e, length-append (code_bits i) t, length-code_bits i, (code-fit i (omega arith)).low)

pub small-unpack : (b : List ℕ) → Small (unpack b).bytes
unfolding unpack
small-unpack b = small-unpack_bits (length (bits b) + 1) (bits b)

pub length-unpack : (b : List ℕ) → length (unpack b).bytes ≤ 8 * length b / 5
unfolding unpack
length-unpack b = omega (arith, length-unpack_bits (length (bits b) + 1) (bits b), length-bits b)

-- ---- a whole string is its codes and the padding

pub padding-ones : (r : List Bool) (n : ℕ) → begins r (ones n) ≡ true → (length r ≤ n) × (r ≡ ones (length r))
unfolding begins
padding-ones [] n e = (omega arith, refl)
padding-ones (b ∷ r) zero e = nope e
padding-ones (true ∷ r) (suc n) e = let p = padding-ones r n e in (omega (arith, p.0), ap (λ (l : List Bool). true ∷ l) p.1)
padding-ones (false ∷ r) (suc n) e = nope e

-- bits that are the codes of bytes, with at most seven ones behind them
pub record Coded (r : List Bool) (xs : List ℕ) : Type 0 where
  pub spare : ℕ
  pub few : spare ≤ 7
  pub bytes : Small xs
  pub codes : r ≡ codes_of xs ++ ones spare

no_bytes : (r : List Bool) (xs : List ℕ) → ended (padding r) ≡ whole xs → Coded r xs
unfolding padding codes_of
no_bytes r xs e =
    let p = padding-ones r 7 (ap (λ (u : Unpacked). u.whole) e) in
    let d : [] ≡ xs = ap (λ (u : Unpacked). u.bytes) e in
    subst (Coded r) d (record { spare = length r; few = p.0; bytes = λ k. omega arith; codes = p.1 })

one_byte : (i : ℕ) (r t : List Bool) (u : Unpacked) (xs : List ℕ) → i < 256 → r ≡ code_bits i ++ t → (u.whole ≡ true → Coded t u.bytes)
    → before i u ≡ whole xs → Coded r xs
unfolding codes_of
one_byte i r t u xs h e f d =
    let c = f (ap (λ (v : Unpacked). v.whole) d) in
    let b : i ∷ u.bytes ≡ xs = ap (λ (v : Unpacked). v.bytes) d in
    subst (Coded r) b (record {
      spare = c.spare;
      few = c.few;
      bytes = small-cons i u.bytes h c.bytes;
      codes = e ∙ ap (λ (l : List Bool). code_bits i ++ l) c.codes ∙ sym (append_assoc (code_bits i) (codes_of u.bytes) (ones c.spare));
    })

pub whole-coded : (n : ℕ) (r : List Bool) (xs : List ℕ) → unpack_bits n r ≡ whole xs → Coded r xs
whole-coded zero r xs e = unfold unpack_bits in nope (ap (λ (u : Unpacked). u.whole) e)
whole-coded (suc n) r xs e =
    ways (λ (u : Unpacked). u ≡ whole xs → Coded r xs) n r
    (λ i t h d w. one_byte i r t (unpack_bits n t) xs h d
    (λ l. whole-coded n t (unpack_bits n t).bytes (ap (λ (b : Bool). record { bytes = (unpack_bits n t).bytes; whole = b }) l)) w)
    (λ w. nope (ap (λ (u : Unpacked). u.whole) w)) (λ s w. no_bytes r xs w) e

-- ---- and the other way

pub ones-join : (k n : ℕ) → k ≤ n → ones n ≡ ones k ++ ones (n - k)
ones-join k n h = let e : n ≡ k + (n - k) = omega arith in ap ones e ∙ sym (replicate-append-replicate k (n - k) true)

mark-ones : code_bits 256 ≡ ones 30
unfolding code_bits code_of codes bits_of
mark-ones = refl

-- the padding begins the end mark, so no code begins it
pub no-code-in-padding : (k j : ℕ) → k ≤ 7 → j < 257 → Begins (code_bits j) (ones k) → ⊥
no-code-in-padding k j h b (t, e) =
    let d : code_bits 256 ≡ code_bits j ++ (t ++ ones (30 - k)) =
    mark-ones ∙ ones-join k 30 (omega arith) ∙ ap (λ (l : List Bool). l ++ ones (30 - k)) e ∙ append_assoc (code_bits j) t (ones (30 - k)) in
    let i : j ≡ 256 = no-code-begins j 256 b (omega arith) (t ++ ones (30 - k), d) in
    let l : length (code_bits j) ≡ 30 = ap (λ (m : ℕ). length (code_bits m)) i ∙ ap length mark-ones in
    omega (arith, ap length e, length-append (code_bits j) t, length-replicate k true)

pub padded : (k : ℕ) → k ≤ 7 → padding (ones k) ≡ true
unfolding padding
padded k h = ap (begins (ones k)) (ones-join k 7 h) ∙ begins-front (ones k) (ones (7 - k))

pub coded-whole : (n : ℕ) (xs : List ℕ) (k : ℕ) → Small xs → k ≤ 7 → length xs < n → unpack_bits n (codes_of xs ++ ones k) ≡ whole xs
unfolding codes_of
coded-whole zero xs k s h b = absurd (omega arith)
coded-whole (suc n) [] k s h b =
    unpack-end n (ones k) (λ j l. no-code-in-padding k j h l) ∙ ap ended (padded k h)
coded-whole (suc n) (x ∷ xs) k s h b =
    ap (unpack_bits (suc n)) (append_assoc (code_bits x) (codes_of xs) (ones k)) ∙ unpack-byte n x (codes_of xs ++ ones k) (s 0)
    ∙ ap (before x) (coded-whole n xs k (λ i. s (suc i)) h (omega arith))
