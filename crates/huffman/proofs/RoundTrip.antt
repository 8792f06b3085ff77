-- What was packed unpacks to the same bytes, and a string that unpacks whole is what its bytes pack to: each string of bytes has one packed form.
use mathlib.Core.Path.{◌≡◌, sym, ap, ◌∙◌}
use mathlib.Core.Bool.{Bool, true}
use Prim.Native.Nat.{ℕ, ◌+◌, ◌-◌, ◌*◌, ◌≤◌}
use native.Mathlib.Omega.{arith}
use mathlib.Core.List.{List, ◌++◌, append_assoc}
use lib.ListN.{length, length-append, length-replicate}
use Rattle.memory.specs.Bytes.{part, Has, Small}
use Rattle.memory.proofs.Places.{has_part}
use Rattle.huffman.specs.Bits.{bits, bytes_of, ones}
use Rattle.huffman.specs.Packing.{codes_of, packed_size, pack, whole, unpack_bits, unpack}
use Rattle.huffman.proofs.BitLaws.{length-bits, bytes_bits}
use Rattle.huffman.proofs.Packs.{length-codes_of, least_size, packed-length, packed_size-most, packed-bits, spare, spare-most}
use Rattle.huffman.proofs.Unpacks.{ones-join, whole-coded, coded-whole}

-- "unpacking what was packed gives the string back"
pub pack-unpack : (xs : List ℕ) → Small xs → unpack (pack xs) ≡ whole xs
unfolding unpack
pack-unpack xs s =
    let e = packed-bits xs in
    let l : length xs ≤ length (bits (pack xs)) =
    omega (arith, ap length e, length-append (codes_of xs) (ones (spare xs)), length-codes_of xs, least_size xs s) in
    ap (unpack_bits (length (bits (pack xs)) + 1)) e
    ∙ coded-whole (length (bits (pack xs)) + 1) xs (spare xs) s (spare-most xs) (omega arith)

-- a packed string has no other form
pub unpack-pack : (b xs : List ℕ) → Small b → unpack b ≡ whole xs → pack xs ≡ b
unfolding unpack pack packed_size
unpack-pack b xs s e =
    let c = whole-coded (length (bits b) + 1) (bits b) xs e in
    let few = c.few in
    let n : packed_size xs ≡ length b =
    omega (arith, length-bits b, ap length c.codes, length-append (codes_of xs) (ones c.spare), length-codes_of xs, length-replicate c.spare true) in
    let d : codes_of xs ++ ones 7 ≡ bits b ++ ones (7 - c.spare) =
    ap (λ (r : List Bool). codes_of xs ++ r) (ones-join c.spare 7 few) ∙ sym (append_assoc (codes_of xs) (ones c.spare) (ones (7 - c.spare)))
    ∙ ap (λ (r : List Bool). r ++ ones (7 - c.spare)) (sym c.codes) in
    ap (λ (m : ℕ). bytes_of m (codes_of xs ++ ones 7)) n ∙ ap (bytes_of (length b)) d ∙ bytes_bits b (ones (7 - c.spare)) s

-- the same at a place of a list
pub unpack-there : (s : List ℕ) (at : ℕ) (xs : List ℕ) → Small xs → Has s at (pack xs) → unpack (part s at (packed_size xs)) ≡ whole xs
unpack-there s at xs small h =
    ap unpack (ap (part s at) (sym (packed-length xs)) ∙ has_part s at (pack xs) h) ∙ pack-unpack xs small

-- a whole string takes at most four bytes for each of its own
pub whole_length : (b xs : List ℕ) → Small b → unpack b ≡ whole xs → length b ≤ 4 * length xs
whole_length b xs s e = omega (arith, ap length (unpack-pack b xs s e), packed-length xs, packed_size-most xs)
