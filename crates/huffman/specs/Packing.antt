-- Packed strings (RFC 7541, 5.2): each byte as its code, the codes one after another, padded with ones to whole bytes.
use Rattle.std.specs.Prelude.{ℕ, zero, suc, ◌+◌, ◌/◌, Bool, true, false, List, [], ◌∷◌, ◌++◌, length, drop, ltb}
use Rattle.memory.specs.Choice.{pick}
use Rattle.huffman.specs.Codes.{Code, codes, code_of, end_mark}
use Rattle.huffman.specs.Bits.{bits_of, bits, bytes_of, ones, begins}

-- ---- packing

-- the bits of entry i's code
unfoldable pub code_bits : ℕ → List Bool
code_bits i = bits_of (code_of i).size (code_of i).value

-- the codes of bytes one after another
unfoldable pub codes_of : List ℕ → List Bool
codes_of [] = []
codes_of (x ∷ xs) = code_bits x ++ codes_of xs

-- how many bits those are
unfoldable pub codes_size : List ℕ → ℕ
codes_size [] = 0
codes_size (x ∷ xs) = (code_of x).size + codes_size xs

-- how many bytes packed bytes take
unfoldable pub packed_size : List ℕ → ℕ
packed_size xs = (codes_size xs + 7) / 8

-- bytes, packed
unfoldable pub pack : List ℕ → List ℕ
pack xs = bytes_of (packed_size xs) (codes_of xs ++ ones 7)

-- ---- unpacking

-- the bytes before the first fault, and is there none?
pub record Unpacked : Type 0 where
  pub bytes : List ℕ
  pub whole : Bool

-- what a whole string gives
abbrev pub whole : List ℕ → Unpacked
whole xs = record { bytes = xs; whole = true }

-- a string that ends here, well or with a fault
abbrev pub ended : Bool → Unpacked
ended w = record { bytes = []; whole = w }

-- a byte before the rest
abbrev pub before : ℕ → Unpacked → Unpacked
before x u = record { bytes = x ∷ u.bytes; whole = u.whole }

-- the entry whose code begins the bits
pub data Standing : Type 0 where
  entry : ℕ → Standing
  none : Standing

-- the first such entry of these, which are numbered from i on
unfoldable pub standing_in : List Code → ℕ → List Bool → Standing
standing_in [] i r = none
standing_in (c ∷ cs) i r = pick (begins (bits_of c.size c.value) r) (entry i) (standing_in cs (i + 1) r)

unfoldable pub standing : List Bool → Standing
standing r = standing_in codes 0 r

-- what may stand behind the last code: at most seven bits, all ones. ("A padding strictly longer than 7 bits MUST be treated as a decoding
-- error. A padding not corresponding to the most significant bits of the code for the EOS symbol MUST be treated as a decoding error.")
unfoldable pub padding : List Bool → Bool
padding r = begins r (ones 7)

-- what follows a code that begins the rest, or the end
abbrev pub on_standing {ℓ} : {X : Type ℓ} → X → Standing → (ℕ → X) → X
on_standing other (entry i) f = f i
on_standing other none f = other

-- bits taken code by code, at most n codes. ("A Huffman-encoded string literal containing the EOS symbol MUST be treated as a decoding error.")
unfoldable pub unpack_bits : ℕ → List Bool → Unpacked
unpack_bits zero r = ended false
unpack_bits (suc n) r =
    on_standing (ended (padding r)) (standing r) (λ i.
    pick (ltb i end_mark) (before i (unpack_bits n (drop (code_of i).size r))) (ended false))

-- bytes, unpacked: each code has a bit at least, so there are fewer codes than bits and one
unfoldable pub unpack : List ℕ → Unpacked
unpack b = unpack_bits (length (bits b) + 1) (bits b)
