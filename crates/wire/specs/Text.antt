-- Strings: "A string is one H bit, a 7-bit-prefix length, then that many bytes." H set: the bytes are packed (RFC 7541, 5.2).
use Rattle.std.specs.Prelude.{ℕ, ◌+◌, ◌*◌, ◌-◌, ◌≤◌, ◌≡◌, Bool, true, false, List, [], ◌∷◌, ◌++◌, length, get_or, ltb, leb}
use Rattle.memory.specs.Choice.{pick, need}
use Rattle.memory.specs.Bytes.{part}
use Rattle.integers.specs.Answers.{Answer, done, Read, read_answer}
use Rattle.integers.specs.Integer.{read_int, on_int, int_wire}
use Rattle.huffman.specs.Packing.{Unpacked, whole, unpack, pack, packed_size}
use Rattle.wire.specs.declared.text.StringPlace.{StringPlace}
use Rattle.std.specs.Prelude.{Ok, Err}
use Rattle.integers.specs.declared.answer.Refusal.TheVariants.{BadPacking, TooLong, Truncated}

-- "A name has 0 to 255 bytes, a value 0 to 2,047"
abbrev pub name_limit : ℕ
name_limit = 255

abbrev pub value_limit : ℕ
value_limit = 2047

-- the string that n bytes of s from the place start on say, plain or packed: its bytes before any fault, and is there none?
unfoldable pub text_at : Bool → List ℕ → ℕ → ℕ → Unpacked
text_at true s start n = unpack (part s start n)
text_at false s start n = whole (part s start n)

-- the place of a plain string
abbrev pub plain_place : ℕ → ℕ → StringPlace
plain_place start size = record { start = start; size = size; packed = false; length = size }

-- the string at a place of s: how many bytes it has, and which
unfoldable pub string_length : List ℕ → StringPlace → ℕ
string_length s p = p.length

unfoldable pub string_bytes : List ℕ → StringPlace → List ℕ
string_bytes s p = (text_at p.packed s p.start p.size).bytes

-- the place lies in s, the string there is whole, and its length is the one that the place tells
pub record InString (s : List ℕ) (p : StringPlace) : Type 0 where
  pub inside : p.start + p.size ≤ length s
  pub whole : (text_at p.packed s p.start p.size).whole ≡ true
  pub told : length (text_at p.packed s p.start p.size).bytes ≡ p.length

-- what is answered: where the string stands and the place after it are told
abbrev pub string_answer : Read StringPlace → Answer
string_answer r = read_answer (λ p next. done p.start next) r

-- "The limits of 13 hold for the unpacked length, judged .. at once where a plain length passes the limit, or a packed one four times it."
abbrev pub size_limit : Bool → ℕ → ℕ
size_limit packed limit = pick packed (4 * limit) limit

-- at the string's end: "before 18 (over the bytes unpacked before any fault)"
unfoldable pub string_end : Bool → ℕ → ℕ → ℕ → Unpacked → Read StringPlace
string_end packed limit size start u =
    need (leb (length u.bytes) limit) (Err TooLong)
    (need u.whole (Err BadPacking)
    (Ok (record { start = start; size = size; packed = packed; length = length u.bytes }, start + size)))

-- after the length and the place after it: "a longer length is answered 13 before the bytes are looked for"
unfoldable pub string_after : Bool → List ℕ → ℕ → ℕ → ℕ → Read StringPlace
string_after packed s limit size start =
    need (leb size (size_limit packed limit)) (Err TooLong)
    (need (leb size (length s - start)) (Err Truncated)
    (string_end packed limit size start (text_at packed s start size)))

-- is the H bit of the string at the place at set?
abbrev pub is_packed : List ℕ → ℕ → Bool
is_packed s at = leb 128 (get_or s at 0)

-- the string of at most `limit` bytes at the place at
unfoldable pub read_string : List ℕ → ℕ → ℕ → Read StringPlace
read_string s at limit =
    need (ltb at (length s)) (Err Truncated)
    (on_int Err (read_int 7 s at) (string_after (is_packed s at) s limit))

-- is each number of the list a byte? Only bytes have codes.
unfoldable pub all_bytes : List ℕ → Bool
all_bytes [] = true
all_bytes (x ∷ xs) = pick (ltb x 256) (all_bytes xs) false

-- "Our writer packs a string exactly where that is strictly shorter."
unfoldable pub packs : List ℕ → Bool
packs xs = pick (all_bytes xs) (ltb (packed_size xs) (length xs)) false

-- how many bytes a string takes on the wire behind its length
unfoldable pub wire_size : List ℕ → ℕ
wire_size xs = pick (packs xs) (packed_size xs) (length xs)

-- the bytes that say a string
unfoldable pub string_wire : List ℕ → List ℕ
string_wire xs = pick (packs xs) (int_wire 7 128 (packed_size xs) ++ pack xs) (int_wire 7 0 (length xs) ++ xs)
