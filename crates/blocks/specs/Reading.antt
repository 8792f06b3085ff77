-- Reading a representation, and a whole block: "the first of 2, 3, 4, 5, 13, 14 met decides". Packed strings bring 18, padded integers 19, and nothing gives 4.
use Rattle.std.specs.Prelude.{ℕ, zero, suc, ◌<◌, ◌≤◌, List, [], ◌∷◌, ◌++◌, length, get_or, ltb, leb}
use Rattle.memory.specs.Choice.{pick, need}
use Rattle.integers.specs.Answers.{Answer, done, refusal, number_of, Read, read_answer, on_read}
use Rattle.integers.specs.declared.answer.Refusal.{Refusal}
use Rattle.integers.specs.Integer.{read_int, on_int, largest}
use Rattle.wire.specs.Text.{read_string, string_bytes, value_limit, InString, string_length}
use Rattle.wire.specs.Name.{read_name, name_of, GoodName}
use Rattle.blocks.specs.Representation.{Representation, indexed, literal}
use Rattle.blocks.specs.declared.read.RepresentationPlace.{RepresentationPlace}
use Rattle.blocks.specs.declared.read.RepresentationPlace.TheVariants.{Indexed, Literal}
use Rattle.std.specs.Prelude.{Result, Ok, Err}
use Rattle.integers.specs.declared.answer.Refusal.TheVariants.{NotAllowed, TooLong, Truncated}

-- what is answered: the place after the representation is told
abbrev pub representation_answer : Read RepresentationPlace → Answer
representation_answer r = read_answer (λ p next. done next 0) r

-- "indexed is bit 1 and an index (7-bit prefix; 0 gives 5)"
unfoldable pub read_indexed : List ℕ → ℕ → Read RepresentationPlace
read_indexed s at =
    on_int Err (read_int 7 s at) (λ i next.
    need (ltb 0 i) (Err NotAllowed)
    (Ok (Indexed (record { value = i }), next)))

-- the N bit of a literal's first byte
abbrev pub flag_of : ℕ → ℕ
flag_of b = pick (ltb b 64) 0 1

-- "Literal is bit 0, N, name index (6-bit prefix; 0 means a name string follows), value string."
unfoldable pub read_literal : List ℕ → ℕ → Read RepresentationPlace
read_literal s at =
    on_read Err (read_name 6 s at) (λ name next.
    on_read Err (read_string s next value_limit) (λ value after.
    Ok (Literal (flag_of (get_or s at 0)) name value, after)))

-- the representation at the place at
unfoldable pub read_representation : List ℕ → ℕ → Read RepresentationPlace
read_representation s at =
    need (ltb at (length s)) (Err Truncated)
    (pick (ltb (get_or s at 0) 128) (read_literal s at) (read_indexed s at))

-- the representation that stands at a place of s
abbrev pub representation_of : List ℕ → RepresentationPlace → Representation
representation_of s (Indexed i) = indexed i.value
representation_of s (Literal flag name value) = literal flag (name_of s name) (string_bytes s value)

-- the representation's name and value lie in s, so that they can be copied from it
abbrev pub InBytes : List ℕ → RepresentationPlace → Type 0
InBytes s (Indexed i) = (0 < i.value) × (i.value ≤ largest)
InBytes s (Literal flag name value) = (flag < 2) × GoodName s name × InString s value × (string_length s value ≤ value_limit)

-- a whole block, or its first refusal
pub data BlockRead : Type 0 where
  block : List Representation → BlockRead
  refused : Refusal → BlockRead

-- the representations from the place at on, after those before it; each takes a byte at least, so f turns are enough where f bytes are left
unfoldable pub block_from : ℕ → List ℕ → ℕ → List Representation → BlockRead
block_from zero s at before = block before
block_from (suc f) s at before =
    pick (ltb at (length s))
    (on_read refused (read_representation s at) (λ p next. block_from f s next (before ++ (representation_of s p ∷ []))))
    (block before)

-- "Blocks, at most 16,384 bytes"
abbrev pub block_limit : ℕ
block_limit = 16384

-- a longer one is 13 before it is read. "An empty block is a block with no fields."
unfoldable pub read_block : List ℕ → BlockRead
read_block s = need (leb (length s) block_limit) (refused TooLong) (block_from (length s) s 0 [])

abbrev pub block_answer : BlockRead → Answer
block_answer (block rs) = done (length rs) 0
block_answer (refused why) = refusal (number_of why)

-- whether it is a block, or why not
abbrev pub block_checked : BlockRead → Result (Unit {0}) Refusal
block_checked (block rs) = Ok tt
block_checked (refused why) = Err why
