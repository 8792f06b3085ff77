-- Of one part of a stream, which blocks are as they were written (docs/RECORDINGS.md, "Hours", 2), and which wait.
use Rattle.std.specs.Prelude.{Bool, true, false, not, List, ◌∷◌, ℕ, ◌+◌, ◌-◌, ◌*◌, ◌%◌, eqb, ltb, set, map, take, Option, Some, None, position}
use Rattle.std.specs.List.{list_any}
use Rattle.memory.specs.Choice.{pick}
use Rattle.link_notes.specs.declared.sums.Block.{Block}

-- the message of a stream, and behind it its trailer
abbrev pub place_of : ℕ → ℕ → Option ℕ
place_of stream part = pick (ltb stream 4096) (pick (ltb part 2) (Some (stream * 2 + part)) None) None

-- two tables after one another have places of their own
abbrev pub half_of : ℕ → ℕ
half_of table = table % 2

-- "Of each part the last four that were written are known": the newest before the others, and the oldest is lost
unfoldable pub pushed : List Block → Block → List Block
pushed l b = b ∷ take 3 l

-- is the block with a sum one of these?
abbrev pub has_sum : List Block → ℕ → Bool
has_sum l n = list_any (λ b. eqb b.sum n) l

-- does one of these have the same bytes, and another list?
abbrev pub is_other : Block → Block → Bool
is_other one b = pick (eqb b.bytes one.bytes) (not (eqb b.sum one.sum)) false

abbrev pub has_other : List Block → Block → Bool
has_other l one = list_any (is_other one) l

-- is a sum one of those that wait?
abbrev pub has : List ℕ → ℕ → Bool
has l n = list_any (λ x. eqb x n) l

-- the sums that wait, without one
abbrev pub without : ℕ → ℕ → ℕ
without n x = pick (eqb x n) 0 x

unfoldable pub dropped : List ℕ → ℕ → List ℕ
dropped l n = map (without n) l

-- "Of each part up to four blocks that wait are known": a sum at the first of four numbers that is free; where none is, one of them stands for blocks that
-- are not known. It is no sum, so none that is done or refused takes it away
abbrev pub added_at : List ℕ → ℕ → Option ℕ → List ℕ
added_at l n (Some k) = set l k n
added_at l n None = set l 0 18446744073709551615

abbrev pub added : List ℕ → ℕ → List ℕ
added l n = added_at l n (position (λ x. eqb x 0) l)

-- is one of these a sum? A sum is never 0
abbrev pub any_sum : List ℕ → Bool
any_sum l = list_any (ltb 0) l

-- "Blocks of the encoder's last two tables are known": of those, the decoder's table must be one
abbrev pub known : ℕ → ℕ → Bool
known decoder encoder = pick (ltb encoder decoder) false (pick (ltb 1 (encoder - decoder)) false true)

-- "This is asked where the recording shows an encoder, by a start of one above the block that was done."
abbrev pub as_written : ℕ → ℕ → Bool → Bool
as_written decoder encoder found = pick (eqb encoder 0) true (pick (known decoder encoder) found false)
