-- Calls whose order counts, on memory and bytes: why the law on the order of reports (crates/link_further/specs/Order.antt) leaves them out. In whatever memory a
-- decoder is started with limit 4,096; that there is such memory says ExamplesClaim's some_start.
use Rattle.std.specs.Prelude.{◌≡◌, ℕ, false, List, [], ◌∷◌}
use Rattle.memory.specs.Bytes.{Small}
use Rattle.model.specs.Parts.{ended}
use Rattle.decoder.specs.Calls.{start_call}
use Rattle.link.specs.Calls.{DecoderCall, read, block, close, collect, decoder_result}
use Rattle.link_further.specs.Order.{EitherWay, apart}
use Rattle.ten_checks.specs.Checks.{since, told}
use Rattle.link_examples.specs.Examples.{insert_9, delete_9, acknowledge_62}

-- c and d do not commute from the memory l: what d tells (the answer, its two numbers, the bytes written) after c, and what it tells where it comes first
pub record Counterexample (l : List ℕ) (c d : DecoderCall) (after first : List ℕ) : Type 0 where
  pub after_it : told (decoder_result (decoder_result l c).memory d) ≡ after
  pub before_it : told (decoder_result l d) ≡ first
  pub not_either_way : EitherWay l c d → ⊥
  -- so the law does not speak of them
  pub left_out : apart c d ≡ false

-- an entry at 62, and a delete of it that names the non-trailer part of stream 0
abbrev pub insert_and_delete : List DecoderCall
insert_and_delete = read insert_9 ∷ read delete_9 ∷ []

-- a collect with one byte of room
abbrev pub collect_1 : DecoderCall
collect_1 = collect (0x00 ∷ [])

-- a block without fields on stream 0, of this part; and that the stream has ended
abbrev pub empty_block : ℕ → DecoderCall
empty_block part = block 0 part [] []

abbrev pub ended_0 : DecoderCall
ended_0 = close ended 0

-- done, with so many bytes written; and refused as out of turn
abbrev pub wrote : ℕ → List ℕ → List ℕ
wrote count bytes = 0 ∷ count ∷ 0 ∷ bytes

abbrev pub out_of_turn : List ℕ
out_of_turn = 11 ∷ 0 ∷ 0 ∷ []

pub record OrderCounts (m : List ℕ) : Type 0 where
  -- "the paper should give one counterexample for collect": after "ended" it frees the entry and writes 7E, before it nothing is ready
  pub ended_collect : Counterexample (since m 4096 insert_and_delete) ended_0 collect_1 (wrote 1 acknowledge_62) (wrote 0 [])
  -- "two blocks on different streams": of two trailer blocks on one stream the second is refused
  pub two_blocks : Counterexample (since m 4096 []) (empty_block 1) (empty_block 1) out_of_turn (wrote 0 [])
  -- and a non-trailer block is in turn only before its stream's trailer
  pub trailer_nontrailer : Counterexample (since m 4096 []) (empty_block 1) (empty_block 0) out_of_turn (wrote 0 [])
  -- "a block and an "ended" for another stream": for its own it is refused after it
  pub ended_block : Counterexample (since m 4096 []) ended_0 (empty_block 0) out_of_turn (wrote 0 [])

abbrev pub OrderCountsClaim : Type 0
OrderCountsClaim = (m : List ℕ) → Small m → (start_call m 4096).answer.number ≡ 0 → OrderCounts m
