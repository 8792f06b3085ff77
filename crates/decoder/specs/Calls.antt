-- The decoder's calls. Each is the test whether memory forms a state, the reading of its bytes, and the model's step; answers stand in document 01's order.
use Rattle.std.specs.Prelude.{ℕ, List, [], length, leb}
use Rattle.memory.specs.Choice.{need}
use Rattle.integers.specs.Answers.{done, over_limit, out_of_turn, no_room, no_state, number_of, on_read}
use Rattle.integers.specs.declared.answer.Refusal.{Refusal}
use Rattle.instructions.specs.Reading.{read_for_decoder, instruction_of}
use Rattle.blocks.specs.Representation.{Representation}
use Rattle.blocks.specs.Reading.{BlockRead, block, read_block}
use Rattle.blocks.specs.Reading as reading
use Rattle.model.specs.Parts.{part_of, over, ended}
use Rattle.model.specs.Decoder.{start_decoder, read_instruction, decode_block, close_parts, collect_entry, enquire_hold}
use Rattle.state.specs.Layout.{decoder_length}
use Rattle.state.specs.DecoderState.{decoder_of, overlay_decoder}
use Rattle.state.specs.Forms.{forms_decoder}
use Rattle.parts.specs.Turn.{part_turn}
use Rattle.reply.specs.Result.{Result, refused, stepped}

-- "at start 7, then 12": "shorter is 12 at start"
unfoldable pub start_call : List ℕ → ℕ → Result
start_call m limit =
    need (leb limit 4096) (refused m [] over_limit)
    (need (leb decoder_length (length m)) (refused m [] no_room)
    (record { answer = done 0 0; memory = overlay_decoder (start_decoder limit) m; output = [] }))

-- one management instruction from the front of the bytes s; it tells how many it took
unfoldable pub read_call : List ℕ → List ℕ → Result
read_call m s =
    need (forms_decoder m) (refused m [] no_state)
    (on_read (λ (why : Refusal). refused m [] (number_of why)) (read_for_decoder s) (λ p taken. stepped overlay_decoder m [] (read_instruction (decoder_of m) (instruction_of s p) taken)))

-- what follows a whole block, or the refusal passed on
abbrev pub on_block : (ℕ → Result) → BlockRead → (List Representation → Result) → Result
on_block refuse (block rs) f = f rs
on_block refuse (reading.BlockRead.refused why) f = refuse (number_of why)

-- "Block to decode: 11, block length 13, reading, 1, 12."
unfoldable pub block_call : List ℕ → ℕ → ℕ → List ℕ → List ℕ → Result
block_call m stream part s out =
    need (forms_decoder m) (refused m out no_state)
    (need (part_turn (decoder_of m).finished stream (part_of part)) (refused m out out_of_turn)
    (on_block (refused m out) (read_block s) (λ rs. stepped overlay_decoder m out (decode_block (decoder_of m) stream part rs (length out)))))

-- the non-trailer part of the stream is over
unfoldable pub over_call : List ℕ → ℕ → Result
over_call m stream = need (forms_decoder m) (refused m [] no_state) (stepped overlay_decoder m [] (close_parts (decoder_of m) over stream))

-- the stream has ended or was reset
unfoldable pub ended_call : List ℕ → ℕ → Result
ended_call m stream = need (forms_decoder m) (refused m [] no_state) (stepped overlay_decoder m [] (close_parts (decoder_of m) ended stream))

-- the hold enquiry: "enquiry 5, 8, 10"
unfoldable pub hold_call : List ℕ → ℕ → Result
hold_call m index = need (forms_decoder m) (refused m [] no_state) (stepped overlay_decoder m [] (enquire_hold (decoder_of m) index))

-- "Collect shall now free the ready entry whose delete arrived first" (request 14), and it "writes its Delete-Ack".
unfoldable pub collect_call : List ℕ → List ℕ → Result
collect_call m out = need (forms_decoder m) (refused m out no_state) (stepped overlay_decoder m out (collect_entry (decoder_of m) (length out)))
