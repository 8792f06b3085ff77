-- What short lists of calls at an end that starts fresh answer, write and free, and what a table holds by what happened to it, as definitions
-- that compute; and the calls that Acceptance makes.
use Prim.Native.Nat.{ℕ}
use mathlib.Core.Bool.{Bool, false}
use mathlib.Core.Option.{Option, none}
use mathlib.Core.List.{List, [], ◌∷◌, ◌++◌}
use lib.ListN.{length}
use Rattle.integers.specs.Answers.{Answer}
use Rattle.wire.specs.Name.{literal as by_bytes}
use Rattle.stream_lists.specs.StreamList.{StreamList}
use Rattle.statics.specs.Ascii.{bytes}
use Rattle.fields.specs.Form.{Field}
use Rattle.instructions.specs.Instruction.{Instruction, insert, delete, acknowledge, instruction_wire}
use Rattle.blocks.specs.Representation.{Representation, indexed}
use Rattle.blocks.specs.Meaning.{Slot}
use Rattle.model.specs.Parts.{Delete, lowest_open}
use Rattle.model.specs.Parts as parts
use Rattle.model.specs.Outcome.{Output, nothing, instruction, fields}
use Rattle.model.specs.Outcome as outcome
use Rattle.model.specs.Decoder.{Decoder, start_decoder, hold_of, enquire_hold}
use Rattle.model.specs.DecoderCalls.{DecoderCall, read, block, close, decoder_call}
use Rattle.model.specs.Encoder.{Encoder, start_encoder, empty_list}
use Rattle.model.specs.EncoderCalls.{EncoderCall, encoder_call}
use Rattle.model.specs.EncoderCalls as at-encoder
use Rattle.model.specs.Happened.{Happened, done_by, after, held_by, deletion_by, deletes_by, Contents, empty, named, entry_of, contents_by}
use Rattle.model.specs.Happened.{size_in, added_by, removed_by, sum_of}
use Rattle.model.proofs.Running.{run}

-- ---- what is computed: of each call in turn the answer, and the output
abbrev pub decoder_answers_from : Decoder → List DecoderCall → List Answer
decoder_answers_from D [] = []
decoder_answers_from D (c ∷ cs) = (decoder_call D c).answer ∷ decoder_answers_from (decoder_call D c).state cs

abbrev pub decoder_outputs_from : Decoder → List DecoderCall → List Output
decoder_outputs_from D [] = []
decoder_outputs_from D (c ∷ cs) = (decoder_call D c).output ∷ decoder_outputs_from (decoder_call D c).state cs

abbrev pub encoder_answers_from : Encoder → List EncoderCall → List Answer
encoder_answers_from E [] = []
encoder_answers_from E (c ∷ cs) = (encoder_call E c).answer ∷ encoder_answers_from (encoder_call E c).state cs

abbrev pub encoder_outputs_from : Encoder → List EncoderCall → List Output
encoder_outputs_from E [] = []
encoder_outputs_from E (c ∷ cs) = (encoder_call E c).output ∷ encoder_outputs_from (encoder_call E c).state cs

-- the indexes that are acknowledged, so freed
abbrev pub acknowledged : List Output → List ℕ
acknowledged [] = []
acknowledged (instruction (acknowledge i) ∷ os) = i ∷ acknowledged os
acknowledged (instruction (insert i name value) ∷ os) = acknowledged os
acknowledged (instruction (delete i first last) ∷ os) = acknowledged os
acknowledged (nothing ∷ os) = acknowledged os
acknowledged (outcome.Output.block rs ∷ os) = acknowledged os
acknowledged (fields fs ∷ os) = acknowledged os

-- at a decoder with this limit
unfoldable pub decoder_answers : ℕ → List DecoderCall → List Answer
unfolding run decoder_call enquire_hold hold_of lowest_open
decoder_answers limit cs = decoder_answers_from (start_decoder limit) cs

unfoldable pub decoder_outputs : ℕ → List DecoderCall → List Output
unfolding run decoder_call
decoder_outputs limit cs = decoder_outputs_from (start_decoder limit) cs

unfoldable pub freed : ℕ → List DecoderCall → List ℕ
unfolding decoder_outputs
freed limit cs = acknowledged (decoder_outputs limit cs)

-- at an encoder with this limit
unfoldable pub encoder_answers : ℕ → List EncoderCall → List Answer
unfolding run
encoder_answers limit cs = encoder_answers_from (start_encoder limit) cs

unfoldable pub encoder_outputs : ℕ → List EncoderCall → List Output
unfolding run
encoder_outputs limit cs = encoder_outputs_from (start_encoder limit) cs

-- ---- what happened to a table by these instructions, each done in turn, and what follows from it
abbrev pub happened : List Instruction → List Happened
happened [] = []
happened (i ∷ is) = done_by i ++ happened is

unfoldable pub held_after : List Instruction → ℕ → Bool
unfolding after held_by
held_after is i = after (held_by i) false (happened is)

unfoldable pub deletion_after : List Instruction → ℕ → Option Delete
unfolding after deletion_by
deletion_after is i = after (deletion_by i) none (happened is)

unfoldable pub deletes_after : List Instruction → List Delete
unfolding run after deletes_by
deletes_after is = after deletes_by [] (happened is)

unfoldable pub slot_after : List Instruction → ℕ → Slot
unfolding run after named entry_of contents_by
slot_after is i = after contents_by empty (happened is) i

unfoldable pub sum_after : (Contents → Happened → ℕ) → List Instruction → ℕ
unfolding run named entry_of contents_by size_in added_by removed_by sum_of
sum_after by is = sum_of by empty (happened is)

-- ---- the calls that are made
abbrev pub field : List ℕ → List ℕ → Field
field name value = record { flag = 0; name = name; value = value }

-- 4: "BE 00 01 68 01 39 inserts h = 9 at 62, size 34."
abbrev pub insert-h9 : ℕ → DecoderCall
insert-h9 i = read (insert i (by_bytes (bytes "h")) (bytes "9")) 6

-- 8: "List 03 02 01 03 names 0, 1, 2, 4 and 7, not 3."
abbrev pub list-3-4-7 : StreamList
list-3-4-7 = record { horizon = 3; streams = 4 ∷ 7 ∷ [] }

abbrev pub delete_with : StreamList → StreamList → DecoderCall
delete_with first last = read (delete 62 first last) 5

-- with lists that name nothing
abbrev pub delete-of : ℕ → DecoderCall
delete-of i = let d = delete i (empty_list 0) (empty_list 0) in read d (length (instruction_wire d))

-- with horizon n as first or as second list
abbrev pub delete-nontrailer : ℕ → DecoderCall
delete-nontrailer n = delete_with (empty_list n) (empty_list 0)

abbrev pub delete-trailer : ℕ → DecoderCall
delete-trailer n = delete_with (empty_list 0) (empty_list n)

-- "An empty block is a block with no fields": one of each part
abbrev pub interim : ℕ → DecoderCall
interim s = block s 0 [] 16

abbrev pub trailer-block : ℕ → DecoderCall
trailer-block s = block s 1 [] 16

-- the stream is past its non-trailer part, and past both
abbrev pub over : ℕ → DecoderCall
over s = close parts.over s

abbrev pub ended : ℕ → DecoderCall
ended s = close parts.ended s

-- a block that refers to 62, whose field takes five bytes: of this part, with this room
abbrev pub refers-62 : ℕ → ℕ → DecoderCall
refers-62 part room = block 0 part (indexed 62 ∷ []) room

-- the encoder's insert of h = 9, delete of 62, acknowledgement of 62, blocks of one field h, and empty blocks
abbrev pub put-h9 : EncoderCall
put-h9 = at-encoder.insert (bytes "h") (bytes "9") 16

abbrev pub delete-62 : EncoderCall
delete-62 = at-encoder.delete 62 16

abbrev pub acknowledged-62 : EncoderCall
acknowledged-62 = at-encoder.acknowledged 62 1

abbrev pub says-h : ℕ → ℕ → List ℕ → EncoderCall
says-h s part value = at-encoder.block s part (field (bytes "h") value ∷ []) 16

abbrev pub says_none : ℕ → ℕ → EncoderCall
says_none s part = at-encoder.block s part [] 16

-- what the encoder writes for them
abbrev pub said-insert : Output
said-insert = instruction (insert 62 (by_bytes (bytes "h")) (bytes "9"))

abbrev pub said-delete : ℕ → ℕ → Output
said-delete first last = instruction (delete 62 (empty_list first) (empty_list last))

abbrev pub wrote : Representation → Output
wrote r = outcome.Output.block (r ∷ [])
