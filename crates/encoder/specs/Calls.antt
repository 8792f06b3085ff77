-- The encoder's calls. Each is the test whether memory forms a state, the reading of its bytes, and the model's step; answers stand in document 01's order.
use Rattle.std.specs.Prelude.{ℕ, List, [], length, leb}
use Rattle.memory.specs.Choice.{need}
use Rattle.integers.specs.Answers.{done, over_limit, not_allowed, out_of_turn, no_room, no_state, number_of, on_read}
use Rattle.integers.specs.declared.answer.Refusal.{Refusal}
use Rattle.fields.specs.Form.{Field}
use Rattle.fields.specs.Reading.{FieldListRead, list, read_field_list}
use Rattle.fields.specs.Reading as reading
use Rattle.instructions.specs.Reading.{read_for_encoder}
use Rattle.instructions.specs.declared.read.InstructionPlace.{InstructionPlace}
use Rattle.instructions.specs.declared.read.InstructionPlace.TheVariants.{Insert, Delete, Acknowledge}
use Rattle.model.specs.Parts.{part_of}
use Rattle.model.specs.Encoder.{start_encoder, insert_entry, delete_sent, encode_block, read_ack}
use Rattle.state.specs.Layout.{encoder_length}
use Rattle.state.specs.EncoderState.{encoder_of, overlay_encoder}
use Rattle.state.specs.Forms.{forms_encoder}
use Rattle.parts.specs.Turn.{part_turn}
use Rattle.reply.specs.Result.{Result, refused, stepped}

-- "at start 7, then 12": "shorter is 12 at start"
unfoldable pub start_call : List ℕ → ℕ → Result
start_call m limit =
    need (leb limit 4096) (refused m [] over_limit)
    (need (leb encoder_length (length m)) (refused m [] no_room)
    (record { answer = done 0 0; memory = overlay_encoder (start_encoder limit) m; output = [] }))

-- encoder insert 13, 7, 12: name and value as plain bytes; it tells the bytes written and the new index
unfoldable pub insert_call : List ℕ → List ℕ → List ℕ → List ℕ → Result
insert_call m name value out =
    need (forms_encoder m) (refused m out no_state) (stepped overlay_encoder m out (insert_entry (encoder_of m) name value (length out)))

-- "encoder delete 5, 8, 9, 12"
unfoldable pub delete_call : List ℕ → ℕ → List ℕ → Result
delete_call m index out =
    need (forms_encoder m) (refused m out no_state) (stepped overlay_encoder m out (delete_sent (encoder_of m) index (length out)))

-- what follows a whole field list, or the refusal passed on
abbrev pub on_list : (ℕ → Result) → FieldListRead → (List Field → Result) → Result
on_list stop (list fs) f = f fs
on_list stop (reading.FieldListRead.refused why) f = stop (number_of why)

-- "Block to write: 11, the list left to right (16, string 13), block length 13, 12."
unfoldable pub block_call : List ℕ → ℕ → ℕ → List ℕ → List ℕ → Result
block_call m stream part s out =
    need (forms_encoder m) (refused m out no_state)
    (need (part_turn (encoder_of m).written stream (part_of part)) (refused m out out_of_turn)
    (on_list (refused m out) (read_field_list s) (λ fs. stepped overlay_encoder m out (encode_block (encoder_of m) stream part fs (length out)))))

-- an acknowledgement is all that the encoder's reader finds
abbrev pub acknowledged : List ℕ → InstructionPlace → ℕ → Result
acknowledged m (Insert i name value) taken = refused m [] not_allowed
acknowledged m (Delete i nontrailer trailer) taken = refused m [] not_allowed
acknowledged m (Acknowledge i) taken = stepped overlay_encoder m [] (read_ack (encoder_of m) i.value taken)

-- one acknowledgement from the front of the bytes s; it tells how many it took
unfoldable pub acknowledge_call : List ℕ → List ℕ → Result
acknowledge_call m s =
    need (forms_encoder m) (refused m [] no_state)
    (on_read (λ (why : Refusal). refused m [] (number_of why)) (read_for_encoder s) (acknowledged m))
