-- Change request "How much room a block needs": what the encoder's block call tells and answers, by the field list alone.
use Rattle.std.specs.Prelude.{◌≡◌, ℕ, zero, suc, ◌+◌, ◌*◌, ◌/◌, ◌≤◌, ◌<◌, min, true, false, List, [], ◌∷◌, length}
use Rattle.memory.specs.Bytes.{Small}
use Rattle.integers.specs.Answers.{Answer, done}
use Rattle.wire.specs.Text.{packs}
use Rattle.fields.specs.Form.{Field, FineField, field_form, list_form}
use Rattle.fields.specs.Reading.{list, read_field_list}
use Rattle.blocks.specs.Representation.{representation_wire}
use Rattle.model.specs.Encoder.{Sent, choose}
use Rattle.state.specs.Forms.{forms_encoder}
use Rattle.encoder.specs.Calls.{start_call}
use Rattle.link.specs.Calls.{EncoderCall, block, encoder_result, AllEncoderBytes, encoder_after}
use Rattle.link.specs.Happened.{history_there}
use Rattle.link.specs.Histories.{Serving, Named}
use Rattle.block_room.specs.Room.{block_room, block_room_of, OurTable}

-- a block call's answer, of the encoder's memory m
abbrev pub block_answer : List ℕ → ℕ → ℕ → List ℕ → List ℕ → Answer
block_answer m stream part s out = (encoder_result m (block stream part s out)).answer

pub record Enough (m : List ℕ) : Type 0 where
  -- "the written block is at most the list's bytes plus two for each field"
  pub at_most : (stream part : ℕ) (s out : List ℕ) → Small s → Small out → (fs : List Field) → read_field_list s ≡ list fs
      → (block_answer m stream part s out).number ≡ 0 → (block_answer m stream part s out).first ≤ length s + 2 * length fs
  -- "The C host wants to lend the right buffer before it calls": with an output at least that long it is never answered 12,
  pub lent : (stream part : ℕ) (s out : List ℕ) → Small s → Small out → (fs : List Field) → read_field_list s ≡ list fs
      → block_room (length s) (length fs) ≤ length out → (block_answer m stream part s out).number ≡ 12 → ⊥
  -- nor where the fields are not counted, whatever the bytes given as a list are
  pub uncounted : (stream part : ℕ) (s out : List ℕ) → Small s → Small out
      → block_room_of (length s) ≤ length out → (block_answer m stream part s out).number ≡ 12 → ⊥

-- "one field with a 127-byte name and a 127-byte value, both unknown to the tables, reaches it with plain strings"; no static name has 127 bytes, and a value
-- is looked for only beside its name
pub record Unknown (m : List ℕ) (cs : List EncoderCall) (f : Field) : Type 0 where
  pub fine : FineField f
  pub bytes : Small f.name × Small f.value
  pub name_length : length f.name ≡ 127
  pub value_length : length f.value ≡ 127
  pub plain : (packs f.name ≡ false) × (packs f.value ≡ false)
  -- no entry that may serve has this name, by what was answered since the start
  pub unknown : (i : ℕ) → Serving (history_there m cs) (Named f.name) i → ⊥

-- "257 bytes of list, 259 of block": with that room it is told, with less the answer is 12, unless the part is out of turn
pub record Reached (m : List ℕ) (f : Field) : Type 0 where
  pub list_length : length (list_form (f ∷ [])) ≡ 257
  -- which is the list's bytes plus two for the field
  pub tight : length (list_form (f ∷ [])) + 2 * length (f ∷ []) ≡ 259
  pub told : (stream part : ℕ) (out : List ℕ) → Small out → ((block_answer m stream part (list_form (f ∷ [])) out).number ≡ 11 → ⊥)
      → 259 ≤ length out → block_answer m stream part (list_form (f ∷ [])) out ≡ done 259 0
  pub short : (stream part : ℕ) (out : List ℕ) → Small out → ((block_answer m stream part (list_form (f ∷ [])) out).number ≡ 11 → ⊥)
      → length out < 259 → (block_answer m stream part (list_form (f ∷ [])) out).number ≡ 12

-- n times the same byte
abbrev pub times : ℕ → ℕ → List ℕ
times zero x = []
times (suc n) x = x ∷ times n x

-- 'X' is packed into 8 bits, so that it stays plain
abbrev pub plain_field : Field
plain_field = record { flag = 0; name = times 127 88; value = times 127 88 }

-- an entry that our encoder cannot have: an empty name at an index of four bytes
abbrev pub far_entry : Sent
far_entry = record { index = 16447; entry = record { name = []; value = [] }; nontrailer = 0; trailer = 0; deleted = false }

abbrev pub far_field : Field
far_field = record { flag = 0; name = []; value = times 127 88 }

pub record RoomClaim : Type 0 where
  -- what the header's two macros give: no more than the largest block has, since a longer one is answered 13 before its room is looked at
  pub rooms : (bytes fields : ℕ) → (block_room bytes fields ≡ min 16384 (bytes + 2 * fields)) × (block_room_of bytes ≡ min 16384 (bytes + 2 * (bytes / 3)))
  -- "it holds for every table our encoder can have from a start": for each field, whatever the table's entries are,
  pub field : (l : List Sent) → OurTable l → (f : Field) → FineField f → length (representation_wire (choose l f)) ≤ length (field_form f) + 2
  -- and not for any table whatever,
  pub needed : length (field_form far_field) + 2 < length (representation_wire (choose (far_entry ∷ []) far_field))
  -- for every call of every list of calls from a start,
  pub from_start : (m : List ℕ) (limit : ℕ) → Small m → (start_call m limit).answer.number ≡ 0 → (cs : List EncoderCall) → AllEncoderBytes cs
      → Enough (encoder_after (start_call m limit).memory cs)
  -- and on every other memory that forms a state
  pub from_state : (m : List ℕ) → Small m → forms_encoder m ≡ true → Enough m
  -- a field has at least three bytes
  pub three : (s : List ℕ) (fs : List Field) → read_field_list s ≡ list fs → 3 * length fs ≤ length s
  -- the bound is reached, by every such field
  pub reached : (m : List ℕ) (limit : ℕ) → Small m → (start_call m limit).answer.number ≡ 0 → (cs : List EncoderCall) → AllEncoderBytes cs
      → (f : Field) → Unknown (start_call m limit).memory cs f → Reached (encoder_after (start_call m limit).memory cs) f
  -- as by this one, on a fresh encoder, in the first part of stream 0
  pub example : (m : List ℕ) (limit : ℕ) → Small m → (start_call m limit).answer.number ≡ 0 → (out : List ℕ) → Small out
      → (length out ≡ 259 → block_answer (start_call m limit).memory 0 0 (list_form (plain_field ∷ [])) out ≡ done 259 0)
      × (length out ≡ 258 → (block_answer (start_call m limit).memory 0 0 (list_form (plain_field ∷ [])) out).number ≡ 12)
