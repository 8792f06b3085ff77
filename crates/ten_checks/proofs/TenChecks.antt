-- Document 01's ten "Bytes to check against", whatever memory the calls are made in.
-- What calls tell after a start is what the model's calls tell, by the lifting; of these each check is computed.
use mathlib.Core.Path.{◌≡◌, refl, ap, ap₂, ◌∙◌}
use Prim.Native.Nat.{ℕ}
use mathlib.Core.Bool.{Bool, true, false}
use mathlib.Core.List.{List, [], ◌∷◌, ◌++◌}
use lib.ListN.{length}
use lib.Dec.{leb}
use Rattle.memory.specs.Choice.{need}
use Rattle.memory.specs.Bytes.{Small}
use Rattle.memory.proofs.Order.{need-true}
use Rattle.integers.specs.Answers.{Answer, done, no_room}
use Rattle.integers.specs.Integer.{read_int, groups, int_wire, group_wire}
use Rattle.huffman.specs.Codes.{codes, code_of}
use Rattle.huffman.specs.Packing.{codes_size, packed_size}
use Rattle.wire.specs.Text.{text_at, string_bytes, string_after, string_end, read_string, all_bytes, packs, string_wire}
use Rattle.wire.specs.Name.{read_name, name_wire}
use Rattle.stream_lists.specs.StreamList.{read_delta, read_deltas, streams_from, read_list, listed, names}
use Rattle.statics.specs.Table.{entries, entry_at}
use Rattle.fields.specs.Form.{text_form, field_form, list_form}
use Rattle.instructions.specs.Instruction.{instruction_wire}
use Rattle.instructions.specs.Reading.{read_index, read_insert, read_delete, read_for_decoder}
use Rattle.blocks.specs.Reading.{read_indexed, read_literal, read_representation, block_from, read_block}
use Rattle.blocks.specs.Meaning.{is_static, with_statics, field_meaning, block_meaning}
use Rattle.model.specs.Table.{size, look, put, total}
use Rattle.model.specs.Parts.{part_of, mark, block_marks, in_turn, names_part, is_open, open_below, lowest_open}
use Rattle.model.specs.Outcome.{output_bytes}
use Rattle.model.specs.Decoder.{Decoder, held_size, slot_in, lookup, delete_of, start_decoder, name_bytes, insert_named, delete_entry, read_instruction}
use Rattle.model.specs.Decoder.{give_fields, decode_part, decode_block, close_parts, hold_of, enquire_hold}
use Rattle.model.specs.DecoderCalls.{decoder_call, after_decoder}
use Rattle.state.specs.Layout.{decoder_length, held_of}
use Rattle.state.specs.DecoderState.{overlay_decoder}
use Rattle.parts.specs.Turn.{part_turn}
use Rattle.reply.specs.Result.{Result, refused, stepped}
use Rattle.decoder.specs.Calls.{start_call}
use Rattle.link.specs.Calls.{DecoderCall, read, hold, decoder_result, decoder_lent, AllDecoderBytes}
use Rattle.ten_checks.specs.Checks.{since, told, tells, numbers, numbers_since, block, past_below, named_from}
use Rattle.ten_checks.specs.Checks.{h9, h9_63, h9_64, after4, past4, delete62, named8, Agree, checks, ChecksClaim}
use Rattle.link.proofs.Lifted.{decoder_call_of, StandsDecoder}
use Rattle.link.proofs.DecoderLifting.{lift-decoder, start-decoder}
use Rattle.link.proofs.Runs.{decoder_calls_of, after-decoder}
use Rattle.link.proofs.HeldSizes.{held-decoder}
use Rattle.link.proofs.CallTests.{decoder_given, all_decoder_given, decoder-given, all-decoder-given}

-- ---- the model's side

-- the state after a start with this limit and the calls cs
abbrev pub state_since : ℕ → List DecoderCall → Decoder
state_since limit cs = after_decoder (start_decoder limit) (decoder_calls_of (start_decoder limit) cs)

-- what a call leaves but memory
abbrev pub leaves : Decoder → DecoderCall → Result
leaves D c = stepped (λ E m. m) [] (decoder_lent c) (decoder_call D (decoder_call_of D c))

abbrev numbers_by : Decoder → List DecoderCall → List ℕ
numbers_by D [] = []
numbers_by D (c ∷ cs) = (leaves D c).answer.number ∷ numbers_by (decoder_call D (decoder_call_of D c)).state cs

-- ---- one side is the other

pub same-told : (r s : Result) → r.answer ≡ s.answer → r.output ≡ s.output → told r ≡ told s
same-told r s = ap₂ (λ (a : Answer) (o : List ℕ). told (record { answer = a; memory = []; output = o }))

numbers-are : (m : List ℕ) (D : Decoder) → StandsDecoder m D → (cs : List DecoderCall) → AllDecoderBytes cs → numbers m cs ≡ numbers_by D cs
unfolding numbers stepped
numbers-are m D S [] b = refl
numbers-are m D S (c ∷ cs) b =
    let L = lift-decoder m D S c b.0 in
    ap₂ (λ (a : Answer) (l : List ℕ). a.number ∷ l) L.answer
    (numbers-are (decoder_result m c).memory (decoder_call D (decoder_call_of D c)).state L.stands cs b.1)

-- memory that is long enough for a start with limit 4,096 is so for one with a lower limit
start-alike : (m : List ℕ) (limit : ℕ) → leb limit 4096 ≡ true → (start_call m limit).answer ≡ (start_call m 4096).answer
unfolding start_call
start-alike m limit low = ap (λ (r : Result). r.answer) (need-true (leb limit 4096) _ _ low) ∙ go (leb decoder_length (length m))
  where
    go : (b : Bool)
        → (need b (refused m [] no_room) (record { answer = done 0 0; memory = overlay_decoder (start_decoder limit) m; output = [] })).answer
        ≡ (need b (refused m [] no_room) (record { answer = done 0 0; memory = overlay_decoder (start_decoder 4096) m; output = [] })).answer
    go true = refl
    go false = refl

-- after a start answered "done"
module _ (m : List ℕ) (small : Small m) (limit : ℕ) (ok : (start_call m limit).answer.number ≡ 0) where
  pub stands : (cs : List DecoderCall) → all_decoder_given cs ≡ true → StandsDecoder (since m limit cs) (state_since limit cs)
  stands cs b = after-decoder (start_call m limit).memory (start_decoder limit) (start-decoder m limit small ok) cs (all-decoder-given cs b)

  pub told_is : (cs : List DecoderCall) (c : DecoderCall) → all_decoder_given cs ≡ true → decoder_given c ≡ true
      → told (decoder_result (since m limit cs) c) ≡ told (leaves (state_since limit cs) c)
  unfolding stepped
  told_is cs c b d =
      let L = lift-decoder (since m limit cs) (state_since limit cs) (stands cs b) c (decoder-given c d) in
      same-told (decoder_result (since m limit cs) c) (leaves (state_since limit cs) c) L.answer L.output

  held-is : (cs : List DecoderCall) → all_decoder_given cs ≡ true → held_of (since m limit cs) ≡ held_size (state_since limit cs).entries
  held-is cs b = held-decoder (since m limit cs) (state_since limit cs) (stands cs b)

  numbers-is : (cs : List DecoderCall) → all_decoder_given cs ≡ true → numbers_since m limit cs ≡ 0 ∷ numbers_by (start_decoder limit) cs
  numbers-is cs b =
      ap₂ (λ (n : ℕ) (l : List ℕ). n ∷ l) ok
      (numbers-are (start_call m limit).memory (start_decoder limit) (start-decoder m limit small ok) cs (all-decoder-given cs b))

-- ---- the checks
module _ (m : List ℕ) (small : Small m) (ok : (start_call m 4096).answer.number ≡ 0) where
  tells_is : (cs : List DecoderCall) (c : DecoderCall) → all_decoder_given cs ≡ true → decoder_given c ≡ true
      → tells m cs c ≡ told (leaves (state_since 4096 cs) c)
  tells_is = told_is m small 4096 ok

  -- also with a lower limit
  lower-is : (limit : ℕ) → leb limit 4096 ≡ true → (cs : List DecoderCall) → all_decoder_given cs ≡ true
      → numbers_since m limit cs ≡ 0 ∷ numbers_by (start_decoder limit) cs
  lower-is limit low = numbers-is m small limit (ap (λ (a : Answer). a.number) (start-alike m limit low) ∙ ok)

  agreed : Agree (checks m)
  unfolding read_int groups int_wire group_wire
      codes code_of codes_size packed_size text_at string_bytes string_after string_end read_string all_bytes packs string_wire read_name name_wire read_delta read_deltas streams_from read_list listed names
      entries entry_at text_form field_form list_form instruction_wire read_index read_insert read_delete read_for_decoder
      read_indexed read_literal read_representation block_from read_block is_static with_statics field_meaning block_meaning
      size look put total part_of mark block_marks in_turn names_part is_open open_below lowest_open output_bytes
      held_size slot_in lookup delete_of start_decoder name_bytes insert_named delete_entry read_instruction
      give_fields decode_part decode_block close_parts hold_of enquire_hold decoder_call after_decoder part_turn stepped decoder_call_of decoder_calls_of
      past_below named_from checks
  agreed =
      let two =
      ap (λ (l : List ℕ). 0xFF ∷ 0x00 ∷ 0xFF ∷ 0x80 ∷ 0xFF ∷ 0xFF ∷ 0x3F ∷ l) (tells_is [] (read (0xFF ∷ 0x81 ∷ 0xFF ∷ 0xFF ∷ 0x3F ∷ [])) refl refl) in
      let four = ap₂ (λ (l : List ℕ) (n : ℕ). l ++ (n ∷ h9)) (tells_is [] (read h9) refl refl) (held-is m small 4096 ok after4 refl) in
      let five = tells_is after4 (block (0xBE ∷ 0x82 ∷ []) 18) refl refl in
      let six = tells_is [] (block (0xBE ∷ 0x82 ∷ []) 18) refl refl in
      let seven = tells_is after4 (block (0x7E ∷ 0x01 ∷ 0x37 ∷ []) 5) refl refl in
      let eight =
      ap₂ ◌++◌ (ap₂ ◌++◌ (ap (λ (l : List ℕ). 0 ∷ 1 ∷ 2 ∷ 4 ∷ 7 ∷ l) (tells_is (named8 0) (hold 62) refl refl)) (tells_is (named8 3) (hold 62) refl refl))
      (tells_is (named8 5) (hold 62) refl refl) in
      let nine = ap₂ ◌++◌ (lower-is 68 refl (read h9 ∷ read h9_63 ∷ read h9_64 ∷ []) refl) (lower-is 67 refl (read h9 ∷ read h9_63 ∷ []) refl) in
      let ten =
      ap₂ ◌++◌ (ap₂ ◌++◌ (tells_is past4 (hold 62) refl refl) (tells_is past4 (read delete62) refl refl))
      (tells_is (past4 ++ (read delete62 ∷ [])) (hold 62) refl refl) in
      (refl, (two, (refl, (four, (five, (six, (seven, (eight, (nine, (ten, tt))))))))))

pub ten-checks : ChecksClaim
ten-checks = agreed
