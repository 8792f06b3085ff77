-- The events of a list of calls at two ends that start fresh, as a definition that computes: `unfolding run` unfolds all that the calls use.
-- For closed examples, whose events and tables are then found by `refl`.
use Prim.Native.Nat.{ℕ}
use mathlib.Core.List.{List}
use Rattle.memory.specs.Compare.{same}
use Rattle.integers.specs.Integer.{int_wire, group_wire}
use Rattle.huffman.specs.Codes.{codes, code_of}
use Rattle.huffman.specs.Bits.{bits_of, value_of, bytes_of}
use Rattle.huffman.specs.Packing.{code_bits, codes_of, codes_size, packed_size, pack}
use Rattle.wire.specs.Text.{all_bytes, packs, string_wire}
use Rattle.wire.specs.Name.{name_wire}
use Rattle.stream_lists.specs.StreamList.{names, listed, list_wire, deltas_wire}
use Rattle.statics.specs.Table.{entries, entry_at}
use Rattle.static_search.specs.Search.{has_name, has_both, lowest_static as lowest-static, lowest_name, lowest_both}
use Rattle.fields.specs.Form.{text_form, field_form, list_form}
use Rattle.instructions.specs.Instruction.{instruction_wire}
use Rattle.blocks.specs.Representation.{representation_wire, block_wire}
use Rattle.blocks.specs.Meaning.{is_static, with_statics, field_meaning, block_meaning, block_references}
use Rattle.model.specs.Table.{size, look, put, cut, first, vacant_from, total}
use Rattle.model.specs.Parts.{part_of, mark, mark_both, block_marks, in_turn, names_part, is_open, open_below, is_ready}
use Rattle.model.specs.Decoder.{held_size, slot_in, lookup, delete_of, start_decoder, slot_name, name_bytes, insert_named, delete_entry}
use Rattle.model.specs.Decoder.{read_instruction, give_fields, decode_part, decode_block, close_parts, ready_delete, ready, next_freed, without}
use Rattle.model.specs.Decoder.{free_entry, collect_entry}
use Rattle.model.specs.Encoder.{sent_size, start_encoder, serves, serves_both, dynamic_name, static_name, choose_name, dynamic_field, static_field}
use Rattle.model.specs.Encoder.{choose, insert_at, insert_entry, mark_deleted, delete_found, delete_sent, mentions, referred, refer, write_part}
use Rattle.model.specs.Encoder.{encode_part, encode_block, acknowledge_found, read_ack}
use Rattle.model.specs.EncoderCalls.{encoder_call}
use Rattle.model.specs.Events.{LinkCall, Event, said_by, wrote_by, encoder_event, freed_by, told_by, decoder_event, turn, events, ends_after, fresh}

unfoldable pub run : ℕ → ℕ → List LinkCall → List Event
unfolding same int_wire group_wire codes code_of bits_of value_of bytes_of code_bits codes_of codes_size packed_size pack all_bytes packs string_wire name_wire names listed list_wire deltas_wire entries entry_at has_name has_both lowest-static lowest_name lowest_both
    text_form field_form list_form instruction_wire representation_wire block_wire is_static with_statics field_meaning block_meaning block_references
    size look put cut first vacant_from total part_of mark mark_both block_marks in_turn names_part is_open open_below is_ready
    held_size slot_in lookup delete_of start_decoder slot_name name_bytes insert_named delete_entry read_instruction give_fields decode_part decode_block
    close_parts ready_delete ready next_freed without free_entry collect_entry
    sent_size start_encoder serves serves_both dynamic_name static_name choose_name dynamic_field static_field choose insert_at insert_entry
    mark_deleted delete_found delete_sent mentions referred refer write_part encode_part encode_block acknowledge_found read_ack
    encoder_call said_by wrote_by encoder_event freed_by told_by decoder_event turn events ends_after fresh
run encoder_limit decoder_limit cs = events (fresh encoder_limit decoder_limit) cs
