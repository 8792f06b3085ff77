-- What is shown of calls at two ends that start fresh, as a definition that computes: `unfolding computed` unfolds all that the calls use.
use Prim.Native.Nat.{ℕ}
use mathlib.Core.List.{List}
use Rattle.memory.specs.Compare.{same}
use Rattle.integers.specs.Integer.{read_int, groups, int_wire, group_wire}
use Rattle.huffman.specs.Codes.{codes, code_of}
use Rattle.huffman.specs.Bits.{bits_of, value_of, bits, bytes_of, begins}
use Rattle.huffman.specs.Packing.{code_bits, codes_of, codes_size, packed_size, pack, standing_in, standing, padding, unpack_bits, unpack}
use Rattle.wire.specs.Text.{text_at, string_bytes, string_after, string_end, read_string, all_bytes, packs, string_wire}
use Rattle.wire.specs.Name.{read_name, name_wire}
use Rattle.stream_lists.specs.StreamList.{read_delta, read_deltas, streams_from, read_list, names, listed, list_wire, deltas_wire}
use Rattle.statics.specs.Table.{entries, entry_at}
use Rattle.static_search.specs.Search.{has_name, has_both, lowest_static as lowest-static, lowest_name, lowest_both}
use Rattle.fields.specs.Form.{text_form, field_form, list_form}
use Rattle.fields.specs.Reading.{read_length, read_text, read_field, fields_from}
use Rattle.instructions.specs.Instruction.{instruction_wire}
use Rattle.instructions.specs.Reading.{read_index, read_insert, read_delete, read_acknowledgement, read_for_decoder, read_for_encoder}
use Rattle.blocks.specs.Representation.{representation_wire, block_wire}
use Rattle.blocks.specs.Reading.{read_indexed, read_literal, read_representation, block_from, read_block}
use Rattle.blocks.specs.Meaning.{is_static, with_statics, field_meaning, block_meaning, block_references}
use Rattle.model.specs.Table.{size, look, put, cut, first, vacant_from, total}
use Rattle.model.specs.Parts.{part_of, mark, mark_both, block_marks, in_turn, names_part, is_open, open_below, lowest_open, is_ready}
use Rattle.model.specs.Outcome.{output_bytes}
use Rattle.model.specs.Decoder.{held_size, slot_in, lookup, delete_of, start_decoder, slot_name, name_bytes, insert_named, delete_entry}
use Rattle.model.specs.Decoder.{read_instruction, give_fields, decode_part, decode_block, close_parts, ready_delete, ready, next_freed, without}
use Rattle.model.specs.Decoder.{free_entry, collect_entry, hold_of, enquire_hold}
use Rattle.model.specs.DecoderCalls.{decoder_call}
use Rattle.model.specs.Encoder.{sent_size, start_encoder, serves, serves_both, dynamic_name, static_name, choose_name, dynamic_field, static_field}
use Rattle.model.specs.Encoder.{choose, insert_at, insert_entry, mark_deleted, delete_found, delete_sent, mentions, referred, refer, write_part}
use Rattle.model.specs.Encoder.{encode_part, encode_block, acknowledge_found, read_ack}
use Rattle.model.specs.EncoderCalls.{encoder_call}
use Rattle.model.specs.Events.{fresh}
use Rattle.parts.specs.Turn.{part_turn}
use Rattle.link.specs.Claims.{LinkCall}
use Rattle.link.proofs.Lifted.{decoder_call_of, encoder_call_of}
use Rattle.link_examples.specs.Examples.{Shown}
use Rattle.link_examples.proofs.Seen.{see, seen_from}

unfoldable pub computed : ℕ → ℕ → List LinkCall → List Shown
unfolding same read_int groups int_wire group_wire codes code_of bits_of value_of bits bytes_of begins code_bits codes_of codes_size packed_size pack
    standing_in standing padding unpack_bits unpack text_at string_bytes string_after string_end read_string all_bytes packs string_wire read_name name_wire
    read_delta read_deltas streams_from read_list names listed list_wire deltas_wire
    entries entry_at has_name has_both lowest-static lowest_name lowest_both text_form field_form list_form read_length read_text read_field fields_from
    instruction_wire read_index read_insert read_delete read_acknowledgement read_for_decoder read_for_encoder
    representation_wire block_wire read_indexed read_literal read_representation block_from read_block is_static with_statics field_meaning block_meaning block_references
    size look put cut first vacant_from total part_of mark mark_both block_marks in_turn names_part is_open open_below lowest_open is_ready output_bytes
    held_size slot_in lookup delete_of start_decoder slot_name name_bytes insert_named delete_entry read_instruction give_fields decode_part decode_block
    close_parts ready_delete ready next_freed without free_entry collect_entry hold_of enquire_hold decoder_call
    sent_size start_encoder serves serves_both dynamic_name static_name choose_name dynamic_field static_field choose insert_at insert_entry
    mark_deleted delete_found delete_sent mentions referred refer write_part encode_part encode_block acknowledge_found read_ack
    encoder_call part_turn decoder_call_of encoder_call_of see seen_from fresh
computed encoder_limit decoder_limit cs = seen_from (fresh encoder_limit decoder_limit) cs
