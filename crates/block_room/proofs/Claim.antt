-- The claim of `specs/Claim.antt`: each part by its theorem.
use mathlib.Core.Path.{◌≡◌, refl, ap}
use Prim.Native.Nat.{ℕ, ◌+◌, ◌*◌, ◌/◌, ◌<◌, min}
use native.Mathlib.Omega.{arith}
use mathlib.Core.List.{List, [], ◌∷◌}
use lib.ListN.{length}
use Rattle.memory.specs.Compare.{same}
use Rattle.integers.specs.Integer.{int_wire, group_wire}
use Rattle.wire.specs.Name.{indexed as indexed_name}
use Rattle.wire.proofs.TextWriting.{index-wire}
use Rattle.statics.specs.Table.{entries, entry_at}
use Rattle.static_search.specs.Search.{lowest_name, lowest_both, lowest_static, has_name, has_both}
use Rattle.fields.specs.Form.{field_form, text_form}
use Rattle.blocks.specs.Representation.{Representation, literal, representation_wire}
use Rattle.blocks.proofs.Writing.{literal-length}
use Rattle.model.specs.Table.{first}
use Rattle.model.specs.Encoder.{Sent, serves, serves_both, choose_name, static_name, dynamic_name, dynamic_field, static_field, choose}
use Rattle.encoder_fields.proofs.Within.{LowTable, choice-within}
use Rattle.encoder_fields.proofs.Bound.{three}
use Rattle.block_room.specs.Room.{block_room, block_room_of, OurTable}
use Rattle.block_room.specs.Claim.{times, far_entry, far_field, RoomClaim}
use Rattle.block_room.proofs.Enough.{enough, enough-since}
use Rattle.block_room.proofs.Unknown.{plain_more}
use Rattle.block_room.proofs.Reached.{reached}
use Rattle.block_room.proofs.Example.{stays_plain, example}

ours-low : (l : List Sent) → OurTable l → LowTable l
ours-low [] ours = tt
ours-low (e ∷ l) ours = (omega (arith, ours.0), ours-low l ours.1)

rooms : (bytes fields : ℕ) → (block_room bytes fields ≡ min 16384 (bytes + 2 * fields)) × (block_room_of bytes ≡ min 16384 (bytes + 2 * (bytes / 3)))
unfolding block_room block_room_of
rooms bytes fields = (refl, refl)

-- what is chosen for the field beside that entry: its index in four bytes, and the value
far-chosen : choose (far_entry ∷ []) far_field ≡ literal 0 (indexed_name 16447) (times 127 88)
unfolding choose static_field dynamic_field choose_name static_name dynamic_name serves_both serves first lowest_both lowest_name lowest_static has_both has_name same entries entry_at
far-chosen = refl

needed : length (field_form far_field) + 2 < length (representation_wire (choose (far_entry ∷ []) far_field))
unfolding int_wire group_wire field_form text_form
needed =
    let form : length (field_form far_field) ≡ 130 = refl in
    let index : length (int_wire 6 0 16447) ≡ 4 = refl in
    omega (
      arith,
      form,
      ap (λ (r : Representation). length (representation_wire r)) far-chosen,
      literal-length 0 (indexed_name 16447) (times 127 88),
      ap length (index-wire 6 0 16447),
      index,
      plain_more (times 127 88) refl stays_plain,
    )

pub room-claim : RoomClaim
room-claim =
    record {
      rooms = rooms;
      needed = needed;
      field = λ l ours f fine. choice-within f fine l (ours-low l ours);
      from_start = enough-since;
      from_state = enough;
      three = three;
      reached = reached;
      example = example;
    }
