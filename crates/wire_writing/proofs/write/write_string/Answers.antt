use mathlib.Core.Path.{refl, sym, ◌∙◌}
use Prim.Native.Nat.{◌-◌, ◌≤◌, ◌<◌}
use native.Mathlib.Omega.{arith}
use Rattle.memory.specs.Bytes.{Small}
use Rattle.wire_writing.proofs.TextRoom.{room_within, plain_fits, plain-written, counted-written, uncounted-few, uncounted-room, uncounted-written}
use Rattle.wire_writing.proofs.write.write_string.Goals as goal

pub pack-requires : goal.pack-requires
pack-requires c =
    let small : Small c.args.src.now = λ k. omega (arith, c.type_inv.src k) in
    room_within _ _ _ _ _ small c.requires.src_in_bounds c.packed_room-room.ensures

pub write_plain-requires : goal.write_plain-requires
write_plain-requires c =
    let small : Small c.args.src.now = λ k. omega (arith, c.type_inv.src k) in
    let p = c.pack.ensures in
    record { src_len_bound = c.requires.src_len_bound; src_in_bounds = plain_fits _ _ _ _ _ small c.requires.src_in_bounds c.packed_room-room.ensures _ (sym c.in_default.is ∙ p.value) p.packed_over }

pub returns-in_default : goal.returns-in_default
returns-in_default c =
    let small : Small c.args.src.now = λ k. omega (arith, c.type_inv.src k) in
    let p = c.pack.ensures in
    let w = c.write_plain.ensures in
    let all = plain-written _ _ _ _ _ small c.requires.src_in_bounds c.packed_room-room.ensures _ (sym c.in_default.is ∙ p.value) p.packed_over _ _ w.value w.out_after in
    record { value = all.0; out_after = all.1 }

pub returns-then-room : goal.returns-then-room
returns-then-room c =
    let small : Small c.args.src.now = λ k. omega (arith, c.type_inv.src k) in
    let p = c.pack.ensures in
    let all = counted-written _ _ _ _ _ small c.requires.src_in_bounds c.packed_room-room.ensures _ _ (sym c.in-Some.is ∙ p.value) p.packed_over c.if-room.true in
    record { value = all.0; out_after = all.1 }

pub overflow_sub-out : goal.overflow_sub-out
overflow_sub-out c =
    let small : Small c.args.src.now = λ k. omega (arith, c.type_inv.src k) in
    let few : (c.packed_room-room.result.start ≤ c.in-Some.next) × (c.in-Some.next - c.packed_room-room.result.start < 127) =
    let p = c.pack.ensures in uncounted-few _ _ _ _ _ small c.requires.src_in_bounds c.packed_room-room.ensures _ _ (sym c.in-Some.is ∙ p.value) p.packed_over c.if-room.false in
    few.0

pub overflow_cast-out : goal.overflow_cast-out
overflow_cast-out c =
    let small : Small c.args.src.now = λ k. omega (arith, c.type_inv.src k) in
    let few : (c.packed_room-room.result.start ≤ c.in-Some.next) × (c.in-Some.next - c.packed_room-room.result.start < 127) =
    let p = c.pack.ensures in uncounted-few _ _ _ _ _ small c.requires.src_in_bounds c.packed_room-room.ensures _ _ (sym c.in-Some.is ∙ p.value) p.packed_over c.if-room.false in
    omega (arith, few)

pub overflow_add-out : goal.overflow_add-out
overflow_add-out c =
    let small : Small c.args.src.now = λ k. omega (arith, c.type_inv.src k) in
    let few : (c.packed_room-room.result.start ≤ c.in-Some.next) × (c.in-Some.next - c.packed_room-room.result.start < 127) =
    let p = c.pack.ensures in uncounted-few _ _ _ _ _ small c.requires.src_in_bounds c.packed_room-room.ensures _ _ (sym c.in-Some.is ∙ p.value) p.packed_over c.if-room.false in
    omega (arith, few)

pub bounds-out-at : goal.bounds-out-at
bounds-out-at c =
    let small : Small c.args.src.now = λ k. omega (arith, c.type_inv.src k) in
    let p = c.pack.ensures in uncounted-room _ _ _ _ _ small c.requires.src_in_bounds c.packed_room-room.ensures _ _ (sym c.in-Some.is ∙ p.value) p.packed_over c.if-room.false

pub returns : goal.returns
returns c =
    let small : Small c.args.src.now = λ k. omega (arith, c.type_inv.src k) in
    let p = c.pack.ensures in
    let all = uncounted-written _ _ _ _ _ small c.requires.src_in_bounds c.packed_room-room.ensures _ _ (sym c.in-Some.is ∙ p.value) p.packed_over c.if-room.false _ refl in
    record { value = all.0; out_after = all.1 }
