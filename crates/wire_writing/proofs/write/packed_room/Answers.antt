use mathlib.Core.Path.{◌≡◌, refl, ap₂, ◌∙◌}
use mathlib.Core.Bool.{true}
use Prim.Native.Nat.{ℕ, ◌+◌, ◌<◌}
use native.Mathlib.Omega.{arith}
use lib.ListN.{length}
use Rattle.memory.specs.Bytes.{Small}
use Rattle.huffman.specs.Packing.{packed_size}
use Rattle.wire_writing.specs.Room.{tried, shut, told}
use Rattle.wire_writing.proofs.TextRoom.{packed-length-string}
use Rattle.wire_writing.proofs.write.packed_room.Goals as goal

pub returns-then-n-out : goal.returns-then-n-out
returns-then-n-out c = tried c.if-n.true (omega (arith, c.if-n-out.true)) refl refl

pub returns-then-n-size : goal.returns-then-n-size
returns-then-n-size c = shut (omega (arith, c.if-n-size.true, c.packed_size-size.ensures)) refl refl

pub write-start-requires-clause-value_in_bounds : goal.write-start-requires-clause-value_in_bounds
write-start-requires-clause-value_in_bounds c =
    let fewer : packed_size c.args.src.now < length c.args.src.now = omega (arith, c.if-n-size.false, c.packed_size-size.ensures) in
    let size : c.new.result.value ≡ packed_size c.args.src.now = c.new.ensures ∙ c.packed_size-size.ensures in
    let s : Small c.args.src.now = λ k. omega (arith, c.type_inv.src k) in
    rw size (omega (arith, packed-length-string c.args.src.now s fewer))

pub overflow_add-result-2 : goal.overflow_add-result-2
overflow_add-result-2 c =
    let fewer : packed_size c.args.src.now < length c.args.src.now = omega (arith, c.if-n-size.false, c.packed_size-size.ensures) in
    let size : c.new.result.value ≡ packed_size c.args.src.now = c.new.ensures ∙ c.packed_size-size.ensures in
    let s : Small c.args.src.now = λ k. omega (arith, c.type_inv.src k) in
    omega (arith, (rw size at c.write-start.ensures.value), packed-length-string c.args.src.now s fewer)

pub returns : goal.returns
returns c =
    let fewer : packed_size c.args.src.now < length c.args.src.now = omega (arith, c.if-n-size.false, c.packed_size-size.ensures) in
    let size : c.new.result.value ≡ packed_size c.args.src.now = c.new.ensures ∙ c.packed_size-size.ensures in
    let value = rw size at c.write-start.ensures.value in
    let out_after = rw size at c.write-start.ensures.out_after in
    told fewer (ap₂ (λ (s n : ℕ). record { start = s; end = s + n; counted = true }) value c.packed_size-size.ensures) out_after
