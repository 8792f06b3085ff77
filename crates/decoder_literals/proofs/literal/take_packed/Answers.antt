use Prim.Native.Nat.{ℕ, ◌+◌, ◌-◌}
use mathlib.Core.Path.{ap, ◌∙◌}
use native.Mathlib.Omega.{arith}
use mathlib.Core.List.{List}
use lib.ListN.{take}
use Rattle.memory.specs.Bytes.{part}
use Rattle.memory.proofs.Overlay.{take-overlay}
use Rattle.huffman.specs.Packing.{unpack}
use Rattle.unpacking.specs.declared.unpack.UnpackedEnd.{UnpackedEnd}
use Rattle.decoder_literals.proofs.Texts.{packed-most, packed-string}
use borrow.Author.Tests.{not-false}
use Rattle.decoder_literals.proofs.literal.take_packed.Goals as goal

pub unpack-u-requires : goal.unpack-u-requires
unpack-u-requires c =
    let d = c in
    let m = packed-most d.args.s.now d.args.at d.args.out.now d.args.to d.args.size c.if-size-ge-PACKED_LONG.false d.requires.0 in
    record { from_le_to = (omega arith, omega (arith, d.requires.0)); from_in_bounds = omega (arith, m, d.requires.2) }

pub returns-then-not-u : goal.returns-then-not-u
returns-then-not-u c =
    let d = c in
    let bytes : List ℕ = (unpack (part d.args.s.now (d.args.at + 1) (d.args.at + 1 + d.args.size - (d.args.at + 1)))).bytes in
    ap (take d.args.to) c.unpack-u.ensures.out_after ∙ take-overlay d.args.out.now (d.args.to + 1) bytes d.args.to (omega arith)

pub overflow_sub-out : goal.overflow_sub-out
overflow_sub-out c =
    let r = ap (λ (x : UnpackedEnd). x.next) c.unpack-u.ensures.value in
    omega (arith, r)

pub overflow_cast-out : goal.overflow_cast-out
overflow_cast-out c =
    let d = c in
    let r = ap (λ (x : UnpackedEnd). x.next) c.unpack-u.ensures.value in
    let m = packed-most d.args.s.now d.args.at d.args.out.now d.args.to d.args.size c.if-size-ge-PACKED_LONG.false d.requires.0 in
    omega (arith, r, m)

pub returns : goal.returns
returns c =
    let d = c in
    let e = c.unpack-u in
    packed-string d.args.s.now d.args.at d.args.out.now d.args.to d.args.size d.requires.1 c.if-size-ge-PACKED_LONG.false d.requires.0 d.requires.2
    e.result e.ensures.value (not-false _ c.if-not-u.false) _ e.ensures.out_after
