use mathlib.Core.Path.{ap, ◌∙◌}
use native.Mathlib.Omega.{arith}
use lib.ListN.{length}
use Rattle.memory.specs.Bytes.{overlay}
use Rattle.unpacking.specs.declared.unpack.UnpackedEnd.{UnpackedEnd}
use Rattle.wire.proofs.TextBounds.{string-size, string-part, unpacked-bytes, unpacked-length}
use Rattle.wire.proofs.text.StringPlace.copy.Goals as goal

-- `StringPlace::copy` copies the string's part of the bytes, or unpacks it: the part is what `copy` of `memory` or `unpack` is given.
pub overflow_add-end : goal.overflow_add-end
overflow_add-end c = omega (arith, c.requires.in_string.inside)

pub unpack-requires : goal.unpack-requires
unpack-requires c =
    let d = c in
    let s = d.args.s.now in
    let p = d.args.self in
    record { from_le_to = (omega arith, omega (arith, d.requires.in_string.inside)); from_in_bounds = omega (arith, unpacked-length s p c.if-self.true d.requires.in_string, d.requires.self_in_bounds) }

pub returns-then-self : goal.returns-then-self
returns-then-self c =
    let d = c in
    let s = d.args.s.now in
    let p = d.args.self in
    let e = c.if-self.true in
    let u = c.unpack.ensures in
    record { value = omega (arith, ap (λ (r : UnpackedEnd). r.next) u.value, unpacked-length s p e d.requires.in_string); out_after = u.out_after ∙ ap (overlay d.args.out.now d.args.at) (unpacked-bytes s p e) }

pub slice_bounds-copy-end : goal.slice_bounds-copy-end
slice_bounds-copy-end c = omega (arith, c.requires.in_string.inside)

pub copy-requires : goal.copy-requires
copy-requires c =
    let d = c in
    let s = d.args.s.now in
    let p = d.args.self in
    omega (arith, ap length (string-part s p c.if-self.false), string-size s p d.requires.in_string, d.requires.self_in_bounds)

pub returns : goal.returns
returns c =
    let d = c in
    let s = d.args.s.now in
    let p = d.args.self in
    let e = string-part s p c.if-self.false in
    let t = c.copy.ensures in
    record { value = omega (arith, t.value, ap length e, string-size s p d.requires.in_string); out_after = t.out_after ∙ ap (overlay d.args.out.now d.args.at) e }
